use Rattle.std.proofs.Common.{rules, ap, ◌∙◌}
use Rattle.qk_ast.specs.Arrows.{names_around}
use Rattle.qk_captures.specs.Scoping.{with_all}
use Rattle.qk_captures.proofs.Lexical.{around_arrow}
use Rattle.qk_captures.proofs.scope.Scope.enter_lexical.Goals as goal

pub returns-in-Arrow : goal.returns-in-Arrow
returns-in-Arrow c = rw (ap (λ y. with_all (names_around y) c.args.self.now) c.in-Arrow.is ∙ ap (λ names. with_all names c.args.self.now) (around_arrow c.in-Arrow.arrow)) (search rules)
