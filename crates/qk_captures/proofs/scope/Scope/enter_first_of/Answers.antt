use Rattle.std.proofs.Common.{rules, ap, ◌∙◌}
use Rattle.qk_ast.specs.Names.{scope_names}
use Rattle.qk_captures.specs.Scoping.{with_all}
use Rattle.qk_captures.proofs.Lexical.{first_of_block}
use Rattle.qk_captures.proofs.scope.Scope.enter_first_of.Goals as goal

pub returns-in-Block : goal.returns-in-Block
returns-in-Block c = rw (ap (λ y. with_all (scope_names y) c.args.self.now) c.in-Block.is ∙ ap (λ names. with_all names c.args.self.now) (first_of_block c.in-Block.statements)) (search rules)
