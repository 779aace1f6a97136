use Rattle.std.proofs.Common.{rules, ap, sym, ◌∙◌}
use Rattle.qk_ast.specs.Names.{body_names}
use Rattle.qk_node.proofs.Forms.{block_names}
use Rattle.qk_captures.specs.Scoping.{with_all}
use Rattle.qk_captures.proofs.scope.Scope.enter_body.Goals as goal

pub returns-in-Value : goal.returns-in-Value
unfolding with_all
returns-in-Value c = ap (λ y. with_all (body_names y) c.args.self.now) (sym c.in-Value.is)

pub returns-in-Block : goal.returns-in-Block
returns-in-Block c = rw (ap (λ y. with_all (body_names y) c.args.self.now) c.in-Block.is ∙ ap (λ names. with_all names c.args.self.now) (block_names c.in-Block.statements)) (search rules)
