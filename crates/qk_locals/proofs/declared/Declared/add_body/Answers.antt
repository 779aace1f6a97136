use Rattle.std.proofs.Common.{rules, ap, ◌∙◌}
use Rattle.qk_ast.specs.Scopes.{declarations_in}
use Rattle.qk_locals.proofs.Declarations.{in_block}
use Rattle.qk_locals.proofs.declared.Declared.add_body.Goals as goal

pub returns-in-Block : goal.returns-in-Block
returns-in-Block c = rw (ap declarations_in c.in-Block.is ∙ in_block c.in-Block.statements) (search rules)
