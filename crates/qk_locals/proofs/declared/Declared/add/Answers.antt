use Rattle.std.proofs.Common.{sym, ◌∙◌}
use Rattle.qk_locals.specs.Declaring.{declared_at}
use Rattle.qk_locals.proofs.Declarations.{name_entered, name_kept}
use Rattle.qk_locals.proofs.declared.Declared.add.Goals as goal

pub returns-in_ok-insert : goal.returns-in_ok-insert
unfolding declared_at
returns-in_ok-insert c = name_entered c.args.self.now.kinds c.insert.new.self c.args.name.now c.args.kind (sym c.contains_key.ensures ∙ c.if-not-contains_key.true) c.in_ok-insert.ensures.updates

pub returns-else-not-contains_key : goal.returns-else-not-contains_key
unfolding declared_at
returns-else-not-contains_key c = name_kept c.args.self.now.kinds c.args.name.now c.args.kind (sym c.contains_key.ensures ∙ c.if-not-contains_key.false)
