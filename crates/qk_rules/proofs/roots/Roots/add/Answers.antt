use Rattle.std.proofs.Common.{sym, ◌∙◌}
use Rattle.qk_rules.specs.Root_table.{kind_at}
use Rattle.qk_rules.proofs.Root_tables.{name_entered, none_there}
use Rattle.qk_rules.proofs.roots.Roots.add.Goals as goal

pub returns-in_ok-insert : goal.returns-in_ok-insert
unfolding kind_at
returns-in_ok-insert c = name_entered c.args.self.now.kinds c.insert.new.self c.args.name.now c.args.kind (none_there _ (sym c.contains_key.ensures ∙ c.if-not-contains_key.true)) c.in_ok-insert.ensures.updates
