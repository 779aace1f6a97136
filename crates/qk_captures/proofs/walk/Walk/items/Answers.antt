use Rattle.std.proofs.Common.{◌+◌, drop, ap, ◌∙◌}
use Rattle.qk_captures.specs.Walking.{behind, items_found}
use Rattle.qk_captures.proofs.Walks.{behind_next_item, behind_last_item}
use Rattle.qk_captures.proofs.walk.Walk.items.Goals as goal

pub loop-item-preserved : goal.loop-item-preserved
loop-item-preserved c = ap (behind (items_found c.args.form (drop (c.loop-item.item-index + 1) c.args.items.now))) c.in_ok-item.ensures
    ∙ behind_next_item c.args.form c.args.items.now c.loop-item.item-index c.item-item.result c.loop-item.self c.loop-item-test.true c.item-item.is ∙ c.loop-item.invariant

pub returns : goal.returns
returns c = behind_last_item c.args.form c.args.items.now c.loop-item.item-index c.args.self.now c.loop-item.self c.loop-item-test.false c.loop-item.invariant
