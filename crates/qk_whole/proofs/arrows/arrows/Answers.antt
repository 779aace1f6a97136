use Rattle.std.specs.Prelude.{map}
use Rattle.qk_ast.specs.Arrows.{item_arrows}
use Rattle.qk_whole.specs.Meeting.{met_seen, arrow_seen}
use Rattle.qk_whole.proofs.Met_in_order.{next_item}
use Rattle.qk_whole.proofs.arrows.arrows.Goals as goal

pub loop-item-preserved : goal.loop-item-preserved
loop-item-preserved c = next_item c.args.items.now c.loop-item.item-index c.item-item.result (map arrow_seen (item_arrows c.args.items.now)) (map met_seen c.loop-item.all) (map met_seen c.meet_inside.new.all)
    c.loop-item-test.true c.item-item.is c.in_ok-meet_inside.ensures c.loop-item.invariant
