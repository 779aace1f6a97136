use Rattle.std.specs.BTreeMap.{get_by_text}
use Rattle.qk_whole.proofs.Item_rows.{next_named}
use Rattle.qk_whole.proofs.known.Known.roots.Goals as goal

pub loop-item-preserved : goal.loop-item-preserved
loop-item-preserved c = next_named c.args.self.now c.args.items.now c.loop-item.item-index c.item-item.result c.in_ok-root.root (get_by_text c.loop-item.table) (get_by_text c.put.new.table) c.loop-item-test.true c.item-item.is
    c.in_ok-root.ensures c.in_ok-put.ensures c.loop-item.invariant
