use Rattle.std.proofs.Common.{refl}
use Rattle.qk_heap.proofs.Changing as fields
use Rattle.qk_heap.proofs.Indexed as items
use Rattle.qk_heap.proofs.laws.changes.Goals as goal

pub returns : goal.returns
returns c = record {
  property_written = fields.property_written;
  property_added = fields.property_added;
  property_deleted = fields.property_removed;
  item_written = items.index_written;
  item_pushed = items.item_added;
  item_popped = items.item_taken;
  signal_written = λ captures v w. refl;
}
