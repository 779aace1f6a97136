use Rattle.std.proofs.Common.{refl}
use Rattle.qk_heap.proofs.Read_laws as law
use Rattle.qk_heap.proofs.laws.reads.Goals as goal

pub returns : goal.returns
returns c = record {
  property = law.property_read;
  prop = law.prop_read;
  item = law.item_read;
  signal = λ a v. refl;
  keys = law.keys_listed;
}
