use Rattle.std.specs.Prelude.{◌≡◌, [], drop}
use Rattle.qk_heap.specs.Names.{indexed}
use Rattle.qk_heap.proofs.names.index_names.Given as goal

abbrev pub invariant-loop-at : goal.invariant-loop-at
invariant-loop-at l = indexed l.names.entries (drop l.at l.fields) ≡ indexed [] l.fields
