use Rattle.std.specs.Prelude.{◌≡◌, ◌++◌, drop}
use Rattle.qk_heap.specs.Names.{unindexed}
use Rattle.qk_heap.proofs.names.with_others.Given as goal

abbrev pub invariant-loop-at : goal.invariant-loop-at
invariant-loop-at l = l.all.items ++ unindexed (drop l.at l.fields) ≡ l.initial.all.items ++ unindexed l.fields
