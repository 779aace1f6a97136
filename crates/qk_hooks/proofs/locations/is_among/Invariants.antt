use Rattle.std.proofs.Common.{◌≡◌, drop}
use Rattle.std.specs.List.{list_any}
use Rattle.qk_meaning.specs.Places.{same_location}
use Rattle.qk_heap.specs.Seen.{loc_seen}
use Rattle.qk_hooks.proofs.locations.is_among.Given as goal

abbrev pub invariant-loop-m : goal.invariant-loop-m
invariant-loop-m l = list_any (λ m. same_location (loc_seen l.l) (loc_seen m)) l.all ≡ list_any (λ m. same_location (loc_seen l.l) (loc_seen m)) (drop l.m-index l.all)
