use Rattle.std.proofs.Common.{◌≡◌, ◌-◌, ◌<◌, ◌≤◌, length, drop}
use Rattle.qk_meaning.specs.Places as places
use Rattle.qk_nodes.specs.Tree.{path_of}
use Rattle.qk_nodes.proofs.paths.is_above.Given as goal

abbrev pub invariant-loop-at : goal.invariant-loop-at
invariant-loop-at l = record { within : l.at ≤ length l.a; shorter : length l.a < length l.b; same : places.is_above (path_of l.a) (path_of l.b) ≡ places.is_above (path_of (drop l.at l.a)) (path_of (drop l.at l.b)) }

abbrev pub decreases-loop-at : goal.decreases-loop-at
decreases-loop-at l = length l.a - l.at
