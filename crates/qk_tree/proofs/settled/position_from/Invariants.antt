use Rattle.std.proofs.Common.{◌≡◌, ◌-◌, length, drop}
use Rattle.std.specs.List.{list_any}
use Rattle.qk_tree.specs.Settled.{stands_at}
use Rattle.qk_tree.proofs.settled.position_from.Given as goal

-- there is such a view behind the start where there is one from here on
abbrev pub invariant-loop-at : goal.invariant-loop-at
invariant-loop-at l = list_any (stands_at l.path) (drop l.from l.views) ≡ list_any (stands_at l.path) (drop l.at l.views)

abbrev pub decreases-loop-at : goal.decreases-loop-at
decreases-loop-at l = length l.views - l.at
