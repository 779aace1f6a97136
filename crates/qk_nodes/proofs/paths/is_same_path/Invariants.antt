use Rattle.std.proofs.Common.{◌≡◌, ◌≤◌, ◌-◌, length, drop}
use Rattle.qk_meaning.specs.Places.{same_path}
use Rattle.qk_nodes.specs.Tree.{path_of}
use Rattle.qk_nodes.proofs.paths.is_same_path.Given as goal

-- the paths are the same where those from here on are
abbrev pub invariant-loop-at : goal.invariant-loop-at
invariant-loop-at l = (l.at ≤ length l.a) × (same_path (path_of l.a) (path_of l.b) ≡ same_path (path_of (drop l.at l.a)) (path_of (drop l.at l.b)))

abbrev pub decreases-loop-at : goal.decreases-loop-at
decreases-loop-at l = length l.a - l.at
