use Rattle.std.specs.Prelude.{map}
use Rattle.std.proofs.Common.{◌≡◌, ◌≤◌, length, drop}
use Rattle.qk_meaning.specs.Evaluation.{without_track}
use Rattle.qk_meaning.specs.Parts.{zipped}
use Rattle.qk_value.specs.View.{seen}
use Rattle.qk_environment.specs.Scoping.{Captures, scope_seen}
use Rattle.qk_environment.proofs.scope.Scope.filled_for_task.Given as goal

abbrev pub invariant-loop-i : goal.invariant-loop-i
invariant-loop-i l = record { names_left : l.i ≤ length l.names; values_left : l.i ≤ length l.values; filled : (p : Captures) → scope_seen p l.scope.names.items ≡ without_track (zipped (drop l.i l.names) (map (seen p) (drop l.i l.values))) }

abbrev pub decreases-loop-i : goal.decreases-loop-i
decreases-loop-i l = l.i
