use Rattle.std.proofs.Common.{◌≡◌, ◌≤◌, length, take}
use Rattle.qk_meaning.specs.Parts.{value_at}
use Rattle.qk_environment.specs.Scoping.{Captures, scope_seen}
use Rattle.qk_environment.proofs.scope.Scope.value.Given as goal

abbrev pub invariant-loop-i : goal.invariant-loop-i
invariant-loop-i l = record { within : l.i ≤ length l.self.names.items; same : (p : Captures) → value_at l.name (scope_seen p (take l.i l.self.names.items)) ≡ value_at l.name (scope_seen p l.self.names.items) }

abbrev pub decreases-loop-i : goal.decreases-loop-i
decreases-loop-i l = l.i
