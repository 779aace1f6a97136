use Rattle.std.proofs.Common.{◌≡◌, ◌≤◌, length, drop}
use Rattle.qk_environment.proofs.Scopes.{Passes}
use Rattle.qk_environment.proofs.scope.Scope.assign.Given as goal

abbrev pub invariant-loop-i : goal.invariant-loop-i
invariant-loop-i l = record { within : l.i ≤ length l.self.names.items; kept : l.self.names.items ≡ l.fn.self.names.items; later : Passes l.name (drop l.i l.self.names.items) }

abbrev pub decreases-loop-i : goal.decreases-loop-i
decreases-loop-i l = l.i
