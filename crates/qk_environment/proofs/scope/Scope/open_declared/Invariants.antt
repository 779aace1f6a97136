use Rattle.std.proofs.Common.{◌≡◌, ◌+◌, length, drop}
use Rattle.qk_meaning.specs.Flow.{opened}
use Rattle.qk_environment.specs.Scoping.{Captures, scope_seen}
use Rattle.qk_meaning.specs.In_order.{declared_of}
use Rattle.qk_environment.proofs.scope.Scope.open_declared.Given as goal

abbrev pub invariant-loop-statement : goal.invariant-loop-statement
invariant-loop-statement l = record { shown : (p : Captures) → opened (declared_of (drop l.statement-index l.statements)) (scope_seen p l.self.names.items) ≡ opened (declared_of l.statements) (scope_seen p l.fn.self.names.items); longer : length l.self.names.items + length (declared_of (drop l.statement-index l.statements)) ≡ length l.fn.self.names.items + length (declared_of l.statements) }
