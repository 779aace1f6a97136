use Rattle.std.proofs.Common.{◌≡◌, ◌+◌, length, drop}
use Rattle.qk_meaning.specs.Flow.{opened}
use Rattle.qk_environment.specs.Scoping.{Captures, scope_seen}
use Rattle.qk_environment.proofs.scope.Scope.open.Given as goal

abbrev pub invariant-loop-name : goal.invariant-loop-name
invariant-loop-name l = record { shown : (p : Captures) → opened (drop l.name-index l.names) (scope_seen p l.self.names.items) ≡ opened l.names (scope_seen p l.fn.self.names.items); longer : length l.self.names.items ≡ length l.fn.self.names.items + l.name-index }
