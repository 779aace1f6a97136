use Rattle.std.proofs.Common.{◌≡◌, ◌+◌, length, drop}
use Rattle.qk_ast.specs.Names.{patterns_names}
use Rattle.qk_meaning.specs.Flow.{opened}
use Rattle.qk_environment.specs.Scoping.{Captures, scope_seen}
use Rattle.qk_environment.proofs.scope.Scope.open_parameters.Given as goal

abbrev pub invariant-loop-pattern : goal.invariant-loop-pattern
invariant-loop-pattern l = record { shown : (p : Captures) → opened (patterns_names (drop l.pattern-index l.params)) (scope_seen p l.self.names.items) ≡ opened (patterns_names l.params) (scope_seen p l.fn.self.names.items); longer : length l.self.names.items + length (patterns_names (drop l.pattern-index l.params)) ≡ length l.fn.self.names.items + length (patterns_names l.params) }
