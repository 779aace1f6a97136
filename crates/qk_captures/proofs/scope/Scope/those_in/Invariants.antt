use Rattle.std.specs.Prelude.{◌≡◌, drop, ◌++◌}
use Rattle.qk_ast.specs.Names.{those_of}
use Rattle.qk_captures.specs.Scoping.{in_scope}
use Rattle.qk_captures.proofs.scope.Scope.those_in.Given as goal

abbrev pub invariant-loop-name : goal.invariant-loop-name
invariant-loop-name l = l.those ++ those_of (in_scope l.self) (drop l.name-index l.names) ≡ those_of (in_scope l.self) l.names
