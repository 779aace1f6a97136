use Rattle.std.specs.Prelude.{◌≡◌, ◌++◌, drop, map}
use Rattle.qk_meaning.specs.Parts.{picked}
use Rattle.qk_value.specs.View.{seen}
use Rattle.qk_environment.specs.Scoping.{Captures, scope_seen}
use Rattle.qk_making.proofs.functions.values_of.Given as goal

abbrev pub invariant-loop-name : goal.invariant-loop-name
invariant-loop-name l = (captured : Captures) → map (seen captured) l.values ++ picked (drop l.name-index l.names) (scope_seen captured l.scope.names.items) ≡ picked l.names (scope_seen captured l.scope.names.items)
