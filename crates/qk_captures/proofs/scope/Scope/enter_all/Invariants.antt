use Rattle.std.specs.Prelude.{◌≡◌, drop}
use Rattle.qk_captures.specs.Scoping.{with_all}
use Rattle.qk_captures.proofs.scope.Scope.enter_all.Given as goal

abbrev pub invariant-loop-name : goal.invariant-loop-name
invariant-loop-name l = with_all (drop l.name-index l.names) l.self ≡ with_all l.names l.initial.self
