use Rattle.std.specs.Prelude.{◌≡◌, drop, ◌++◌}
use Rattle.qk_locals.specs.Layers.{own}
use Rattle.qk_scope.specs.Answering.{declared_breaches}
use Rattle.qk_scope.proofs.declaring.declare_all.Given as goal

abbrev pub invariant-loop-name : goal.invariant-loop-name
invariant-loop-name l = record {
  rules : declared_breaches ((own l.scopes).ended ++ l.earlier) (drop l.name-index l.names) ≡ declared_breaches ((own l.scopes).ended ++ l.initial.earlier) l.names;
  earlier : l.earlier ++ drop l.name-index l.names ≡ l.initial.earlier ++ l.names;
}
