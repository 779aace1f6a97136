use Rattle.std.specs.Prelude.{◌≡◌, drop, ◌++◌}
use Rattle.qk_ast.specs.Names.{patterns_names}
use Rattle.qk_locals.specs.Layers.{own}
use Rattle.qk_scope.specs.Answering.{declared_breaches}
use Rattle.qk_scope.proofs.declaring.declare_patterns.Given as goal

abbrev pub invariant-loop-pattern : goal.invariant-loop-pattern
invariant-loop-pattern l = record {
  rules : declared_breaches ((own l.scopes).ended ++ l.earlier) (patterns_names (drop l.pattern-index l.patterns)) ≡ declared_breaches ((own l.scopes).ended ++ l.initial.earlier) (patterns_names l.patterns);
  earlier : l.earlier ++ patterns_names (drop l.pattern-index l.patterns) ≡ l.initial.earlier ++ patterns_names l.patterns;
}
