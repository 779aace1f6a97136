use Rattle.std.proofs.Common.{◌∙◌}
use Rattle.qk_environment.proofs.Scopes.{parameter_next, parameter_longer}
use Rattle.qk_environment.proofs.scope.Scope.open_parameters.Goals as goal

pub loop-pattern-preserved : goal.loop-pattern-preserved
loop-pattern-preserved c = record {
  shown = λ p. parameter_next c.args.params.now c.loop-pattern.pattern-index _ c.loop-pattern-test.true c.pattern-item.is _ _ (c.in_ok-open_parameter.ensures.shown p) ∙ c.loop-pattern.invariant.shown p;
  longer = parameter_longer c.args.params.now c.loop-pattern.pattern-index _ c.loop-pattern-test.true c.pattern-item.is _ _ _ c.in_ok-open_parameter.ensures.longer c.loop-pattern.invariant.longer;
}
