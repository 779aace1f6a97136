use Rattle.std.proofs.Common.{◌∙◌}
use Rattle.qk_environment.proofs.Scopes.{opened_next, opened_longer}
use Rattle.qk_environment.proofs.scope.Scope.open_declared.Goals as goal

pub loop-statement-preserved : goal.loop-statement-preserved
loop-statement-preserved c = record {
  shown = λ p. opened_next c.args.statements.now c.loop-statement.statement-index _ c.loop-statement-test.true c.statement-item.is _ _ (c.in_ok-open_one.ensures.shown p) ∙ c.loop-statement.invariant.shown p;
  longer = opened_longer c.args.statements.now c.loop-statement.statement-index _ c.loop-statement-test.true c.statement-item.is _ _ _ c.in_ok-open_one.ensures.longer c.loop-statement.invariant.longer;
}
