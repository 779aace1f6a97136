use Rattle.qk_print.proofs.Fronts.{begins_with, begins_after, on_any_err}
use Rattle.qk_print.proofs.names.patterns.Goals as goal

pub returns-in_err-put-clause-front : goal.returns-in_err-put-clause-front
returns-in_err-put-clause-front c = on_any_err _ (begins_after c.loop-one.invariant.front c.in_err-put.ensures.front)

pub returns-in_err-pattern-2-clause-front : goal.returns-in_err-pattern-2-clause-front
returns-in_err-pattern-2-clause-front c = on_any_err _ (begins_after (begins_after c.loop-one.invariant.front (begins_with _ c.in_ok-put.ensures.ok)) c.in_err-pattern-2.ensures.front)
