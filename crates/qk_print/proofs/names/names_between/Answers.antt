use Rattle.qk_print.proofs.Fronts.{begins_with, begins_after, on_any_err}
use Rattle.qk_print.proofs.names.names_between.Goals as goal

pub returns-in_err-put-2-clause-front : goal.returns-in_err-put-2-clause-front
returns-in_err-put-2-clause-front c = on_any_err _ (begins_after c.loop-name.invariant.front c.in_err-put-2.ensures.front)

pub returns-in_err-put-3-clause-front : goal.returns-in_err-put-3-clause-front
returns-in_err-put-3-clause-front c = on_any_err _ (begins_after (begins_after c.loop-name.invariant.front (begins_with _ c.in_ok-put-2.ensures.ok)) c.in_err-put-3.ensures.front)
