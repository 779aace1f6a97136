use Rattle.qk_print.proofs.Fronts.{begins_after, on_any_err}
use Rattle.qk_print.proofs.expressions.parts_left.Goals as goal

pub returns-in_err-template_part-clause-front : goal.returns-in_err-template_part-clause-front
returns-in_err-template_part-clause-front c = on_any_err _ (begins_after c.loop-part.invariant.front c.in_err-template_part.ensures.front)
