use Rattle.qk_print.proofs.Fronts.{begins_after, on_any_err}
use Rattle.qk_print.proofs.put.escaped.Goals as goal

pub returns-in_err-escaped_byte-clause-front : goal.returns-in_err-escaped_byte-clause-front
returns-in_err-escaped_byte-clause-front c = on_any_err _ (begins_after c.loop-byte.invariant.front c.in_err-escaped_byte.ensures.front)
