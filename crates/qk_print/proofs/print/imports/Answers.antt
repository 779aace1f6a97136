use Rattle.qk_print.proofs.Fronts.{begins_after, on_any_err}
use Rattle.qk_print.proofs.print.imports.Goals as goal

pub returns-in_err-import-clause-front : goal.returns-in_err-import-clause-front
returns-in_err-import-clause-front c = on_any_err _ (begins_after c.loop-one.invariant.front c.in_err-import.ensures.front)
