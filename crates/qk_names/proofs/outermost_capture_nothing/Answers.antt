use Rattle.qk_names.proofs.outermost_capture_nothing.Goals as goal
use Rattle.qk_names.proofs.Laws as law

pub returns : goal.returns
returns c = law.outermost_capture_nothing
