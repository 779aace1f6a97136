use Rattle.qk_names.proofs.names_are_captured.Goals as goal
use Rattle.qk_names.proofs.Laws as law

pub returns : goal.returns
returns c = law.names_are_captured
