use Rattle.qk_built_alike.proofs.built_captured_agree.Goals as goal
use Rattle.qk_built_alike.proofs.Programs as law

pub returns : goal.returns
returns c = law.built_captured_agree
