use Rattle.qk_needed.proofs.laws.reads_decide.Goals as goal
use Rattle.qk_needed.proofs.Reads_decide as law

pub returns : goal.returns
returns c = law.reads_decide
