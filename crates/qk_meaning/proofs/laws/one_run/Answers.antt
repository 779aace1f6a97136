use Rattle.qk_meaning.proofs.laws.one_run.Goals as goal
use Rattle.qk_meaning.proofs.Items as law

pub returns : goal.returns
returns c = law.one_run
