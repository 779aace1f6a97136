use Rattle.qk_meaning.proofs.laws.played_is_run.Goals as goal
use Rattle.qk_meaning.proofs.Items as law

pub returns : goal.returns
returns c = law.played_is_run
