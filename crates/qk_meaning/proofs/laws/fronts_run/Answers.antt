use Rattle.qk_meaning.proofs.laws.fronts_run.Goals as goal
use Rattle.qk_meaning.proofs.Fronts as law

pub returns : goal.returns
returns c = law.fronts_run
