use Rattle.qk_first.proofs.first_run.Goals as goal
use Rattle.qk_first.proofs.Law as law

pub returns : goal.returns
returns c = law.first_runs
