use Rattle.qk_application_alike.proofs.application_runs_agree.Goals as goal
use Rattle.qk_application_alike.proofs.Accepted_over as law

pub returns : goal.returns
returns c = law.application_runs_agree
