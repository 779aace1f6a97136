use Rattle.qk_source_alike.proofs.accepted_runs_agree.Goals as goal
use Rattle.qk_source_alike.proofs.Accepted_rules as law

pub returns : goal.returns
returns c = law.accepted_runs_agree
