use Rattle.qk_source_alike.proofs.accepted_scripts_agree.Goals as goal
use Rattle.qk_source_alike.proofs.Accepted_rules as law

pub returns : goal.returns
returns c = law.accepted_scripts_agree
