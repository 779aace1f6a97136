use Rattle.qk_names.proofs.accepted_keep_rules.Goals as goal
use Rattle.qk_names.proofs.Laws as law

pub returns : goal.returns
returns c = law.accepted_keep_rules
