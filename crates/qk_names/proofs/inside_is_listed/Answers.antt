use Rattle.qk_names.proofs.inside_is_listed.Goals as goal
use Rattle.qk_names.proofs.Laws as law

pub returns : goal.returns
returns c = law.inside_is_listed
