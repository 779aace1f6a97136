use Rattle.qk_names.proofs.sites_are_few.Goals as goal
use Rattle.qk_names.proofs.Laws as law

pub returns : goal.returns
returns c = law.sites_are_few
