use Rattle.qk_names.proofs.inside_follows.Goals as goal
use Rattle.qk_names.proofs.Laws as law

pub returns : goal.returns
returns c = law.inside_follows
