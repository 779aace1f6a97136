use Rattle.qk_names.proofs.arrows_are_numbered.Goals as goal
use Rattle.qk_names.proofs.Laws as law

pub returns : goal.returns
returns c = law.arrows_are_numbered
