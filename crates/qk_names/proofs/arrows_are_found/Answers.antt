use Rattle.qk_names.proofs.arrows_are_found.Goals as goal
use Rattle.qk_names.proofs.Laws as law

pub returns : goal.returns
returns c = law.arrows_are_found
