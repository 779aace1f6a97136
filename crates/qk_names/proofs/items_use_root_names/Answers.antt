use Rattle.qk_names.proofs.items_use_root_names.Goals as goal
use Rattle.qk_names.proofs.Laws as law

pub returns : goal.returns
returns c = law.items_use_root_names
