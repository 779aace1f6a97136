use Rattle.qk_names.proofs.data_stands.Goals as goal
use Rattle.qk_names.proofs.Laws as law

pub returns : goal.returns
returns c = law.data_stands
