use Rattle.qk_lifting.proofs.laws.numbering_keeps_names.Goals as goal
use Rattle.qk_lifting.proofs.Names_kept as law

pub returns : goal.returns
returns c = law.numbering_keeps_names
