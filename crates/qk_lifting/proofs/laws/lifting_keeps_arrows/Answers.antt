use Rattle.qk_lifting.proofs.laws.lifting_keeps_arrows.Goals as goal
use Rattle.qk_lifting.proofs.Arrows_kept as law

pub returns : goal.returns
returns c = law.lifting_keeps_arrows
