use Rattle.qk_lifting.proofs.laws.sites_are_arrows.Goals as goal
use Rattle.qk_lifting.proofs.Kinds_alike as law

pub returns : goal.returns
returns c = law.sites_are_arrows
