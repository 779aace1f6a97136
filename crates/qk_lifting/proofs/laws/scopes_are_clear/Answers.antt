use Rattle.qk_lifting.proofs.laws.scopes_are_clear.Goals as goal
use Rattle.qk_lifting.proofs.Clear_scopes as law

pub returns : goal.returns
returns c = law.scopes_are_clear
