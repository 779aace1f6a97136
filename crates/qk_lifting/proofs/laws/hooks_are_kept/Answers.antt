use Rattle.qk_lifting.proofs.laws.hooks_are_kept.Goals as goal
use Rattle.qk_lifting.proofs.Entries_fit as law

pub returns : goal.returns
returns c = law.hooks_are_kept
