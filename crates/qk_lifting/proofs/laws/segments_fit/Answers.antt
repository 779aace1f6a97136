use Rattle.qk_lifting.proofs.laws.segments_fit.Goals as goal
use Rattle.qk_lifting.proofs.Entries_fit as law

pub returns : goal.returns
returns c = law.segments_fit
