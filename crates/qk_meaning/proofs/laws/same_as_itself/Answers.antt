use Rattle.qk_meaning.proofs.laws.same_as_itself.Goals as goal
use Rattle.qk_meaning.proofs.Sames as law

pub returns : goal.returns
returns c = law.same_as_itself
