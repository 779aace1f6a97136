use Rattle.qk_meaning.proofs.laws.property_deleted.Goals as goal
use Rattle.qk_meaning.proofs.Changed as law

pub returns : goal.returns
returns c = law.property_deleted
