use Rattle.qk_meaning.proofs.laws.items_tell.Goals as goal
use Rattle.qk_meaning.proofs.Growth as law

pub returns : goal.returns
returns c = law.items_tell
