use Rattle.qk_meaning.proofs.laws.item_popped.Goals as goal
use Rattle.qk_meaning.proofs.Changed as law

pub returns : goal.returns
returns c = law.item_popped
