use Rattle.qk_meaning.proofs.laws.item_pushed.Goals as goal
use Rattle.qk_meaning.proofs.Changed as law

pub returns : goal.returns
returns c = law.item_pushed
