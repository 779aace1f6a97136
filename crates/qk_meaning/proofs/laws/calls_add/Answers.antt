use Rattle.qk_meaning.proofs.laws.calls_add.Goals as goal
use Rattle.qk_meaning.proofs.Growth as law

pub returns : goal.returns
returns c = law.calls_add
