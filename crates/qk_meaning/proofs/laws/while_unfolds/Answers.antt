use Rattle.qk_meaning.proofs.laws.while_unfolds.Goals as goal
use Rattle.qk_meaning.proofs.Loops as law

pub returns : goal.returns
returns c = law.while_unfolds
