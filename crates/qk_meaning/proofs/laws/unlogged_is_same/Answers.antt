use Rattle.qk_meaning.proofs.laws.unlogged_is_same.Goals as goal
use Rattle.qk_meaning.proofs.Unlogged as law

pub returns : goal.returns
returns c = law.unlogged_is_same
