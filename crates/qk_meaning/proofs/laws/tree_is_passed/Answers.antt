use Rattle.qk_meaning.proofs.laws.tree_is_passed.Goals as goal
use Rattle.qk_meaning.proofs.Passed as law

pub returns : goal.returns
returns c = law.tree_is_passed
