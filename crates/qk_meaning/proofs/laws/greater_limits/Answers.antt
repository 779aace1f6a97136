use Rattle.qk_meaning.proofs.laws.greater_limits.Goals as goal
use Rattle.qk_meaning.proofs.Items as law

pub returns : goal.returns
returns c = law.greater_limits
