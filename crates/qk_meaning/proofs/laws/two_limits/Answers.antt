use Rattle.qk_meaning.proofs.laws.two_limits.Goals as goal
use Rattle.qk_meaning.proofs.Items as law

pub returns : goal.returns
returns c = law.two_limits
