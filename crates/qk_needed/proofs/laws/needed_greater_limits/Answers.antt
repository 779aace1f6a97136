use Rattle.qk_needed.proofs.laws.needed_greater_limits.Goals as goal
use Rattle.qk_needed.proofs.Needed_limits as law

pub returns : goal.returns
returns c = law.needed_greater_limits
