use Rattle.qk_needed.proofs.laws.settled.Goals as goal
use Rattle.qk_needed.proofs.Settles as law

pub returns : goal.returns
returns c = law.settled
