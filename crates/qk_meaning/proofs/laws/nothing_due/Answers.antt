use Rattle.qk_meaning.proofs.laws.nothing_due.Goals as goal
use Rattle.qk_meaning.proofs.Settled as law

pub returns : goal.returns
returns c = law.nothing_due
