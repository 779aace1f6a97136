use Rattle.qk_meaning.proofs.laws.rounds_are_enough.Goals as goal
use Rattle.qk_meaning.proofs.Settled as law

pub returns : goal.returns
returns c = law.rounds_are_enough
