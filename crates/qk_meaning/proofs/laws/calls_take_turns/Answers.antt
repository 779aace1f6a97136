use Rattle.qk_meaning.proofs.laws.calls_take_turns.Goals as goal
use Rattle.qk_meaning.proofs.Settled as law

pub returns : goal.returns
returns c = law.calls_take_turns
