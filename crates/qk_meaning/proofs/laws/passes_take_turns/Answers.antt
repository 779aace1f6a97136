use Rattle.qk_meaning.proofs.laws.passes_take_turns.Goals as goal
use Rattle.qk_meaning.proofs.Settled as law

pub returns : goal.returns
returns c = law.passes_take_turns
