use Rattle.qk_meaning.proofs.laws.pauses_meet_none.Goals as goal
use Rattle.qk_meaning.proofs.Pauses as law

pub returns : goal.returns
returns c = law.pauses_meet_none
