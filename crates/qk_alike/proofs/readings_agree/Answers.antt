use Rattle.qk_alike.proofs.readings_agree.Goals as goal
use Rattle.qk_alike.proofs.Agree as law

pub returns : goal.returns
returns c = law.readings_agree
