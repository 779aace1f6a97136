use Rattle.qk_alike.proofs.called_anew_alike.Goals as goal
use Rattle.qk_alike.proofs.Agree as law

pub returns : goal.returns
returns c = law.called_anew_alike
