use Rattle.qk_source_alike.proofs.scopes_agree.Goals as goal
use Rattle.qk_source_alike.proofs.Two_readings as law

pub returns : goal.returns
returns c = law.scopes_agree
