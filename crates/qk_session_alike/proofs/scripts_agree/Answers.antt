use Rattle.qk_session_alike.proofs.scripts_agree.Goals as goal
use Rattle.qk_session_alike.proofs.Scripts as law

pub returns : goal.returns
returns c = law.scripts_agree
