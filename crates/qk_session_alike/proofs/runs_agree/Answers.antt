use Rattle.qk_session_alike.proofs.runs_agree.Goals as goal
use Rattle.qk_session_alike.proofs.Runs as law

pub returns : goal.returns
returns c = law.runs_agree
