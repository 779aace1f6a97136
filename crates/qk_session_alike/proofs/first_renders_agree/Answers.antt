use Rattle.qk_session_alike.proofs.first_renders_agree.Goals as goal
use Rattle.qk_session_alike.proofs.Items_alike as law

pub returns : goal.returns
returns c = law.first_renders_agree
