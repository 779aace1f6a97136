use Rattle.qk_application_alike.proofs.application_events_agree.Goals as goal
use Rattle.qk_application_alike.proofs.Accepted_over as law

pub returns : goal.returns
returns c = law.application_events_agree
