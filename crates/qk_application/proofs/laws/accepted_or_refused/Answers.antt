use Rattle.qk_application.proofs.Excluded.{accepted_or_refused}
use Rattle.qk_application.proofs.laws.accepted_or_refused.Goals as goal

pub returns : goal.returns
returns c = accepted_or_refused
