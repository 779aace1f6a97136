use Rattle.qk_application.proofs.Excluded.{one_application}
use Rattle.qk_application.proofs.laws.one_application.Goals as goal

pub returns : goal.returns
returns c = one_application
