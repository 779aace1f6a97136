use Rattle.qk_modules.proofs.Excluded.{gathered_or_refused}
use Rattle.qk_modules.proofs.laws.gathered_or_refused.Goals as goal

pub returns : goal.returns
returns c = gathered_or_refused
