use Rattle.qk_modules.proofs.Excluded.{one_gathering}
use Rattle.qk_modules.proofs.laws.one_gathering.Goals as goal

pub returns : goal.returns
returns c = one_gathering
