use Rattle.qk_sites.proofs.Spelled.{spelled_is}
use Rattle.qk_sites.proofs.laws.spelled_is_symbol.Goals as goal

pub returns : goal.returns
returns c = spelled_is
