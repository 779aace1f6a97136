use Rattle.qk_sites.proofs.Spelled.{is_spelled}
use Rattle.qk_sites.proofs.laws.symbol_is_spelled.Goals as goal

pub returns : goal.returns
returns c = is_spelled
