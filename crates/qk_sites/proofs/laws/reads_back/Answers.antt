use Rattle.qk_sites.proofs.Spelled.{back}
use Rattle.qk_sites.proofs.laws.reads_back.Goals as goal

pub returns : goal.returns
returns c = back
