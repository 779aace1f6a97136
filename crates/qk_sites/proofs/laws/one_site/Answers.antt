use Rattle.qk_sites.proofs.Spelled.{one}
use Rattle.qk_sites.proofs.laws.one_site.Goals as goal

pub returns : goal.returns
returns c = one
