use Rattle.qk_lifting.proofs.laws.symbols_are_sites.Goals as goal
use Rattle.qk_lifting.proofs.Symbols_read as law

pub returns : goal.returns
returns c = law.symbols_are_sites c.one_site.ensures
