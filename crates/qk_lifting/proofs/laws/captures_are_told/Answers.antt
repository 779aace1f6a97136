use Rattle.qk_lifting.proofs.laws.captures_are_told.Goals as goal
use Rattle.qk_lifting.proofs.Captures_told as law

pub returns : goal.returns
returns c = law.captures_are_told c.arrows_are_found.ensures c.inside_is_listed.ensures
