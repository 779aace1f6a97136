use Rattle.qk_lifting.proofs.laws.entries_are_in_order.Goals as goal
use Rattle.qk_lifting.proofs.In_order as law

pub returns : goal.returns
returns c = law.entries_are_in_order
