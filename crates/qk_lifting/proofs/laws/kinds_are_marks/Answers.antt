use Rattle.qk_lifting.proofs.laws.kinds_are_marks.Goals as goal
use Rattle.qk_lifting.proofs.Kinds_alike as law

pub returns : goal.returns
returns c = law.kinds_are_marks
