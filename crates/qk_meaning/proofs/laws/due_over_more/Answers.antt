use Rattle.qk_meaning.proofs.laws.due_over_more.Goals as goal
use Rattle.qk_meaning.proofs.Due as law

pub returns : goal.returns
returns c = law.due_over_more
