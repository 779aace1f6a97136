use Rattle.qk_lifting.proofs.laws.lifting_keeps_captures.Goals as goal
use Rattle.qk_lifting.proofs.Captures_kept as law

pub returns : goal.returns
returns c = law.lifting_keeps_captures
