use Rattle.qk_needed.proofs.laws.resumed_is_fresh.Goals as goal
use Rattle.qk_needed.proofs.Resumed as law

pub returns : goal.returns
returns c = law.resumed_is_fresh
