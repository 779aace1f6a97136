use Rattle.qk_needed.proofs.laws.sames_are_equal.Goals as goal
use Rattle.qk_needed.proofs.Same_equal as law

pub returns : goal.returns
returns c = λ captures. law.one_value captures
