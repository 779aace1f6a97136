use Rattle.qk_alike.proofs.pairs_one_to_one.Goals as goal
use Rattle.qk_alike.proofs.Pairings_apart as law

pub returns : goal.returns
returns c = law.pairs_one_to_one
