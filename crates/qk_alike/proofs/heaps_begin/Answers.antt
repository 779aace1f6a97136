use Rattle.qk_alike.proofs.heaps_begin.Goals as goal
use Rattle.qk_alike.proofs.Pairings_apart as law

pub returns : goal.returns
returns c = law.heaps_begin
