use Rattle.qk_names.proofs.track_stays.Goals as goal
use Rattle.qk_names.proofs.Laws as law

pub returns : goal.returns
returns c = law.track_stays
