use Rattle.qk_names.proofs.tasks_take_track.Goals as goal
use Rattle.qk_names.proofs.Laws as law

pub returns : goal.returns
returns c = law.tasks_take_track
