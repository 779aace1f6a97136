use Rattle.qk_lifting.proofs.laws.modules_keep_captures.Goals as goal
use Rattle.qk_lifting.proofs.Modules_kept as law

pub returns : goal.returns
returns c = law.modules_keep_captures c.arrows_are_found.ensures c.inside_is_listed.ensures c.tasks_take_track.ensures
