use Rattle.qk_top.proofs.Stopped.{root_refused}
use Rattle.qk_top.proofs.stopping.refused_root.Goals as goal

pub returns-in-Ok : goal.returns-in-Ok
returns-in-Ok c = root_refused _ _ _ c.in-Ok.ensures c.refused.ensures
