use Rattle.qk_needed.proofs.laws.quiet_passes.Goals as goal
use Rattle.qk_needed.proofs.Quiet_passes as law

pub returns : goal.returns
returns c = law.quiet_passes
