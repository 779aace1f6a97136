use Rattle.qk_built_paused.proofs.accepted_same_output_dropped.Goals as goal
use Rattle.qk_built_paused.proofs.Built_pausable as law

pub returns : goal.returns
returns c = law.accepted_same_output_dropped c.symbols_are_sites.ensures
