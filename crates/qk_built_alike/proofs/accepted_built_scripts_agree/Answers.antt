use Rattle.qk_built_alike.proofs.accepted_built_scripts_agree.Goals as goal
use Rattle.qk_built_alike.proofs.Built_sessions as law

pub returns : goal.returns
returns c = law.accepted_built_scripts_agree c.symbols_are_sites.ensures
