use Rattle.qk_built_alike.proofs.accepted_built_captured_agree.Goals as goal
use Rattle.qk_built_alike.proofs.Accepted_built as law

pub returns : goal.returns
returns c = law.accepted_built_captured_agree c.symbols_are_sites.ensures
