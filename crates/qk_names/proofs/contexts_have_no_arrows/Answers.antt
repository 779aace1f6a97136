use Rattle.qk_names.proofs.contexts_have_no_arrows.Goals as goal
use Rattle.qk_names.proofs.Laws as law

pub returns : goal.returns
returns c = law.contexts_have_no_arrows
