use Rattle.qk_names.proofs.sources_have_no_scopes.Goals as goal
use Rattle.qk_names.proofs.Laws as law

pub returns : goal.returns
returns c = law.sources_have_no_scopes
