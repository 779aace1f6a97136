use Rattle.qk_names.proofs.component_is_dollar_site.Goals as goal
use Rattle.qk_names.proofs.Laws as law

pub returns : goal.returns
returns c = law.component_is_dollar_site
