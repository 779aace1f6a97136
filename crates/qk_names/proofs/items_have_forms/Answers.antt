use Rattle.qk_names.proofs.items_have_forms.Goals as goal
use Rattle.qk_names.proofs.Laws as law

pub returns : goal.returns
returns c = law.items_have_forms
