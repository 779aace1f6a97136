use Rattle.qk_script.proofs.laws.one_script.Goals as goal
use Rattle.qk_script.proofs.OneItems.{one_text}

pub returns : goal.returns
returns c = one_text
