use Rattle.qk_application.proofs.Excluded.{one_refusal}
use Rattle.qk_application.proofs.laws.one_refusal.Goals as goal

pub returns : goal.returns
returns c = one_refusal
