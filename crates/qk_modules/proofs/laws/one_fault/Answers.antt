use Rattle.qk_modules.proofs.OneFault.{one_fault}
use Rattle.qk_modules.proofs.laws.one_fault.Goals as goal

pub returns : goal.returns
returns c = one_fault
