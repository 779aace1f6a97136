use Rattle.qk_reading.proofs.one_module.Goals as goal
use Rattle.qk_reading.proofs.OneModule.{one_module}
use Rattle.qk_reading.proofs.Modules.{one_parse}

pub returns : goal.returns
returns c = λ form. one_module form (one_parse form)
