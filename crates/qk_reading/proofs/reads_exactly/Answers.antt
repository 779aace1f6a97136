use Rattle.qk_reading.proofs.reads_exactly.Goals as goal
use Rattle.qk_reading.proofs.Modules.{read_whole}
use Rattle.qk_reading.proofs.SoundModules.{read_is_written}

pub returns : goal.returns
returns c = λ form deepest ts m. ((λ p. read_whole form ts m p.parse deepest p.flat), (λ e. read_is_written form deepest ts m e))
