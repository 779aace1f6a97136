use Rattle.qk_reading.proofs.one_parse.Goals as goal
use Rattle.qk_reading.proofs.Modules as law

pub returns : goal.returns
returns c = law.one_parse
