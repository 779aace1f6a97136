use Rattle.qk_meaning.proofs.laws.signal_written.Goals as goal
use Rattle.qk_meaning.proofs.Changed as law

pub returns : goal.returns
returns c = law.signal_written
