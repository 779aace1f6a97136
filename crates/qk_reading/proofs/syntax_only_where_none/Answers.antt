use Rattle.qk_reading.proofs.syntax_only_where_none.Goals as goal
use Rattle.qk_reading.proofs.Modules as law

pub returns : goal.returns
returns c = λ form deepest left ts m e p. law.syntax_refused form deepest left ts e m p
