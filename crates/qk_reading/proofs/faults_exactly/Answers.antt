use Rattle.qk_reading.proofs.faults_exactly.Goals as goal
use Rattle.qk_reading.proofs.Modules.{refused}
use Rattle.qk_reading.proofs.SoundModules.{read_or_refused}

pub returns : goal.returns
returns c = λ form deepest ts. ((λ fault e m p. refused form deepest fault ts e m p.parse p.flat), (λ h. read_or_refused form deepest ts h))
