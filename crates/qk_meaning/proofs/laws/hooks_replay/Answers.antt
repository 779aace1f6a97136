use Rattle.qk_meaning.proofs.laws.hooks_replay.Goals as goal
use Rattle.qk_meaning.proofs.Replay as law

pub returns : goal.returns
returns c = law.hooks_replay
