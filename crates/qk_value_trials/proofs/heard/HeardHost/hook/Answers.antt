use Rattle.std.specs.Prelude.{[]}
use Rattle.std.proofs.Common.{sym}
use Rattle.std.proofs.lemmas.List.{append-nil}
use Rattle.qk_value_trials.proofs.heard.HeardHost.hook.Goals as goal

pub returns-clause-answers : goal.returns-clause-answers
returns-clause-answers c = record { made = []; stays = sym (append-nil c.args._heap.now); told = λ names list stood. tt }
