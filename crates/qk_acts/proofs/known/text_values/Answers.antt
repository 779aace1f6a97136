use Rattle.std.proofs.Common.{rules, refl}
use Rattle.std.specs.Prelude.{◌++◌, ◌∷◌, []}
use Rattle.qk_acts.proofs.Known_calls.{text_put}
use Rattle.qk_acts.proofs.known.text_values.Goals as goal

pub loop-name-preserved : goal.loop-name-preserved
loop-name-preserved c = λ captured. text_put captured c.loop-name.all c.push.new.self c.loop-name.yielded (c.loop-name.yielded ++ c.in-Some.name ∷ []) c.in-Some.name (search rules) refl (c.loop-name.invariant captured)
