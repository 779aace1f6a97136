use Rattle.std.proofs.Common.{◌≡◌, subst}
use Rattle.qk_meaning.specs.References.{root_reference, Of}
use Rattle.qk_value.specs.declared.value.Value.{Value}
use Rattle.qk_eval.specs.Seeing.{value_seen}
use Rattle.qk_call.proofs.playing.function_of.Goals as goal

pub returns-in-Fun : goal.returns-in-Fun
returns-in-Fun c = λ p file name means. subst (λ (v : Value). root_reference (p.root file name) ≡ Of (value_seen p v)) c.in-Fun.is (c.in_ok-v.ensures p file name means)
