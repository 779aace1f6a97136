use Rattle.std.proofs.Common.{◌∙◌, ap}
use Rattle.qk_meaning.specs.Value.{Value}
use Rattle.qk_meaning.specs.Running.{answered}
use Rattle.qk_meaning.specs.Setting.{captures}
use Rattle.qk_meaning.specs.Calls as calls
use Rattle.qk_value.specs.View.{seen}
use Rattle.qk_value.proofs.Viewing.{seen-Elem}
use Rattle.qk_making.proofs.functions.marked.Goals as goal

pub returns-in-Elem : goal.returns-in-Elem
returns-in-Elem c = λ here s. ap (λ (m : Value). answered (calls.marked m) s) (ap (seen (captures here)) c.in-Elem.is ∙ seen-Elem (captures here) _)
