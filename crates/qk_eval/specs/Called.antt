-- What a call of a function from outside is.
use Rattle.std.specs.Prelude.{Bool, List, [], Result}
use Rattle.qk_ast.specs.declared.Form.{Form}
use Rattle.qk_meaning.specs.Evaluation.{entering}
use Rattle.qk_value.specs.declared.value.Value.{Value, Fun as Function}
use Rattle.qk_value.specs.declared.value.Fun.{Fun}
use Rattle.qk_code.specs.declared.mode.Mode.{Mode}
use Rattle.qk_code.specs.declared.stop.Stop.{Stop}
use Rattle.qk_code.specs.Modes.{mode_seen}
use Rattle.qk_code.specs.World.{World}
use Rattle.qk_code.specs.Ran.{Ran}
use Rattle.qk_eval.specs.Placing.{computed}
use Rattle.qk_eval.specs.Seeing.{value_seen, values_seen}

-- the function is entered in that mode with these arguments, with all levels that are left and no computed under way; nothing is presumed of the program
abbrev pub Calls : Form → Bool → Mode → Fun → List Value → World → Result Value Stop → World → Type 0
Calls form hooked mode f given before result after =
    Ran form hooked (λ p. Unit {0}) value_seen (λ p. entering p computed before.left.depth (mode_seen mode) [] (value_seen p (Function f)) (values_seen p given)) before result after
