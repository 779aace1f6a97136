-- Methods of texts that are called.
use Rattle.std.proofs.Common.{◌≡◌, List, map, Bool, true, false, Some, Result, Err, ap, ◌∙◌, sym}
use Rattle.qk_ast.specs.Texts.{Text}
use Rattle.qk_meaning.specs.Value as M
use Rattle.qk_meaning.specs.Parts.{listed}
use Rattle.qk_meaning.specs.Operators.{Answer, Is}
use Rattle.qk_meaning.specs.Doing.{Doing, Gives}
use Rattle.qk_meaning.specs.Running.{Running, answered}
use Rattle.qk_meaning.specs.Setting.{Setting, captures}
use Rattle.qk_meaning.specs.Methods.{Includes, Starts_with, method_called}
use Rattle.qk_value.specs.declared.value.Value.{Value}
use Rattle.qk_value.specs.View.{seen_all}
use Rattle.qk_ops.specs.declared.stop.OpStop.{OpStop}
use Rattle.qk_ops.specs.Answering.{Gave}
use Rattle.qk_ops.specs.Kinds.{words_in, text_called}
use Rattle.qk_ops.proofs.Called.{includes_called, starts_with_called}
use Rattle.qk_ops.proofs.Kinds_known.{word_is}
use Rattle.qk_heap.proofs.Item_changes.{list_seen}
use Rattle.qk_code.specs.declared.stop.Stop.{Stop}
use Rattle.qk_code.specs.Stops.{stop_on}
use Rattle.qk_making.specs.Acting.{Comes_to, seen_in}
use Rattle.qk_acts.specs.Naming.{text_method}

-- what was answered is given
pub answer_given : {A B : Type 0} (seen : A → B) (meaning : Doing Running B) (answer : Answer B) (a : A) → meaning ≡ answered answer → answer ≡ Is (seen a) → (s : Running) → meaning s ≡ Gives (seen a) s
answer_given seen meaning answer a is h s = ap (λ m. m s) is ∙ ap (λ x. answered x s) h

-- what was refused is a fault
pub answer_refused : {A B : Type 0} (seen : A → B) (meaning : Doing Running B) (answer : Answer B) (e : OpStop) (r : Result A Stop) → r ≡ Err (stop_on e) → meaning ≡ answered answer → Gave seen answer (Err e) → (s : Running) → Comes_to seen (meaning s) r s
answer_refused seen meaning answer (OpStop.Fault f) r stopped is h s = rw stopped (ap (λ m. m s) is ∙ ap (λ x. answered x s) h)
answer_refused seen meaning answer OpStop.Memory r stopped is h s = rw stopped tt

module _ (here : Setting) (starts : Bool) (w : M.Value) (arguments : List Value) (t u : Text) (is : Some t ≡ words_in w) (same : u ≡ t) where
  listed_so : map (seen_in here) arguments ≡ listed (seen_all (captures here) arguments)
  listed_so = sym (list_seen (captures here) arguments)

  pub starts_called : starts ≡ true → method_called here (text_method starts) w (map (seen_in here) arguments) ≡ answered (text_called (Some Starts_with) u (listed (seen_all (captures here) arguments)))
  starts_called e =
      ap (λ b. method_called here (text_method b) w (map (seen_in here) arguments)) e
      ∙ ap (λ x. method_called here Starts_with x (map (seen_in here) arguments)) (word_is w t is)
      ∙ starts_with_called here t (map (seen_in here) arguments)
      ∙ (λ i. answered (text_called (Some Starts_with) (sym same i) (listed_so i)))

  pub included_called : starts ≡ false → method_called here (text_method starts) w (map (seen_in here) arguments) ≡ answered (text_called (Some Includes) u (listed (seen_all (captures here) arguments)))
  included_called e =
      ap (λ b. method_called here (text_method b) w (map (seen_in here) arguments)) e
      ∙ ap (λ x. method_called here Includes x (map (seen_in here) arguments)) (word_is w t is)
      ∙ includes_called here t (map (seen_in here) arguments)
      ∙ (λ i. answered (text_called (Some Includes) (sym same i) (listed_so i)))
