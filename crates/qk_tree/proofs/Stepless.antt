-- What is neither a list nor an element takes no step.
use Rattle.std.specs.Prelude.{◌≡◌, refl, Bool, true, false, List}
use Rattle.std.proofs.Common.{sym, ◌∙◌, ap, subst}
use denote.Hole.Carrier.{hidden, roll}
use Rattle.qk_ast.specs.Texts.{Text}
use Rattle.qk_meaning.specs.Value.{Site}
use Rattle.qk_meaning.specs.Value as M
use Rattle.qk_meaning.specs.Expansion.{takes_step}
use Rattle.qk_value.specs.declared.value.Elem.{Elem}
use Rattle.qk_value.specs.declared.value.Fun.{Fun}
use Rattle.qk_value.specs.declared.value.FunCode.{FunCode}
use Rattle.qk_value.specs.declared.value.Value.{Value, out-Value, roll-Value, roll-out-Value}
use Rattle.qk_value.specs.declared.value.Value.TheOpen.{Value-F}
use Rattle.qk_value.specs.declared.value.Value.TheVariants as v
use Rattle.qk_value.specs.View.{seen, function, plain_of, fits, plain_site}
use Rattle.qk_value.proofs.Viewing.{seen-Record, seen-Fun}

function_stepless : (names : Site → List Text) (code : FunCode) (captured : M.Values) (is_hidden : Bool) → takes_step (function names code captured is_hidden) ≡ false
function_stepless names (FunCode.Symbol symbol) captured is_hidden = refl
function_stepless names (FunCode.Plain file number) captured is_hidden = plain_stepless (fits (names (plain_site file number)) captured)
  where
    plain_stepless : (b : Bool) → takes_step (plain_of b (names (plain_site file number)) file number captured is_hidden) ≡ false
    plain_stepless true = refl
    plain_stepless false = refl

module _ (names : Site → List Text) where
  open_stepless : (o : Value-F Value Elem Fun) → ((all : List Value) → roll-Value o ≡ v.List all → ⊥) → ((e : Elem) → roll-Value o ≡ v.Elem e → ⊥) → takes_step (seen names (roll-Value o)) ≡ false
  unfolding roll-Value roll hidden
  open_stepless Value-F.Undefined no_list no_element = refl
  open_stepless Value-F.Null no_list no_element = refl
  open_stepless (Value-F.Bool x) no_list no_element = refl
  open_stepless (Value-F.Int x) no_list no_element = refl
  open_stepless (Value-F.Text x) no_list no_element = refl
  open_stepless (Value-F.Ref x) no_list no_element = refl
  open_stepless (Value-F.List x) no_list no_element = absurd (no_list x (sym (v.rolls-List x)))
  open_stepless (Value-F.Record x) no_list no_element = ap takes_step (seen-Record names x)
  open_stepless (Value-F.Elem x) no_list no_element = absurd (no_element x (sym (v.rolls-Elem x)))
  open_stepless (Value-F.Fun x) no_list no_element = ap takes_step (seen-Fun names x) ∙ function_stepless names x.code _ x.hidden

  pub stepless : (w : Value) → ((all : List Value) → w ≡ v.List all → ⊥) → ((e : Elem) → w ≡ v.Elem e → ⊥) → takes_step (seen names w) ≡ false
  stepless w no_list no_element =
      subst (λ u. takes_step (seen names u) ≡ false) (roll-out-Value w) (open_stepless (out-Value w) (λ all e. no_list all (sym (roll-out-Value w) ∙ e)) (λ x e. no_element x (sym (roll-out-Value w) ∙ e)))
