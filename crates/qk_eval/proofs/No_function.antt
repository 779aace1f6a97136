-- What follows from being no function.
use Rattle.std.specs.Prelude.{◌≡◌, refl, false}
use Rattle.std.proofs.Common.{sym, ◌∙◌, ap, subst}
use denote.Hole.Carrier.{hidden, roll}
use Rattle.qk_meaning.specs.Operators.{is_function}
use Rattle.qk_value.specs.declared.value.Elem.{Elem}
use Rattle.qk_value.specs.declared.value.Fun.{Fun}
use Rattle.qk_value.specs.declared.value.Value.{Value, out-Value, roll-Value, roll-out-Value}
use Rattle.qk_value.specs.declared.value.Value.TheOpen.{Value-F}
use Rattle.qk_value.specs.declared.value.Value.TheVariants as v
use Rattle.qk_value.specs.View.{seen}
use Rattle.qk_value.proofs.Viewing.{seen-List, seen-Record, seen-Elem}
use Rattle.qk_environment.specs.Scoping.{Captures}

module _ (captured : Captures) where
  open_no_function : (o : Value-F Value Elem Fun) → ((f : Fun) → roll-Value o ≡ v.Fun f → ⊥) → is_function (seen captured (roll-Value o)) ≡ false
  unfolding roll-Value roll hidden
  open_no_function Value-F.Undefined not = refl
  open_no_function Value-F.Null not = refl
  open_no_function (Value-F.Bool x) not = refl
  open_no_function (Value-F.Int x) not = refl
  open_no_function (Value-F.Text x) not = refl
  open_no_function (Value-F.Ref x) not = refl
  open_no_function (Value-F.List x) not = ap is_function (seen-List captured x)
  open_no_function (Value-F.Record x) not = ap is_function (seen-Record captured x)
  open_no_function (Value-F.Elem x) not = ap is_function (seen-Elem captured x)
  open_no_function (Value-F.Fun x) not = absurd (not x (sym (v.rolls-Fun x)))

  pub no_function : (w : Value) → ((f : Fun) → w ≡ v.Fun f → ⊥) → is_function (seen captured w) ≡ false
  no_function w not = subst (λ w. is_function (seen captured w) ≡ false) (roll-out-Value w) (open_no_function (out-Value w) (λ f e. not f (sym (roll-out-Value w) ∙ e)))
