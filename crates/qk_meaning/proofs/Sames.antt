-- Every value is the same as itself.
use Rattle.std.specs.Prelude.{◌≡◌, refl, ℕ, ℤ, pos, negsuc, Bool, true, false, ◌&&◌, ◌==◌, List, [], ◌∷◌, map, Option, Some, None}
use Rattle.std.proofs.Common.{ap, subst, ◌∙◌}
use Rattle.std.proofs.lemmas.Bool.{eq-eqb}
use Rattle.std.proofs.lemmas.Slice.Eq.{bytes_eq-Decides}
use Rattle.qk_ast.specs.Texts.{same_text}
use Rattle.qk_meaning.specs.Value.{Text, Site, Shown, Element, Component, Lifted_component, Fragment, Slot, Value, Values, Fields, Undefined, Null, Truth, Int, Words, Ref, Items, Record, Elem, Closure, Lifted, none, item, end, field}
use Rattle.qk_meaning.specs.Parts.{value_at, found, or_undefined}
use Rattle.qk_meaning.specs.Same.{same_integer, same_truth, same_site, same_shown, same_key, all_true, same, same_all, same_fields, same_named}
use Rattle.qk_meaning.specs.Laws_of_changes as Of_changes

pub and_too : {a b : Bool} → a ≡ true → b ≡ true → (a && b) ≡ true
and_too {a} {b} e f = ap (λ x. x && b) e ∙ f

pub text_self : (t : Text) → same_text t t ≡ true
text_self t = (bytes_eq-Decides t t).1 refl

pub number_self : (n : ℕ) → (n == n) ≡ true
number_self n = eq-eqb n n refl

integer_self : (i : ℤ) → same_integer i i ≡ true
integer_self (pos n) = number_self n
integer_self (negsuc n) = number_self n

truth_self : (b : Bool) → same_truth b b ≡ true
truth_self true = refl
truth_self false = refl

site_self : (s : Site) → same_site s s ≡ true
site_self s = and_too (and_too (text_self s.file) (number_self s.number)) (truth_self s.dollar)

shown_self : (s : Shown) → same_shown s s ≡ true
shown_self (Element t) = text_self t
shown_self (Component s) = site_self s
shown_self (Lifted_component t) = text_self t
shown_self Fragment = refl
shown_self (Slot t) = text_self t

key_self : (k : Option Text) → same_key k k ≡ true
key_self None = refl
key_self (Some t) = text_self t

module _ (captures : Site → List Text) where
  names_true : (scope : Fields) → ((name : Text) → same_named captures scope name (value_at name scope) ≡ true) → (names : List Text) → all_true (map (λ name. same_named captures scope name (value_at name scope)) names) ≡ true
  names_true scope p [] = refl
  names_true scope p (name ∷ rest) = and_too (p name) (names_true scope p rest)

  named_step : (name : Text) (v : Value) (rest : Fields) (b : Bool) (w : Value) → or_undefined (elim b [ true ↦ Some v | false ↦ found name rest ]) ≡ w → same captures v v ≡ true → same_named captures rest name (value_at name rest) ≡ true
      → elim b [ true ↦ same captures v w | false ↦ same_named captures rest name w ] ≡ true
  named_step name v rest true w g e f = subst (λ x. same captures v x ≡ true) g e
  named_step name v rest false w g e f = subst (λ x. same_named captures rest name x ≡ true) g f

  mutual
    self : (v : Value) → same captures v v ≡ true
    self Undefined = refl
    self Null = refl
    self (Truth b) = truth_self b
    self (Int i) = integer_self i
    self (Words t) = text_self t
    self (Ref a) = number_self a
    self (Items all) = self_all all
    self (Record fields) = self_fields fields
    self (Elem shown key slot attributes children) = and_too (and_too (and_too (and_too (shown_self shown) (key_self key)) (text_self slot)) (self_fields attributes)) (self_all children)
    self (Closure site scope hidden) = and_too (and_too (site_self site) (truth_self hidden)) (names_true scope (self_named scope) (captures site))
    self (Lifted symbol captured hidden) = and_too (and_too (text_self symbol) (truth_self hidden)) (self_all captured)

    self_all : (all : Values) → same_all captures all all ≡ true
    self_all none = refl
    self_all (item v rest) = and_too (self v) (self_all rest)

    self_fields : (all : Fields) → same_fields captures all all ≡ true
    self_fields end = refl
    self_fields (field n v rest) = and_too (and_too (text_self n) (self v)) (self_fields rest)

    self_named : (scope : Fields) (name : Text) → same_named captures scope name (value_at name scope) ≡ true
    self_named end name = refl
    self_named (field n v rest) name = named_step name v rest (same_text n name) (value_at name (field n v rest)) refl (self v) (self_named rest name)

pub same_as_itself : Of_changes.SameAsItself
same_as_itself captures v = self captures v
