-- Attributes as they are written, walked from the front on.
use Rattle.std.specs.Prelude.{◌≡◌, refl, ◌+◌, ◌-◌, ◌<◌, ◌≤◌, ℕ, ◌==◌, Bool, true, false, not, List, [], ◌∷◌, ◌++◌, length, drop, get_or, slice_get, codes, Option, Some, None, Err}
use Rattle.std.proofs.Common.{sym, ◌∙◌, ap, arith}
use Rattle.qk_ast.specs.Texts.{same_text, ends_in_dollar}
use Rattle.qk_meaning.specs.Fault as F
use Rattle.qk_meaning.specs.Value as M
use Rattle.qk_meaning.specs.Value.{Text, Site, Fields, end, field}
use Rattle.qk_meaning.specs.Parts.{found}
use Rattle.qk_meaning.specs.Props.{appended}
use Rattle.qk_meaning.specs.Texts.{is_forbidden}
use Rattle.qk_meaning.specs.Markup.{unless, is_key_value, element_attribute_fault, attribute_fault, attributes_fault, key_text, key_among, words_of, slot_among, name_among, shown_attributes}
use Rattle.qk_value.specs.declared.value.Value.{Value}
use Rattle.qk_value.specs.View.{seen, seen_fields}
use Rattle.qk_code.specs.declared.stop.Stop.{Stop}
use Rattle.qk_making.specs.Trying.{Tried}
use Rattle.qk_making.specs.Attributes.{words_in, text_under, is_own}
use Rattle.qk_making.proofs.Walking.{next_left, none_left}
use Rattle.qk_making.proofs.Trying.{tried_first, then_failed, then_next}

abbrev pub Written : Type 0
Written = List (Text × Value)

-- ---- a name ends in `$` where its last byte is one

abbrev pub is_dollar : Option ℕ → Bool
is_dollar None = false
is_dollar (Some byte) = byte == 36

at_end : (b : ℕ) (rest : Text) → is_dollar (slice_get (b ∷ rest) (length rest)) ≡ ends_in_dollar (b ∷ rest)
at_end b [] = refl
at_end b (c ∷ rest) = at_end c rest

pub last_dollar : (name : Text) → is_dollar (slice_get name (length name - 1)) ≡ ends_in_dollar name
last_dollar [] = refl
last_dollar (b ∷ rest) = let last : length (b ∷ rest) - 1 ≡ length rest = omega arith in
    ap (λ i. is_dollar (slice_get (b ∷ rest) i)) last ∙ at_end b rest

-- ---- by the first one of a name

abbrev pub key_in : Option M.Value → Option Text
key_in None = None
key_in (Some v) = key_text v

pub key_found : (fields : Fields) → key_among fields ≡ key_in (found (codes "key") fields)
key_found end = refl
key_found (field n v rest) = by (same_text n (codes "key")) (key_found rest)
  where
    by : (b : Bool) → key_among rest ≡ key_in (found (codes "key") rest) → elim b [ true ↦ key_text v | false ↦ key_among rest ] ≡ key_in (elim b [ true ↦ Some v | false ↦ found (codes "key") rest ])
    by true e = refl
    by false e = e

pub slot_found : (fields : Fields) → slot_among fields ≡ text_under (codes "q:slot") fields
slot_found end = refl
slot_found (field n v rest) = by (same_text n (codes "q:slot")) (slot_found rest)
  where
    by : (b : Bool) → slot_among rest ≡ words_in (found (codes "q:slot") rest) → elim b [ true ↦ words_of v | false ↦ slot_among rest ] ≡ words_in (elim b [ true ↦ Some v | false ↦ found (codes "q:slot") rest ])
    by true e = refl
    by false e = e

pub name_found : (fields : Fields) → name_among fields ≡ text_under (codes "name") fields
name_found end = refl
name_found (field n v rest) = by (same_text n (codes "name")) (name_found rest)
  where
    by : (b : Bool) → name_among rest ≡ words_in (found (codes "name") rest) → elim b [ true ↦ words_of v | false ↦ name_among rest ] ≡ words_in (elim b [ true ↦ Some v | false ↦ found (codes "name") rest ])
    by true e = refl
    by false e = e

-- ---- by the kind of the tag

pub on_element : (element : Bool) (name : Text) (v : M.Value) → same_text name (codes "key") ≡ false → element ≡ true → attribute_fault element name v ≡ element_attribute_fault name v
on_element element name v other is =
    ap (λ b. elim b [ true ↦ unless (is_key_value v) F.NotText | false ↦ elim element [ true ↦ element_attribute_fault name v | false ↦ unless (not (is_forbidden name)) F.NoProperty ] ]) other
    ∙ ap (λ b. elim b [ true ↦ element_attribute_fault name v | false ↦ unless (not (is_forbidden name)) F.NoProperty ]) is

-- ---- walks

module _ (names : Site → List Text) where
  one_more : (shown : Written) (x : Text × Value) (rest : Fields) → appended (seen_fields names (shown ++ x ∷ [])) rest ≡ appended (seen_fields names shown) (field x.0 (seen names x.1) rest)
  one_more [] x rest = refl
  one_more (y ∷ shown) x rest = ap (field y.0 (seen names y.1)) (one_more shown x rest)

  module _ (all : Written) (i : ℕ) (x : Text × Value) (lt : i < length all) (is : x ≡ get_or all i x) where
    abbrev v : M.Value
    v = seen names x.1

    abbrev here : Fields
    here = seen_fields names (drop i all)

    abbrev later : Fields
    later = seen_fields names (drop (i + 1) all)

    left : here ≡ field x.0 v later
    left = ap (seen_fields names) (next_left all i x lt is)

    -- attributes that are tried

    pub attribute_passes : (element : Bool) → attribute_fault element x.0 v ≡ None → attributes_fault element later ≡ attributes_fault element here
    attribute_passes element h = sym (ap (attributes_fault element) left ∙ then_next (attribute_fault element x.0 v) (attributes_fault element later) h)

    pub attribute_fails : (element : Bool) (whole : Option F.Fault) (e : Stop) → attributes_fault element here ≡ whole → Tried (attribute_fault element x.0 v) (Err e) → Tried whole (Err e)
    attribute_fails element whole e same h =
        tried_first (attribute_fault element x.0 v) whole e (λ f first. sym same ∙ (ap (attributes_fault element) left ∙ then_failed (attribute_fault element x.0 v) (attributes_fault element later) f first)) h

    -- those that are no parts of their own

    by_own : (b : Bool) → is_own x.0 ≡ b → shown_attributes here ≡ elim b [ true ↦ shown_attributes later | false ↦ field x.0 v (shown_attributes later) ]
    by_own b e = ap shown_attributes left ∙ ap (λ c. elim c [ true ↦ shown_attributes later | false ↦ field x.0 v (shown_attributes later) ]) e

    pub shown_passes : (shown : Fields) → is_own x.0 ≡ true → appended shown (shown_attributes later) ≡ appended shown (shown_attributes here)
    shown_passes shown e = ap (appended shown) (sym (by_own true e))

    pub shown_next : (t : Text) (w : Value) (shown after : Written) → is_own x.0 ≡ false → t ≡ x.0 → w ≡ x.1 → after ≡ shown ++ (t, w) ∷ []
        → appended (seen_fields names after) (shown_attributes later) ≡ appended (seen_fields names shown) (shown_attributes here)
    shown_next t w shown after e name value pushed =
        ap (λ fs. appended (seen_fields names fs) (shown_attributes later)) pushed
        ∙ one_more shown (t, w) (shown_attributes later)
        ∙ (λ j. appended (seen_fields names shown) (field (name j) (seen names (value j)) (shown_attributes later)))
        ∙ ap (appended (seen_fields names shown)) (sym (by_own false e))

  appended_end : (shown : Fields) → appended shown end ≡ shown
  appended_end end = refl
  appended_end (field n w rest) = ap (field n w) (appended_end rest)

  pub all_shown : (shown : Fields) (all : Written) (i : ℕ) → length all ≤ i → appended shown (shown_attributes (seen_fields names (drop i all))) ≡ shown
  all_shown shown all i h = ap (λ fs. appended shown (shown_attributes (seen_fields names fs))) (none_left all i h) ∙ appended_end shown
