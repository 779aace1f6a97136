-- Sequences of children, with the keys that stand before.
use Rattle.std.specs.Prelude.{◌≡◌, refl, ◌+◌, ◌<◌, ◌≤◌, ℕ, Bool, true, false, not, ◌||◌, List, [], ◌∷◌, ◌++◌, length, drop, get_or, Option, Some, None, Err}
use Rattle.std.proofs.Common.{sym, ◌∙◌, ap, true≢false, is_some}
use Rattle.qk_ast.specs.Texts.{same_text, is_among}
use Rattle.qk_ast.specs.Names.{is_listed}
use Rattle.qk_ast.specs.Walking.{with_name}
use Rattle.qk_meaning.specs.Fault.{Fault, DuplicateKey}
use Rattle.qk_meaning.specs.Value as M
use Rattle.qk_meaning.specs.Value.{Text, Site, Values, none, item}
use Rattle.qk_meaning.specs.Markup.{key_of, child_fault, sequence_fault}
use Rattle.qk_value.specs.declared.value.Value.{Value}
use Rattle.qk_value.specs.View.{seen, seen_all}
use Rattle.qk_heap.proofs.Named.{turned}
use Rattle.qk_code.specs.declared.stop.Stop.{Stop}
use Rattle.qk_making.specs.Keys.{key_fault, keys_with}
use Rattle.qk_making.specs.Trying.{Tried}
use Rattle.qk_making.proofs.Walking.{next_left, none_left}
use Rattle.qk_making.proofs.Trying.{tried_first}

-- ---- whether a key stands before

among_listed : (t : Text) (keys : List Text) → is_among t keys ≡ is_listed t keys
among_listed t [] = refl
among_listed t (k ∷ keys) = by (same_text t k) refl (among_listed t keys)
  where
    by : (b : Bool) → same_text t k ≡ b → is_among t keys ≡ is_listed t keys → (b || is_among t keys) ≡ elim (same_text k t) [ true ↦ true | false ↦ is_listed t keys ]
    by true e h = ap (λ c. elim c [ true ↦ true | false ↦ is_listed t keys ]) (sym (turned t k true e))
    by false e h = h ∙ ap (λ c. elim c [ true ↦ true | false ↦ is_listed t keys ]) (sym (turned t k false e))

exchanged : (a b c : Bool) → (a || (b || c)) ≡ (b || (a || c))
exchanged true true c = refl
exchanged true false c = refl
exchanged false b c = refl

among_last : (t k : Text) (keys : List Text) → is_among t (k ∷ keys) ≡ is_among t (keys ++ k ∷ [])
among_last t k [] = refl
among_last t k (x ∷ keys) = exchanged (same_text t k) (same_text t x) (is_among t keys) ∙ ap (λ b. same_text t x || b) (among_last t k keys)

-- ---- one child more

-- the fault of a sequence, by the fault and the key of its first child
abbrev by_child : Option Fault → Option Text → Values → List Text → Option Fault
by_child f key rest keys =
    elim f [
      | Some e ↦ Some e
      | None ↦ elim key [
        | None ↦ sequence_fault rest keys
        | Some k ↦ elim (is_among k keys) [ true ↦ Some DuplicateKey | false ↦ sequence_fault rest (k ∷ keys) ]
      ]
    ]

-- the order of the keys doesn't matter
abbrev Same_keys : List Text → List Text → Type 0
Same_keys keys others = (t : Text) → is_among t keys ≡ is_among t others

same_fault : (all : Values) (keys others : List Text) → Same_keys keys others → sequence_fault all keys ≡ sequence_fault all others
same_fault none keys others h = refl
same_fault (item v rest) keys others h = by (child_fault v) (key_of v) (same_fault rest)
  where
    by : (f : Option Fault) (key : Option Text) → ((ks ls : List Text) → Same_keys ks ls → sequence_fault rest ks ≡ sequence_fault rest ls) → by_child f key rest keys ≡ by_child f key rest others
    by (Some f) key more = refl
    by None None more = more keys others h
    by None (Some k) more =
        ap (λ b. elim b [ true ↦ Some DuplicateKey | false ↦ sequence_fault rest (k ∷ keys) ]) (h k)
        ∙ ap (λ s. elim (is_among k others) [ true ↦ Some DuplicateKey | false ↦ s ]) (more (k ∷ keys) (k ∷ others) (λ t. ap (λ b. same_text t k || b) (h t)))

no_fault : {P : Type 0} (f : Fault) → None ≡ Some f → P
no_fault f e = absurd (true≢false (sym (ap is_some e)))

a_fault : {P : Type 0} (f : Fault) → Some f ≡ None → P
a_fault f e = absurd (true≢false (ap is_some e))

known : (k : Text) (rest : Values) (keys : List Text) (b : Bool) → is_listed k keys ≡ b → by_child None (Some k) rest keys ≡ elim b [ true ↦ Some DuplicateKey | false ↦ sequence_fault rest (k ∷ keys) ]
known k rest keys b e = ap (λ c. elim c [ true ↦ Some DuplicateKey | false ↦ sequence_fault rest (k ∷ keys) ]) (among_listed k keys ∙ e)

key_taken : (key : Option Text) (rest : Values) (keys : List Text) (f : Fault) → key_fault key keys ≡ Some f → by_child None key rest keys ≡ Some f
key_taken None rest keys f e = no_fault f e
key_taken (Some k) rest keys f e = by (is_listed k keys) refl e
  where
    by : (b : Bool) → is_listed k keys ≡ b → elim b [ true ↦ Some DuplicateKey | false ↦ None ] ≡ Some f → by_child None (Some k) rest keys ≡ Some f
    by true is e = known k rest keys true is ∙ e
    by false is e = no_fault f e

key_free : (key : Option Text) (rest : Values) (keys after : List Text) → key_fault key keys ≡ None → after ≡ keys_with keys key → sequence_fault rest after ≡ by_child None key rest keys
key_free None rest keys after e is = ap (sequence_fault rest) is
key_free (Some k) rest keys after e is = by (is_listed k keys) refl e
  where
    by : (b : Bool) → is_listed k keys ≡ b → ◌≡◌ {A = Option Fault} (elim b [ true ↦ Some DuplicateKey | false ↦ None ]) None → sequence_fault rest after ≡ by_child None (Some k) rest keys
    by true there e = a_fault DuplicateKey e
    by false there e = ap (sequence_fault rest) is ∙ sym (same_fault rest (k ∷ keys) (keys ++ k ∷ []) (λ t. among_last t k keys)) ∙ sym (known k rest keys false there)

-- ---- walks

module _ (names : Site → List Text) where
  module _ (children : List Value) (i : ℕ) (x : Value) (lt : i < length children) (is : x ≡ get_or children i x) (keys : List Text) where
    abbrev v : M.Value
    v = seen names x

    abbrev later : Values
    later = seen_all names (drop (i + 1) children)

    abbrev here : Option Fault
    here = sequence_fault (seen_all names (drop i children)) keys

    left : here ≡ by_child (child_fault v) (key_of v) later keys
    left = ap (λ all. sequence_fault (seen_all names all) keys) (next_left children i x lt is)

    passed : child_fault v ≡ None → here ≡ by_child None (key_of v) later keys
    passed e = left ∙ ap (λ f. by_child f (key_of v) later keys) e

    pub child_fails : (whole : Option Fault) (e : Stop) → here ≡ whole → Tried (child_fault v) (Err e) → Tried whole (Err e)
    child_fails whole e same h = tried_first (child_fault v) whole e (λ f first. sym same ∙ (left ∙ ap (λ g. by_child g (key_of v) later keys) first)) h

    pub key_fails : (whole : Option Fault) (e : Stop) → here ≡ whole → child_fault v ≡ None → Tried (key_fault (key_of v) keys) (Err e) → Tried whole (Err e)
    key_fails whole e same passes h = tried_first (key_fault (key_of v) keys) whole e (λ f taken. sym same ∙ (passed passes ∙ key_taken (key_of v) later keys f taken)) h

    pub child_passes : (after : List Text) → child_fault v ≡ None → key_fault (key_of v) keys ≡ None → after ≡ keys_with keys (key_of v) → sequence_fault later after ≡ here
    child_passes after passes free added = key_free (key_of v) later keys after free added ∙ sym (passed passes)

  pub no_child_left : (children : List Value) (i : ℕ) (keys : List Text) → length children ≤ i → sequence_fault (seen_all names (drop i children)) keys ≡ None
  no_child_left children i keys h = ap (λ all. sequence_fault (seen_all names all) keys) (none_left children i h)

-- ---- a key that is put to the others

module _ (keys : List Text) (k : Text) (key : Option Text) (is : Some k ≡ key) where
  lists : (b : Bool) → not (is_listed k keys) ≡ not b → is_listed k keys ≡ b
  lists b e = not_not (is_listed k keys) ∙ (ap not e ∙ sym (not_not b))
    where
      not_not : (c : Bool) → c ≡ not (not c)
      not_not true = refl
      not_not false = refl

  fault_by : (b : Bool) → is_listed k keys ≡ b → key_fault key keys ≡ elim b [ true ↦ Some DuplicateKey | false ↦ None ]
  fault_by b e = ap (λ o. key_fault o keys) (sym is) ∙ ap (λ c. elim c [ true ↦ Some DuplicateKey | false ↦ None ]) e

  pub new_key : not (is_listed k keys) ≡ true → key_fault key keys ≡ None
  new_key e = fault_by false (lists false e)

  pub old_key : not (is_listed k keys) ≡ false → key_fault key keys ≡ Some DuplicateKey
  old_key e = fault_by true (lists true e)

  pub key_added : (after : List Text) → not (is_listed k keys) ≡ true → after ≡ with_name keys k → after ≡ keys_with keys key
  key_added after e added = added ∙ (ap (λ b. elim b [ true ↦ keys | false ↦ keys ++ k ∷ [] ]) (lists false e) ∙ ap (keys_with keys) is)
