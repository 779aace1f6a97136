-- A key is deleted by the name that it is: the digits of an integer are a name like any other.
use Rattle.std.proofs.Common.{◌≡◌, ◌==◌, ℕ, ◌<◌, ◌+◌, ◌/◌, ◌%◌, zero, suc, ltb, ℤ, pos, negsuc, Bool, true, false, [], ◌∷◌, refl, ap, ◌∙◌, sym, subst, arith}
use Rattle.std.proofs.lemmas.Bool.{ltb-true, ne_eqb}
use Rattle.qk_ast.specs.Texts.{digits_before}
use Rattle.qk_meaning.specs.Value.{Text, Value, Undefined, Null, Truth, Int, Words, Ref, Items, Record, Elem, Closure, Lifted}
use Rattle.qk_meaning.specs.World.{Object, Plain}
use Rattle.qk_meaning.specs.Fault.{Fault, NoProperty, TypeMismatch, FixedWrite}
use Rattle.qk_meaning.specs.Texts.{integer_text, is_forbidden}
use Rattle.qk_meaning.specs.Parts.{without_field}
use Rattle.qk_meaning.specs.Heap.{Name_of_key, Name_is, Refused_as, allowed_name, name_of_key}
use Rattle.qk_meaning.specs.Writing.{Becoming, Becomes, Stays, is_state, deleted}
use Rattle.qk_value.specs.Faults.{fault_of}
use Rattle.qk_heap.specs.declared.fault.HeapStop.{HeapStop}
use Rattle.qk_heap.specs.Keys.{NoName}
use Rattle.qk_heap.specs.Becoming.{Refuses, deleted_from}

-- ---- no integer spells a forbidden name

-- it begins with a sign or a digit
abbrev Begins_low : Text → Type 0
Begins_low [] = ⊥
Begins_low (c ∷ t) = c < 58

low_before : (most n : ℕ) (after : Text) → Begins_low after → Begins_low (digits_before most n after)
low_before zero n after h = h
low_before (suc most) n after h = by (ltb n 10) refl (low_before most (n / 10) ((48 + n % 10) ∷ after) (omega arith))
  where
    by : (b : Bool) → ltb n 10 ≡ b → Begins_low (digits_before most (n / 10) ((48 + n % 10) ∷ after)) → Begins_low (elim b [ true ↦ (48 + n) ∷ after | false ↦ digits_before most (n / 10) ((48 + n % 10) ∷ after) ])
    by true e k = omega (arith, ltb-true n 10 e)
    by false e k = k

low_digits : (most n : ℕ) → Begins_low (digits_before (suc most) n [])
low_digits most n = by (ltb n 10) refl
  where
    by : (b : Bool) → ltb n 10 ≡ b → Begins_low (elim b [ true ↦ (48 + n) ∷ [] | false ↦ digits_before most (n / 10) ((48 + n % 10) ∷ []) ])
    by true e = omega (arith, ltb-true n 10 e)
    by false e = low_before most (n / 10) ((48 + n % 10) ∷ []) (omega arith)

low_integer : (n : ℤ) → Begins_low (integer_text n)
low_integer (pos n) = low_digits 63 n
low_integer (negsuc n) = omega arith

low_allowed : (t : Text) → Begins_low t → is_forbidden t ≡ false
low_allowed [] h = absurd h
low_allowed (c ∷ t) h =
    let other : (d : ℕ) → 58 < d → (c == d) ≡ false = λ d k. ne_eqb c d (λ e. omega (arith, e)) in
    rw (other 99 (omega arith), other 104 (omega arith), other 105 (omega arith), other 112 (omega arith), other 116 (omega arith), other 118 (omega arith), other 95 (omega arith)) refl

-- ---- the name is allowed

allowed_so : (t : Text) → is_forbidden t ≡ false → allowed_name t ≡ Name_is t
allowed_so t e = ap (λ b. elim b as (λ x. Name_of_key) [ true ↦ Refused_as NoProperty | false ↦ Name_is t ]) e

allowed_again : (b : Bool) (t u : Text) → is_forbidden u ≡ b → elim b as (λ x. Name_of_key) [ true ↦ Refused_as NoProperty | false ↦ Name_is u ] ≡ Name_is t → allowed_name t ≡ Name_is t
allowed_again true t u f e = cc
allowed_again false t u f e = let same : u ≡ t = cc in subst (λ x. allowed_name x ≡ Name_is x) same (allowed_so u f)

pub name_again : (key : Value) (t : Text) → name_of_key key ≡ Name_is t → allowed_name t ≡ Name_is t
name_again (Words u) t e = allowed_again (is_forbidden u) t u refl e
name_again (Int n) t e = let same : integer_text n ≡ t = cc in subst (λ x. allowed_name x ≡ Name_is x) same (allowed_so (integer_text n) (low_allowed (integer_text n) (low_integer n)))
name_again Undefined t e = cc
name_again Null t e = cc
name_again (Truth b) t e = cc
name_again (Ref a) t e = cc
name_again (Items all) t e = cc
name_again (Record fields) t e = cc
name_again (Elem shown key slot attributes children) t e = cc
name_again (Closure site scope hidden) t e = cc
name_again (Lifted symbol captured hidden) t e = cc

-- ---- the deletion by the name

deleted_by : Object → Name_of_key → Becoming
deleted_by o name = elim name [ Refused_as f ↦ Stays f | Name_is t ↦ elim o [ Plain fields ↦ Becomes (Plain (without_field t fields)) | _ ↦ Stays TypeMismatch ] ]

pub deleted_so : (o : Object) (key : Value) (t : Text) → name_of_key key ≡ Name_is t → deleted o (Words t) ≡ deleted o key
unfolding deleted_by
deleted_so o key t e = ap (deleted_by o) (name_again key t e ∙ sym e)

-- a key that is no name is refused
pub deleted_refused : (o : Object) (key : Value) (f : Fault) → name_of_key key ≡ Refused_as f → deleted o key ≡ Stays f
unfolding deleted_by
deleted_refused o key f e = ap (deleted_by o) e

-- of a state object
pub removed_so : (o : Object) (key : Value) (t : Text) → is_state o ≡ true → name_of_key key ≡ Name_is t → deleted_from o t ≡ deleted o key
removed_so o key t state name = ap (λ b. elim b as (λ x. Becoming) [ true ↦ deleted o (Words t) | false ↦ Stays FixedWrite ]) state ∙ deleted_so o key t name

-- what is no name is refused
pub refused_so : (o : Object) (key : Value) (e : HeapStop) → NoName e (name_of_key key) → Refuses e (deleted o key)
refused_so o key (HeapStop.Fault f) none = deleted_refused o key (fault_of f) none
refused_so o key HeapStop.Memory none = tt

-- of a state object, what is refused of the name is refused of the key
pub refused_by_name : (o : Object) (key : Value) (t : Text) (e : HeapStop) → is_state o ≡ true → name_of_key key ≡ Name_is t → Refuses e (deleted_from o t) → Refuses e (deleted o key)
refused_by_name o key t e state name = subst (Refuses e) (removed_so o key t state name)
