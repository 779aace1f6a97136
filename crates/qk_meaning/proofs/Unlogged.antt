-- What a change doesn't log is the same behind it.
use Rattle.std.specs.Prelude.{◌≡◌, refl, ℕ, zero, suc, ◌+◌, ℤ, pos, negsuc, Bool, true, false, not, ◌||◌, ◌&&◌, ◌==◌, List, [], ◌∷◌, ◌++◌, length, set, nat_lt, nat_le, Option, Some, None, ⊤, codes}
use Rattle.std.specs.List.{list_any}
use Rattle.std.proofs.Common.{sym, ap, subst, ◌∙◌, arith}
use mathlib.Core.Path.{ap₂}
use Rattle.std.proofs.Math.Dec.{T, eqb→eq}
use Rattle.std.proofs.lemmas.Bool.{false≢true}
use Rattle.qk_ast.specs.Texts.{same_text}
use Rattle.qk_meaning.specs.Value.{Text, Site, Value, Values, Fields, Undefined, end, field}
use Rattle.qk_meaning.specs.World.{Object, Plain, Array, Signal, Computed, Props, Key, Keys, Length, Index, Prop, Loc}
use Rattle.qk_meaning.specs.Fault.{TypeMismatch, NoProperty, IndexPastEnd, ListTooLong}
use Rattle.qk_meaning.specs.Places.{same_key, same_location}
use Rattle.qk_meaning.specs.Parts.{listed, packed, nth, found, or_else, or_undefined, value_at, has_field, names_of, field_count, with_field, without_field, replaced, inserted}
use Rattle.qk_meaning.specs.Heap.{Key_kind, Named, Numbered, Neither, key_kind, Name_of_key, Name_is, Refused_as, name_of_key, object_kind}
use Rattle.qk_meaning.specs.Writing.{Becoming, Becomes, Stays, grown, grown_array, written_index, written, deleted, pushed_on, items_left}
use Rattle.qk_meaning.specs.Same.{same}
use Rattle.qk_meaning.specs.Changes.{unless_same, changed_indexes, changed_properties, added_properties, changed_keys, changed_length, changed_in, located}
use Rattle.qk_meaning.specs.Standing.{Standing, A_value, Some_names, A_length, Nothing, at_key, Same_standing}
use Rattle.qk_meaning.specs.Props.{kept_fields, new_fields, appended, fields_after, changed, lacks_some, props_log}
use Rattle.qk_meaning.specs.Execution.{props_become}
use Rattle.qk_meaning.specs.Laws_of_changes.{Unlogged_same, Logs_all, log_of_change, log_of_props, UnloggedIsSame}
use Rattle.qk_meaning.proofs.Changed.{text_is, found_past, found_here, has_past, none_found, inserted_count, without_count, without_none}
use Rattle.qk_meaning.proofs.Sames.{text_self, number_self, same_as_itself}

-- ---- what isn't in a list

-- the key is one of these
abbrev is_in : Key → List Key → Bool
is_in k keys = list_any (same_key k) keys

either_not : (b c : Bool) → (b || c) ≡ false → c ≡ false
either_not true c e = absurd (false≢true (sym e))
either_not false c e = e

none_front : {A : Type 0} (p : A → Bool) (xs ys : List A) → list_any p (xs ++ ys) ≡ false → list_any p xs ≡ false
none_front p [] ys h = refl
none_front p (x ∷ xs) ys h = go (p x) h (λ q. none_front p xs ys q)
  where
    go : (b : Bool) → (b || list_any p (xs ++ ys)) ≡ false → (list_any p (xs ++ ys) ≡ false → list_any p xs ≡ false) → (b || list_any p xs) ≡ false
    go true h q = h
    go false h q = q h

none_back : {A : Type 0} (p : A → Bool) (xs ys : List A) → list_any p (xs ++ ys) ≡ false → list_any p ys ≡ false
none_back p [] ys h = h
none_back p (x ∷ xs) ys h = none_back p xs ys (either_not (p x) (list_any p (xs ++ ys)) h)

in_front : (k : Key) (xs ys : List Key) → is_in k (xs ++ ys) ≡ false → is_in k xs ≡ false
in_front k xs ys h = none_front (same_key k) xs ys h

in_back : (k : Key) (xs ys : List Key) → is_in k (xs ++ ys) ≡ false → is_in k ys ≡ false
in_back k xs ys h = none_back (same_key k) xs ys h

-- a key of one address among the located keys
is_located : (a : ℕ) (k : Key) (keys : List Key) → list_any (same_location (record { address = a; key = k })) (located a keys) ≡ is_in k keys
is_located a k [] = refl
is_located a k (x ∷ rest) = ap₂ (λ (b : Bool) (c : Bool). b || c) (ap (λ (t : Bool). t && same_key k x) (number_self a)) (is_located a k rest)

-- ---- a change of code

module _ (captures : Site → List Text) where
  not_logged : (v w : Value) (key k : Key) → same_key k key ≡ true → is_in k (unless_same captures v w key) ≡ false → same captures v w ≡ true
  not_logged v w key k e h = go (same captures v w) h
    where
      go : (b : Bool) → is_in k (elim b as (λ x. List Key) [ true ↦ [] | false ↦ key ∷ [] ]) ≡ false → b ≡ true
      go true q = refl
      go false q = absurd (false≢true (sym q ∙ ap (λ b. b || false) e))

  changed_kept : (old new : Fields) (name : Text) → is_in (Prop name) (changed_properties captures old new) ≡ false → has_field name old ≡ true → same captures (value_at name old) (value_at name new) ≡ true
  changed_kept end new name h e = absurd (false≢true e)
  changed_kept (field n v rest) new name h e =
      go (same_text n name) refl (in_front (Prop name) (unless_same captures v (value_at n new) (Prop n)) (changed_properties captures rest new) h)
      (λ k. changed_kept rest new name (in_back (Prop name) (unless_same captures v (value_at n new) (Prop n)) (changed_properties captures rest new) h) k)
    where
      go : (b : Bool) → same_text n name ≡ b → is_in (Prop name) (unless_same captures v (value_at n new) (Prop n)) ≡ false → (has_field name rest ≡ true → same captures (value_at name rest) (value_at name new) ≡ true)
          → same captures (value_at name (field n v rest)) (value_at name new) ≡ true
      go true q front r =
          let i : n ≡ name = text_is n name q in
          let one : same captures v (value_at n new) ≡ true = not_logged v (value_at n new) (Prop n) (Prop name) (subst (λ m. same_text m n ≡ true) i (text_self n)) front in
          subst (λ x. same captures (or_undefined x) (value_at name new) ≡ true) (sym (found_here v (found name rest) (same_text n name) q)) (subst (λ m. same captures v (value_at m new) ≡ true) i one)
      go false q front r =
          subst (λ x. same captures (or_undefined x) (value_at name new) ≡ true) (sym (found_past v (found name rest) (same_text n name) q)) (r (sym (has_past (has_field name rest) (same_text n name) q) ∙ e))

  -- what is logged of a given field
  abbrev added_one : Bool → Value → Text → List Key
  added_one stood v n = elim stood as (λ x. List Key) [ true ↦ [] | false ↦ unless_same captures Undefined v (Prop n) ]

  added_kept : (old new : Fields) (name : Text) → is_in (Prop name) (added_properties captures old new) ≡ false → has_field name old ≡ false → same captures Undefined (value_at name new) ≡ true
  added_kept old end name h e = same_as_itself captures Undefined
  added_kept old (field n v rest) name h e =
      go (same_text n name) refl (in_front (Prop name) (added_one (has_field n old) v n) (added_properties captures old rest) h)
      (added_kept old rest name (in_back (Prop name) (added_one (has_field n old) v n) (added_properties captures old rest) h) e)
    where
      go : (b : Bool) → same_text n name ≡ b → is_in (Prop name) (added_one (has_field n old) v n) ≡ false → same captures Undefined (value_at name rest) ≡ true → same captures Undefined (value_at name (field n v rest)) ≡ true
      go true q front r =
          let i : n ≡ name = text_is n name q in
          let stood : has_field n old ≡ false = subst (λ m. has_field m old ≡ false) (sym i) e in
          let one : same captures Undefined v ≡ true = not_logged Undefined v (Prop n) (Prop name) (subst (λ m. same_text m n ≡ true) i (text_self n)) (subst (λ b. is_in (Prop name) (added_one b v n) ≡ false) stood front) in
          subst (λ x. same captures Undefined (or_undefined x) ≡ true) (sym (found_here v (found name rest) (same_text n name) q)) one
      go false q front r = subst (λ x. same captures Undefined (or_undefined x) ≡ true) (sym (found_past v (found name rest) (same_text n name) q)) r

  property : (old new : Fields) (name : Text) → is_in (Prop name) (changed_in captures (Plain old) (Plain new)) ≡ false → same captures (value_at name old) (value_at name new) ≡ true
  property old new name h = go (has_field name old) refl
    where
      go : (b : Bool) → has_field name old ≡ b → same captures (value_at name old) (value_at name new) ≡ true
      go true e = changed_kept old new name (in_front (Prop name) (changed_properties captures old new) (added_properties captures old new ++ changed_keys captures old new) h) e
      go false e =
          subst (λ x. same captures (or_undefined x) (value_at name new) ≡ true) (sym (none_found name old e))
          (added_kept old new name (in_front (Prop name) (added_properties captures old new) (changed_keys captures old new) (in_back (Prop name) (changed_properties captures old new) (added_properties captures old new ++ changed_keys captures old new) h)) e)

  -- ---- items

  this_one : (m : ℕ) → same_key (Index (m + 0)) (Index m) ≡ true
  this_one m = subst (λ k. (k == m) ≡ true) (omega arith) (number_self m)

  later_one : (m k : ℕ) (keys : List Key) → is_in (Index (m + suc k)) keys ≡ false → is_in (Index (suc m + k)) keys ≡ false
  later_one m k keys h = subst (λ n. is_in (Index n) keys ≡ false) (omega arith) h

  indexes : (m : ℕ) (xs ys : List Value) (k : ℕ) → is_in (Index (m + k)) (changed_indexes captures m xs ys) ≡ false → same captures (nth xs k) (nth ys k) ≡ true
  indexes m [] [] k h = same_as_itself captures Undefined
  indexes m (v ∷ vs) [] zero h = not_logged v Undefined (Index m) (Index (m + 0)) (this_one m) (in_front (Index (m + 0)) (unless_same captures v Undefined (Index m)) (changed_indexes captures (suc m) vs []) h)
  indexes m (v ∷ vs) [] (suc k) h =
      indexes (suc m) vs [] k (later_one m k (changed_indexes captures (suc m) vs []) (in_back (Index (m + suc k)) (unless_same captures v Undefined (Index m)) (changed_indexes captures (suc m) vs []) h))
  indexes m [] (w ∷ ws) zero h = not_logged Undefined w (Index m) (Index (m + 0)) (this_one m) (in_front (Index (m + 0)) (unless_same captures Undefined w (Index m)) (changed_indexes captures (suc m) [] ws) h)
  indexes m [] (w ∷ ws) (suc k) h =
      indexes (suc m) [] ws k (later_one m k (changed_indexes captures (suc m) [] ws) (in_back (Index (m + suc k)) (unless_same captures Undefined w (Index m)) (changed_indexes captures (suc m) [] ws) h))
  indexes m (v ∷ vs) (w ∷ ws) zero h = not_logged v w (Index m) (Index (m + 0)) (this_one m) (in_front (Index (m + 0)) (unless_same captures v w (Index m)) (changed_indexes captures (suc m) vs ws) h)
  indexes m (v ∷ vs) (w ∷ ws) (suc k) h =
      indexes (suc m) vs ws k (later_one m k (changed_indexes captures (suc m) vs ws) (in_back (Index (m + suc k)) (unless_same captures v w (Index m)) (changed_indexes captures (suc m) vs ws) h))

  index : (old new : Values) (n : ℕ) → is_in (Index n) (changed_in captures (Array old) (Array new)) ≡ false → same captures (nth (listed old) n) (nth (listed new) n) ≡ true
  index old new n h =
      let keys : List Key = changed_indexes captures 0 (listed old) (listed new) in
      indexes 0 (listed old) (listed new) n (subst (λ k. is_in (Index k) keys ≡ false) (omega arith) (in_front (Index n) keys (changed_length captures (listed old) (listed new)) h))

  size : (old new : Values) → is_in Length (changed_in captures (Array old) (Array new)) ≡ false → length (listed old) ≡ length (listed new)
  size old new h =
      go (length (listed old) == length (listed new)) refl (in_back Length (changed_indexes captures 0 (listed old) (listed new)) (changed_length captures (listed old) (listed new)) h)
    where
      go : (b : Bool) → (length (listed old) == length (listed new)) ≡ b → is_in Length (elim b as (λ x. List Key) [ true ↦ [] | false ↦ Length ∷ [] ]) ≡ false → length (listed old) ≡ length (listed new)
      go true e q = eqb→eq (length (listed old)) (length (listed new)) (subst T (sym e) tt)
      go false e q = absurd (false≢true (sym q))

-- what code makes of an object: plain ones keep their names where they keep the number of them
pub data Changed_so : Object → Object → Type 0 where
  plain_so : {f g : Fields} → (field_count f ≡ field_count g → names_of f ≡ names_of g) → Changed_so (Plain f) (Plain g)
  array_so : {v w : Values} → Changed_so (Array v) (Array w)
  signal_so : {v w : Value} → Changed_so (Signal v) (Signal w)

abbrev pub Changed_behind : Object → Becoming → Type 0
Changed_behind old (Becomes new) = Changed_so old new
Changed_behind old (Stays f) = ⊤

pub kind_of : {old new : Object} → Changed_so old new → object_kind old ≡ object_kind new
kind_of (plain_so h) = refl
kind_of array_so = refl
kind_of signal_so = refl

grown_so : (fields new : Fields) → (field_count fields ≡ field_count new → names_of fields ≡ names_of new) → Changed_behind (Plain fields) (grown new)
grown_so fields new h = go (nat_le (field_count new) 65536)
  where
    go : (b : Bool) → Changed_behind (Plain fields) (elim b as (λ x. Becoming) [ true ↦ Becomes (Plain new) | false ↦ Stays ListTooLong ])
    go true = plain_so h
    go false = tt

grown_array_so : (items : Values) (all : List Value) → Changed_behind (Array items) (grown_array all)
grown_array_so items all = go (nat_le (length all) 65536)
  where
    go : (b : Bool) → Changed_behind (Array items) (elim b as (λ x. Becoming) [ true ↦ Becomes (Array (packed all)) | false ↦ Stays ListTooLong ])
    go true = array_so
    go false = tt

index_so : (items : Values) (all : List Value) (n : ℤ) (v : Value) → Changed_behind (Array items) (written_index all n v)
index_so items all (negsuc n) v = tt
index_so items all (pos n) v = go (nat_lt n (length all)) (n == length all)
  where
    past : (c : Bool) → Changed_behind (Array items) (elim c as (λ x. Becoming) [ true ↦ grown_array (all ++ (v ∷ [])) | false ↦ Stays IndexPastEnd ])
    past true = grown_array_so items (all ++ (v ∷ []))
    past false = tt

    go : (b c : Bool) → Changed_behind (Array items) (elim b as (λ x. Becoming) [ true ↦ Becomes (Array (packed (set all n v))) | false ↦ elim c as (λ x. Becoming) [ true ↦ grown_array (all ++ (v ∷ [])) | false ↦ Stays IndexPastEnd ] ])
    go true c = array_so
    go false c = past c

replaced_listing : (name : Text) (v : Value) (f : Fields) → names_of (replaced name v f) ≡ names_of f
replaced_listing name v end = refl
replaced_listing name v (field n w rest) = go (same_text n name) (replaced_listing name v rest)
  where
    go : (b : Bool) → names_of (replaced name v rest) ≡ names_of rest → names_of (elim b as (λ x. Fields) [ true ↦ field n v rest | false ↦ field n w (replaced name v rest) ]) ≡ n ∷ names_of rest
    go true i = refl
    go false i = ap (λ names. n ∷ names) i

with_listing : (name : Text) (v : Value) (f : Fields) → field_count f ≡ field_count (with_field name v f) → names_of f ≡ names_of (with_field name v f)
with_listing name v f e = go (has_field name f) e
  where
    go : (b : Bool) → field_count f ≡ field_count (elim b as (λ x. Fields) [ true ↦ replaced name v f | false ↦ inserted name v f ])
        → names_of f ≡ names_of (elim b as (λ x. Fields) [ true ↦ replaced name v f | false ↦ inserted name v f ])
    go true e = sym (replaced_listing name v f)
    go false e = absurd (omega (arith, e, inserted_count name v f))

without_listing : (name : Text) (f : Fields) → field_count f ≡ field_count (without_field name f) → names_of f ≡ names_of (without_field name f)
without_listing name f e = go (has_field name f) refl
  where
    go : (b : Bool) → has_field name f ≡ b → names_of f ≡ names_of (without_field name f)
    go true h = absurd (omega (arith, e, without_count name f h))
    go false h = ap names_of (sym (without_none name f h))

pub written_so : (key v : Value) (old : Object) → Changed_behind old (written old key v)
written_so key v (Plain fields) = go (name_of_key key)
  where
    go : (name : Name_of_key) → Changed_behind (Plain fields) (elim name as (λ x. Becoming) [ Name_is t ↦ grown (with_field t v fields) | Refused_as f ↦ Stays f ])
    go (Name_is t) = grown_so fields (with_field t v fields) (with_listing t v fields)
    go (Refused_as f) = tt
written_so key v (Array all) = go (key_kind key)
  where
    go : (kind : Key_kind) → Changed_behind (Array all) (elim kind as (λ x. Becoming) [ Named t ↦ Stays NoProperty | Numbered n ↦ written_index (listed all) n v | Neither ↦ Stays TypeMismatch ])
    go (Named t) = tt
    go (Numbered n) = index_so all (listed all) n v
    go Neither = tt
written_so key v (Signal w) = go (key_kind key)
  where
    on_name : (b : Bool) → Changed_behind (Signal w) (elim b as (λ x. Becoming) [ true ↦ Becomes (Signal v) | false ↦ Stays NoProperty ])
    on_name true = signal_so
    on_name false = tt

    go : (kind : Key_kind) → Changed_behind (Signal w) (elim kind as (λ x. Becoming) [ Named t ↦ elim (same_text t (codes "value")) as (λ x. Becoming) [ true ↦ Becomes (Signal v) | false ↦ Stays NoProperty ] | Numbered n ↦ Stays NoProperty | Neither ↦ Stays TypeMismatch ])
    go (Named t) = on_name (same_text t (codes "value"))
    go (Numbered n) = tt
    go Neither = tt
written_so key v (Computed f) = tt
written_so key v (Props fields) = tt

pub deleted_so : (key : Value) (old : Object) → Changed_behind old (deleted old key)
deleted_so key old = go (name_of_key key)
  where
    on_object : (t : Text) (o : Object) → Changed_behind o (elim o as (λ x. Becoming) [ Plain fields ↦ Becomes (Plain (without_field t fields)) | _ ↦ Stays TypeMismatch ])
    on_object t (Plain fields) = plain_so (without_listing t fields)
    on_object t (Array all) = tt
    on_object t (Signal v) = tt
    on_object t (Computed f) = tt
    on_object t (Props fields) = tt

    go : (name : Name_of_key) → Changed_behind old (elim name as (λ x. Becoming) [ Refused_as f ↦ Stays f | Name_is t ↦ elim old as (λ x. Becoming) [ Plain fields ↦ Becomes (Plain (without_field t fields)) | _ ↦ Stays TypeMismatch ] ])
    go (Name_is t) = on_object t old
    go (Refused_as f) = tt

pub pushed_so : (v : Value) (old : Object) → Changed_behind old (pushed_on v old)
pushed_so v (Plain fields) = tt
pushed_so v (Array all) = grown_array_so all (listed all ++ (v ∷ []))
pushed_so v (Signal w) = tt
pushed_so v (Computed f) = tt
pushed_so v (Props fields) = tt

pub left_so : (f : List Value → List Value) (old : Object) → Changed_behind old (items_left f old)
left_so f (Plain fields) = tt
left_so f (Array all) = array_so
left_so f (Signal w) = tt
left_so f (Computed g) = tt
left_so f (Props fields) = tt

module _ (captures : Site → List Text) where
  count_same : (f g : Fields) → is_in Keys (changed_in captures (Plain f) (Plain g)) ≡ false → field_count f ≡ field_count g
  count_same f g h =
      go (field_count f == field_count g) refl (in_back Keys (added_properties captures f g) (changed_keys captures f g) (in_back Keys (changed_properties captures f g) (added_properties captures f g ++ changed_keys captures f g) h))
    where
      go : (b : Bool) → (field_count f == field_count g) ≡ b → is_in Keys (elim b as (λ x. List Key) [ true ↦ [] | false ↦ Keys ∷ [] ]) ≡ false → field_count f ≡ field_count g
      go true e q = eqb→eq (field_count f) (field_count g) (subst T (sym e) tt)
      go false e q = absurd (false≢true (sym q))

  signal_value : (v w : Value) (t : Text) → is_in (Prop t) (unless_same captures v w (Prop (codes "value"))) ≡ false → (b : Bool) → same_text t (codes "value") ≡ b
      → Same_standing captures (elim b as (λ x. Standing) [ true ↦ A_value v | false ↦ Nothing ]) (elim b as (λ x. Standing) [ true ↦ A_value w | false ↦ Nothing ])
  signal_value v w t h true e = not_logged captures v w (Prop (codes "value")) (Prop t) e h
  signal_value v w t h false e = tt

  unlogged : {old new : Object} → Changed_so old new → (k : Key) → is_in k (changed_in captures old new) ≡ false → Same_standing captures (at_key old k) (at_key new k)
  unlogged (plain_so {f} {g} names) (Prop t) h = property captures f g t h
  unlogged (plain_so {f} {g} names) Keys h = names (count_same f g h)
  unlogged (plain_so names) Length h = tt
  unlogged (plain_so names) (Index n) h = tt
  unlogged (array_so {v} {w}) (Index n) h = index captures v w n h
  unlogged (array_so {v} {w}) Length h = size captures v w h
  unlogged array_so (Prop t) h = tt
  unlogged array_so Keys h = tt
  unlogged (signal_so {v} {w}) (Prop t) h = signal_value v w t h (same_text t (codes "value")) refl
  unlogged signal_so Keys h = tt
  unlogged signal_so Length h = tt
  unlogged signal_so (Index n) h = tt

  pub unlogged_behind : (a : ℕ) (old : Object) (b : Becoming) → Changed_behind old b → Unlogged_same captures a (log_of_change captures a) old b
  unlogged_behind a old (Becomes new) c = λ k h. unlogged c k (sym (is_located a k (changed_in captures old new)) ∙ h)
  unlogged_behind a old (Stays f) c = tt

-- ---- props that are set

abbrev is_there : Option Value → Bool
is_there None = false
is_there (Some v) = true

has_is : (name : Text) (f : Fields) → has_field name f ≡ is_there (found name f)
has_is name end = refl
has_is name (field n v rest) = go (same_text n name) (has_is name rest)
  where
    go : (b : Bool) → has_field name rest ≡ is_there (found name rest) → elim b as (λ x. Bool) [ true ↦ true | false ↦ has_field name rest ] ≡ is_there (elim b as (λ x. Option Value) [ true ↦ Some v | false ↦ found name rest ])
    go true i = refl
    go false i = i

found_appended : (name : Text) (xs ys : Fields) → found name (appended xs ys) ≡ or_else (found name xs) (found name ys)
found_appended name end ys = refl
found_appended name (field n v rest) ys = go (same_text n name) (found_appended name rest ys)
  where
    go : (b : Bool) → found name (appended rest ys) ≡ or_else (found name rest) (found name ys)
        → elim b as (λ x. Option Value) [ true ↦ Some v | false ↦ found name (appended rest ys) ] ≡ or_else (elim b as (λ x. Option Value) [ true ↦ Some v | false ↦ found name rest ]) (found name ys)
    go true i = refl
    go false i = i

no_new : (h : Bool) → elim h as (λ x. Option Value) [ true ↦ None | false ↦ None ] ≡ None
no_new true = refl
no_new false = refl

-- a new field is found where it didn't stand
new_found : (name : Text) (old given : Fields) → found name (new_fields old given) ≡ elim (has_field name old) as (λ x. Option Value) [ true ↦ None | false ↦ found name given ]
new_found name old end = sym (no_new (has_field name old))
new_found name old (field n w rest) = go (same_text n name) refl (has_field n old) refl (new_found name old rest)
  where
    N : Fields
    N = new_fields old rest

    go : (b : Bool) → same_text n name ≡ b → (c : Bool) → has_field n old ≡ c → found name N ≡ elim (has_field name old) as (λ x. Option Value) [ true ↦ None | false ↦ found name rest ]
        → found name (elim c as (λ x. Fields) [ true ↦ N | false ↦ field n w N ]) ≡ elim (has_field name old) as (λ x. Option Value) [ true ↦ None | false ↦ elim b as (λ x. Option Value) [ true ↦ Some w | false ↦ found name rest ] ]
    go true e true h i =
        let there : has_field name old ≡ true = subst (λ m. has_field m old ≡ true) (text_is n name e) h in
        i ∙ (ap (λ x. elim x as (λ y. Option Value) [ true ↦ None | false ↦ found name rest ]) there ∙ sym (ap (λ x. elim x as (λ y. Option Value) [ true ↦ None | false ↦ Some w ]) there))
    go true e false h i =
        let there : has_field name old ≡ false = subst (λ m. has_field m old ≡ false) (text_is n name e) h in
        found_here w (found name N) (same_text n name) e ∙ sym (ap (λ x. elim x as (λ y. Option Value) [ true ↦ None | false ↦ Some w ]) there)
    go false e true h i = i
    go false e false h i = found_past w (found name N) (same_text n name) e ∙ i

appended_end : (xs : Fields) → names_of (appended xs end) ≡ names_of xs
appended_end end = refl
appended_end (field n v rest) = ap (λ names. n ∷ names) (appended_end rest)

none_new : (old given : Fields) → lacks_some given old ≡ false → new_fields old given ≡ end
none_new old end h = refl
none_new old (field n w rest) h = go (has_field n old) h (λ k. none_new old rest k)
  where
    go : (b : Bool) → (not b || lacks_some rest old) ≡ false → (lacks_some rest old ≡ false → new_fields old rest ≡ end) → elim b as (λ x. Fields) [ true ↦ new_fields old rest | false ↦ field n w (new_fields old rest) ] ≡ end
    go true h i = i h
    go false h i = absurd (false≢true (sym h))

module _ (captures : Site → List Text) where
  -- what is found of a field that stood, by what stood and what is given
  abbrev chosen_value : Value → Value → Bool → Value
  chosen_value v w b = elim b as (λ x. Value) [ true ↦ v | false ↦ w ]

  abbrev kept_of : Option Value → Option Value → Option Value
  kept_of None o = None
  kept_of (Some v) None = None
  kept_of (Some v) (Some w) = Some (chosen_value v w (same captures v w))

  none_kept : (o : Option Value) → kept_of o None ≡ None
  none_kept None = refl
  none_kept (Some v) = refl

  kept_found : (name : Text) (old given : Fields) → found name (kept_fields (same captures) old given) ≡ kept_of (found name old) (found name given)
  kept_found name end given = refl
  kept_found name (field n v rest) given = go (same_text n name) refl (found n given) refl (kept_found name rest given)
    where
      K : Fields
      K = kept_fields (same captures) rest given

      one : (b : Bool) → same_text n name ≡ b → (w : Value) (d : Bool) → found name (elim d as (λ x. Fields) [ true ↦ field n v K | false ↦ field n w K ]) ≡ elim b as (λ x. Option Value) [ true ↦ Some (chosen_value v w d) | false ↦ found name K ]
      one b e w true = ap (λ x. elim x as (λ y. Option Value) [ true ↦ Some v | false ↦ found name K ]) e
      one b e w false = ap (λ x. elim x as (λ y. Option Value) [ true ↦ Some w | false ↦ found name K ]) e

      go : (b : Bool) → same_text n name ≡ b → (o : Option Value) → found n given ≡ o → found name K ≡ kept_of (found name rest) (found name given)
          → found name (elim o as (λ x. Fields) [ None ↦ K | Some w ↦ elim (same captures v w) as (λ x. Fields) [ true ↦ field n v K | false ↦ field n w K ] ])
          ≡ kept_of (elim b as (λ x. Option Value) [ true ↦ Some v | false ↦ found name rest ]) (found name given)
      go true e None f i =
          let none : found name given ≡ None = subst (λ m. found m given ≡ None) (text_is n name e) f in
          i ∙ (ap (kept_of (found name rest)) none ∙ (none_kept (found name rest) ∙ sym (ap (kept_of (Some v)) none)))
      go true e (Some w) f i =
          let some : found name given ≡ Some w = subst (λ m. found m given ≡ Some w) (text_is n name e) f in
          one true e w (same captures v w) ∙ sym (ap (kept_of (Some v)) some)
      go false e None f i = i
      go false e (Some w) f i = one false e w (same captures v w) ∙ i

  module _ (a : ℕ) where
    abbrev at : Text → Loc → Bool
    at name = same_location (record { address = a; key = Prop name })

    here : (k name : Text) → same_text name k ≡ true → at name (record { address = a; key = Prop k }) ≡ true
    here k name e = ap (λ (t : Bool). t && same_text name k) (number_self a) ∙ e

    -- a field that isn't logged among those of a list is the same in both
    not_changed : (test : Text → Bool) (xs old given : Fields) (name : Text) → list_any (at name) (changed (same captures) a test xs old given) ≡ false → test name ≡ true → has_field name xs ≡ true
        → same captures (value_at name old) (value_at name given) ≡ true
    not_changed test end old given name h t e = absurd (false≢true e)
    not_changed test (field k v rest) old given name h t e =
        go (same_text k name) refl (test k) refl (same captures (value_at k old) (value_at k given)) refl h e (λ q r. not_changed test rest old given name q t r)
      where
        L : List Loc
        L = changed (same captures) a test rest old given

        go : (b : Bool) → same_text k name ≡ b → (c : Bool) → test k ≡ c → (d : Bool) → same captures (value_at k old) (value_at k given) ≡ d
            → list_any (at name) (elim c as (λ x. List Loc) [ false ↦ L | true ↦ elim d as (λ x. List Loc) [ true ↦ L | false ↦ record { address = a; key = Prop k } ∷ L ] ]) ≡ false
            → elim b as (λ x. Bool) [ true ↦ true | false ↦ has_field name rest ] ≡ true
            → (list_any (at name) L ≡ false → has_field name rest ≡ true → same captures (value_at name old) (value_at name given) ≡ true)
            → same captures (value_at name old) (value_at name given) ≡ true
        go true p true q true r h e i = subst (λ m. same captures (value_at m old) (value_at m given) ≡ true) (text_is k name p) r
        go true p true q false r h e i =
            let itself : same_text name k ≡ true = subst (λ m. same_text name m ≡ true) (sym (text_is k name p)) (text_self name) in
            absurd (false≢true (sym h ∙ ap (λ (x : Bool). x || list_any (at name) L) (here k name itself)))
        go true p false q d r h e i = absurd (false≢true (sym q ∙ (ap test (text_is k name p) ∙ t)))
        go false p true q true r h e i = i h e
        go false p true q false r h e i = i (either_not (at name (record { address = a; key = Prop k })) (list_any (at name) L) h) e
        go false p false q d r h e i = i h e

    by_found : (x y : Option Value) → (is_there y ≡ false → is_there x ≡ true → same captures (or_undefined x) (or_undefined y) ≡ true) → (is_there y ≡ true → same captures (or_undefined x) (or_undefined y) ≡ true)
        → same captures (or_undefined x) (or_undefined (or_else (kept_of x y) (elim (is_there x) as (λ z. Option Value) [ true ↦ None | false ↦ y ]))) ≡ true
    by_found None None p q = refl
    by_found None (Some w) p q = q refl
    by_found (Some v) None p q = p refl refl
    by_found (Some v) (Some w) p q = ap (λ b. same captures v (chosen_value v w b)) (q refl) ∙ same_as_itself captures v

    module _ (old given : Fields) where
      abbrev first : List Loc
      first = changed (same captures) a (λ k. not (has_field k given)) old old given

      abbrev second : List Loc
      second = changed (same captures) a (λ k. true) given old given

      abbrev third : List Loc
      third = elim (lacks_some old given || lacks_some given old) as (λ x. List Loc) [ true ↦ record { address = a; key = Keys } ∷ [] | false ↦ [] ]

      after_found : (name : Text) → found name (fields_after (same captures) old given) ≡ or_else (kept_of (found name old) (found name given)) (elim (is_there (found name old)) as (λ z. Option Value) [ true ↦ None | false ↦ found name given ])
      after_found name =
          found_appended name (kept_fields (same captures) old given) (new_fields old given)
          ∙ ap₂ or_else (kept_found name old given) (new_found name old given ∙ ap (λ b. elim b as (λ x. Option Value) [ true ↦ None | false ↦ found name given ]) (has_is name old))

      props_property : (name : Text) → list_any (at name) (props_log (same captures) a old given) ≡ false → same captures (value_at name old) (value_at name (fields_after (same captures) old given)) ≡ true
      props_property name h =
          subst (λ o. same captures (value_at name old) (or_undefined o) ≡ true) (sym (after_found name))
          (by_found (found name old) (found name given)
          (λ n t. not_changed (λ k. not (has_field k given)) old old given name (none_front (at name) first (second ++ third) h) (ap not (has_is name given ∙ n)) (has_is name old ∙ t))
          (λ t. not_changed (λ k. true) given old given name (none_front (at name) second third (none_back (at name) first (second ++ third) h)) refl (has_is name given ∙ t)))

      kept_listing : (xs : Fields) → lacks_some xs given ≡ false → names_of (kept_fields (same captures) xs given) ≡ names_of xs
      kept_listing end h = refl
      kept_listing (field n v rest) h = go (found n given) (ap (λ (b : Bool). not b || lacks_some rest given) (sym (has_is n given)) ∙ h) (λ k. kept_listing rest k)
        where
          K : Fields
          K = kept_fields (same captures) rest given

          both : (w : Value) (b : Bool) → names_of K ≡ names_of rest → names_of (elim b as (λ x. Fields) [ true ↦ field n v K | false ↦ field n w K ]) ≡ n ∷ names_of rest
          both w true i = ap (λ names. n ∷ names) i
          both w false i = ap (λ names. n ∷ names) i

          go : (o : Option Value) → (not (is_there o) || lacks_some rest given) ≡ false → (lacks_some rest given ≡ false → names_of K ≡ names_of rest)
              → names_of (elim o as (λ x. Fields) [ None ↦ K | Some w ↦ elim (same captures v w) as (λ x. Fields) [ true ↦ field n v K | false ↦ field n w K ] ]) ≡ n ∷ names_of rest
          go None h i = absurd (false≢true (sym h))
          go (Some w) h i = both w (same captures v w) (i h)

      abbrev key_list : Loc → Bool
      key_list = same_location (record { address = a; key = Keys })

      props_keys : list_any key_list (props_log (same captures) a old given) ≡ false → names_of old ≡ names_of (fields_after (same captures) old given)
      props_keys h = go (lacks_some old given) refl (lacks_some given old) refl (none_back key_list second third (none_back key_list first (second ++ third) h))
        where
          go : (b : Bool) → lacks_some old given ≡ b → (c : Bool) → lacks_some given old ≡ c
              → list_any key_list (elim (b || c) as (λ x. List Loc) [ true ↦ record { address = a; key = Keys } ∷ [] | false ↦ [] ]) ≡ false → names_of old ≡ names_of (fields_after (same captures) old given)
          go true p c q h = absurd (false≢true (sym h ∙ ap (λ (t : Bool). (t && true) || false) (number_self a)))
          go false p true q h = absurd (false≢true (sym h ∙ ap (λ (t : Bool). (t && true) || false) (number_self a)))
          go false p false q h =
              sym (ap (λ fields. names_of (appended (kept_fields (same captures) old given) fields)) (none_new old given q) ∙ (appended_end (kept_fields (same captures) old given) ∙ kept_listing old p))

    same_itself : (x : Standing) → Same_standing captures x x
    same_itself (A_value v) = same_as_itself captures v
    same_itself (Some_names names) = refl
    same_itself (A_length n) = refl
    same_itself Nothing = tt

    pub props_unlogged : (given : Fields) → Logs_all captures a (props_become (same captures) given) (log_of_props captures a given)
    props_unlogged given (Props old) = of_props
      where
        of_props : Unlogged_same captures a (log_of_props captures a given) (Props old) (Becomes (Props (fields_after (same captures) old given)))
        of_props (Prop name) h = props_property old given name h
        of_props Keys h = props_keys old given h
        of_props Length h = tt
        of_props (Index n) h = tt
    props_unlogged given (Plain fields) = λ k h. same_itself (at_key (Plain fields) k)
    props_unlogged given (Array all) = λ k h. same_itself (at_key (Array all) k)
    props_unlogged given (Signal v) = λ k h. same_itself (at_key (Signal v) k)
    props_unlogged given (Computed f) = λ k h. same_itself (at_key (Computed f) k)

pub unlogged_is_same : UnloggedIsSame
unlogged_is_same captures a =
    record {
      written = λ key v old. unlogged_behind captures a old (written old key v) (written_so key v old);
      deleted = λ key old. unlogged_behind captures a old (deleted old key) (deleted_so key old);
      pushed = λ v old. unlogged_behind captures a old (pushed_on v old) (pushed_so v old);
      left = λ f old. unlogged_behind captures a old (items_left f old) (left_so f old);
      set = props_unlogged captures a;
    }
