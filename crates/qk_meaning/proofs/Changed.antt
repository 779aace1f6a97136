-- What each kind of change logs.
use Rattle.std.specs.Prelude.{◌≡◌, refl, ℕ, zero, suc, ◌+◌, ◌<◌, Bool, true, false, not, ◌&&◌, ◌==◌, List, [], ◌∷◌, ◌++◌, length, set, Option, Some, None}
use Rattle.std.proofs.Common.{sym, ap, subst, ◌∙◌, arith}
use Rattle.std.proofs.Math.Dec.{T, eqb→eq}
use Rattle.std.proofs.lemmas.Bool.{false≢true}
use Rattle.std.proofs.lemmas.List.{append-nil, length-set, length-append}
use Rattle.std.proofs.lemmas.Slice.Eq.{bytes_eq-Decides}
use Rattle.qk_ast.specs.Texts.{same_text}
use Rattle.qk_meaning.specs.Value.{Text, Site, Value, Fields, Undefined, end, field}
use Rattle.qk_meaning.specs.World.{Plain, Array, Key, Keys, Length, Index, Prop}
use Rattle.qk_meaning.specs.Parts.{listed, packed, nth, found, or_undefined, value_at, has_field, field_count, replaced, stands_before, inserted, without_field}
use Rattle.qk_meaning.specs.Same.{same}
use Rattle.qk_meaning.specs.Changes.{unless_same, changed_indexes, changed_properties, added_properties, changed_keys, changed_length, changed_in}
use Rattle.qk_meaning.specs.Laws_of_changes as Of_changes
use Rattle.qk_meaning.specs.Laws_of_changes.{distinct, keys_if, listed_if}
use Rattle.qk_meaning.proofs.Sames.{number_self, same_as_itself}

pub signal_written : Of_changes.SignalWritten
signal_written captures v w = refl

-- ---- tests

differ : (a b : ℕ) → (a ≡ b → ⊥) → (a == b) ≡ false
differ a b n = go (a == b) refl
  where
    go : (t : Bool) → (a == b) ≡ t → t ≡ false
    go true e = absurd (n (eqb→eq a b (subst T (sym e) tt)))
    go false e = refl

both : (a b : Bool) → (a && b) ≡ true → (a ≡ true) × (b ≡ true)
both true b e = (refl, e)
both false b e = absurd (false≢true e)

pub not_is : (b : Bool) → not b ≡ true → b ≡ false
not_is true e = absurd (false≢true e)
not_is false e = refl

pub text_is : (t u : Text) → same_text t u ≡ true → t ≡ u
text_is t u e = (bytes_eq-Decides t u).0 e

text_apart : (t u : Text) → (t ≡ u → ⊥) → same_text t u ≡ false
text_apart t u n = go (same_text t u) refl
  where
    go : (b : Bool) → same_text t u ≡ b → b ≡ false
    go true e = absurd (n (text_is t u e))
    go false e = refl

text_other : (t u : Text) → same_text t u ≡ false → same_text u t ≡ false
text_other t u e = text_apart u t (λ i. false≢true (sym e ∙ (bytes_eq-Decides t u).1 (sym i)))

-- ---- arrays

same_list : (all : List Value) → listed (packed all) ≡ all
same_list [] = refl
same_list (v ∷ rest) = ap (λ l. v ∷ l) (same_list rest)

module _ (captures : Site → List Text) where
  nothing : (v : Value) (key : Key) → unless_same captures v v key ≡ []
  nothing v key = go (same captures v v) (same_as_itself captures v)
    where
      go : (b : Bool) → b ≡ true → elim b as (λ x. List Key) [ true ↦ [] | false ↦ key ∷ [] ] ≡ []
      go true e = refl
      go false e = absurd (false≢true e)

  indexes_alike : (n : ℕ) (all : List Value) → changed_indexes captures n all all ≡ []
  indexes_alike n [] = refl
  indexes_alike n (v ∷ rest) = ap (λ l. l ++ changed_indexes captures (suc n) rest rest) (nothing v (Index n)) ∙ indexes_alike (suc n) rest

  index_set : (n k : ℕ) (all : List Value) (v : Value) → k < length all → changed_indexes captures n all (set all k v) ≡ unless_same captures (nth all k) v (Index (n + k))
  index_set n k [] v h = absurd (omega (arith, h))
  index_set n zero (w ∷ rest) v h =
      ap (λ l. unless_same captures w v (Index n) ++ l) (indexes_alike (suc n) rest)
      ∙ (append-nil (unless_same captures w v (Index n)) ∙ ap (λ i. unless_same captures w v (Index i)) (omega arith))
  index_set n (suc k) (w ∷ rest) v h =
      ap (λ l. l ++ changed_indexes captures (suc n) rest (set rest k v)) (nothing w (Index n))
      ∙ (index_set (suc n) k rest v (omega (arith, h)) ∙ ap (λ i. unless_same captures (nth rest k) v (Index i)) (omega arith))

  index_more : (n : ℕ) (all : List Value) (v : Value) → changed_indexes captures n all (all ++ (v ∷ [])) ≡ unless_same captures Undefined v (Index (n + length all))
  index_more n [] v = append-nil (unless_same captures Undefined v (Index n)) ∙ ap (λ i. unless_same captures Undefined v (Index i)) (omega arith)
  index_more n (w ∷ rest) v =
      ap (λ l. l ++ changed_indexes captures (suc n) rest (rest ++ (v ∷ []))) (nothing w (Index n)) ∙ (index_more (suc n) rest v ∙ ap (λ i. unless_same captures Undefined v (Index i)) (omega arith))

  index_less : (n : ℕ) (all : List Value) (v : Value) → changed_indexes captures n (all ++ (v ∷ [])) all ≡ unless_same captures v Undefined (Index (n + length all))
  index_less n [] v = append-nil (unless_same captures v Undefined (Index n)) ∙ ap (λ i. unless_same captures v Undefined (Index i)) (omega arith)
  index_less n (w ∷ rest) v =
      ap (λ l. l ++ changed_indexes captures (suc n) (rest ++ (v ∷ [])) rest) (nothing w (Index n)) ∙ (index_less (suc n) rest v ∙ ap (λ i. unless_same captures v Undefined (Index i)) (omega arith))

  -- the length, by whether it is the same
  length_by : (b c : Bool) → b ≡ c → elim b as (λ x. List Key) [ true ↦ [] | false ↦ Length ∷ [] ] ≡ elim c as (λ x. List Key) [ true ↦ [] | false ↦ Length ∷ [] ]
  length_by b c e = ap (λ x. elim x as (λ y. List Key) [ true ↦ [] | false ↦ Length ∷ [] ]) e

  as_lists : (one other : List Value) → changed_in captures (Array (packed one)) (Array (packed other)) ≡ changed_indexes captures 0 one other ++ changed_length captures one other
  as_lists one other = ap (λ l. changed_indexes captures 0 l (listed (packed other)) ++ changed_length captures l (listed (packed other))) (same_list one) ∙ ap (λ l. changed_indexes captures 0 one l ++ changed_length captures one l) (same_list other)

  length_same : (one other : List Value) → length one ≡ length other → changed_length captures one other ≡ []
  length_same one other e = length_by (length one == length other) true (ap (λ n. length one == n) (sym e) ∙ number_self (length one))

  length_changed : (one other : List Value) → (length one ≡ length other → ⊥) → changed_length captures one other ≡ Length ∷ []
  length_changed one other n = length_by (length one == length other) false (differ (length one) (length other) n)

pub index_written : Of_changes.IndexWritten
index_written captures all n v h =
    as_lists captures all (set all n v)
    ∙ (ap (λ l. l ++ changed_length captures all (set all n v)) (index_set captures 0 n all v h ∙ ap (λ i. unless_same captures (nth all n) v (Index i)) (omega arith))
    ∙ (ap (λ l. unless_same captures (nth all n) v (Index n) ++ l) (length_same captures all (set all n v) (sym (length-set all n v))) ∙ append-nil (unless_same captures (nth all n) v (Index n))))

one_longer : (all : List Value) (v : Value) → length (all ++ (v ∷ [])) ≡ length all → ⊥
one_longer all v e = absurd (omega (arith, e, length-append all (v ∷ [])))

pub item_pushed : Of_changes.ItemPushed
item_pushed captures all v =
    as_lists captures all (all ++ (v ∷ []))
    ∙ (ap (λ l. l ++ changed_length captures all (all ++ (v ∷ []))) (index_more captures 0 all v ∙ ap (λ i. unless_same captures Undefined v (Index i)) (omega arith))
    ∙ ap (λ l. unless_same captures Undefined v (Index (length all)) ++ l) (length_changed captures all (all ++ (v ∷ [])) (λ e. one_longer all v (sym e))))

pub item_popped : Of_changes.ItemPopped
item_popped captures all v =
    as_lists captures (all ++ (v ∷ [])) all
    ∙ (ap (λ l. l ++ changed_length captures (all ++ (v ∷ [])) all) (index_less captures 0 all v ∙ ap (λ i. unless_same captures v Undefined (Index i)) (omega arith))
    ∙ ap (λ l. unless_same captures v Undefined (Index (length all)) ++ l) (length_changed captures (all ++ (v ∷ [])) all (λ e. one_longer all v e)))

-- ---- fields

-- what is found behind a field of another name, and at one of this name
pub found_past : (w : Value) (o : Option Value) (b : Bool) → b ≡ false → elim b as (λ x. Option Value) [ true ↦ Some w | false ↦ o ] ≡ o
found_past w o true e = absurd (false≢true (sym e))
found_past w o false e = refl

pub found_here : (w : Value) (o : Option Value) (b : Bool) → b ≡ true → elim b as (λ x. Option Value) [ true ↦ Some w | false ↦ o ] ≡ Some w
found_here w o true e = refl
found_here w o false e = absurd (false≢true e)

pub has_past : (h b : Bool) → b ≡ false → elim b as (λ x. Bool) [ true ↦ true | false ↦ h ] ≡ h
has_past h true e = absurd (false≢true (sym e))
has_past h false e = refl

has_here : (h b : Bool) → b ≡ true → elim b as (λ x. Bool) [ true ↦ true | false ↦ h ] ≡ true
has_here h true e = refl
has_here h false e = absurd (false≢true e)

has_more : (h b : Bool) → h ≡ true → elim b as (λ x. Bool) [ true ↦ true | false ↦ h ] ≡ true
has_more h true e = refl
has_more h false e = e

pub has_none : (h b : Bool) → elim b as (λ x. Bool) [ true ↦ true | false ↦ h ] ≡ false → (b ≡ false) × (h ≡ false)
has_none h true e = absurd (false≢true (sym e))
has_none h false e = (refl, e)

pub none_found : (name : Text) (f : Fields) → has_field name f ≡ false → found name f ≡ None
none_found name end e = refl
none_found name (field n w rest) e =
    let parts = has_none (has_field name rest) (same_text n name) e in
    found_past w (found name rest) (same_text n name) parts.0 ∙ none_found name rest parts.1

-- a name of the rest isn't that of the first, where no name stands twice
rest_apart : (n m : Text) (rest : Fields) → has_field n rest ≡ false → has_field m rest ≡ true → same_text n m ≡ false
rest_apart n m rest e h = text_apart n m (λ i. false≢true (sym e ∙ (ap (λ x. has_field x rest) i ∙ h)))

-- where n is the name and m is another, n is not m
other_name : (n m name : Text) → same_text n name ≡ true → same_text m name ≡ false → same_text n m ≡ false
other_name n m name e f = text_apart n m (λ i. false≢true (sym f ∙ (ap (λ x. same_text x name) (sym i) ∙ e)))

module _ (name : Text) (v : Value) where
  replaced_other : (m : Text) (f : Fields) → same_text m name ≡ false → found m (replaced name v f) ≡ found m f
  replaced_other m end e = refl
  replaced_other m (field n w rest) e = go (same_text n name) refl (replaced_other m rest e)
    where
      go : (b : Bool) → same_text n name ≡ b → found m (replaced name v rest) ≡ found m rest → found m (elim b as (λ x. Fields) [ true ↦ field n v rest | false ↦ field n w (replaced name v rest) ]) ≡ found m (field n w rest)
      go true h i = let apart = other_name n m name h e in found_past v (found m rest) (same_text n m) apart ∙ sym (found_past w (found m rest) (same_text n m) apart)
      go false h i = ap (λ o. elim (same_text n m) as (λ x. Option Value) [ true ↦ Some w | false ↦ o ]) i

  replaced_own : (f : Fields) → has_field name f ≡ true → found name (replaced name v f) ≡ Some v
  replaced_own end h = absurd (false≢true h)
  replaced_own (field n w rest) h = go (same_text n name) refl (λ k. replaced_own rest k)
    where
      go : (b : Bool) → same_text n name ≡ b → (has_field name rest ≡ true → found name (replaced name v rest) ≡ Some v) → found name (elim b as (λ x. Fields) [ true ↦ field n v rest | false ↦ field n w (replaced name v rest) ]) ≡ Some v
      go true e i = found_here v (found name rest) (same_text n name) e
      go false e i = found_past w (found name (replaced name v rest)) (same_text n name) e ∙ i (sym (has_past (has_field name rest) (same_text n name) e) ∙ h)

  replaced_names : (m : Text) (f : Fields) → has_field m (replaced name v f) ≡ has_field m f
  replaced_names m end = refl
  replaced_names m (field n w rest) = go (same_text n name) (replaced_names m rest)
    where
      go : (b : Bool) → has_field m (replaced name v rest) ≡ has_field m rest → has_field m (elim b as (λ x. Fields) [ true ↦ field n v rest | false ↦ field n w (replaced name v rest) ]) ≡ has_field m (field n w rest)
      go true i = refl
      go false i = ap (λ h. elim (same_text n m) as (λ x. Bool) [ true ↦ true | false ↦ h ]) i

  pub replaced_count : (f : Fields) → field_count (replaced name v f) ≡ field_count f
  replaced_count end = refl
  replaced_count (field n w rest) = go (same_text n name) (replaced_count rest)
    where
      go : (b : Bool) → field_count (replaced name v rest) ≡ field_count rest → field_count (elim b as (λ x. Fields) [ true ↦ field n v rest | false ↦ field n w (replaced name v rest) ]) ≡ suc (field_count rest)
      go true i = refl
      go false i = ap suc i

  inserted_other : (m : Text) (f : Fields) → same_text m name ≡ false → found m (inserted name v f) ≡ found m f
  inserted_other m end e = found_past v None (same_text name m) (text_other m name e)
  inserted_other m (field n w rest) e = go (stands_before name n) (inserted_other m rest e)
    where
      go : (b : Bool) → found m (inserted name v rest) ≡ found m rest → found m (elim b as (λ x. Fields) [ true ↦ field name v (field n w rest) | false ↦ field n w (inserted name v rest) ]) ≡ found m (field n w rest)
      go true i = found_past v (found m (field n w rest)) (same_text name m) (text_other m name e)
      go false i = ap (λ o. elim (same_text n m) as (λ x. Option Value) [ true ↦ Some w | false ↦ o ]) i

  pub inserted_count : (f : Fields) → field_count (inserted name v f) ≡ suc (field_count f)
  inserted_count end = refl
  inserted_count (field n w rest) = go (stands_before name n) (inserted_count rest)
    where
      go : (b : Bool) → field_count (inserted name v rest) ≡ suc (field_count rest) → field_count (elim b as (λ x. Fields) [ true ↦ field name v (field n w rest) | false ↦ field n w (inserted name v rest) ]) ≡ suc (suc (field_count rest))
      go true i = refl
      go false i = ap suc i

without_other : (name m : Text) (f : Fields) → same_text m name ≡ false → found m (without_field name f) ≡ found m f
without_other name m end e = refl
without_other name m (field n w rest) e = go (same_text n name) refl (without_other name m rest e)
  where
    go : (b : Bool) → same_text n name ≡ b → found m (without_field name rest) ≡ found m rest → found m (elim b as (λ x. Fields) [ true ↦ rest | false ↦ field n w (without_field name rest) ]) ≡ found m (field n w rest)
    go true h i = sym (found_past w (found m rest) (same_text n m) (other_name n m name h e))
    go false h i = ap (λ o. elim (same_text n m) as (λ x. Option Value) [ true ↦ Some w | false ↦ o ]) i

without_own : (name : Text) (f : Fields) → distinct f ≡ true → found name (without_field name f) ≡ None
without_own name end d = refl
without_own name (field n w rest) d = go (same_text n name) refl (without_own name rest (both (not (has_field n rest)) (distinct rest) d).1)
  where
    go : (b : Bool) → same_text n name ≡ b → found name (without_field name rest) ≡ None → found name (elim b as (λ x. Fields) [ true ↦ rest | false ↦ field n w (without_field name rest) ]) ≡ None
    go true h i = none_found name rest (ap (λ x. has_field x rest) (sym (text_is n name h)) ∙ not_is (has_field n rest) (both (not (has_field n rest)) (distinct rest) d).0)
    go false h i = found_past w (found name (without_field name rest)) (same_text n name) h ∙ i

without_names : (name m : Text) (f : Fields) → has_field m (without_field name f) ≡ true → has_field m f ≡ true
without_names name m end h = h
without_names name m (field n w rest) h = go (same_text n name) h (λ k. without_names name m rest k)
  where
    go : (b : Bool) → has_field m (elim b as (λ x. Fields) [ true ↦ rest | false ↦ field n w (without_field name rest) ]) ≡ true → (has_field m (without_field name rest) ≡ true → has_field m rest ≡ true) → has_field m (field n w rest) ≡ true
    go true k i = has_more (has_field m rest) (same_text n m) k
    go false k i = own (same_text n m) k
      where
        own : (c : Bool) → elim c as (λ x. Bool) [ true ↦ true | false ↦ has_field m (without_field name rest) ] ≡ true → elim c as (λ x. Bool) [ true ↦ true | false ↦ has_field m rest ] ≡ true
        own true k = refl
        own false k = i k

pub without_count : (name : Text) (f : Fields) → has_field name f ≡ true → field_count f ≡ suc (field_count (without_field name f))
without_count name end h = absurd (false≢true h)
without_count name (field n w rest) h = go (same_text n name) refl (λ k. without_count name rest k)
  where
    go : (b : Bool) → same_text n name ≡ b → (has_field name rest ≡ true → field_count rest ≡ suc (field_count (without_field name rest)))
        → suc (field_count rest) ≡ suc (field_count (elim b as (λ x. Fields) [ true ↦ rest | false ↦ field n w (without_field name rest) ]))
    go true e i = refl
    go false e i = ap suc (i (sym (has_past (has_field name rest) (same_text n name) e) ∙ h))

pub without_none : (name : Text) (f : Fields) → has_field name f ≡ false → without_field name f ≡ f
without_none name end h = refl
without_none name (field n w rest) h =
    let parts = has_none (has_field name rest) (same_text n name) h in
    go (same_text n name) parts.0 (without_none name rest parts.1)
  where
    go : (b : Bool) → b ≡ false → without_field name rest ≡ rest → elim b as (λ x. Fields) [ true ↦ rest | false ↦ field n w (without_field name rest) ] ≡ field n w rest
    go true e i = absurd (false≢true (sym e))
    go false e i = ap (λ r. field n w r) i

module _ (captures : Site → List Text) where
  abbrev unless : Value → Value → Key → List Key
  unless = unless_same captures

  -- of fields, where others hold the same but under one name
  scan_step : (n name : Text) (w v : Value) (rest new : Fields) (b : Bool) → same_text n name ≡ b → has_field n rest ≡ false → value_at name new ≡ v → (b ≡ false → value_at n new ≡ w)
      → changed_properties captures rest new ≡ listed_if (has_field name rest) (unless (value_at name rest) v (Prop name))
      → unless w (value_at n new) (Prop n) ++ changed_properties captures rest new
      ≡ listed_if (elim b as (λ x. Bool) [ true ↦ true | false ↦ has_field name rest ]) (unless (or_undefined (elim b as (λ x. Option Value) [ true ↦ Some w | false ↦ found name rest ])) v (Prop name))
  scan_step n name w v rest new true e d own other ih =
      let i = text_is n name e in
      ap (λ l. unless w (value_at n new) (Prop n) ++ l) (ih ∙ ap (λ h. listed_if h (unless (value_at name rest) v (Prop name))) (ap (λ x. has_field x rest) (sym i) ∙ d))
      ∙ (append-nil (unless w (value_at n new) (Prop n)) ∙ (ap (λ x. unless w (value_at x new) (Prop x)) i ∙ ap (λ x. unless w x (Prop name)) own))
  scan_step n name w v rest new false e d own other ih = ap (λ l. l ++ changed_properties captures rest new) (ap (λ x. unless w x (Prop n)) (other refl) ∙ nothing captures w (Prop n)) ∙ ih

  scan : (f new : Fields) (name : Text) (v : Value) → distinct f ≡ true → ((m : Text) → has_field m f ≡ true → same_text m name ≡ false → value_at m new ≡ value_at m f) → value_at name new ≡ v
      → changed_properties captures f new ≡ listed_if (has_field name f) (unless (value_at name f) v (Prop name))
  scan end new name v d agree own = refl
  scan (field n w rest) new name v d agree own =
      let parts = both (not (has_field n rest)) (distinct rest) d in
      let once = not_is (has_field n rest) parts.0 in
      scan_step n name w v rest new (same_text n name) refl once own
      (λ e. agree n (has_here (has_field n rest) (same_text n n) ((bytes_eq-Decides n n).1 refl)) e ∙ ap or_undefined (found_here w (found n rest) (same_text n n) ((bytes_eq-Decides n n).1 refl)))
      (scan rest new name v parts.1
      (λ m h e. agree m (has_more (has_field m rest) (same_text n m) h) e ∙ ap or_undefined (found_past w (found m rest) (same_text n m) (rest_apart n m rest once h))) own)

  -- what is added to fields of which these are a part
  added_step : (h : Bool) (l : List Key) → h ≡ true → elim h as (λ x. List Key) [ true ↦ [] | false ↦ l ] ≡ []
  added_step true l e = refl
  added_step false l e = absurd (false≢true e)

  added_new : (h : Bool) (l : List Key) → h ≡ false → elim h as (λ x. List Key) [ true ↦ [] | false ↦ l ] ≡ l
  added_new true l e = absurd (false≢true (sym e))
  added_new false l e = refl

  added_none : (old f : Fields) → ((m : Text) → has_field m f ≡ true → has_field m old ≡ true) → added_properties captures old f ≡ []
  added_none old end p = refl
  added_none old (field n w rest) p =
      ap (λ l. l ++ added_properties captures old rest) (added_step (has_field n old) (unless Undefined w (Prop n)) (p n (has_here (has_field n rest) (same_text n n) ((bytes_eq-Decides n n).1 refl))))
      ∙ added_none old rest (λ m h. p m (has_more (has_field m rest) (same_text n m) h))

  added_one : (old f : Fields) (name : Text) (v : Value) → ((m : Text) → has_field m f ≡ true → has_field m old ≡ true) → has_field name old ≡ false → added_properties captures old (inserted name v f) ≡ unless Undefined v (Prop name)
  added_one old end name v p e = append-nil (elim (has_field name old) [ true ↦ [] | false ↦ unless Undefined v (Prop name) ]) ∙ added_new (has_field name old) (unless Undefined v (Prop name)) e
  added_one old (field n w rest) name v p e = go (stands_before name n) (added_one old rest name v (λ m h. p m (has_more (has_field m rest) (same_text n m) h)) e)
    where
      go : (b : Bool) → added_properties captures old (inserted name v rest) ≡ unless Undefined v (Prop name)
          → added_properties captures old (elim b as (λ x. Fields) [ true ↦ field name v (field n w rest) | false ↦ field n w (inserted name v rest) ]) ≡ unless Undefined v (Prop name)
      go true i =
          ap (λ l. elim (has_field name old) as (λ x. List Key) [ true ↦ [] | false ↦ unless Undefined v (Prop name) ] ++ l) (added_none old (field n w rest) p)
          ∙ (append-nil (elim (has_field name old) [ true ↦ [] | false ↦ unless Undefined v (Prop name) ]) ∙ added_new (has_field name old) (unless Undefined v (Prop name)) e)
      go false i =
          ap (λ l. l ++ added_properties captures old (inserted name v rest)) (added_step (has_field n old) (unless Undefined w (Prop n)) (p n (has_here (has_field n rest) (same_text n n) ((bytes_eq-Decides n n).1 refl))))
          ∙ i

  keys_by : (b c : Bool) → b ≡ c → elim b as (λ x. List Key) [ true ↦ [] | false ↦ Keys ∷ [] ] ≡ elim c as (λ x. List Key) [ true ↦ [] | false ↦ Keys ∷ [] ]
  keys_by b c e = ap (λ x. elim x as (λ y. List Key) [ true ↦ [] | false ↦ Keys ∷ [] ]) e

  keys_same : (old new : Fields) → field_count new ≡ field_count old → changed_keys captures old new ≡ []
  keys_same old new e = keys_by (field_count old == field_count new) true (ap (λ n. field_count old == n) e ∙ number_self (field_count old))

  keys_changed : (old new : Fields) → (field_count old ≡ field_count new → ⊥) → changed_keys captures old new ≡ Keys ∷ []
  keys_changed old new n = keys_by (field_count old == field_count new) false (differ (field_count old) (field_count new) n)

  three : (one two last one' two' last' : List Key) → one ≡ one' → two ≡ two' → last ≡ last' → one ++ (two ++ last) ≡ one' ++ (two' ++ last')
  three one two last one' two' last' e f g = ap (λ l. l ++ (two ++ last)) e ∙ (ap (λ l. one' ++ (l ++ last)) f ∙ ap (λ l. one' ++ (two' ++ l)) g)

  written_at : (fields : Fields) (name : Text) (v : Value) → distinct fields ≡ true → (b : Bool) → has_field name fields ≡ b
      → changed_in captures (Plain fields) (Plain (elim b as (λ x. Fields) [ true ↦ replaced name v fields | false ↦ inserted name v fields ])) ≡ unless (value_at name fields) v (Prop name) ++ keys_if (not b)
  written_at fields name v d true h =
      let new = replaced name v fields in
      three (changed_properties captures fields new) (added_properties captures fields new) (changed_keys captures fields new) (unless (value_at name fields) v (Prop name)) [] []
      (scan fields new name v d (λ m k e. ap or_undefined (replaced_other name v m fields e)) (ap or_undefined (replaced_own name v fields h)) ∙ ap (λ x. listed_if x (unless (value_at name fields) v (Prop name))) h)
      (added_none fields new (λ m k. sym (replaced_names name v m fields) ∙ k)) (keys_same fields new (replaced_count name v fields))
  written_at fields name v d false h =
      let new = inserted name v fields in
      three (changed_properties captures fields new) (added_properties captures fields new) (changed_keys captures fields new) [] (unless (value_at name fields) v (Prop name)) (Keys ∷ [])
      (scan fields new name (value_at name new) d (λ m k e. ap or_undefined (inserted_other name v m fields e)) refl ∙ ap (λ x. listed_if x (unless (value_at name fields) (value_at name new) (Prop name))) h)
      (added_one fields fields name v (λ m k. k) h ∙ ap (λ x. unless (or_undefined x) v (Prop name)) (sym (none_found name fields h)))
      (keys_changed fields new (λ e. absurd (omega (arith, e, inserted_count name v fields))))

  deleted_at : (fields : Fields) (name : Text) → distinct fields ≡ true → (b : Bool) → has_field name fields ≡ b
      → changed_in captures (Plain fields) (Plain (without_field name fields)) ≡ listed_if b (unless (value_at name fields) Undefined (Prop name) ++ (Keys ∷ []))
  deleted_at fields name d true h =
      let new = without_field name fields in
      three (changed_properties captures fields new) (added_properties captures fields new) (changed_keys captures fields new) (unless (value_at name fields) Undefined (Prop name)) [] (Keys ∷ [])
      (scan fields new name Undefined d (λ m k e. ap or_undefined (without_other name m fields e)) (ap or_undefined (without_own name fields d)) ∙ ap (λ x. listed_if x (unless (value_at name fields) Undefined (Prop name))) h)
      (added_none fields new (λ m k. without_names name m fields k)) (keys_changed fields new (λ e. absurd (omega (arith, e, without_count name fields h))))
  deleted_at fields name d false h =
      let new = without_field name fields in
      three (changed_properties captures fields new) (added_properties captures fields new) (changed_keys captures fields new) [] [] []
      (scan fields new name Undefined d (λ m k e. ap or_undefined (without_other name m fields e)) (ap or_undefined (without_own name fields d)) ∙ ap (λ x. listed_if x (unless (value_at name fields) Undefined (Prop name))) h)
      (added_none fields new (λ m k. without_names name m fields k)) (keys_same fields new (ap field_count (without_none name fields h)))

pub property_written : Of_changes.PropertyWritten
property_written captures fields name v d = written_at captures fields name v d (has_field name fields) refl

pub property_deleted : Of_changes.PropertyDeleted
property_deleted captures fields name d = deleted_at captures fields name d (has_field name fields) refl
