-- Names in the order of listing: array indexes by their numbers, then the others.
use Rattle.std.specs.Prelude.{◌≡◌, refl, ℕ, suc, ◌≤◌, Bool, true, false, ◌&&◌, cond, ◌==◌, nat_lt, nat_le, List, [], ◌∷◌, ◌++◌, drop, length, slice_get, if◌then◌else◌, Option, Some, None}
use Rattle.std.proofs.Common.{sym, ◌∙◌, ap, subst, is_some, true≢false, arith, Less, Equal, Greater}
use Rattle.std.proofs.lemmas.List.{append_assoc, append-nil}
use Rattle.std.specs.Ordering.{nat_cmp, match_ordering}
use Rattle.std.specs.BTreeMap.{insert_entry}
use Rattle.std.specs.Map.{values_of}
use Rattle.qk_ast.specs.Texts.{Text, same_text, decimal}
use Rattle.qk_meaning.specs.Texts.{array_index, spelled}
use Rattle.qk_meaning.specs.Value.{Site, Value, Fields, end, field}
use Rattle.qk_meaning.specs.Parts.{names_of, has_field, inserted, with_field, stands_before, before_index, in_listing_order}
use Rattle.qk_value.specs.declared.value.Value as program
use Rattle.qk_value.specs.View.{seen, seen_fields}
use Rattle.qk_heap.specs.Distinct.{Distinct}
use Rattle.qk_heap.specs.Names.{indexed, unindexed}
use Rattle.qk_heap.proofs.Named.{one_name, itself, inserted_front}
use Rattle.qk_heap.proofs.Listing.{Apart, apart_more, apart_none, written_new}
use Rattle.qk_heap.proofs.Entries.{Entries}
use Rattle.qk_heap.proofs.Set_fields.{drop_got, drop_past}

-- ---- an array index is a number in digits

abbrev index_by : Bool → Bool → Bool → ℕ → Option ℕ
index_by a b c n = elim a [ true ↦ if b && c then Some n else None | false ↦ None ]

abbrev number : ℕ → Option ℕ → ℕ
number n (Some i) = i
number n None = n

spells : (t : Text) (i : ℕ) → array_index t ≡ Some i → decimal i ≡ t
spells t i e = by (nat_le (length t) 10) (same_text (decimal (spelled 0 t)) t) refl (nat_le (spelled 0 t) 4294967294) e
  where
    by : (a b : Bool) → same_text (decimal (spelled 0 t)) t ≡ b → (c : Bool) → index_by a b c (spelled 0 t) ≡ Some i → decimal i ≡ t
    by true true f true h = ap (λ n. decimal (number 0 n)) (sym h) ∙ one_name (decimal (spelled 0 t)) t f
    by true true f false h = absurd (true≢false (sym (ap is_some h)))
    by true false f c h = absurd (true≢false (sym (ap is_some h)))
    by false b f c h = absurd (true≢false (sym (ap is_some h)))

-- ---- a name among others in the order of listing

abbrev insert_name : Text → List Text → List Text
insert_name t [] = t ∷ []
insert_name t (u ∷ rest) = elim (stands_before t u) [ true ↦ t ∷ (u ∷ rest) | false ↦ u ∷ insert_name t rest ]

name_front : (t u : Text) (rest : List Text) (b : Bool) → stands_before t u ≡ b → insert_name t (u ∷ rest) ≡ elim b [ true ↦ t ∷ (u ∷ rest) | false ↦ u ∷ insert_name t rest ]
name_front t u rest b e = ap (λ b. elim b [ true ↦ t ∷ (u ∷ rest) | false ↦ u ∷ insert_name t rest ]) e

names_inserted : (n : Text) (v : Value) (fs : Fields) → names_of (inserted n v fs) ≡ insert_name n (names_of fs)
names_inserted n v end = refl
names_inserted n v (field m w rest) = by (stands_before n m) refl (names_inserted n v rest)
  where
    by : (b : Bool) → stands_before n m ≡ b → names_of (inserted n v rest) ≡ insert_name n (names_of rest) → names_of (inserted n v (field m w rest)) ≡ insert_name n (m ∷ names_of rest)
    by true e h = ap names_of (inserted_front m n v w rest true e) ∙ sym (name_front n m (names_of rest) true e)
    by false e h = ap names_of (inserted_front m n v w rest false e) ∙ ap (λ l. m ∷ l) h ∙ sym (name_front n m (names_of rest) false e)

-- none of them is this name
Missing : Text → List Text → Type 0
Missing n [] = Unit {0}
Missing n (u ∷ rest) = (same_text u n ≡ false) × Missing n rest

missing_names : (n : Text) (fs : Fields) → has_field n fs ≡ false → Missing n (names_of fs)
unfolding Missing
missing_names n end h = tt
missing_names n (field m w rest) h = by (same_text m n) refl (missing_names n rest)
  where
    by : (b : Bool) → same_text m n ≡ b → (has_field n rest ≡ false → Missing n (names_of rest)) → (same_text m n ≡ false) × Missing n (names_of rest)
    by true e more = absurd (true≢false (sym (ap (λ b. elim b [ true ↦ true | false ↦ has_field n rest ]) e) ∙ h))
    by false e more = (e, more (sym (ap (λ b. elim b [ true ↦ true | false ↦ has_field n rest ]) e) ∙ h))

-- names with their numbers, and names that are no indexes
abbrev Numbered : List (ℕ × Text) → Type 0
Numbered [] = Unit {0}
Numbered (e ∷ rest) = (array_index e.1 ≡ Some e.0) × Numbered rest

abbrev Plain : List Text → Type 0
Plain [] = Unit {0}
Plain (u ∷ rest) = (array_index u ≡ None) × Plain rest

last_name : (n : Text) (l : List Text) → array_index n ≡ None → insert_name n l ≡ l ++ n ∷ []
last_name n [] e = refl
last_name n (u ∷ l) e = name_front n u l false (ap (λ i. before_index i (array_index u)) e) ∙ ap (λ r. u ∷ r) (last_name n l e)

first_name : (n : Text) (i : ℕ) (o : List Text) → array_index n ≡ Some i → Plain o → insert_name n o ≡ n ∷ o
first_name n i [] e p = refl
first_name n i (u ∷ o) e p = name_front n u o true (ap (λ k. before_index k (array_index u)) e ∙ ap (before_index (Some i)) p.0)

is_number : (i j : ℕ) → (i == j) ≡ true → i ≡ j
is_number i j h = grind (arith, h)

record Put (n : Text) (i : ℕ) (d : List (ℕ × Text)) (o : List Text) : Type 0 where
  names : insert_name n (values_of d ++ o) ≡ values_of (insert_entry nat_cmp d i n) ++ o
  numbered : Numbered (insert_entry nat_cmp d i n)

index_name : (n : Text) (i : ℕ) (d : List (ℕ × Text)) (o : List Text) → array_index n ≡ Some i → Numbered d → Plain o → Missing n (values_of d ++ o) → Put n i d o
unfolding Missing
index_name n i [] o e a p m = record { names = first_name n i o e p; numbered = (e, tt) }
index_name n i (f ∷ d) o e a p m = by (nat_lt i f.0) refl (i == f.0) refl (index_name n i d o e a.1 p m.1)
  where
    at : insert_name n (f.1 ∷ (values_of d ++ o)) ≡ elim (nat_lt i f.0) [ true ↦ n ∷ (f.1 ∷ (values_of d ++ o)) | false ↦ f.1 ∷ insert_name n (values_of d ++ o) ]
    at = name_front n f.1 (values_of d ++ o) (nat_lt i f.0) (ap (λ k. before_index k (array_index f.1)) e ∙ ap (before_index (Some i)) a.0)

    entry : (l q : Bool) → nat_lt i f.0 ≡ l → (i == f.0) ≡ q → insert_entry nat_cmp (f ∷ d) i n ≡ match_ordering (cond l Less (cond q Equal Greater)) ((i, n) ∷ f ∷ d) ((f.0, n) ∷ d) (f ∷ insert_entry nat_cmp d i n)
    entry l q g h = λ k. match_ordering (cond (g k) Less (cond (h k) Equal Greater)) ((i, n) ∷ f ∷ d) ((f.0, n) ∷ d) (f ∷ insert_entry nat_cmp d i n)

    by : (l : Bool) → nat_lt i f.0 ≡ l → (q : Bool) → (i == f.0) ≡ q → Put n i d o → Put n i (f ∷ d) o
    by true g q h more =
        let is : insert_entry nat_cmp (f ∷ d) i n ≡ (i, n) ∷ f ∷ d = entry true q g h in
        record {
          names = at ∙ ap (λ b. elim b [ true ↦ n ∷ (f.1 ∷ (values_of d ++ o)) | false ↦ f.1 ∷ insert_name n (values_of d ++ o) ]) g ∙ ap (λ l. values_of l ++ o) (sym is);
          numbered = subst Numbered (sym is) (e, a);
        }
    by false g true h more =
        let alike : i ≡ f.0 = is_number i f.0 h in
        let other : f.1 ≡ n = sym (spells f.1 f.0 a.0) ∙ ap decimal (sym alike) ∙ spells n i e in
        absurd (true≢false (sym (itself n) ∙ ap (λ u. same_text u n) (sym other) ∙ m.0))
    by false g false h more =
        let is : insert_entry nat_cmp (f ∷ d) i n ≡ f ∷ insert_entry nat_cmp d i n = entry false false g h in
        record {
          names = at ∙ ap (λ b. elim b [ true ↦ n ∷ (f.1 ∷ (values_of d ++ o)) | false ↦ f.1 ∷ insert_name n (values_of d ++ o) ]) g ∙ ap (λ l. f.1 ∷ l) more.names ∙ ap (λ l. values_of l ++ o) (sym is);
          numbered = subst Numbered (sym is) (a.0, more.numbered);
        }

plain_more : (o : List Text) (n : Text) → Plain o → array_index n ≡ None → Plain (o ++ n ∷ [])
plain_more [] n p e = (e, tt)
plain_more (u ∷ o) n p e = (p.0, plain_more o n p.1 e)

module _ (names : Site → List Text) where
  -- the fields listed so far have the indexes and then the others as their names
  listed_from : (es : Entries) (done : Fields) (d : List (ℕ × Text)) (o : List Text) → names_of done ≡ values_of d ++ o → Numbered d → Plain o → Apart (seen_fields names es) done → Distinct (seen_fields names es)
      → names_of (in_listing_order done (seen_fields names es)) ≡ values_of (indexed d es) ++ (o ++ unindexed es)
  listed_from [] done d o is a p apart distinct = is ∙ ap (λ l. values_of d ++ l) (sym (append-nil o))
  listed_from (e ∷ es) done d o is a p apart distinct = by (array_index e.0) refl (λ done' d' o' is' a' p' apart'. listed_from es done' d' o' is' a' p' apart' distinct.1)
    where
      v : Value
      v = seen names e.1

      rest : Apart (seen_fields names es) (with_field e.0 v done)
      rest = apart_more (seen_fields names es) done e.0 v apart.1 distinct.0

      now : names_of (with_field e.0 v done) ≡ insert_name e.0 (values_of d ++ o)
      now = ap names_of (written_new e.0 v done apart.0) ∙ names_inserted e.0 v done ∙ ap (insert_name e.0) is

      by : (k : Option ℕ) → array_index e.0 ≡ k
          → ((done' : Fields) (d' : List (ℕ × Text)) (o' : List Text) → names_of done' ≡ values_of d' ++ o' → Numbered d' → Plain o' → Apart (seen_fields names es) done'
          → names_of (in_listing_order done' (seen_fields names es)) ≡ values_of (indexed d' es) ++ (o' ++ unindexed es))
          → names_of (in_listing_order (with_field e.0 v done) (seen_fields names es)) ≡ values_of (indexed d (e ∷ es)) ++ (o ++ unindexed (e ∷ es))
      by (Some i) h more =
          let put : Put e.0 i d o = index_name e.0 i d o h a p (subst (Missing e.0) is (missing_names e.0 done apart.0)) in
          more (with_field e.0 v done) (insert_entry nat_cmp d i e.0) o (now ∙ put.names) put.numbered p rest
          ∙ (λ j. values_of (elim (sym h j) [ Some i ↦ indexed (insert_entry nat_cmp d i e.0) es | None ↦ indexed d es ]) ++ (o ++ elim (sym h j) [ Some i ↦ unindexed es | None ↦ e.0 ∷ unindexed es ]))
      by None h more =
          more (with_field e.0 v done) d (o ++ e.0 ∷ []) (now ∙ last_name e.0 (values_of d ++ o) h ∙ append_assoc (values_of d) o (e.0 ∷ [])) a (plain_more o e.0 p h) rest
          ∙ ap (λ l. values_of (indexed d es) ++ l) (append_assoc o (e.0 ∷ []) (unindexed es))
          ∙ (λ j. values_of (elim (sym h j) [ Some i ↦ indexed (insert_entry nat_cmp d i e.0) es | None ↦ indexed d es ]) ++ (o ++ elim (sym h j) [ Some i ↦ unindexed es | None ↦ e.0 ∷ unindexed es ]))

  pub names_listed : (es : Entries) → Distinct (seen_fields names es) → names_of (in_listing_order end (seen_fields names es)) ≡ values_of (indexed [] es) ++ unindexed es
  names_listed es d = listed_from es end [] [] refl tt tt (apart_none (seen_fields names es)) d

-- ---- one name after another

module _ (all : Entries) (at m : ℕ) (t : Text) (x : program.Value) (next : m ≡ suc at) (there : slice_get all at ≡ Some (t, x)) where
  split : drop at all ≡ (t, x) ∷ drop m all
  split = drop_got all at (t, x) there ∙ ap (λ n. (t, x) ∷ drop n all) (sym next)

  pub index_put : (whole d after : List (ℕ × Text)) (i : ℕ) → Some i ≡ array_index t → after ≡ insert_entry nat_cmp d i t → indexed d (drop at all) ≡ whole → indexed after (drop m all) ≡ whole
  index_put whole d after i e is h =
      ap (λ l. indexed l (drop m all)) is
      ∙ ap (λ k. elim k [ Some i ↦ indexed (insert_entry nat_cmp d i t) (drop m all) | None ↦ indexed d (drop m all) ]) e
      ∙ sym (ap (indexed d) split) ∙ h

  pub index_passed : (whole d : List (ℕ × Text)) → None ≡ array_index t → indexed d (drop at all) ≡ whole → indexed d (drop m all) ≡ whole
  index_passed whole d e h =
      ap (λ k. elim k [ Some i ↦ indexed (insert_entry nat_cmp d i t) (drop m all) | None ↦ indexed d (drop m all) ]) e ∙ sym (ap (indexed d) split) ∙ h

  pub other_put : (whole done after : List Text) (u : Text) → None ≡ array_index t → u ≡ t → after ≡ done ++ u ∷ [] → done ++ unindexed (drop at all) ≡ whole → after ++ unindexed (drop m all) ≡ whole
  other_put whole done after u e same is h =
      ap (λ l. l ++ unindexed (drop m all)) (is ∙ ap (λ n. done ++ n ∷ []) same) ∙ append_assoc done (t ∷ []) (unindexed (drop m all))
      ∙ ap (λ k. done ++ elim k [ Some i ↦ unindexed (drop m all) | None ↦ t ∷ unindexed (drop m all) ]) e
      ∙ sym (ap (λ l. done ++ unindexed l) split) ∙ h

  pub other_passed : (whole done : List Text) (i : ℕ) → Some i ≡ array_index t → done ++ unindexed (drop at all) ≡ whole → done ++ unindexed (drop m all) ≡ whole
  other_passed whole done i e h =
      ap (λ k. done ++ elim k [ Some i ↦ unindexed (drop m all) | None ↦ t ∷ unindexed (drop m all) ]) e ∙ sym (ap (λ l. done ++ unindexed l) split) ∙ h

  pub name_put : (names : Site → List Text) (whole done after : List Text) (u : Text) → u ≡ t → after ≡ done ++ u ∷ [] → done ++ names_of (seen_fields names (drop at all)) ≡ whole → after ++ names_of (seen_fields names (drop m all)) ≡ whole
  name_put names whole done after u same is h =
      ap (λ l. l ++ names_of (seen_fields names (drop m all))) (is ∙ ap (λ n. done ++ n ∷ []) same) ∙ append_assoc done (t ∷ []) (names_of (seen_fields names (drop m all)))
      ∙ sym (ap (λ l. done ++ names_of (seen_fields names l)) split) ∙ h

module _ (all : Entries) (at : ℕ) (past : length all ≤ at) where
  pub indexes_end : (whole d : List (ℕ × Text)) → indexed d (drop at all) ≡ whole → d ≡ whole
  indexes_end whole d h = sym (ap (indexed d) (drop_past all at past)) ∙ h

  pub others_end : (whole done : List Text) → done ++ unindexed (drop at all) ≡ whole → done ≡ whole
  others_end whole done h = sym (ap (λ l. done ++ unindexed l) (drop_past all at past) ∙ append-nil done) ∙ h

  pub names_end : (names : Site → List Text) (whole done : List Text) → done ++ names_of (seen_fields names (drop at all)) ≡ whole → done ≡ whole
  names_end names whole done h = sym (ap (λ l. done ++ names_of (seen_fields names l)) (drop_past all at past) ∙ append-nil done) ∙ h
