-- What is read of objects that stand for one another, and what becomes of them.
use Rattle.std.specs.Prelude.{◌≡◌, refl, ℕ, zero, suc, ℤ, pos, negsuc, Bool, true, false, not, ◌||◌, List, [], ◌∷◌, ◌++◌, length, set, nat_lt, nat_le, ◌==◌, if◌then◌else◌, codes, Option, Some, None}
use Rattle.std.proofs.Common.{sym, ap, subst}
use mathlib.Core.Path.{ap₂}
use Rattle.qk_meaning.specs.Heap as H
use Rattle.qk_meaning.specs.Writing as W
use Rattle.qk_meaning.specs.Changes as G
use Rattle.qk_meaning.specs.Markup as J
use Rattle.qk_alike.proofs.Sames.{addresses, sames}
use Rattle.qk_alike.proofs.Scopes.{found_values, there_alike}
use Rattle.qk_alike.proofs.Heaps.{made_alike}
use Rattle.qk_alike.proofs.Lists.{packs, lists_of, nths, appends, lengths, grown_arrays, same_counts, same_names, integers}
use Rattle.qk_alike.proofs.Value_laws.{Facts, Keys_stand}
use Rattle.qk_alike.proofs.Values.{weights, depths, truths, functions, texts, nullishes, joins, decided, name_keys, key_kinds, binaries, unaries, steps, truncates, marks}
use Rattle.qk_alike.specs.Meanings_stand.{Both_answer, Becomings_stand, Reads_stand, both_become, both_found, both_run, both_stay, fails, is, not_there}
use Rattle.qk_meaning.specs.Worlds_stand.{Heaps_stand}
use Rattle.qk_meaning.specs.Ties.{props, All_stand, Apart, Fields_stand, Found_stands, Loc_stands, Object_stands, Paired, Pairwise, Shown_as, Site_ties, Stands, Ties, a_component, a_fragment, a_slot, a_symbol, an_element, array, both_none, both_some, computed, elem, end_stands, field_stands, fields, int, item_stands, items, located_alike, no_more, none_stand, one_more, own_symbol, plain, ref, signal, undefined, words}
use Rattle.qk_ast.specs.Texts.{is_among, same_text, ends_in_dollar}
use Rattle.qk_meaning.specs.Changes.{changed_in}
use Rattle.qk_meaning.specs.Fault.{DuplicateKey, Fault, FixedWrite, IndexPastEnd, ListTooLong, NoProperty, NotCallable, NotText, RenderWrite, TypeMismatch}
use Rattle.qk_meaning.specs.Heap.{Found, Key_kind, Member_read, Name_is, Name_of_key, Named, Neither, Not_there, Numbered, Refused_as, Runs, is_made, object_at, read_member}
use Rattle.qk_meaning.specs.Markup.{element, markup_fault}
use Rattle.qk_meaning.specs.Methods.{is_array, is_list, items_in, keys_in, locations_in, method_of, object_items, object_keys, object_locations, object_method}
use Rattle.qk_meaning.specs.Operators.{Answer, Fails, Is, is_primitive}
use Rattle.qk_meaning.specs.Parts.{field_count, found, has_field, in_listing_order, inserted, listed, nth, packed, replaced, stands_before, value_at, with_field, without_field}
use Rattle.qk_meaning.specs.Setting.{is_running}
use Rattle.qk_meaning.specs.Texts.{is_forbidden}
use Rattle.qk_meaning.specs.Value.{Elem, Fields, Int, Ref, Shown, Site, Slot, Text, Undefined, Value, Values, end}
use Rattle.qk_meaning.specs.World.{Array, Index, Key, Keys, Length, Loc, Object, Plain, Prop, Signal}
use Rattle.qk_meaning.specs.Writing.{Becomes, Becoming, Stays, in_the_way}

-- one child of a sequence, before the others
child_step : (keys : List Text) (f f' : Option Fault) (k k' : Option Text) → f ≡ f' → k ≡ k' → (next next' : Option Fault) (under under' : Text → Option Fault) → next ≡ next' → ((x : Text) → under x ≡ under' x) →
    (elim f as (λ x. Option Fault) [ Some y ↦ Some y | None ↦ elim k as (λ x. Option Fault) [ None ↦ next | Some z ↦ elim (is_among z keys) as (λ x. Option Fault) [ true ↦ Some DuplicateKey | false ↦ under z ] ] ]) ≡
    (elim f' as (λ x. Option Fault) [ Some y ↦ Some y | None ↦ elim k' as (λ x. Option Fault) [ None ↦ next' | Some z ↦ elim (is_among z keys) as (λ x. Option Fault) [ true ↦ Some DuplicateKey | false ↦ under' z ] ] ])
child_step keys f f' k k' p q next next' under under' r s =
    λ i. elim (p i) as (λ x. Option Fault) [ Some y ↦ Some y | None ↦ elim (q i) as (λ x. Option Fault) [ None ↦ r i | Some z ↦ elim (is_among z keys) as (λ x. Option Fault) [ true ↦ Some DuplicateKey | false ↦ s z i ] ] ]

-- the names of an object's keys, where one was made
abbrev of_made : Bool → Answer (List Text × List Loc) → Answer (List Text × List Loc)
of_made x keys = elim x as (λ z. Answer (List Text × List Loc)) [ true ↦ keys | false ↦ Fails TypeMismatch ]

module _ {t : Ties} where
  -- ---- fields

  pub founds : {f g : Fields} → (name : Text) → Fields_stand t f g → Found_stands t (found name f) (found name g)
  founds name end_stands = both_none
  founds name (field_stands {k = k} h hs) = go (same_text k name) h (founds name hs)
    where
      go : (b : Bool) {v w : Value} {o o' : Option Value} → Stands t v w → Found_stands t o o' → Found_stands t (elim b as (λ x. Option Value) [ true ↦ Some v | false ↦ o ]) (elim b as (λ x. Option Value) [ true ↦ Some w | false ↦ o' ])
      go true h k = both_some h
      go false h k = k

  pub field_values : {f g : Fields} → (name : Text) → Fields_stand t f g → Stands t (value_at name f) (value_at name g)
  field_values name h = found_values (founds name h)

  pub fields_there : {f g : Fields} → (name : Text) → Fields_stand t f g → has_field name f ≡ has_field name g
  fields_there {f} {g} name h = there_alike name f g (founds name h)

  chosen_fields : (b : Bool) {f f' g g' : Fields} → Fields_stand t f g → Fields_stand t f' g' → Fields_stand t (elim b as (λ x. Fields) [ true ↦ f | false ↦ f' ]) (elim b as (λ x. Fields) [ true ↦ g | false ↦ g' ])
  chosen_fields true h k = h
  chosen_fields false h k = k

  replaces : {f g : Fields} {v w : Value} → (name : Text) → Stands t v w → Fields_stand t f g → Fields_stand t (replaced name v f) (replaced name w g)
  replaces name h end_stands = end_stands
  replaces name h (field_stands {k = k} x xs) = chosen_fields (same_text k name) (field_stands h xs) (field_stands x (replaces name h xs))

  inserts : {f g : Fields} {v w : Value} → (name : Text) → Stands t v w → Fields_stand t f g → Fields_stand t (inserted name v f) (inserted name w g)
  inserts name h end_stands = field_stands h end_stands
  inserts name h (field_stands {k = k} x xs) = chosen_fields (stands_before name k) (field_stands h (field_stands x xs)) (field_stands x (inserts name h xs))

  pub with_fields : {f g : Fields} {v w : Value} → (name : Text) → Stands t v w → Fields_stand t f g → Fields_stand t (with_field name v f) (with_field name w g)
  with_fields {f} {g} {v} {w} name h k =
      subst (λ b. Fields_stand t (with_field name v f) (elim b as (λ x. Fields) [ true ↦ replaced name w g | false ↦ inserted name w g ])) (fields_there name k) (chosen_fields (has_field name f) (replaces name h k) (inserts name h k))

  without_fields : {f g : Fields} → (name : Text) → Fields_stand t f g → Fields_stand t (without_field name f) (without_field name g)
  without_fields name end_stands = end_stands
  without_fields name (field_stands {k = k} x xs) = chosen_fields (same_text k name) xs (field_stands x (without_fields name xs))

  listings : {f g : Fields} (d e : Fields) → Fields_stand t f g → Fields_stand t d e → Fields_stand t (in_listing_order d f) (in_listing_order e g)
  listings d e end_stands h = h
  listings d e (field_stands {k = k} {v = v} {w = w} x xs) h = listings (with_field k v d) (with_field k w e) xs (with_fields k x h)

  -- ---- reads

  named_reads : {k l : Value} (read read' : Text → Member_read) → ((name : Text) → Reads_stand t (read name) (read' name)) → Stands t k l → Reads_stand t (H.at_name read k) (H.at_name read' l)
  named_reads {k} {l} read read' p h = subst (λ n. Reads_stand t (H.at_name read k) (elim n as (λ x. Member_read) [ Name_is a ↦ read' a | Refused_as f ↦ Not_there f ])) (name_keys h) (go (H.name_of_key k))
    where
      go : (n : Name_of_key) → Reads_stand t (elim n as (λ x. Member_read) [ Name_is a ↦ read a | Refused_as f ↦ Not_there f ]) (elim n as (λ x. Member_read) [ Name_is a ↦ read' a | Refused_as f ↦ Not_there f ])
      go (Name_is a) = p a
      go (Refused_as f) = not_there

  only_reads : {k l : Value} {x y : Member_read} (name : Text) → Reads_stand t x y → Stands t k l → Reads_stand t (H.only name x k) (H.only name y l)
  only_reads {k} {l} {x} {y} name r h =
      subst (λ n. Reads_stand t (H.only name x k) (elim n as (λ z. Member_read) [ Named a ↦ elim (same_text a name) as (λ z. Member_read) [ true ↦ y | false ↦ Not_there NoProperty ] | Numbered n ↦ Not_there NoProperty | Neither ↦ Not_there TypeMismatch ])) (key_kinds h) (go (H.key_kind k))
    where
      if_same : (b : Bool) → Reads_stand t (elim b as (λ z. Member_read) [ true ↦ x | false ↦ Not_there NoProperty ]) (elim b as (λ z. Member_read) [ true ↦ y | false ↦ Not_there NoProperty ])
      if_same true = r
      if_same false = not_there

      go : (n : Key_kind) → Reads_stand t (elim n as (λ z. Member_read) [ Named a ↦ elim (same_text a name) as (λ z. Member_read) [ true ↦ x | false ↦ Not_there NoProperty ] | Numbered n ↦ Not_there NoProperty | Neither ↦ Not_there TypeMismatch ])
          (elim n as (λ z. Member_read) [ Named a ↦ elim (same_text a name) as (λ z. Member_read) [ true ↦ y | false ↦ Not_there NoProperty ] | Numbered n ↦ Not_there NoProperty | Neither ↦ Not_there TypeMismatch ])
      go (Named a) = if_same (same_text a name)
      go (Numbered n) = not_there
      go Neither = not_there

  indexed_values : {all all' : List Value} → Pairwise (Stands t) all all' → (n : ℤ) → Stands t (H.at_index all n) (H.at_index all' n)
  indexed_values {all} {all'} h (pos n) = go (nat_lt n 65536)
    where
      go : (b : Bool) → Stands t (if b then nth all n else Undefined) (if b then nth all' n else Undefined)
      go true = nths n h
      go false = undefined
  indexed_values h (negsuc n) = undefined

  list_reads : {k l : Value} {all all' : List Value} (p p' : ℤ → List Loc) {q q' : List Loc} → Pairwise (Stands t) all all' → ((n : ℤ) → Pairwise (Loc_stands t) (p n) (p' n)) → Pairwise (Loc_stands t) q q' → Stands t k l →
      Reads_stand t (H.read_list all p q k) (H.read_list all' p' q' l)
  list_reads {k} {l} {all} {all'} p p' {q} {q'} hs at_place at_length h =
      subst (λ n. Reads_stand t (H.read_list all p q k) (elim n as (λ z. Member_read) [ Named a ↦ elim (same_text a (codes "length")) as (λ z. Member_read) [ true ↦ Found (Int (pos (length all'))) q' | false ↦ Not_there NoProperty ] | Numbered n ↦ Found (H.at_index all' n) (p' n) | Neither ↦ Not_there TypeMismatch ])) (key_kinds h) (go (H.key_kind k))
    where
      if_same : (b : Bool) → Reads_stand t (elim b as (λ z. Member_read) [ true ↦ Found (Int (pos (length all))) q | false ↦ Not_there NoProperty ]) (elim b as (λ z. Member_read) [ true ↦ Found (Int (pos (length all'))) q' | false ↦ Not_there NoProperty ])
      if_same true = both_found (integers (lengths hs)) at_length
      if_same false = not_there

      go : (n : Key_kind) → Reads_stand t (elim n as (λ z. Member_read) [ Named a ↦ elim (same_text a (codes "length")) as (λ z. Member_read) [ true ↦ Found (Int (pos (length all))) q | false ↦ Not_there NoProperty ] | Numbered n ↦ Found (H.at_index all n) (p n) | Neither ↦ Not_there TypeMismatch ])
          (elim n as (λ z. Member_read) [ Named a ↦ elim (same_text a (codes "length")) as (λ z. Member_read) [ true ↦ Found (Int (pos (length all'))) q' | false ↦ Not_there NoProperty ] | Numbered n ↦ Found (H.at_index all' n) (p' n) | Neither ↦ Not_there TypeMismatch ])
      go (Named a) = if_same (same_text a (codes "length"))
      go (Numbered n) = both_found (indexed_values hs n) (at_place n)
      go Neither = not_there

  one_place : {a b : ℕ} → Paired t.pairing a b → (k : Key) → Pairwise (Loc_stands t) (record { address = a; key = k } ∷ []) (record { address = b; key = k } ∷ [])
  one_place ab k = one_more (located_alike ab) no_more

  index_places : {a b : ℕ} → Paired t.pairing a b → (n : ℤ) → Pairwise (Loc_stands t) (H.index_location a n) (H.index_location b n)
  index_places {a} {b} ab (pos n) = go (nat_lt n 65536)
    where
      go : (x : Bool) → Pairwise (Loc_stands t) (if x then record { address = a; key = Index n } ∷ [] else []) (if x then record { address = b; key = Index n } ∷ [] else [])
      go true = one_place ab (Index n)
      go false = no_more
  index_places ab (negsuc n) = no_more

  object_reads : {a b : ℕ} {x y : Object} {k l : Value} → Paired t.pairing a b → Object_stands t x y → Stands t k l → Reads_stand t (H.read_object a x k) (H.read_object b y l)
  object_reads ab (plain h) k = named_reads _ _ (λ name. both_found (field_values name h) (one_place ab (Prop name))) k
  object_reads ab (props h) k = named_reads _ _ (λ name. both_found (field_values name h) (one_place ab (Prop name))) k
  object_reads ab (array h) k = list_reads _ _ (lists_of h) (index_places ab) (one_place ab Length) k
  object_reads ab (signal h) k = only_reads (codes "value") (both_found h (one_place ab (Prop (codes "value")))) k
  object_reads ab (computed h) k = only_reads (codes "value") (both_run ab h) k

  -- an object that is read, where it was made on both sides or on none
  if_made : {x y : Bool} {r s : Member_read} → x ≡ y → Reads_stand t r s → Reads_stand t (elim x as (λ z. Member_read) [ true ↦ r | false ↦ Not_there NoProperty ]) (elim y as (λ z. Member_read) [ true ↦ s | false ↦ Not_there NoProperty ])
  if_made {x} {y} {r} {s} e h = subst (λ b. Reads_stand t (elim x as (λ z. Member_read) [ true ↦ r | false ↦ Not_there NoProperty ]) (elim b as (λ z. Member_read) [ true ↦ s | false ↦ Not_there NoProperty ])) e (go x)
    where
      go : (b : Bool) → Reads_stand t (elim b as (λ z. Member_read) [ true ↦ r | false ↦ Not_there NoProperty ]) (elim b as (λ z. Member_read) [ true ↦ s | false ↦ Not_there NoProperty ])
      go true = h
      go false = not_there

  members : (apart : Apart t) {h h' : List Object} {v w k l : Value} → Heaps_stand t h h' → Stands t v w → Stands t k l → Reads_stand t (read_member h v k) (read_member h' w l)
  members apart hs (fields x) k = named_reads _ _ (λ name. both_found (field_values name x) no_more) k
  members apart hs (items x) k = list_reads _ _ (lists_of x) (λ n. no_more) no_more k
  members apart hs words k = only_reads (codes "length") (both_found int no_more) k
  members apart {h} {h'} hs (ref {a = a} {b = b} ab) k = if_made (made_alike t apart a b hs ab) (object_reads ab (hs.there a b ab) k)
  members apart hs _ k = not_there

  -- ---- whole lists

  object_lists : {x y : Object} → Object_stands t x y → Pairwise (Stands t) (object_items x) (object_items y)
  object_lists (array h) = lists_of h
  object_lists (plain h) = no_more
  object_lists (signal h) = no_more
  object_lists (computed h) = no_more
  object_lists (props h) = no_more

  list_items : {h h' : List Object} {v w : Value} → Heaps_stand t h h' → Stands t v w → Pairwise (Stands t) (items_in h v) (items_in h' w)
  list_items hs (items x) = lists_of x
  list_items hs (ref ab) = object_lists (hs.there _ _ ab)
  list_items hs _ = no_more

  indexes : {a b : ℕ} {all all' : List Value} → Paired t.pairing a b → (n : ℕ) → Pairwise (Stands t) all all' → Pairwise (Loc_stands t) (H.indexes_from a n all) (H.indexes_from b n all')
  indexes ab n no_more = no_more
  indexes ab n (one_more h hs) = one_more (located_alike ab) (indexes ab (suc n) hs)

  object_places : {a b : ℕ} {x y : Object} → Paired t.pairing a b → Object_stands t x y → Pairwise (Loc_stands t) (object_locations a x) (object_locations b y)
  object_places ab (array h) = one_more (located_alike ab) (indexes ab 0 (lists_of h))
  object_places ab (plain h) = no_more
  object_places ab (signal h) = no_more
  object_places ab (computed h) = no_more
  object_places ab (props h) = no_more

  list_places : {h h' : List Object} {v w : Value} → Heaps_stand t h h' → Stands t v w → Pairwise (Loc_stands t) (locations_in h v) (locations_in h' w)
  list_places hs (ref ab) = object_places ab (hs.there _ _ ab)
  list_places hs _ = no_more

  object_kinds : {x y : Object} → Object_stands t x y → is_array x ≡ is_array y
  object_kinds (array h) = refl
  object_kinds (plain h) = refl
  object_kinds (signal h) = refl
  object_kinds (computed h) = refl
  object_kinds (props h) = refl

  list_kinds : {h h' : List Object} {v w : Value} → Heaps_stand t h h' → Stands t v w → is_list h v ≡ is_list h' w
  list_kinds hs (ref ab) = object_kinds (hs.there _ _ ab)
  list_kinds hs _ = refl

  object_methods : {x y : Object} (name : Text) → Object_stands t x y → object_method x name ≡ object_method y name
  object_methods name (array h) = refl
  object_methods name (plain h) = refl
  object_methods name (signal h) = refl
  object_methods name (computed h) = refl
  object_methods name (props h) = refl

  methods : {h h' : List Object} {v w k l : Value} → Heaps_stand t h h' → Stands t v w → Stands t k l → method_of h v k ≡ method_of h' w l
  methods hs (items x) words = refl
  methods hs (items x) _ = refl
  methods hs (ref ab) (words {w = name}) = object_methods name (hs.there _ _ ab)
  methods hs (ref ab) _ = refl
  methods hs words words = refl
  methods hs words _ = refl
  methods hs _ _ = refl

  object_key_lists : {a b : ℕ} {x y : Object} → Paired t.pairing a b → Object_stands t x y → Both_answer (Keys_stand t) (object_keys a x) (object_keys b y)
  object_key_lists ab (plain h) = is (record { names = same_names h; locations = one_place ab Keys })
  object_key_lists ab (props h) = is (record { names = same_names h; locations = one_place ab Keys })
  object_key_lists ab (array h) = fails
  object_key_lists ab (signal h) = fails
  object_key_lists ab (computed h) = fails

  key_lists : (apart : Apart t) {h h' : List Object} {v w : Value} → Heaps_stand t h h' → Stands t v w → Both_answer (Keys_stand t) (keys_in h v) (keys_in h' w)
  key_lists apart hs (fields x) = is (record { names = same_names x; locations = no_more })
  key_lists apart {h} {h'} hs (ref {a = a} {b = b} ab) = subst (λ x. Both_answer (Keys_stand t) (keys_in h (Ref a)) (of_made x (object_keys b (object_at h' b)))) (made_alike t apart a b hs ab) (go (is_made h a))
    where
      go : (x : Bool) → Both_answer (Keys_stand t) (of_made x (object_keys a (object_at h a))) (of_made x (object_keys b (object_at h' b)))
      go true = object_key_lists ab (hs.there a b ab)
      go false = fails
  key_lists apart hs _ = fails

  -- ---- changes

  states : {x y : Object} → Object_stands t x y → W.is_state x ≡ W.is_state y
  states (plain h) = refl
  states (array h) = refl
  states (signal h) = refl
  states (computed h) = refl
  states (props h) = refl

  ways : (apart : Apart t) {h h' : List Object} {a b : ℕ} (effect : Bool) → Heaps_stand t h h' → Paired t.pairing a b → in_the_way effect h (Ref a) ≡ in_the_way effect h' (Ref b)
  ways apart {h} {h'} {a} {b} effect hs ab =
      ap₂ (λ (m : Bool) (s : Bool). elim m as (λ x. Option Fault) [ false ↦ Some NoProperty | true ↦ elim s as (λ x. Option Fault) [ false ↦ Some FixedWrite | true ↦ elim effect as (λ x. Option Fault) [ true ↦ None | false ↦ Some RenderWrite ] ] ]) (made_alike t apart a b hs ab)
      (states (hs.there a b ab))

  growns : {f g : Fields} → Fields_stand t f g → Becomings_stand t (W.grown f) (W.grown g)
  growns {f} {g} h = subst (λ n. Becomings_stand t (W.grown f) (elim (nat_le n 65536) as (λ y. Becoming) [ true ↦ Becomes (Plain g) | false ↦ Stays ListTooLong ])) (same_counts h) (go (nat_le (field_count f) 65536))
    where
      go : (x : Bool) → Becomings_stand t (elim x as (λ y. Becoming) [ true ↦ Becomes (Plain f) | false ↦ Stays ListTooLong ]) (elim x as (λ y. Becoming) [ true ↦ Becomes (Plain g) | false ↦ Stays ListTooLong ])
      go true = both_become (plain h)
      go false = both_stay

  sets : {all all' : List Value} {v w : Value} (n : ℕ) → Stands t v w → Pairwise (Stands t) all all' → Pairwise (Stands t) (set all n v) (set all' n w)
  sets n h no_more = no_more
  sets zero h (one_more k ks) = one_more h ks
  sets (suc n) h (one_more k ks) = one_more k (sets n h ks)

  index_writes : {all all' : List Value} {v w : Value} (n : ℤ) → Stands t v w → Pairwise (Stands t) all all' → Becomings_stand t (W.written_index all n v) (W.written_index all' n w)
  index_writes (negsuc n) h hs = both_stay
  index_writes {all} {all'} {v} {w} (pos n) h hs =
      subst (λ m. Becomings_stand t (W.written_index all (pos n) v) (elim (nat_lt n m) as (λ x. Becoming) [ true ↦ Becomes (Array (packed (set all' n w))) | false ↦ elim (n == m) as (λ x. Becoming) [ true ↦ W.grown_array (all' ++ w ∷ []) | false ↦ Stays IndexPastEnd ] ])) (lengths hs)
      (go (nat_lt n (length all)) (n == length all))
    where
      go : (x y : Bool) → Becomings_stand t (elim x as (λ z. Becoming) [ true ↦ Becomes (Array (packed (set all n v))) | false ↦ elim y as (λ z. Becoming) [ true ↦ W.grown_array (all ++ v ∷ []) | false ↦ Stays IndexPastEnd ] ])
          (elim x as (λ z. Becoming) [ true ↦ Becomes (Array (packed (set all' n w))) | false ↦ elim y as (λ z. Becoming) [ true ↦ W.grown_array (all' ++ w ∷ []) | false ↦ Stays IndexPastEnd ] ])
      go true y = both_become (array (packs (sets n h hs)))
      go false true = grown_arrays (appends hs (one_more h no_more))
      go false false = both_stay

  object_writes : {x y : Object} {k l v w : Value} → Object_stands t x y → Stands t k l → Stands t v w → Becomings_stand t (W.written x k v) (W.written y l w)
  object_writes {k = k} {l = l} {v = v} {w = w} (plain {f = f} {g = g} h) kk vv =
      subst (λ n. Becomings_stand t (W.written (Plain f) k v) (elim n as (λ x. Becoming) [ Name_is a ↦ W.grown (with_field a w g) | Refused_as x ↦ Stays x ])) (name_keys kk) (go (H.name_of_key k))
    where
      go : (n : Name_of_key) → Becomings_stand t (elim n as (λ x. Becoming) [ Name_is a ↦ W.grown (with_field a v f) | Refused_as x ↦ Stays x ]) (elim n as (λ x. Becoming) [ Name_is a ↦ W.grown (with_field a w g) | Refused_as x ↦ Stays x ])
      go (Name_is a) = growns (with_fields a vv h)
      go (Refused_as x) = both_stay
  object_writes {k = k} {l = l} {v = v} {w = w} (array {v = all} {w = all'} h) kk vv =
      subst (λ n. Becomings_stand t (W.written (Array all) k v) (elim n as (λ x. Becoming) [ Named a ↦ Stays NoProperty | Numbered m ↦ W.written_index (listed all') m w | Neither ↦ Stays TypeMismatch ])) (key_kinds kk) (go (H.key_kind k))
    where
      go : (n : Key_kind) → Becomings_stand t (elim n as (λ x. Becoming) [ Named a ↦ Stays NoProperty | Numbered m ↦ W.written_index (listed all) m v | Neither ↦ Stays TypeMismatch ]) (elim n as (λ x. Becoming) [ Named a ↦ Stays NoProperty | Numbered m ↦ W.written_index (listed all') m w | Neither ↦ Stays TypeMismatch ])
      go (Named a) = both_stay
      go (Numbered m) = index_writes m vv (lists_of h)
      go Neither = both_stay
  object_writes {k = k} {l = l} {v = v} {w = w} (signal {v = s} {w = s'} h) kk vv =
      subst (λ n. Becomings_stand t (W.written (Signal s) k v) (elim n as (λ x. Becoming) [ Named a ↦ elim (same_text a (codes "value")) as (λ x. Becoming) [ true ↦ Becomes (Signal w) | false ↦ Stays NoProperty ] | Numbered m ↦ Stays NoProperty | Neither ↦ Stays TypeMismatch ])) (key_kinds kk) (go (H.key_kind k))
    where
      if_same : (b : Bool) → Becomings_stand t (elim b as (λ x. Becoming) [ true ↦ Becomes (Signal v) | false ↦ Stays NoProperty ]) (elim b as (λ x. Becoming) [ true ↦ Becomes (Signal w) | false ↦ Stays NoProperty ])
      if_same true = both_become (signal vv)
      if_same false = both_stay

      go : (n : Key_kind) → Becomings_stand t (elim n as (λ x. Becoming) [ Named a ↦ elim (same_text a (codes "value")) as (λ x. Becoming) [ true ↦ Becomes (Signal v) | false ↦ Stays NoProperty ] | Numbered m ↦ Stays NoProperty | Neither ↦ Stays TypeMismatch ])
          (elim n as (λ x. Becoming) [ Named a ↦ elim (same_text a (codes "value")) as (λ x. Becoming) [ true ↦ Becomes (Signal w) | false ↦ Stays NoProperty ] | Numbered m ↦ Stays NoProperty | Neither ↦ Stays TypeMismatch ])
      go (Named a) = if_same (same_text a (codes "value"))
      go (Numbered m) = both_stay
      go Neither = both_stay
  object_writes (computed h) kk vv = both_stay
  object_writes (props h) kk vv = both_stay

  object_deletes : {x y : Object} {k l : Value} → Object_stands t x y → Stands t k l → Becomings_stand t (W.deleted x k) (W.deleted y l)
  object_deletes {x} {y} {k} {l} h kk =
      subst (λ n. Becomings_stand t (W.deleted x k) (elim n as (λ z. Becoming) [ Refused_as f ↦ Stays f | Name_is a ↦ elim y as (λ z. Becoming) [ Plain fs ↦ Becomes (Plain (without_field a fs)) | _ ↦ Stays TypeMismatch ] ])) (name_keys kk) (go (H.name_of_key k) h)
    where
      of_object : {x y : Object} (a : Text) → Object_stands t x y → Becomings_stand t (elim x as (λ z. Becoming) [ Plain fs ↦ Becomes (Plain (without_field a fs)) | _ ↦ Stays TypeMismatch ]) (elim y as (λ z. Becoming) [ Plain fs ↦ Becomes (Plain (without_field a fs)) | _ ↦ Stays TypeMismatch ])
      of_object a (plain h) = both_become (plain (without_fields a h))
      of_object a (array h) = both_stay
      of_object a (signal h) = both_stay
      of_object a (computed h) = both_stay
      of_object a (props h) = both_stay

      go : (n : Name_of_key) → Object_stands t x y → Becomings_stand t (elim n as (λ z. Becoming) [ Refused_as f ↦ Stays f | Name_is a ↦ elim x as (λ z. Becoming) [ Plain fs ↦ Becomes (Plain (without_field a fs)) | _ ↦ Stays TypeMismatch ] ]) (elim n as (λ z. Becoming) [ Refused_as f ↦ Stays f | Name_is a ↦ elim y as (λ z. Becoming) [ Plain fs ↦ Becomes (Plain (without_field a fs)) | _ ↦ Stays TypeMismatch ] ])
      go (Name_is a) h = of_object a h
      go (Refused_as f) h = both_stay

module _ (t : Ties) (apart : Apart t) (second : Site → List Text) (second_captures : (site : Site) → t.sites.stays site ≡ true → second (t.sites.other site) ≡ t.sites.captures site) where
  -- ---- what a change logs

  unless_sames : {v v' w w' : Value} (key : Key) → Stands t v v' → Stands t w w' → G.unless_same t.sites.captures v w key ≡ G.unless_same second v' w' key
  unless_sames key h k = ap (λ b. elim b as (λ x. List Key) [ true ↦ [] | false ↦ key ∷ [] ]) (sames t apart second second_captures h k)

  changed_places : {all all' more more' : List Value} (n : ℕ) → Pairwise (Stands t) all all' → Pairwise (Stands t) more more' → G.changed_indexes t.sites.captures n all more ≡ G.changed_indexes second n all' more'
  changed_places n no_more no_more = refl
  changed_places n no_more (one_more k ks) = ap₂ ◌++◌ (unless_sames (Index n) undefined k) (changed_places (suc n) no_more ks)
  changed_places n (one_more h hs) no_more = ap₂ ◌++◌ (unless_sames (Index n) h undefined) (changed_places (suc n) hs no_more)
  changed_places n (one_more h hs) (one_more k ks) = ap₂ ◌++◌ (unless_sames (Index n) h k) (changed_places (suc n) hs ks)

  changed_props : {f f' g g' : Fields} → Fields_stand t f f' → Fields_stand t g g' → G.changed_properties t.sites.captures f g ≡ G.changed_properties second f' g'
  changed_props end_stands k = refl
  changed_props (field_stands {k = n} h hs) k = ap₂ ◌++◌ (unless_sames (Prop n) h (field_values n k)) (changed_props hs k)

  added_props : {f f' g g' : Fields} → Fields_stand t f f' → Fields_stand t g g' → G.added_properties t.sites.captures f g ≡ G.added_properties second f' g'
  added_props h end_stands = refl
  added_props h (field_stands {k = n} k ks) =
      ap₂ ◌++◌ (ap₂ (λ b x. elim b as (λ y. List Key) [ true ↦ [] | false ↦ x ]) (fields_there n h) (unless_sames (Prop n) undefined k)) (added_props h ks)

  counted : {m m' n n' : ℕ} (key : Key) → m ≡ m' → n ≡ n' → (elim (m == n) as (λ x. List Key) [ true ↦ [] | false ↦ key ∷ [] ]) ≡ (elim (m' == n') as (λ x. List Key) [ true ↦ [] | false ↦ key ∷ [] ])
  counted key p q = λ i. elim (p i == q i) as (λ x. List Key) [ true ↦ [] | false ↦ key ∷ [] ]

  changes : {x x' y y' : Object} → Object_stands t x x' → Object_stands t y y' → changed_in t.sites.captures x y ≡ changed_in second x' y'
  changes (plain h) (plain k) = ap₂ ◌++◌ (changed_props h k) (ap₂ ◌++◌ (added_props h k) (counted Keys (same_counts h) (same_counts k)))
  changes (plain h) _ = refl
  changes (array h) (array k) = ap₂ ◌++◌ (changed_places 0 (lists_of h) (lists_of k)) (counted Length (lengths (lists_of h)) (lengths (lists_of k)))
  changes (array h) _ = refl
  changes (signal h) (signal k) = unless_sames (Prop (codes "value")) h k
  changes (signal h) _ = refl
  changes _ _ = refl

module _ {t : Site_ties} where
  element_kinds : {x y : Shown} → Shown_as t x y → J.is_element x ≡ J.is_element y
  element_kinds an_element = refl
  element_kinds _ = refl

  slot_shown : {a b : Text} → a ≡ b → Shown_as t (Slot a) (Slot b)
  slot_shown {a} {b} e = subst (λ x. Shown_as t (Slot a) (Slot x)) e a_slot

module _ {t : Ties} where
  -- ---- computeds under way

  module _ (apart : Apart t) where
    runnings : {a b : ℕ} {all all' : List ℕ} → Paired t.pairing a b → Pairwise (Paired t.pairing) all all' → is_running a all ≡ is_running b all'
    runnings ab no_more = refl
    runnings {a} {b} ab (one_more {a = a'} {b = b'} h hs) =
        ap₂ (λ x y. x || y) (addresses a a' b b' (λ e. apart.one_right a b b' ab (subst (λ x. Paired t.pairing x b') (sym e) h)) (λ e. apart.one_left a a' b ab (subst (λ x. Paired t.pairing a' x) (sym e) h))) (runnings ab hs)

  -- ---- JSX values

  key_texts : {v w : Value} → Stands t v w → J.key_text v ≡ J.key_text w
  key_texts undefined = refl
  key_texts _ = refl

  key_kinds_of : {v w : Value} → Stands t v w → J.is_key_value v ≡ J.is_key_value w
  key_kinds_of undefined = refl
  key_kinds_of _ = refl

  words_ofs : {v w : Value} → Stands t v w → J.words_of v ≡ J.words_of w
  words_ofs undefined = refl
  words_ofs _ = refl

  keys_of : {v w : Value} → Stands t v w → J.key_of v ≡ J.key_of w
  keys_of undefined = refl
  keys_of _ = refl

  mutual
    pub child_faults : {v w : Value} → Stands t v w → J.child_fault v ≡ J.child_fault w
    child_faults (items h) = sequence_faults h []
    child_faults _ = refl

    sequence_faults : {v w : Values} → All_stand t v w → (keys : List Text) → J.sequence_fault v keys ≡ J.sequence_fault w keys
    sequence_faults none_stand keys = refl
    sequence_faults (item_stands {v = v} {w = w} {rest = rest} {more = more} h hs) keys =
        child_step keys (J.child_fault v) (J.child_fault w) (J.key_of v) (J.key_of w) (child_faults h) (keys_of h) (J.sequence_fault rest keys) (J.sequence_fault more keys) (λ k. J.sequence_fault rest (k ∷ keys)) (λ k. J.sequence_fault more (k ∷ keys)) (sequence_faults hs keys) (λ k. sequence_faults hs (k ∷ keys))

  primitives : {v w : Value} → Stands t v w → is_primitive v ≡ is_primitive w
  primitives h = ap (λ x. elim x as (λ y. Bool) [ Is a ↦ true | Fails f ↦ false ]) (texts h)

  attribute_faults : {v w : Value} (element : Bool) (name : Text) → Stands t v w → J.attribute_fault element name v ≡ J.attribute_fault element name w
  attribute_faults element name h =
      λ i. elim (same_text name (codes "key")) as (λ x. Option Fault) [ true ↦ J.unless (key_kinds_of h i) NotText | false ↦ elim element as (λ x. Option Fault) [ true ↦ elim (ends_in_dollar name) as (λ x. Option Fault) [ true ↦ J.unless (functions h i || nullishes h i) NotCallable | false ↦ J.unless (primitives h i) NotText ] | false ↦ J.unless (not (is_forbidden name)) NoProperty ] ]

  all_attribute_faults : {f g : Fields} (element : Bool) → Fields_stand t f g → J.attributes_fault element f ≡ J.attributes_fault element g
  all_attribute_faults element end_stands = refl
  all_attribute_faults element (field_stands {k = name} h hs) = ap₂ J.then_if (attribute_faults element name h) (all_attribute_faults element hs)

  all_markup_faults : {x y : Shown} {f g : Fields} {all all' : Values} → Shown_as t.sites x y → Fields_stand t f g → All_stand t all all' → markup_fault x f all ≡ markup_fault y g all'
  all_markup_faults {x} {y} {f} {g} s h k = ap₂ J.then_if (subst (λ e. J.attributes_fault (J.is_element x) f ≡ J.attributes_fault e g) (element_kinds s) (all_attribute_faults (J.is_element x) h)) (sequence_faults k [])

  keys_among : {f g : Fields} → Fields_stand t f g → J.key_among f ≡ J.key_among g
  keys_among end_stands = refl
  keys_among (field_stands {k = name} h hs) = ap₂ (λ x y. elim (same_text name (codes "key")) as (λ z. Option Text) [ true ↦ x | false ↦ y ]) (key_texts h) (keys_among hs)

  slots_among : {f g : Fields} → Fields_stand t f g → J.slot_among f ≡ J.slot_among g
  slots_among end_stands = refl
  slots_among (field_stands {k = name} h hs) = ap₂ (λ x y. elim (same_text name (codes "q:slot")) as (λ z. Text) [ true ↦ x | false ↦ y ]) (words_ofs h) (slots_among hs)

  names_among : {f g : Fields} → Fields_stand t f g → J.name_among f ≡ J.name_among g
  names_among end_stands = refl
  names_among (field_stands {k = name} h hs) = ap₂ (λ x y. elim (same_text name (codes "name")) as (λ z. Text) [ true ↦ x | false ↦ y ]) (words_ofs h) (names_among hs)

  shown_alike : {f g : Fields} → Fields_stand t f g → Fields_stand t (J.shown_attributes f) (J.shown_attributes g)
  shown_alike end_stands = end_stands
  shown_alike (field_stands {k = name} h hs) = chosen_fields (is_among name (codes "key" ∷ codes "q:slot" ∷ [])) (shown_alike hs) (field_stands h (shown_alike hs))

  elems : {x y : Shown} {k k' : Option Text} {s s' : Text} {f g : Fields} {all all' : Values} → Shown_as t.sites x y → k ≡ k' → s ≡ s' → Fields_stand t f g → All_stand t all all' → Stands t (Elem x k s f all) (Elem y k' s' g all')
  elems {x} {y} {k} {k'} {s} {s'} {f} {g} {all} {all'} h p q hs ks = subst (λ z. Stands t (Elem x k s f all) (Elem y z s' g all')) p (subst (λ z. Stands t (Elem x k s f all) (Elem y k z g all')) q (elem h hs ks))

  elements : {x y : Shown} {f g : Fields} {all all' : Values} → Shown_as t.sites x y → Fields_stand t f g → All_stand t all all' → Stands t (element x f all) (element y g all')
  elements a_slot h k = elems (slot_shown (names_among h)) refl refl end_stands none_stand
  elements an_element h k = elems an_element (keys_among h) (slots_among h) (shown_alike h) k
  elements a_fragment h k = elems a_fragment (keys_among h) (slots_among h) (shown_alike h) k
  elements (a_component l c e) h k = elems (a_component l c e) (keys_among h) (slots_among h) (shown_alike h) k
  elements (a_symbol l c) h k = elems (a_symbol l c) (keys_among h) (slots_among h) (shown_alike h) k
  elements (own_symbol l c) h k = elems (own_symbol l c) (keys_among h) (slots_among h) (shown_alike h) k

-- all that the laws ask of values
pub all_facts : (t : Ties) → Apart t → (second : Site → List Text) → ((site : Site) → t.sites.stays site ≡ true → second (t.sites.other site) ≡ t.sites.captures site) → Facts t t.sites.captures second
all_facts t apart second second_captures = record {
  truths = truths;
  functions = functions;
  texts = texts;
  joins = joins;
  weights = weights t second second_captures;
  depths = depths t second second_captures;
  decided = decided;
  binaries = binaries apart;
  unaries = unaries;
  steps = steps;
  truncates = truncates;
  marks = marks;
  methods = methods;
  items = list_items;
  locations = list_places;
  lists = list_kinds;
  keys = key_lists apart;
  members = members apart;
  ways = ways apart;
  writes = λ h k v. object_writes h k v;
  deletes = λ h k. object_deletes h k;
  changes = changes t apart second second_captures;
  under_way = runnings apart;
  listing = λ h. listings end end h end_stands;
  markup_faults = all_markup_faults;
  elements = elements;
}
