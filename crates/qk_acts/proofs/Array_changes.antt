-- The methods that change an array, put together.
use Rattle.std.proofs.Common.{◌≡◌, ◌==◌, ◌≤◌, nat_le, arith, length-append, ℕ, ◌+◌, ◌-◌, suc, ℤ, pos, Bool, true, false, List, [], ◌∷◌, ◌++◌, length, map, take, drop, Some, None, Result, Ok, Err, refl, ap, ◌∙◌, sym, subst}
use Rattle.std.proofs.lemmas.Bool.{false≢true, leb-true, eqb-true}
use Rattle.std.proofs.lemmas.Option.{some_pair_parts}
use Rattle.qk_meaning.specs.Value as M
use Rattle.qk_meaning.specs.World as W
use Rattle.qk_meaning.specs.World.{Loc}
use Rattle.qk_meaning.specs.Fault as F
use Rattle.qk_meaning.specs.Parts.{packed, nth}
use Rattle.qk_meaning.specs.Heap.{object_at}
use Rattle.qk_meaning.specs.Writing.{Becoming, Becomes, Stays, address_of, grown_array, pushed_on, items_left, cut_place, cut_count}
use Rattle.qk_meaning.specs.Doing.{Doing, Gives, after, give, fault, chosen}
use Rattle.qk_meaning.specs.Running.{Running, locations_read}
use Rattle.qk_meaning.specs.Setting.{Setting, captures}
use Rattle.qk_meaning.specs.References.{changed}
use Rattle.qk_meaning.specs.Methods.{object_items, object_locations, is_array, is_list, items_in, items_taken, all_items, pushed, popped, spliced, cut_out}
use Rattle.qk_meaning.specs.Making.{made_list}
use Rattle.qk_value.specs.declared.fault.Fault.TheVariants.{TypeMismatch}
use Rattle.qk_value.specs.declared.value.Addr.{Addr}
use Rattle.qk_value.specs.declared.value.Value.{Value}
use Rattle.qk_heap.specs.declared.object.Object.{Object}
use Rattle.qk_heap.specs.declared.fault.HeapStop.{HeapStop}
use Rattle.qk_heap.specs.Told.{Told, Hears, all_read}
use Rattle.qk_heap.specs.Seen.{heap_seen}
use Rattle.qk_heap.specs.Cutting.{spliced_from, cut_from, start_of, count_of}
use Rattle.qk_heap.specs.Becoming.{HeapBecame, Refuses, AtFault}
use Rattle.qk_code.specs.declared.mode.Mode.{Mode}
use Rattle.qk_code.specs.declared.stop.Stop.{Stop}
use Rattle.qk_code.specs.declared.stop.Stop.TheVariants.{Fault}
use Rattle.qk_code.specs.Stops.{stop_of}
use Rattle.qk_code.specs.Modes.{mode_seen}
use Rattle.qk_making.specs.Acting.{Acts, Makes, seen_in}
use Rattle.qk_making.proofs.Acting.{acts_then, acts_err, acts_same, acts_made, acts_gives, acts_faults, acts_reads}
use Rattle.qk_acts.specs.Ways.{WayTo, only_of, integers_in}
use Rattle.qk_acts.proofs.Changing.{seen_at, acts_turned, acts_kept}

-- ---- what calls are given

pub only_is : {A : Type 0} (all : List A) (a : A) → only_of all ≡ Some a → all ≡ a ∷ []
only_is [] a e = cc
only_is (b ∷ []) a e = cc
only_is (b ∷ (c ∷ rest)) a e = cc

pub is_none : {A : Type 0} (all : List A) → true ≡ (length all == 0) → all ≡ []
is_none [] e = refl
is_none (a ∷ rest) e = let h : suc (length rest) ≡ 0 = eqb-true (suc (length rest)) 0 (sym e) in absurd (omega (arith, h))

pub not_none : {A : Type 0} (all : List A) → false ≡ (length all == 0) → all ≡ [] → ⊥
not_none all e none = false≢true (e ∙ ap (λ l. length l == 0) none)

module _ (here : Setting) (v : M.Value) where
  pub not_pushed : (arguments : List Value) → only_of arguments ≡ None → pushed here v (map (seen_in here) arguments) ≡ fault F.TypeMismatch
  not_pushed [] e = refl
  not_pushed (a ∷ []) e = cc
  not_pushed (a ∷ (b ∷ rest)) e = refl

  pub not_popped : (arguments : List Value) → (arguments ≡ [] → ⊥) → popped here v (map (seen_in here) arguments) ≡ fault F.TypeMismatch
  not_popped [] other = absurd (other refl)
  not_popped (a ∷ rest) other = refl

  pub not_spliced : (arguments : List M.Value) → integers_in arguments ≡ None → spliced here v arguments ≡ fault F.TypeMismatch
  not_spliced (M.Int a ∷ (M.Int b ∷ [])) e = cc
  not_spliced _ e = refl

pub two_are : (arguments : List M.Value) (a b : ℤ) → integers_in arguments ≡ Some (a, b) → arguments ≡ M.Int a ∷ (M.Int b ∷ [])
two_are (M.Int x ∷ (M.Int y ∷ [])) a b e = let same = some_pair_parts x a y b e in rw (same.0, same.1) refl
two_are _ a b e = cc

-- ---- changes of an array, and of what is none

array_pushed : (o : W.Object) (w : M.Value) → is_array o ≡ true → pushed_on w o ≡ grown_array (object_items o ++ w ∷ [])
array_pushed (W.Array all) w e = refl
array_pushed (W.Plain fields) w e = absurd (false≢true e)
array_pushed (W.Signal v) w e = absurd (false≢true e)
array_pushed (W.Computed f) w e = absurd (false≢true e)
array_pushed (W.Props fields) w e = absurd (false≢true e)

pub other_pushed : (o : W.Object) (w : M.Value) → is_array o ≡ false → pushed_on w o ≡ Stays F.TypeMismatch
other_pushed (W.Array all) w e = absurd (false≢true (sym e))
other_pushed (W.Plain fields) w e = refl
other_pushed (W.Signal v) w e = refl
other_pushed (W.Computed f) w e = refl
other_pushed (W.Props fields) w e = refl

array_left : (o : W.Object) (f : List M.Value → List M.Value) → is_array o ≡ true → items_left f o ≡ Becomes (W.Array (packed (f (object_items o))))
array_left (W.Array all) f e = refl
array_left (W.Plain fields) f e = absurd (false≢true e)
array_left (W.Signal v) f e = absurd (false≢true e)
array_left (W.Computed g) f e = absurd (false≢true e)
array_left (W.Props fields) f e = absurd (false≢true e)

module _ (here : Setting) (mode : Mode) (mode_is : here.mode ≡ mode_seen mode) (heap : List Object) (v : Value) (a : Addr) (way : WayTo mode heap v (Ok a)) where
  abbrev objects : List W.Object
  objects = heap_seen (captures here) heap

  -- the object that is changed
  abbrev there : W.Object
  there = object_at objects a.0

  is_there : seen_in here v ≡ M.Ref a.0
  is_there = seen_at mode heap v a way (captures here)

  items_there : items_in objects (seen_in here v) ≡ object_items there
  items_there = ap (items_in objects) is_there

  module _ {X : Type 0} (stands_for : X → List Told → Type 0) (before later : X) where
    -- ---- one item more

    pub acts_pushed : (w x : Value) (arguments : List Value) (new : List Object) (r : Result Value Stop) (n : ℕ) (k : ℤ) → r ≡ Ok (Value.Int k) → k ≡ pos n → n ≡ suc (length (object_items there)) → only_of arguments ≡ Some w → x ≡ w → is_array there ≡ true
        → HeapBecame stands_for (captures here) a.0 (grown_array (object_items there ++ seen_in here x ∷ [])) heap new before later
        → Acts (seen_in here) (pushed here (seen_in here v) (map (seen_in here) arguments)) objects (stands_for before) r (heap_seen (captures here) new) (stands_for later)
    acts_pushed w x arguments new r n k is number count given shared array h =
        rw (only_is arguments w given) (acts_same (seen_in here) (λ s. after (changed here (address_of (seen_in here v)) (pushed_on (seen_in here w)) s) (λ u. give (M.Int (pos (suc (length (items_in objects (seen_in here v)))))))) _ objects (heap_seen (captures here) new) (stands_for before) (stands_for later) r
        (λ s same. ap (λ x. after (changed here (address_of (seen_in here v)) (pushed_on (seen_in here w)) s) (λ u. give (M.Int (pos (suc (length (items_in x (seen_in here v)))))))) (sym same))
        (acts_then (λ (u : Unit {0}). u) (seen_in here) (changed here (address_of (seen_in here v)) (pushed_on (seen_in here w))) (λ u. give (M.Int (pos (suc (length (items_in objects (seen_in here v))))))) objects (heap_seen (captures here) new) (heap_seen (captures here) new) (stands_for before) (stands_for later) (stands_for later) tt r
        (acts_turned here mode mode_is heap v stands_for before later a (pushed_on (seen_in here w)) new way (subst (λ b. HeapBecame stands_for (captures here) a.0 b heap new before later) (ap (λ y. grown_array (object_items there ++ seen_in here y ∷ [])) shared ∙ sym (array_pushed there (seen_in here w) array)) h))
        (acts_gives (seen_in here) _ (heap_seen (captures here) new) (stands_for later) r (Value.Int k) is (λ s same. ap (λ i. Gives (M.Int i) s) (ap (λ all. pos (suc (length all))) items_there ∙ ap pos (sym count) ∙ sym number)))))

    -- it is refused, and the heap stays
    pub acts_unpushed : (w : Value) (arguments : List Value) (new : List Object) (r : Result Value Stop) (e : HeapStop) → r ≡ Err (stop_of e) → new ≡ heap → only_of arguments ≡ Some w
        → Refuses e (pushed_on (seen_in here w) there) → AtFault e (later ≡ before)
        → Acts (seen_in here) (pushed here (seen_in here v) (map (seen_in here) arguments)) objects (stands_for before) r (heap_seen (captures here) new) (stands_for later)
    acts_unpushed w arguments new r e stopped stays given refuses silent =
        rw (only_is arguments w given) (acts_same (seen_in here) (λ s. after (changed here (address_of (seen_in here v)) (pushed_on (seen_in here w)) s) (λ u. give (M.Int (pos (suc (length (items_in objects (seen_in here v)))))))) _ objects (heap_seen (captures here) new) (stands_for before) (stands_for later) r
        (λ s same. ap (λ x. after (changed here (address_of (seen_in here v)) (pushed_on (seen_in here w)) s) (λ u. give (M.Int (pos (suc (length (items_in x (seen_in here v)))))))) (sym same))
        (acts_err {A = Unit {0}} (λ u. u) (seen_in here) (changed here (address_of (seen_in here v)) (pushed_on (seen_in here w))) (λ u. give (M.Int (pos (suc (length (items_in objects (seen_in here v))))))) objects (heap_seen (captures here) new) (stands_for before) (stands_for later) r (stop_of e) stopped
        (acts_kept here mode mode_is heap v (λ u. u) stands_for before later a (pushed_on (seen_in here w)) new (Err (stop_of e)) e refl stays way refuses silent)))

    -- the array is full
    pub acts_full : (w x : Value) (arguments : List Value) (new : List Object) (r : Result Value Stop) (e : HeapStop) → r ≡ Err (stop_of e) → new ≡ heap → only_of arguments ≡ Some w → x ≡ w → is_array there ≡ true
        → Refuses e (grown_array (object_items there ++ seen_in here x ∷ [])) → AtFault e (later ≡ before)
        → Acts (seen_in here) (pushed here (seen_in here v) (map (seen_in here) arguments)) objects (stands_for before) r (heap_seen (captures here) new) (stands_for later)
    acts_full w x arguments new r e stopped stays given same array refuses silent =
        acts_unpushed w arguments new r e stopped stays given (subst (Refuses e) (ap (λ y. grown_array (object_items there ++ seen_in here y ∷ [])) same ∙ sym (array_pushed there (seen_in here w) array)) refuses) silent

    -- ---- an array is read whole

    pub acts_whole : is_array there ≡ true → Hears stands_for before (all_read (object_locations a.0 there)) later
        → Acts (λ (u : Unit {0}). object_items there) (all_items (seen_in here v)) objects (stands_for before) (Ok tt) objects (stands_for later)
    acts_whole array hears =
        subst (λ w. Acts (λ (u : Unit {0}). object_items there) (all_items w) objects (stands_for before) (Ok tt) objects (stands_for later)) (sym is_there)
        (acts_same (λ (u : Unit {0}). object_items there) (items_taken objects (M.Ref a.0)) (all_items (M.Ref a.0)) objects objects (stands_for before) (stands_for later) (Ok tt)
        (λ s same. sym (ap (λ x. chosen (is_list x (M.Ref a.0)) (items_taken x (M.Ref a.0)) (fault F.TypeMismatch) s) same ∙ ap (λ b. chosen b (items_taken objects (M.Ref a.0)) (fault F.TypeMismatch) s) array))
        (acts_then (λ (u : Unit {0}). u) (λ (u : Unit {0}). object_items there) (locations_read (object_locations a.0 there)) (λ u. give (object_items there)) objects objects objects (stands_for before) (stands_for later) (stands_for later) tt (Ok tt)
        (acts_reads (object_locations a.0 there) objects (stands_for before) (stands_for later) hears)
        (acts_gives (λ (u : Unit {0}). object_items there) (give (object_items there)) objects (stands_for later) (Ok tt) tt refl (λ s same. refl))))

  -- of what is no array there are no items
  pub acts_no_items : (next : List M.Value → Doing Running M.Value) (told : List Told → Type 0) (r : Result Value Stop) → r ≡ Err (Fault TypeMismatch) → is_array there ≡ false
      → Acts (seen_in here) (λ s. after (all_items (seen_in here v) s) next) objects told r objects told
  acts_no_items next told r stopped other =
      acts_faults (seen_in here) _ objects told r TypeMismatch stopped
      (λ s same. ap (λ w. after (all_items w s) next) is_there
      ∙ ap (λ x. after (chosen (is_list x (M.Ref a.0)) (items_taken x (M.Ref a.0)) (fault F.TypeMismatch) s) next) same
      ∙ ap (λ b. after (chosen b (items_taken objects (M.Ref a.0)) (fault F.TypeMismatch) s) next) other)

  pub acts_not_popped : (told : List Told → Type 0) (r : Result Value Stop) (arguments : List Value) → r ≡ Err (Fault TypeMismatch) → arguments ≡ [] → is_array there ≡ false
      → Acts (seen_in here) (popped here (seen_in here v) (map (seen_in here) arguments)) objects told r objects told
  acts_not_popped told r arguments stopped none other = rw none (acts_no_items (λ all s. after (changed here (address_of (seen_in here v)) (items_left (λ all. take (length all - 1) all)) s) (λ u. give (nth all (length all - 1)))) told r stopped other)

  pub acts_not_spliced : (told : List Told → Type 0) (r : Result Value Stop) (arguments : List Value) (start count : ℤ) → r ≡ Err (Fault TypeMismatch) → integers_in (map (seen_in here) arguments) ≡ Some (start, count) → is_array there ≡ false
      → Acts (seen_in here) (spliced here (seen_in here v) (map (seen_in here) arguments)) objects told r objects told
  acts_not_spliced told r arguments start count stopped two other =
      rw (two_are (map (seen_in here) arguments) start count two) (acts_no_items (λ all. let from = cut_place (length all) start in cut_out here (seen_in here v) all from (from + cut_count (length all) from count)) told r stopped other)

  module _ {X : Type 0} (stands_for : X → List Told → Type 0) (before amid later : X) (new : List Object) (array : is_array there ≡ true) (whole : Hears stands_for before (all_read (object_locations a.0 there)) amid) where
    -- ---- items go

    -- some are left, and something comes behind
    acts_left_so : (f : List M.Value → List M.Value) (next : List M.Value → Doing Running M.Value) (r : Result Value Stop) (after' : List W.Object) (told' : List Told → Type 0)
        → HeapBecame stands_for (captures here) a.0 (Becomes (W.Array (packed (f (object_items there))))) heap new amid later
        → Acts (seen_in here) (next (object_items there)) (heap_seen (captures here) new) (stands_for later) r after' told'
        → Acts (seen_in here) (λ s. after (all_items (seen_in here v) s) (λ all t. after (changed here (address_of (seen_in here v)) (items_left f) t) (λ u. next all))) objects (stands_for before) r after' told'
    acts_left_so f next r after' told' h k =
        acts_then (λ (u : Unit {0}). object_items there) (seen_in here) (all_items (seen_in here v)) (λ all t. after (changed here (address_of (seen_in here v)) (items_left f) t) (λ u. next all)) objects objects after' (stands_for before) (stands_for amid) told' tt r
        (acts_whole stands_for before amid array whole)
        (acts_then (λ (u : Unit {0}). u) (seen_in here) (changed here (address_of (seen_in here v)) (items_left f)) (λ u. next (object_items there)) objects (heap_seen (captures here) new) after' (stands_for amid) (stands_for later) told' tt r
        (acts_turned here mode mode_is heap v stands_for amid later a (items_left f) new way (subst (λ b. HeapBecame stands_for (captures here) a.0 b heap new amid later) (sym (array_left there f array)) h))
        k)

    -- the last goes
    pub acts_popped : (w : Value) (arguments : List Value) (r : Result Value Stop) → r ≡ Ok w → arguments ≡ []
        → HeapBecame stands_for (captures here) a.0 (Becomes (W.Array (packed (take (length (object_items there) - 1) (object_items there))))) heap new amid later
        → seen_in here w ≡ nth (object_items there) (length (object_items there) - 1)
        → Acts (seen_in here) (popped here (seen_in here v) (map (seen_in here) arguments)) objects (stands_for before) r (heap_seen (captures here) new) (stands_for later)
    acts_popped w arguments r is none h given =
        rw none (acts_left_so (λ all. take (length all - 1) all) (λ all. give (nth all (length all - 1))) r (heap_seen (captures here) new) (stands_for later) h
        (acts_gives (seen_in here) _ (heap_seen (captures here) new) (stands_for later) r w is (λ s same. ap (λ x. Gives x s) (sym given))))

    -- items go from a place on, and are given in a new list
    pub acts_spliced : (start count : ℤ) (cut : List Value) (arguments : List Value) (r : Result Value Stop) (made : List Object) → integers_in (map (seen_in here) arguments) ≡ Some (start, count)
        → HeapBecame stands_for (captures here) a.0 (spliced_from (object_items there) start count) heap new amid later
        → map (seen_in here) cut ≡ cut_from (object_items there) start count
        → Makes (seen_in here) (made_list here (map (seen_in here) cut)) (heap_seen (captures here) new) r (heap_seen (captures here) made)
        → Acts (seen_in here) (spliced here (seen_in here v) (map (seen_in here) arguments)) objects (stands_for before) r (heap_seen (captures here) made) (stands_for later)
    acts_spliced start count cut arguments r made two h given makes =
        let left : List M.Value → List M.Value = λ all. take (start_of (object_items there) start) all ++ drop (start_of (object_items there) start + count_of (object_items there) start count) all in
        rw (two_are (map (seen_in here) arguments) start count two) (acts_then (λ (u : Unit {0}). object_items there) (seen_in here) (all_items (seen_in here v)) (λ all. let from = cut_place (length all) start in cut_out here (seen_in here v) all from (from + cut_count (length all) from count)) objects objects (heap_seen (captures here) made) (stands_for before) (stands_for amid) (stands_for later) tt r
        (acts_whole stands_for before amid array whole)
        (acts_then (λ (u : Unit {0}). u) (seen_in here) (changed here (address_of (seen_in here v)) (items_left left)) (λ u. made_list here (cut_from (object_items there) start count)) objects (heap_seen (captures here) new) (heap_seen (captures here) made) (stands_for amid) (stands_for later) (stands_for later) tt r
        (acts_turned here mode mode_is heap v stands_for amid later a (items_left left) new way (subst (λ b. HeapBecame stands_for (captures here) a.0 b heap new amid later) (sym (array_left there left array)) h))
        (acts_made (seen_in here) (made_list here (cut_from (object_items there) start count)) (heap_seen (captures here) new) (heap_seen (captures here) made) (stands_for later) r
        (subst (λ all. Makes (seen_in here) (made_list here all) (heap_seen (captures here) new) r (heap_seen (captures here) made)) given makes))))

-- ---- how long an array may be

grown_few : (all : List M.Value) (o : W.Object) → grown_array all ≡ Becomes o → length all ≤ 65536
grown_few all o e = by (nat_le (length all) 65536) refl e
  where
    by : (b : Bool) → nat_le (length all) 65536 ≡ b → elim b as (λ x. Becoming) [ true ↦ Becomes (W.Array (packed all)) | false ↦ Stays F.ListTooLong ] ≡ Becomes o → length all ≤ 65536
    by true k e = leb-true (length all) 65536 k
    by false k e = cc

pub few_pushed : (all : List M.Value) (w : M.Value) (o : W.Object) (n : ℕ) → grown_array (all ++ w ∷ []) ≡ Becomes o → n ≡ suc (length all) → n ≤ 65536
few_pushed all w o n e count = let few : length (all ++ w ∷ []) ≤ 65536 = grown_few (all ++ w ∷ []) o e in omega (arith, few, count, length-append all (w ∷ []))
