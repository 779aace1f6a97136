-- The items of lists and arrays, as they are taken.
use Rattle.std.proofs.Common.{◌≡◌, ◌<◌, arith, ℕ, zero, suc, List, [], ◌∷◌, length, map, slice_get, Bool, true, false, Option, Some, None, Result, Ok, Err, refl, ap, ◌∙◌, sym, subst}
use Rattle.std.proofs.lemmas.List.{append-nil}
use Rattle.qk_ast.specs.Texts.{Text}
use Rattle.qk_meaning.specs.Value as M
use Rattle.qk_meaning.specs.Value.{Site}
use Rattle.qk_meaning.specs.World as W
use Rattle.qk_meaning.specs.Fault.{TypeMismatch}
use Rattle.qk_meaning.specs.Parts.{listed}
use Rattle.qk_meaning.specs.Heap.{object_at}
use Rattle.qk_meaning.specs.Doing.{Outcome, Gives, give, chosen, fault}
use Rattle.qk_meaning.specs.Running.{Running, locations_read}
use Rattle.qk_meaning.specs.Setting.{Setting, captures}
use Rattle.qk_meaning.specs.Methods.{is_list, is_array, items_in, locations_in, object_items, object_locations, items_taken, all_items}
use Rattle.qk_value.specs.declared.fault.Fault.{Fault as Refusal}
use Rattle.qk_value.specs.declared.value.Value.{Value}
use Rattle.qk_value.specs.declared.value.Value.TheVariants as v
use Rattle.qk_value.specs.declared.value.Fun.{Fun}
use Rattle.qk_value.specs.declared.value.FunCode.{FunCode}
use Rattle.qk_value.specs.View.{seen, seen_all, function, plain_of, plain_site, fits}
use Rattle.qk_value.proofs.Viewing.{seen-List, seen-Fun}
use Rattle.qk_heap.specs.declared.object.Object.{Object}
use Rattle.qk_heap.specs.Told.{Told, all_read}
use Rattle.qk_heap.specs.Seen.{object_seen, heap_seen}
use Rattle.qk_heap.proofs.Item_changes.{list_seen}
use Rattle.qk_code.specs.declared.stop.Stop.{Stop}
use Rattle.qk_code.specs.declared.stop.Stop.TheVariants.{Fault}
use Rattle.qk_code.specs.Asked.{Goes_on}
use Rattle.qk_making.specs.Acting.{Acts, seen_in}
use Rattle.qk_acts.specs.Lists.{array_in}
use Rattle.qk_making.proofs.Acting.{acts_then, acts_same, acts_on, acts_gives, acts_faults, acts_reads}

module _ (here : Setting) (objects : List W.Object) (told : List Told → Type 0) where
  -- a fixed list
  pub items_shared : (w : Value) (items all : List Value) (r : Result (List Value) Stop) → w ≡ v.List items → r ≡ Ok all → all ≡ items
      → Acts (map (seen_in here)) (all_items (seen_in here w)) objects told r objects told
  items_shared w items all r is given same =
      let row : M.Values = seen_all (captures here) items in
      let shown : List M.Value → Running → Outcome Running (List M.Value) = λ xs s. Gives xs s in
      subst (λ w. Acts (map (seen_in here)) (all_items w) objects told r objects told) (sym (ap (seen (captures here)) is ∙ seen-List (captures here) items))
      (acts_gives (map (seen_in here)) (all_items (M.Items row)) objects told r all given (λ s e.
      ap (λ t. shown (listed row) (record s { trace = t })) (append-nil s.trace)
      ∙ ap (λ xs. shown xs s) (list_seen (captures here) items ∙ ap (map (seen_in here)) (sym same))))

  -- what is no list or array has no items
  pub no_items : (w : M.Value) (r : Result (List Value) Stop) → r ≡ Err (Fault Refusal.TypeMismatch) → is_list objects w ≡ false → Acts (map (seen_in here)) (all_items w) objects told r objects told
  no_items w r is none =
      acts_on (map (seen_in here)) (λ heap. chosen (is_list heap w) (items_taken heap w) (fault TypeMismatch)) objects objects told told r
      (acts_faults (map (seen_in here)) (chosen (is_list objects w) (items_taken objects w) (fault TypeMismatch)) objects told r Refusal.TypeMismatch is
      (λ s e. ap (λ b. chosen b (items_taken objects w) (fault TypeMismatch) s) none))

  -- an array, read whole
  pub items_read : (a : ℕ) (items all : List Value) (r : Result (List Value) Stop) (told' : List Told → Type 0) → object_at objects a ≡ W.Array (seen_all (captures here) items) → r ≡ Ok all → all ≡ items
      → Goes_on told told' (all_read (object_locations a (object_at objects a))) → Acts (map (seen_in here)) (all_items (M.Ref a)) objects told r objects told'
  items_read a items all r told' there given same goes =
      let w : M.Value = M.Ref a in
      acts_on (map (seen_in here)) (λ heap. chosen (is_list heap w) (items_taken heap w) (fault TypeMismatch)) objects objects told told' r
      (acts_same (map (seen_in here)) (items_taken objects w) (chosen (is_list objects w) (items_taken objects w) (fault TypeMismatch)) objects objects told told' r
      (λ s e. ap (λ o. chosen (is_array o) (items_taken objects w) (fault TypeMismatch) s) (sym there))
      (acts_then (λ (u : Unit {0}). u) (map (seen_in here)) (locations_read (locations_in objects w)) (λ u. give (items_in objects w)) objects objects objects told told' told' tt r
      (acts_reads (locations_in objects w) objects told told' goes)
      (acts_gives (map (seen_in here)) (give (items_in objects w)) objects told' r all given (λ s e.
      ap (λ xs. Gives xs s) (ap object_items there ∙ list_seen (captures here) items ∙ ap (map (seen_in here)) (sym same))))))

-- ---- kinds of values

-- none of these is a list or an array
module _ (here : Setting) (objects : List W.Object) (told : List Told → Type 0) where
  pub not_listed : (w other : Value) → w ≡ other → is_list objects (seen_in here other) ≡ false → Acts (map (seen_in here)) (all_items (seen_in here w)) objects told (Err (Fault Refusal.TypeMismatch)) objects told
  not_listed w other is none = no_items here objects told (seen_in here w) (Err (Fault Refusal.TypeMismatch)) refl (ap (λ x. is_list objects (seen_in here x)) is ∙ none)

pub function_not_listed : (names : Site → List Text) (objects : List W.Object) (f : Fun) → is_list objects (seen names (v.Fun f)) ≡ false
function_not_listed names objects f = ap (is_list objects) (seen-Fun names f) ∙ of_code f.code
  where
    of_plain : (b : Bool) (ns : List Text) (file : Text) (number : ℕ) (vs : M.Values) (hidden : Bool) → is_list objects (plain_of b ns file number vs hidden) ≡ false
    of_plain true ns file number vs hidden = refl
    of_plain false ns file number vs hidden = refl

    of_code : (code : FunCode) → is_list objects (function names code (seen_all names f.captures) f.hidden) ≡ false
    of_code (FunCode.Symbol t) = refl
    of_code (FunCode.Plain file number) = of_plain (fits (names (plain_site file number)) (seen_all names f.captures)) (names (plain_site file number)) file number (seen_all names f.captures) f.hidden

-- ---- the array at an address

none_some : {A : Type 0} {P : Type 0} (a : A) → Some a ≡ None → P
none_some a e = absurd (cc)

seen_array : (names : Site → List Text) (o : Object) (items : List Value) → Some items ≡ array_in (Some o) → object_seen names o ≡ W.Array (seen_all names items)
seen_array names (Object.Array xs) items e = ap (λ r. W.Array (seen_all names (those r))) (sym e)
  where
    those : Option (List Value) → List Value
    those (Some ys) = ys
    those None = items
seen_array names (Object.Plain fields) items e = none_some items e
seen_array names (Object.Signal w) items e = none_some items e
seen_array names (Object.Computed f) items e = none_some items e
seen_array names (Object.Props fields) items e = none_some items e

pub array_there : (names : Site → List Text) (heap : List Object) (a : ℕ) (items : List Value) → Some items ≡ array_in (slice_get heap a) → object_at (heap_seen names heap) a ≡ W.Array (seen_all names items)
array_there names [] a items e = none_some items e
array_there names (o ∷ heap) zero items e = seen_array names o items e
array_there names (o ∷ heap) (suc a) items e = array_there names heap a items e

pub array_made : (heap : List Object) (a : ℕ) (items : List Value) → Some items ≡ array_in (slice_get heap a) → a < length heap
array_made [] a items e = none_some items e
array_made (o ∷ heap) zero items e = omega arith
array_made (o ∷ heap) (suc a) items e = omega (arith, array_made heap a items e)

pub no_array : (names : Site → List Text) (heap : List Object) (a : ℕ) → None ≡ array_in (slice_get heap a) → is_list (heap_seen names heap) (M.Ref a) ≡ false
no_array names [] a e = refl
no_array names (o ∷ heap) zero e = by o e
  where
    by : (o : Object) → None ≡ array_in (Some o) → is_array (object_seen names o) ≡ false
    by (Object.Array items) e = none_some items (sym e)
    by (Object.Plain fields) e = refl
    by (Object.Signal w) e = refl
    by (Object.Computed f) e = refl
    by (Object.Props fields) e = refl
no_array names (o ∷ heap) (suc a) e = no_array names heap a e
