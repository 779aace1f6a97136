-- The items between two places.
use Rattle.std.proofs.Common.{◌≡◌, ◌-◌, ℕ, ℤ, List, [], ◌∷◌, length, map, take, drop, Option, Some, None, Result, Ok, Err, refl, ap, ◌∙◌, sym, subst}
use Rattle.std.proofs.lemmas.List.{take-map, drop-map, length-map}
use Rattle.qk_meaning.specs.Value as M
use Rattle.qk_meaning.specs.World as W
use Rattle.qk_meaning.specs.Fault.{TypeMismatch}
use Rattle.qk_meaning.specs.Doing.{fault}
use Rattle.qk_meaning.specs.Setting.{Setting}
use Rattle.qk_meaning.specs.Writing.{cut_place, between}
use Rattle.qk_meaning.specs.Making.{made_list}
use Rattle.qk_meaning.specs.Methods.{Slice, all_items, sliced, method_called}
use Rattle.qk_value.specs.declared.value.Value.{Value}
use Rattle.qk_heap.specs.Told.{Told}
use Rattle.qk_code.specs.declared.stop.Stop.{Stop}
use Rattle.qk_making.specs.Acting.{Acts, Makes, seen_in}
use Rattle.qk_making.proofs.Acting.{acts_then, acts_err, acts_same, acts_made}
use Rattle.qk_acts.specs.Lists.{cut_in, stop_in}

-- ---- the arguments

Called : Setting → M.Value → List M.Value → Option (ℤ × Option ℤ) → Type 0
Called here w arguments None = method_called here Slice w arguments ≡ fault TypeMismatch
Called here w arguments (Some cut) = method_called here Slice w arguments ≡ sliced here w cut.0 (stop_in cut.1)

called : (here : Setting) (w : M.Value) (arguments : List M.Value) → Called here w arguments (cut_in arguments)
unfolding Called
called here w [] = refl
called here w (M.Int a ∷ []) = refl
called here w (M.Int a ∷ (M.Int b ∷ [])) = refl
called here w (x ∷ []) = one x
  where
    one : (x : M.Value) → Called here w (x ∷ []) (cut_in (x ∷ []))
    one (M.Int a) = refl
    one _ = refl
called here w (x ∷ (y ∷ [])) = two x y
  where
    two : (x y : M.Value) → Called here w (x ∷ (y ∷ [])) (cut_in (x ∷ (y ∷ [])))
    two (M.Int a) (M.Int b) = refl
    two (M.Int a) _ = refl
    two _ y = refl
called here w (x ∷ (y ∷ (z ∷ rest))) = more x y
  where
    more : (x y : M.Value) → Called here w (x ∷ (y ∷ (z ∷ rest))) (cut_in (x ∷ (y ∷ (z ∷ rest))))
    more (M.Int a) (M.Int b) = refl
    more (M.Int a) _ = refl
    more _ y = refl

pub slice_refused : (here : Setting) (w : M.Value) (arguments : List M.Value) → None ≡ cut_in arguments → method_called here Slice w arguments ≡ fault TypeMismatch
unfolding Called
slice_refused here w arguments e = subst (Called here w arguments) (sym e) (called here w arguments)

slice_called : (here : Setting) (w : M.Value) (arguments : List M.Value) (start : ℤ) (stop : Option ℤ) → Some (start, stop) ≡ cut_in arguments → method_called here Slice w arguments ≡ sliced here w start (stop_in stop)
unfolding Called
slice_called here w arguments start stop e = subst (Called here w arguments) (sym e) (called here w arguments)

-- ---- what is cut out

-- the items from one place up to another or to the end
abbrev pub cut_items : {A : Type 0} → List A → ℤ → Option ℤ → List A
cut_items all start stop = take (stop_in stop (length all) - cut_place (length all) start) (drop (cut_place (length all) start) all)

cut_seen : {A : Type 0} (seen : A → M.Value) (all : List A) (start : ℤ) (stop : Option ℤ) → map seen (cut_items all start stop) ≡ between (map seen all) (cut_place (length (map seen all)) start) (stop_in stop (length (map seen all)))
cut_seen seen all start stop =
    let from : ℕ = cut_place (length all) start in
    let to : ℕ = stop_in stop (length all) in
    sym (take-map seen (to - from) (drop from all))
    ∙ ap (take (to - from)) (sym (drop-map seen from all))
    ∙ ap (λ n. between (map seen all) (cut_place n start) (stop_in stop n)) (sym (length-map all seen))

pub cut_same : {A : Type 0} (items xs all : List A) (n start : ℤ) (stop : Option ℤ) → xs ≡ all → n ≡ start → items ≡ cut_items xs n stop → items ≡ cut_items all start stop
cut_same items xs all n start stop same number is = is ∙ (λ i. cut_items (same i) (number i) stop)

-- ---- `slice`

module _ (here : Setting) (w : M.Value) (arguments : List M.Value) (start : ℤ) (stop : Option ℤ) (given : Some (start, stop) ≡ cut_in arguments) (objects : List W.Object) (told amid : List Told → Type 0) where
  pub slice_stops : (e : Stop) (r : Result Value Stop) → r ≡ Err e → Acts (map (seen_in here)) (all_items w) objects told (Err e) objects amid → Acts (seen_in here) (method_called here Slice w arguments) objects told r objects amid
  slice_stops e r stopped h =
      acts_same (seen_in here) (sliced here w start (stop_in stop)) (method_called here Slice w arguments) objects objects told amid r (λ s same. ap (λ m. m s) (sym (slice_called here w arguments start stop given)))
      (acts_err (map (seen_in here)) (seen_in here) (all_items w) (λ all. made_list here (between all (cut_place (length all) start) (stop_in stop (length all)))) objects objects told amid r e stopped h)

  pub slice_gives : (all items : List Value) (objects' : List W.Object) (r : Result Value Stop) → items ≡ cut_items all start stop → Acts (map (seen_in here)) (all_items w) objects told (Ok all) objects amid
      → Makes (seen_in here) (made_list here (map (seen_in here) items)) objects r objects' → Acts (seen_in here) (method_called here Slice w arguments) objects told r objects' amid
  slice_gives all items objects' r is h makes =
      let next : List M.Value → List M.Value = λ xs. between xs (cut_place (length xs) start) (stop_in stop (length xs)) in
      acts_same (seen_in here) (sliced here w start (stop_in stop)) (method_called here Slice w arguments) objects objects' told amid r (λ s same. ap (λ m. m s) (sym (slice_called here w arguments start stop given)))
      (acts_then (map (seen_in here)) (seen_in here) (all_items w) (λ xs. made_list here (next xs)) objects objects objects' told amid amid all r h
      (acts_made (seen_in here) (made_list here (next (map (seen_in here) all))) objects objects' amid r
      (subst (λ xs. Makes (seen_in here) (made_list here xs) objects r objects') (ap (map (seen_in here)) is ∙ cut_seen (seen_in here) all start stop) makes)))
