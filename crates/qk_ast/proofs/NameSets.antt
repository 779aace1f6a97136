-- A set of names beside the table of their places.
use Rattle.std.specs.Prelude.{◌≡◌, refl, ℕ, ◌+◌, ◌<◌, Bool, true, false, ◌⊎◌, List, [], ◌∷◌, ◌++◌, Option, Some, None, bytes_eq, length, take, drop, slice_get}
use Rattle.std.proofs.Common.{sym, ◌∙◌, ap, cond, is_some, true≢false, suc, zero, inl, inr}
use Rattle.std.proofs.lemmas.Bool.{false≢true}
use Rattle.std.specs.Borrow.{Bor}
use Rattle.std.specs.declared.cmp.Ordering.{Ordering}
use Rattle.std.specs.Ordering.{nat_cmp}
use Rattle.std.specs.Cmp.Lexicographic.{slice_cmp, same_text as told_same}
use Rattle.std.specs.BTreeMap.{BTreeMap, UpdatesBy}
use Rattle.std.specs.Option.{option_map}
use Rattle.std.specs.Slice.{IsItemAt}
use Rattle.std.proofs.lemmas.Cmp.{nat_list_eq_equiv}
use Rattle.std.proofs.lemmas.Map.Text.{btree_map_updates_str}
use Rattle.std.proofs.lemmas.Option.{slice_get-map, slice_get_read, slice_get_past}
use Rattle.std.proofs.Math.ListN.{get_or}
use Rattle.std.proofs.lemmas.List.{at_drop_more}
use Rattle.qk_ast.specs.Texts.{Text, same_text}
use Rattle.qk_ast.specs.Names.{is_listed}
use Rattle.qk_ast.specs.Walking.{with_name, with_names}
use Rattle.qk_ast.specs.NamePlaces.{names_of, place_at, HoldPlaces}

-- ---- names at places

abbrev some_own : Option Text → Text → Text
some_own (Some t) other = t
some_own None other = other

same_some : (t q : Text) → Some t ≡ Some q → t ≡ q
same_some t q e = ap (λ o. some_own o q) e

-- what the front of a list has at a place
front_at : (names : List Text) (n i : ℕ) (q : Text) → slice_get (take n names) i ≡ Some q → slice_get names i ≡ Some q
front_at names zero i q h = absurd (false≢true (ap is_some h))
front_at [] (suc n) i q h = h
front_at (x ∷ names) (suc n) zero q h = h
front_at (x ∷ names) (suc n) (suc i) q h = front_at names n i q h

-- a list with one name more
last_at : (names : List Text) (x : Text) (i : ℕ) (q : Text) → slice_get (names ++ x ∷ []) i ≡ Some q → (slice_get names i ≡ Some q) ⊎ ((length names ≡ i) × (x ≡ q))
last_at [] x zero q h = inr (refl, same_some x q h)
last_at [] x (suc i) q h = absurd (false≢true (ap is_some h))
last_at (y ∷ names) x zero q h = inl h
last_at (y ∷ names) x (suc i) q h = by (last_at names x i q h)
  where
    by : (slice_get names i ≡ Some q) ⊎ ((length names ≡ i) × (x ≡ q)) → (slice_get names i ≡ Some q) ⊎ ((suc (length names) ≡ suc i) × (x ≡ q))
    by (inl there) = inl there
    by (inr last) = inr (ap suc last.0, last.1)

met : (t q : Text) (b : Bool) → t ≡ q → elim (same_text t q) [ true ↦ true | false ↦ b ] ≡ true
met t q b e = ap (λ c. elim c [ true ↦ true | false ↦ b ]) (ap (λ r. same_text r q) e ∙ nat_list_eq_equiv.refl q)

later : (c b : Bool) → b ≡ true → elim c [ true ↦ true | false ↦ b ] ≡ true
later true b h = refl
later false b h = h

listed_at : (names : List Text) (i : ℕ) (q : Text) → slice_get names i ≡ Some q → is_listed q names ≡ true
listed_at [] i q h = absurd (false≢true (ap is_some h))
listed_at (x ∷ names) zero q h = met x q (is_listed q names) (same_some x q h)
listed_at (x ∷ names) (suc i) q h = later (same_text x q) (is_listed q names) (listed_at names i q h)

place_of : (names : List Text) (q : Text) → is_listed q names ≡ true → (i : ℕ) × (slice_get names i ≡ Some q)
place_of [] q h = absurd (false≢true h)
place_of (x ∷ names) q h = by (same_text x q) refl (place_of names q)
  where
    by : (b : Bool) → same_text x q ≡ b → (is_listed q names ≡ true → (i : ℕ) × (slice_get names i ≡ Some q)) → (i : ℕ) × (slice_get (x ∷ names) i ≡ Some q)
    by true e rest = (0, ap Some (told_same x q (sym e)))
    by false e rest = let more = rest (sym (ap (λ b. elim b [ true ↦ true | false ↦ is_listed q names ]) e) ∙ h) in (suc more.0, more.1)

-- ---- the table of places

abbrev Places : Type 0
Places = BTreeMap (Bor (List ℕ)) ℕ

abbrev str_cmp : Bor (List ℕ) → Bor (List ℕ) → Ordering
str_cmp x y = slice_cmp nat_cmp x.now y.now

-- what the table says of a name is whether the name is there
asked : (places : Places) (names : List Text) (q : Text) (o : Option ℕ) → HoldPlaces places names → place_at places q ≡ o → (b : Bool)
    → ((i : ℕ) → slice_get names i ≡ Some q → o ≡ Some i → b ≡ true) → (b ≡ true → is_listed q names ≡ true) → b ≡ is_listed q names
asked places names q o hold e b there only = by b refl (is_listed q names) refl
  where
    by : (c : Bool) → b ≡ c → (l : Bool) → is_listed q names ≡ l → c ≡ l
    by true f true g = refl
    by false f false g = refl
    by true f false g = sym (only f) ∙ g
    by false f true g = let at = place_of names q g in sym f ∙ there at.0 at.1 (sym e ∙ hold at.0 q at.1)

pub has_none : (places : Places) (names : List Text) (q : Text) → HoldPlaces places names → place_at places q ≡ None → false ≡ is_listed q names
has_none places names q hold e = asked places names q None hold e false (λ i at some. absurd (false≢true (ap is_some some))) (λ f. absurd (false≢true f))

same_place : (a b : ℕ) → Some a ≡ Some b → a ≡ b
same_place a b e = ap (λ o. elim o as (λ _. ℕ) [ Some n ↦ n | None ↦ b ]) e

pub has_past : (places : Places) (names : List Text) (q : Text) (i : ℕ) → HoldPlaces places names → place_at places q ≡ Some i → slice_get names i ≡ None → false ≡ is_listed q names
has_past places names q i hold e past = asked places names q (Some i) hold e false (λ j at some. absurd (false≢true (ap is_some (sym past ∙ ap (slice_get names) (same_place i j some) ∙ at)))) (λ f. absurd (false≢true f))

pub has_there : (places : Places) (names : List Text) (q t : Text) (i : ℕ) → HoldPlaces places names → place_at places q ≡ Some i → slice_get names i ≡ Some t → bytes_eq t q ≡ is_listed q names
has_there places names q t i hold e there = asked places names q (Some i) hold e (bytes_eq t q)
    (λ j at some. ap (λ r. bytes_eq r q) (same_some t q (sym there ∙ ap (slice_get names) (same_place i j some) ∙ at)) ∙ nat_list_eq_equiv.refl q)
    (λ same. listed_at names i q (there ∙ ap Some (told_same t q (sym same))))

-- no names
pub hold_none : (places : Places) → HoldPlaces places []
hold_none places = λ i q h. absurd (false≢true (ap is_some h))

-- the front of the names
pub hold_front : (places : Places) (names : List Text) (n : ℕ) → HoldPlaces places names → HoldPlaces places (take n names)
hold_front places names n hold = λ i q h. hold i q (front_at names n i q h)

-- ---- a new name's place

place_more : (old new : Places) (x : Text) (place : ℕ) → UpdatesBy str_cmp (λ k. slice_cmp nat_cmp x k.now) old new (Some place) → (q : Text) → place_at new q ≡ cond (bytes_eq x q) (Some place) (place_at old q)
place_more old new x place updated q = btree_map_updates_str x old new (Some place) updated q

other_than : (names : List Text) (x q : Text) → is_listed x names ≡ false → is_listed q names ≡ true → bytes_eq x q ≡ false
other_than names x q absent there = by (bytes_eq x q) refl
  where
    by : (b : Bool) → bytes_eq x q ≡ b → b ≡ false
    by false e = refl
    by true e = absurd (true≢false (sym there ∙ ap (λ t. is_listed t names) (sym (told_same x q (sym e))) ∙ absent))

module _ (old new : Places) (names : List Text) (x : Text) (hold : HoldPlaces old names) (absent : is_listed x names ≡ false)
    (updated : UpdatesBy str_cmp (λ k. slice_cmp nat_cmp x k.now) old new (Some (length names))) where
  -- the names as they were
  pub hold_still : HoldPlaces new names
  hold_still = λ i q h. place_more old new x (length names) updated q ∙ ap (λ b. cond b (Some (length names)) (place_at old q)) (other_than names x q absent (listed_at names i q h)) ∙ hold i q h

  -- the names with the new one last
  pub hold_more : HoldPlaces new (names ++ x ∷ [])
  hold_more = λ i q h. by i q (last_at names x i q h)
    where
      by : (i : ℕ) (q : Text) → (slice_get names i ≡ Some q) ⊎ ((length names ≡ i) × (x ≡ q)) → place_at new q ≡ Some i
      by i q (inl there) = hold_still i q there
      by i q (inr last) = place_more old new x (length names) updated q
          ∙ ap (λ b. cond b (Some (length names)) (place_at old q)) (ap (λ r. bytes_eq r q) last.1 ∙ nat_list_eq_equiv.refl q)
          ∙ ap Some last.0

-- ---- names one after another

pub with_new : (names : List Text) (x : Text) → is_listed x names ≡ false → names ++ x ∷ [] ≡ with_name names x
with_new names x absent = sym (ap (λ b. elim b [ true ↦ names | false ↦ names ++ x ∷ [] ]) absent)

pub with_known : (names : List Text) (x : Text) → is_listed x names ≡ true → names ≡ with_name names x
with_known names x there = sym (ap (λ b. elim b [ true ↦ names | false ↦ names ++ x ∷ [] ]) there)

-- what a list of texts on loan has at a place
pub name_in : (lent names : List (Bor (List ℕ))) (i : ℕ) (x : Bor (Bor (List ℕ))) → lent ≡ names → IsItemAt lent i (Some x) → slice_get (names_of names) i ≡ Some x.now.now
name_in lent names i x e item = slice_get-map (λ name. name.now) names i
    ∙ ap (λ all. option_map (λ name. name.now) (slice_get all i)) (sym e)
    ∙ ap (option_map (λ name. name.now)) (slice_get_read lent (length lent) i x.now refl item.3.0 item.1)

pub name_past : (lent names : List (Bor (List ℕ))) (i : ℕ) → lent ≡ names → IsItemAt lent i None → slice_get (names_of names) i ≡ None
name_past lent names i e item = slice_get-map (λ name. name.now) names i
    ∙ ap (λ all. option_map (λ name. name.now) (slice_get all i)) (sym e)
    ∙ ap (option_map (λ name. name.now)) (slice_get_past lent i item.3)

pub with_both : (names xs ys : List (List ℕ)) → with_names names (xs ++ ys) ≡ with_names (with_names names xs) ys
with_both names [] ys = refl
with_both names (x ∷ xs) ys = with_both (with_name names x) xs ys

-- with the names of one item more
pub names_next : {X : Type 0} (F : List X → List (List ℕ)) (f : X → List (List ℕ)) → ((x : X) (xs : List X) → F (x ∷ xs) ≡ f x ++ F xs)
    → (names : List (List ℕ)) (xs : List X) (i : ℕ) (x : X) → i < length xs → x ≡ get_or xs i x → with_names (with_names names (f x)) (F (drop (i + 1) xs)) ≡ with_names names (F (drop i xs))
names_next F f parts names xs i x below here = sym (with_both names (f x) (F (drop (i + 1) xs)))
    ∙ ap (with_names names) (sym (parts x (drop (i + 1) xs)) ∙ ap (λ y. F (y ∷ drop (i + 1) xs)) here ∙ sym (at_drop_more F xs i x below))
