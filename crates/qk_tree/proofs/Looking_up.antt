-- Views that are looked up by their paths.
use Rattle.std.specs.Prelude.{◌≡◌, refl, ℕ, zero, suc, ◌<◌, Bool, true, false, ◌&&◌, ◌||◌, List, [], ◌∷◌, Some, None, find, cond, get_or, length}
use Rattle.std.specs.List.{list_any}
use Rattle.std.proofs.Common.{sym, ap, subst, ◌∙◌, arith}
use Rattle.std.proofs.Math.Dec.{T, eqb→eq}
use Rattle.std.proofs.lemmas.Bool.{false≢true}
use Rattle.std.proofs.lemmas.Slice.Eq.{bytes_eq-Decides}
use Rattle.qk_ast.specs.Texts.{Text, same_text}
use Rattle.qk_meaning.specs.Value as M
use Rattle.qk_meaning.specs.Value.{Site}
use Rattle.qk_meaning.specs.World.{Place, Keyed, Nth, Step, Instance}
use Rattle.qk_meaning.specs.Places.{same_place, same_step, same_path}
use Rattle.qk_meaning.specs.Doing.{Gives}
use Rattle.qk_meaning.specs.Laws.{Each_first, one_first}
use Rattle.qk_meaning.specs.Tree.{view_of}
use Rattle.qk_value.specs.View.{seen}
use Rattle.qk_nodes.specs.declared.node.Step as program
use Rattle.qk_nodes.specs.Tree.{path_of}
use Rattle.qk_tree.specs.declared.settled.View.{View}
use Rattle.qk_tree.specs.Settled.{Shows, stands_at}

-- ---- paths that are the same

both : (a b : Bool) → (a && b) ≡ true → (a ≡ true) × (b ≡ true)
both true b e = (refl, e)
both false b e = absurd (false≢true e)

place_is : (p q : Place) → same_place p q ≡ true → p ≡ q
place_is (Keyed k) (Keyed l) e = ap (λ x. Keyed x) ((bytes_eq-Decides k l).0 e)
place_is (Nth n) (Nth m) e = ap (λ x. Nth x) (eqb→eq n m (subst T (sym e) tt))
place_is (Keyed k) (Nth m) e = absurd (false≢true e)
place_is (Nth n) (Keyed l) e = absurd (false≢true e)

step_is : (a b : Step) → same_step a b ≡ true → a ≡ b
step_is a b e =
    let parts = both (same_place a.place b.place) (same_text a.name b.name) e in
    ap (λ x. record { place = x; name = a.name }) (place_is a.place b.place parts.0) ∙ ap (λ x. record { place = b.place; name = x }) ((bytes_eq-Decides a.name b.name).0 parts.1)

path_is : (p q : List Step) → same_path p q ≡ true → p ≡ q
path_is [] [] e = refl
path_is [] (b ∷ q) e = absurd (false≢true e)
path_is (a ∷ p) [] e = absurd (false≢true e)
path_is (a ∷ p) (b ∷ q) e =
    let parts = both (same_step a b) (same_path p q) e in
    ap (λ x. x ∷ p) (step_is a b parts.0) ∙ ap (λ x. b ∷ x) (path_is p q parts.1)

-- ---- lists of the same pairs

abbrev Pairs : Type 0
Pairs = List (List Step × M.Value)

first_or : (List Step × M.Value) → Pairs → List Step × M.Value
first_or other [] = other
first_or other (p ∷ rest) = p

behind_first : Pairs → Pairs
behind_first [] = []
behind_first (p ∷ rest) = rest

is_nothing : Pairs → Bool
is_nothing [] = true
is_nothing (p ∷ rest) = false

module _ (names : Site → List Text) where
  rest_shows : (v : View) (views : List View) (i : Instance) (all : List Instance) → Shows names (v ∷ views) (i ∷ all) → Shows names views all
  unfolding behind_first
  rest_shows v views i all e = ap behind_first e

  first_shows : (v : View) (views : List View) (i : Instance) (all : List Instance) → Shows names (v ∷ views) (i ∷ all) → (path_of v.path ≡ i.path) × (seen names v.view ≡ i.view)
  unfolding first_or
  first_shows v views i all e = (ap (λ l. (first_or ([], M.Undefined) l).0) e, ap (λ l. (first_or ([], M.Undefined) l).1) e)

  none_more : (v : View) (views : List View) → Shows names (v ∷ views) [] → ⊥
  unfolding is_nothing
  none_more v views e = false≢true (ap is_nothing e)

  none_less : (i : Instance) (all : List Instance) → Shows names [] (i ∷ all) → ⊥
  unfolding is_nothing
  none_less i all e = false≢true (sym (ap is_nothing e))

  neither : (a b : Bool) → (a || b) ≡ false → (a ≡ false) × (b ≡ false)
  neither true b e = absurd (false≢true (sym e))
  neither false b e = (refl, e)

  -- where no view has the path, no instance has it
  pub no_view : (path : List program.Step) (views : List View) (all : List Instance) → Shows names views all → list_any (stands_at path) views ≡ false → find (λ i. same_path i.path (path_of path)) all ≡ None
  no_view path [] [] shows none = refl
  no_view path [] (i ∷ all) shows none = absurd (none_less i all shows)
  no_view path (v ∷ views) [] shows none = absurd (none_more v views shows)
  no_view path (v ∷ views) (i ∷ all) shows none =
      let parts = neither (stands_at path v) (list_any (stands_at path) views) none in
      ap (λ p. cond (same_path p (path_of path)) (Some i) (find (λ j. same_path j.path (path_of path)) all)) (sym (first_shows v views i all shows).0)
      ∙ ap (λ b. cond b (Some i) (find (λ j. same_path j.path (path_of path)) all)) parts.0
      ∙ no_view path views all (rest_shows v views i all shows) parts.1

  -- the view at an index whose path this is, is that of the instance of the path
  pub the_view : (top : List Instance) (path : List program.Step) (views : List View) (all : List Instance) (k : ℕ) (v : View) (s : Unit {0}) → Shows names views all → Each_first top all → k < length views → v ≡ get_or views k v → stands_at path (get_or views k v) ≡ true
      → view_of (find (λ i. same_path i.path (path_of path)) top) s ≡ Gives (seen names v.view) s
  the_view top path [] all k v s shows each within is at = absurd (let f : ⊥ = omega (arith, within) in f)
  the_view top path (w ∷ views) [] k v s shows each within is at = absurd (none_more w views shows)
  the_view top path (w ∷ views) (i ∷ all) zero v s shows (one_first f each) within is at =
      let here = first_shows w views i all shows in
      ap (λ p. view_of (find (λ j. same_path j.path p) top) s) (sym (path_is (path_of w.path) (path_of path) at) ∙ here.0)
      ∙ ap (λ o. view_of o s) f
      ∙ ap (λ x. Gives x s) (sym here.1 ∙ ap (λ u. seen names u.view) (sym is))
  the_view top path (w ∷ views) (i ∷ all) (suc k) v s shows (one_first f each) within is at =
      the_view top path views all k v s (rest_shows w views i all shows) each (omega (arith, within)) is at
