-- Views that stand for one another are expanded to trees that do, for any relation between doings that goes from one thing to the next.
use Rattle.std.specs.Prelude.{◌≡◌, refl, ℕ, zero, suc, Bool, true, false, List, [], ◌∷◌, cond, Option, Some, None}
use Rattle.std.proofs.Common.{subst}
use Rattle.qk_ast.specs.Texts.{same_text}
use Rattle.qk_meaning.specs.Value.{Text, Shown, Value, Values, Fields}
use Rattle.qk_meaning.specs.World.{Place, Step}
use Rattle.qk_meaning.specs.Fault.{NotText, TreeTooDeep}
use Rattle.qk_meaning.specs.Markup.{key_of}
use Rattle.qk_meaning.specs.Doing.{Why, Faults, Doing, ◌>>=◌, give, stopping, fault}
use Rattle.qk_meaning.specs.Expansion.{Node, Nodes, joined, Placed, placed_item, placed_from, placed, slot_of, for_slot, step_name, further, Given, Met, Visit, Expands, in_order, text_nodes, wrapped, takes_step, leaf, slot_with, component_with, elem_with, item_with, expand_item, expand_app}
use Rattle.qk_meaning.specs.Ties.{Ties, Site_ties, Shown_as, an_element, a_fragment, a_slot, a_component, a_symbol, own_symbol, Stands, undefined, null, truth, int, words, ref, items, fields, elem, closure, by_symbol, lifted, All_stand, none_stand, item_stands, Fields_stand, end_stands, Pairwise, no_more, one_more}
use Rattle.qk_session_alike.specs.Trees_stand.{Node_stands, tagged, shows_text, inside, Nodes_stand, no_nodes_stand, node_stands, Placed_stand, placed_alike, Given_stand, nothing_stands, children_stand, Met_stand, met_alike, Named_alike}

-- ---- items with their places

keys_alike : {t : Ties} {v w : Value} → Stands t v w → key_of v ≡ key_of w
keys_alike undefined = refl
keys_alike null = refl
keys_alike truth = refl
keys_alike int = refl
keys_alike words = refl
keys_alike (ref k) = refl
keys_alike (items k) = refl
keys_alike (fields k) = refl
keys_alike (elem s f k) = refl
keys_alike (closure l m n k) = refl
keys_alike (by_symbol l m k) = refl
keys_alike (lifted l m k) = refl

slots_alike : {t : Ties} {v w : Value} → Stands t v w → slot_of v ≡ slot_of w
slots_alike undefined = refl
slots_alike null = refl
slots_alike truth = refl
slots_alike int = refl
slots_alike words = refl
slots_alike (ref k) = refl
slots_alike (items k) = refl
slots_alike (fields k) = refl
slots_alike (elem s f k) = refl
slots_alike (closure l m n k) = refl
slots_alike (by_symbol l m k) = refl
slots_alike (lifted l m k) = refl

steps_alike : {t : Ties} {v w : Value} → Stands t v w → takes_step v ≡ takes_step w
steps_alike undefined = refl
steps_alike null = refl
steps_alike truth = refl
steps_alike int = refl
steps_alike words = refl
steps_alike (ref k) = refl
steps_alike (items k) = refl
steps_alike (fields k) = refl
steps_alike (elem s f k) = refl
steps_alike (closure l m n k) = refl
steps_alike (by_symbol l m k) = refl
steps_alike (lifted l m k) = refl

places_item : {t : Ties} (key : Option Text) (n : ℕ) {v w : Value} {others others' : ℕ → List Placed} → Stands t v w → ((m : ℕ) → Pairwise (Placed_stand t) (others m) (others' m)) → Pairwise (Placed_stand t) (placed_item key n v others) (placed_item key n w others')
places_item (Some k) n h rest = one_more (placed_alike h) (rest n)
places_item None n h rest = one_more (placed_alike h) (rest (suc n))

places_from : {t : Ties} (n : ℕ) {v w : Values} → All_stand t v w → Pairwise (Placed_stand t) (placed_from n v) (placed_from n w)
places_from n none_stand = no_more
places_from {t} n (item_stands {v = v} {w = w} {rest = rest} {more = more} h hs) =
    subst (λ k. Pairwise (Placed_stand t) (placed_item (key_of v) n v (λ m. placed_from m rest)) (placed_item k n w (λ m. placed_from m more))) (keys_alike h) (places_item (key_of v) n h (λ m. places_from m hs))

places : {t : Ties} {v w : Values} → All_stand t v w → Pairwise (Placed_stand t) (placed v) (placed w)
places h = places_from 0 h

kept_alike : {t : Ties} (c : Bool) {p q : Placed} {ps qs : List Placed} → Placed_stand t p q → Pairwise (Placed_stand t) ps qs → Pairwise (Placed_stand t) (cond c (p ∷ ps) ps) (cond c (q ∷ qs) qs)
kept_alike true h hs = one_more h hs
kept_alike false h hs = hs

slot_alike : {t : Ties} (name : Text) {ps qs : List Placed} → Pairwise (Placed_stand t) ps qs → Pairwise (Placed_stand t) (for_slot name ps) (for_slot name qs)
slot_alike name no_more = no_more
slot_alike {t} name (one_more {rest = ps} {more = qs} (placed_alike {place = place} {v = v} {w = w} h) hs) =
    subst (λ s. Pairwise (Placed_stand t) (for_slot name (record { place = place; value = v } ∷ ps)) (cond (same_text s name) (record { place = place; value = w } ∷ for_slot name qs) (for_slot name qs))) (slots_alike h)
    (kept_alike (same_text (slot_of v) name) (placed_alike h) (slot_alike name hs))

-- ---- nodes

joins : {t : Ties} {v w rest more : Nodes} → Nodes_stand t v w → Nodes_stand t rest more → Nodes_stand t (joined v rest) (joined w more)
joins no_nodes_stand k = k
joins (node_stands h hs) k = node_stands h (joins hs k)

texts_stand : {t : Ties} (w : Text) → Nodes_stand t (text_nodes w) (text_nodes w)
texts_stand [] = no_nodes_stand
texts_stand (c ∷ more) = node_stands shows_text no_nodes_stand

pub names_alike : {t : Site_ties} → Named_alike t → {x y : Shown} → Shown_as t x y → step_name x ≡ step_name y
names_alike n an_element = refl
names_alike n a_fragment = refl
names_alike n a_slot = refl
names_alike n (a_component h c e) = e
names_alike n (a_symbol {site = s} h c) = n.lifted s h
names_alike n (own_symbol h c) = refl

-- ---- expanding

-- a relation that goes from one thing to the next
pub record Steps {S S' : Type 0} (K : (A B : Type 0) → (A → B → Type 0) → Doing S A → Doing S' B → Type 0) : Type 1 where
  pub gives : {A B : Type 0} {R : A → B → Type 0} {a : A} {b : B} → R a b → K A B R (give a) (give b)
  pub stops : {A B : Type 0} {R : A → B → Type 0} (why : Why) → K A B R (stopping why) (stopping why)
  pub bind : {A B C D : Type 0} {R : A → B → Type 0} {Q : C → D → Type 0} {m : Doing S A} {m' : Doing S' B} {f : A → Doing S C} {f' : B → Doing S' D} →
      K A B R m m' → ((a : A) (b : B) → R a b → K C D Q (f a) (f' b)) → K C D Q (◌>>=◌ m f) (◌>>=◌ m' f')

-- components are visited alike
pub record Visits_stand (t : Ties) {S S' : Type 0} (K : (A B : Type 0) → (A → B → Type 0) → Doing S A → Doing S' B → Type 0) (visit : Visit S) (visit' : Visit S') : Type 0 where
  pub visits : {m m' : Met} → Met_stand t m m' → K Value Value (Stands t) (visit m) (visit' m')

module _ {t : Ties} (named : Named_alike t.sites) {S S' : Type 0} {K : (A B : Type 0) → (A → B → Type 0) → Doing S A → Doing S' B → Type 0} (steps : Steps K) {visit : Visit S} {visit' : Visit S'} (seen : Visits_stand t K visit visit') where
  open steps use {gives, stops, bind}

  record Expands_stand (one : Expands S) (one' : Expands S') : Type 0 where
    each : (path : List Step) {g g' : Given} (place : Place) {v v' : Value} → Given_stand t g g' → Stands t v v' → K Nodes Nodes (Nodes_stand t) (one path g place v) (one' path g' place v')

  in_orders : {one : Expands S} {one' : Expands S'} → Expands_stand one one' → (path : List Step) {g g' : Given} → Given_stand t g g' → {ps qs : List Placed} → Pairwise (Placed_stand t) ps qs → K Nodes Nodes (Nodes_stand t) (in_order (one path g) ps) (in_order (one' path g') qs)
  in_orders e path h no_more = gives no_nodes_stand
  in_orders e path h (one_more (placed_alike {place = place} k) ks) = bind (e.each path place h k) (λ v w x. bind (in_orders e path h ks) (λ vs ws xs. gives (joins x xs)))

  wraps : {around around' : Nodes → Node} {m : Doing S Nodes} {m' : Doing S' Nodes} → ((v w : Nodes) → Nodes_stand t v w → Node_stands t (around v) (around' w)) → K Nodes Nodes (Nodes_stand t) m m' → K Nodes Nodes (Nodes_stand t) (wrapped around m) (wrapped around' m')
  wraps h p = bind p (λ v w k. gives (node_stands (h v w k) no_nodes_stand))

  leaves : {v w : Value} → Stands t v w → K Nodes Nodes (Nodes_stand t) (leaf v) (leaf w)
  leaves undefined = gives no_nodes_stand
  leaves null = gives no_nodes_stand
  leaves truth = gives no_nodes_stand
  leaves int = gives (texts_stand _)
  leaves (words {w = w}) = gives (texts_stand w)
  leaves (ref k) = stops (Faults NotText)
  leaves (items k) = stops (Faults NotText)
  leaves (fields k) = stops (Faults NotText)
  leaves (elem s f k) = stops (Faults NotText)
  leaves (closure l m n k) = stops (Faults NotText)
  leaves (by_symbol l m k) = stops (Faults NotText)
  leaves (lifted l m k) = stops (Faults NotText)

  module _ {one : Expands S} {one' : Expands S'} (e : Expands_stand one one') where
    slot_lem : (path : List Step) (name : Text) {g g' : Given} → Given_stand t g g' → K Nodes Nodes (Nodes_stand t) (slot_with one path name g) (slot_with one' path name g')
    slot_lem path name nothing_stands = gives no_nodes_stand
    slot_lem path name (children_stand h k) = in_orders e path k (slot_alike name (places h))

    component_lem : (path : List Step) {g g' : Given} {x y : Shown} {f f' : Fields} {v v' : Values} → Given_stand t g g' → Shown_as t.sites x y → Fields_stand t f f' → All_stand t v v' →
        K Nodes Nodes (Nodes_stand t) (component_with visit one path g x f v) (component_with visit' one' path g' y f' v')
    component_lem path g s f v = bind (seen.visits (met_alike s f)) (λ x y h. wraps (λ v w k. inside k) (in_orders e path (children_stand v g) (places (item_stands h none_stand))))

    elem_lem : (path : List Step) {g g' : Given} {x y : Shown} {f f' : Fields} {v v' : Values} → Given_stand t g g' → Shown_as t.sites x y → Fields_stand t f f' → All_stand t v v' →
        K Nodes Nodes (Nodes_stand t) (elem_with visit one path g x f v) (elem_with visit' one' path g' y f' v')
    elem_lem path g an_element f v = wraps (λ v w k. tagged f k) (in_orders e path g (places v))
    elem_lem path g a_fragment f v = in_orders e path g (places v)
    elem_lem path g (a_slot {name = name}) f v = slot_lem path name g
    elem_lem path g (a_component h c e) f v = component_lem path g (a_component h c e) f v
    elem_lem path g (a_symbol h c) f v = component_lem path g (a_symbol h c) f v
    elem_lem path g (own_symbol h c) f v = component_lem path g (own_symbol h c) f v

    item_lem : (path : List Step) {g g' : Given} (place : Place) {v v' : Value} → Given_stand t g g' → Stands t v v' → K Nodes Nodes (Nodes_stand t) (item_with visit one path g place v) (item_with visit' one' path g' place v')
    item_lem path place g (items h) = in_orders e (further path place []) g (places h)
    item_lem path {g = given} {g' = given'} place g (elem {x = x} {y = y} {f = f} {g = f'} {v = v} {w = v'} s h k) =
        subst (λ n. K Nodes Nodes (Nodes_stand t) (elem_with visit one (further path place (step_name x)) given x f v) (elem_with visit' one' (further path place n) given' y f' v')) (names_alike named s) (elem_lem (further path place (step_name x)) g s h k)
    item_lem path place g undefined = gives no_nodes_stand
    item_lem path place g null = gives no_nodes_stand
    item_lem path place g truth = gives no_nodes_stand
    item_lem path place g int = gives (texts_stand _)
    item_lem path place g (words {w = w}) = gives (texts_stand w)
    item_lem path place g (ref k) = stops (Faults NotText)
    item_lem path place g (fields k) = stops (Faults NotText)
    item_lem path place g (closure l m n k) = stops (Faults NotText)
    item_lem path place g (by_symbol l m k) = stops (Faults NotText)
    item_lem path place g (lifted l m k) = stops (Faults NotText)

  too_deep : (c : Bool) {v v' : Value} → Stands t v v' → K Nodes Nodes (Nodes_stand t) (elim c as (λ y. Doing S Nodes) [ true ↦ fault TreeTooDeep | false ↦ leaf v ]) (elim c as (λ y. Doing S' Nodes) [ true ↦ fault TreeTooDeep | false ↦ leaf v' ])
  too_deep true h = stops (Faults TreeTooDeep)
  too_deep false h = leaves h

  expands : (n : ℕ) → Expands_stand (expand_item visit n) (expand_item visit' n)
  expands zero = record { each = λ path {g} {g'} place {v} {v'} k h. subst (λ c. K Nodes Nodes (Nodes_stand t) (expand_item visit zero path g place v) (elim c as (λ y. Doing S' Nodes) [ true ↦ fault TreeTooDeep | false ↦ leaf v' ])) (steps_alike h) (too_deep (takes_step v) h) }
  expands (suc n) = record { each = λ path place k h. item_lem (expands n) path place k h }

  pub apps_expand : {x y : Shown} → Shown_as t.sites x y → K Nodes Nodes (Nodes_stand t) (expand_app visit x) (expand_app visit' y)
  apps_expand h = component_lem (expands 128) [] nothing_stands h end_stands none_stand
