-- The attributes of the first form: an id and a listener, each at most once, in either order.
use Rattle.std.specs.Prelude.{◌≡◌, refl, ℤ, nat_le, Bool, true, false, ◌&&◌, List, [], ◌∷◌, map, None, IsTrue}
use Rattle.std.proofs.Common.{arith}
use Rattle.std.proofs.lemmas.Bool.{false≢true, le-leb}
use Rattle.qk_ast.specs.First.{is_distinct}
use Rattle.qk_ast.specs.First.{First_attribute, Id, On_click, attribute_name, attributes_fit}
use Rattle.qk_meaning.specs.Value.{Text, Site, Element, Value, Ref, Elem, Closure, end, field}
use Rattle.qk_meaning.specs.Parts.{packed}
use Rattle.qk_meaning.specs.Same.{weight, depth}
use Rattle.qk_meaning.specs.Markup.{markup_fault, element}
use Rattle.qk_first.proofs.Words.{listener_site}
use Rattle.qk_first.proofs.Texts.{left, right, IsWord, word}
use Rattle.qk_first.proofs.Component.{attribute_fields, child_values}

pub data Listing : List First_attribute → Type 0 where
  nothing : Listing []
  id_only : {id : Text} → IsWord id → Listing (Id id ∷ [])
  click_only : {up : Bool} → Listing (On_click up ∷ [])
  id_click : {id : Text} {up : Bool} → IsWord id → Listing (Id id ∷ On_click up ∷ [])
  click_id : {up : Bool} {id : Text} → IsWord id → Listing (On_click up ∷ Id id ∷ [])

listed : (attributes : List First_attribute) → IsTrue (attributes_fit attributes) → IsTrue (is_distinct (map attribute_name attributes)) → Listing attributes
listed [] h d = nothing
listed (Id a ∷ []) h d = id_only (word a (left _ _ h))
listed (On_click up ∷ []) h d = click_only
listed (Id a ∷ On_click up ∷ []) h d = id_click (word a (left _ _ h))
listed (On_click up ∷ Id a ∷ []) h d = click_id (word a (left _ _ h))
listed (Id a ∷ Id b ∷ more) h d = absurd (false≢true d)
listed (On_click a ∷ On_click b ∷ more) h d = absurd (false≢true d)
listed (Id a ∷ On_click b ∷ Id c ∷ more) h d = absurd (false≢true d)
listed (Id a ∷ On_click b ∷ On_click c ∷ more) h d = absurd (false≢true (right _ _ d))
listed (On_click a ∷ Id b ∷ Id c ∷ more) h d = absurd (false≢true (right _ _ d))
listed (On_click a ∷ Id b ∷ On_click c ∷ more) h d = absurd (false≢true d)

pub listing : (attributes : List First_attribute) → IsTrue (attributes_fit attributes && is_distinct (map attribute_name attributes)) → Listing attributes
listing attributes h = listed attributes (left _ _ h) (right _ _ h)

abbrev pub has_listener : List First_attribute → Bool
has_listener [] = false
has_listener (Id w ∷ more) = has_listener more
has_listener (On_click up ∷ more) = true

-- ---- the element is made within the limits

module _ (captures : Site → List Text) (n tag : Text) where
  abbrev view : Bool → List First_attribute → ℤ → Value
  view shows attributes v = Elem (Element tag) None [] (attribute_fields n attributes) (packed (child_values shows v))

  pub no_fault : {attributes : List First_attribute} → Listing attributes → (shows : Bool) (v : ℤ) → markup_fault (Element tag) (attribute_fields n attributes) (packed (child_values shows v)) ≡ None
  no_fault nothing true v = refl
  no_fault nothing false v = refl
  no_fault (id_only w) true v = refl
  no_fault (id_only w) false v = refl
  no_fault click_only true v = refl
  no_fault click_only false v = refl
  no_fault (id_click w) true v = refl
  no_fault (id_click w) false v = refl
  no_fault (click_id w) true v = refl
  no_fault (click_id w) false v = refl

  pub makes_view : {attributes : List First_attribute} → Listing attributes → (shows : Bool) (v : ℤ) → element (Element tag) (attribute_fields n attributes) (packed (child_values shows v)) ≡ view shows attributes v
  makes_view nothing shows v = refl
  makes_view (id_only w) shows v = refl
  makes_view click_only shows v = refl
  makes_view (id_click w) shows v = refl
  makes_view (click_id w) shows v = refl

  abbrev own_listener : Value
  own_listener = Closure listener_site (field n (Ref 1) end) false

  -- the listener is light and flat, where there is one
  pub record Light (attributes : List First_attribute) : Type 0 where
    pub weighs : has_listener attributes ≡ true → weight captures own_listener ≡ 2
    pub deep : has_listener attributes ≡ true → depth captures own_listener ≡ 1

  pub light : {attributes : List First_attribute} → Listing attributes → Light attributes → (shows : Bool) (v : ℤ) → nat_le (weight captures (view shows attributes v)) 65536 ≡ true
  light nothing l true v = le-leb (weight captures (view true [] v)) 65536 (omega arith)
  light nothing l false v = le-leb (weight captures (view false [] v)) 65536 (omega arith)
  light (id_only {id = id} w) l true v = le-leb (weight captures (view true (Id id ∷ []) v)) 65536 (omega arith)
  light (id_only {id = id} w) l false v = le-leb (weight captures (view false (Id id ∷ []) v)) 65536 (omega arith)
  light (click_only {up = up}) l true v = le-leb (weight captures (view true (On_click up ∷ []) v)) 65536 (omega (arith, l.weighs refl))
  light (click_only {up = up}) l false v = le-leb (weight captures (view false (On_click up ∷ []) v)) 65536 (omega (arith, l.weighs refl))
  light (id_click {id = id} {up = up} w) l true v = le-leb (weight captures (view true (Id id ∷ On_click up ∷ []) v)) 65536 (omega (arith, l.weighs refl))
  light (id_click {id = id} {up = up} w) l false v = le-leb (weight captures (view false (Id id ∷ On_click up ∷ []) v)) 65536 (omega (arith, l.weighs refl))
  light (click_id {up = up} {id = id} w) l true v = le-leb (weight captures (view true (On_click up ∷ Id id ∷ []) v)) 65536 (omega (arith, l.weighs refl))
  light (click_id {up = up} {id = id} w) l false v = le-leb (weight captures (view false (On_click up ∷ Id id ∷ []) v)) 65536 (omega (arith, l.weighs refl))

  pub flat : {attributes : List First_attribute} → Listing attributes → Light attributes → (shows : Bool) (v : ℤ) → nat_le (depth captures (view shows attributes v)) 32 ≡ true
  flat nothing l true v = le-leb (depth captures (view true [] v)) 32 (omega arith)
  flat nothing l false v = le-leb (depth captures (view false [] v)) 32 (omega arith)
  flat (id_only {id = id} w) l true v = le-leb (depth captures (view true (Id id ∷ []) v)) 32 (omega arith)
  flat (id_only {id = id} w) l false v = le-leb (depth captures (view false (Id id ∷ []) v)) 32 (omega arith)
  flat (click_only {up = up}) l true v = le-leb (depth captures (view true (On_click up ∷ []) v)) 32 (omega (arith, l.deep refl))
  flat (click_only {up = up}) l false v = le-leb (depth captures (view false (On_click up ∷ []) v)) 32 (omega (arith, l.deep refl))
  flat (id_click {id = id} {up = up} w) l true v = le-leb (depth captures (view true (Id id ∷ On_click up ∷ []) v)) 32 (omega (arith, l.deep refl))
  flat (id_click {id = id} {up = up} w) l false v = le-leb (depth captures (view false (Id id ∷ On_click up ∷ []) v)) 32 (omega (arith, l.deep refl))
  flat (click_id {up = up} {id = id} w) l true v = le-leb (depth captures (view true (On_click up ∷ Id id ∷ []) v)) 32 (omega (arith, l.deep refl))
  flat (click_id {up = up} {id = id} w) l false v = le-leb (depth captures (view false (On_click up ∷ Id id ∷ []) v)) 32 (omega (arith, l.deep refl))
