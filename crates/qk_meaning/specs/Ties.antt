-- When a value or an object of one reading of the code stands for one of another: alike but for paired addresses and the forms of functions.
use Rattle.std.specs.Prelude.{◌≡◌, ℕ, ◌+◌, Bool, true, false, List, [], ◌∷◌, length, Option, Some, None}
use Rattle.qk_meaning.specs.Value.{Text, Site, Shown, Element, Component, Lifted_component, Fragment, Slot, Value, Values, Fields, Undefined, Null, Truth, Int, Words, Ref, Items, Record, Elem, Closure, Lifted, none, item, end, field}
use Rattle.qk_meaning.specs.World.{Object, Plain, Array, Signal, Computed, Props, Key, Loc}
use Rattle.qk_ast.specs.Texts.{same_text}
use Rattle.qk_ast.specs.Names.{is_listed}
use Rattle.qk_meaning.specs.Parts.{has_field, picked, packed, listed}
use Rattle.qk_meaning.specs.Same.{same_site}
use Rattle.qk_meaning.specs.Program.{symbol_of}

-- two addresses that stand for one another
pub record Pair : Type 0 where
  pub left : ℕ
  pub right : ℕ

-- some pairs of addresses, and from these two addresses on all in order: both sides make objects in step, so the pairs to come are known
pub record Pairing : Type 0 where
  pub pairs : List Pair
  pub left_from : ℕ
  pub right_from : ℕ

-- the addresses are one of these pairs
pub data Among : List Pair → ℕ → ℕ → Type 0 where
  first_pair : {p : Pair} {rest : List Pair} {a b : ℕ} → a ≡ p.left → b ≡ p.right → Among (p ∷ rest) a b
  later_pair : {p : Pair} {rest : List Pair} {a b : ℕ} → Among rest a b → Among (p ∷ rest) a b

-- the addresses stand for one another
pub data Paired (p : Pairing) : ℕ → ℕ → Type 0 where
  old_pair : {a b : ℕ} → Among p.pairs a b → Paired p a b
  new_pair : {a b : ℕ} (k : ℕ) → a ≡ p.left_from + k → b ≡ p.right_from + k → Paired p a b

-- how the sites and symbols of a first program are tied to those of a second one
pub record Site_ties : Type 0 where
  -- the names that a site captures, and all the names that its arrow uses without declaring them
  pub captures : Site → List Text
  pub free : Site → List Text
  -- the sites that are symbols in the second program, and those that are sites there too
  pub lifts : Site → Bool
  pub symbol : Site → Text
  pub stays : Site → Bool
  pub other : Site → Site
  -- the first program has functions of symbols too
  pub symbols : Bool
  -- the names that the function of a symbol takes
  pub taken : Text → List Text

-- how two readings are tied: by their programs, and from one pause to the next by a pairing of addresses
pub record Ties : Type 0 where
  pub sites : Site_ties
  pub pairing : Pairing

abbrev pub ties_over : Site_ties → Pairing → Ties
ties_over sites pairing = record { sites = sites; pairing = pairing }

-- the scope has those of the arrow's names that the arrow captures, and no other of them
abbrev pub Fits : Site_ties → Site → Fields → Type 0
Fits t site scope = (name : Text) → is_listed name (t.free site) ≡ true → has_field name scope ≡ is_listed name (t.captures site)

-- as many values as the symbol's function takes
abbrev pub Counted : Site_ties → Text → Values → Type 0
Counted t symbol v = length (listed v) ≡ length (t.taken symbol)

-- the same tag or Slot, or components that stand for one another; these capture nothing, and a site that stays is spelled the same on both sides
pub data Shown_as (t : Site_ties) : Shown → Shown → Type 0 where
  an_element : {tag : Text} → Shown_as t (Element tag) (Element tag)
  a_fragment : Shown_as t Fragment Fragment
  a_slot : {name : Text} → Shown_as t (Slot name) (Slot name)
  a_component : {site : Site} → t.stays site ≡ true → t.captures site ≡ [] → symbol_of site ≡ symbol_of (t.other site) → Shown_as t (Component site) (Component (t.other site))
  a_symbol : {site : Site} → t.lifts site ≡ true → t.captures site ≡ [] → Shown_as t (Component site) (Lifted_component (t.symbol site))
  own_symbol : {symbol : Text} → t.symbols ≡ true → t.taken symbol ≡ [] → Shown_as t (Lifted_component symbol) (Lifted_component symbol)

mutual
  -- one value stands for another; of functions the values of the captured names do
  pub data Stands (t : Ties) : Value → Value → Type 0 where
    undefined : Stands t Undefined Undefined
    null : Stands t Null Null
    truth : {b : Bool} → Stands t (Truth b) (Truth b)
    int : {n : _} → Stands t (Int n) (Int n)
    words : {w : Text} → Stands t (Words w) (Words w)
    ref : {a b : ℕ} → Paired t.pairing a b → Stands t (Ref a) (Ref b)
    items : {v w : Values} → All_stand t v w → Stands t (Items v) (Items w)
    fields : {v w : Fields} → Fields_stand t v w → Stands t (Record v) (Record w)
    elem : {x y : Shown} {key : Option Text} {slot : Text} {f g : Fields} {v w : Values} → Shown_as t.sites x y → Fields_stand t f g → All_stand t v w → Stands t (Elem x key slot f v) (Elem y key slot g w)
    closure : {site : Site} {f g : Fields} {hidden : Bool} → t.sites.stays site ≡ true → Fits t.sites site f → Fits t.sites site g →
        All_stand t (packed (picked (t.sites.captures site) f)) (packed (picked (t.sites.captures site) g)) → Stands t (Closure site f hidden) (Closure (t.sites.other site) g hidden)
    by_symbol : {site : Site} {f : Fields} {v : Values} {hidden : Bool} → t.sites.lifts site ≡ true → Fits t.sites site f →
        All_stand t (packed (picked (t.sites.captures site) f)) v → Stands t (Closure site f hidden) (Lifted (t.sites.symbol site) v hidden)
    lifted : {symbol : Text} {v w : Values} {hidden : Bool} → t.sites.symbols ≡ true → Counted t.sites symbol v → All_stand t v w → Stands t (Lifted symbol v hidden) (Lifted symbol w hidden)

  pub data All_stand (t : Ties) : Values → Values → Type 0 where
    none_stand : All_stand t none none
    item_stands : {v w : Value} {rest more : Values} → Stands t v w → All_stand t rest more → All_stand t (item v rest) (item w more)

  pub data Fields_stand (t : Ties) : Fields → Fields → Type 0 where
    end_stands : Fields_stand t end end
    field_stands : {k : Text} {v w : Value} {rest more : Fields} → Stands t v w → Fields_stand t rest more → Fields_stand t (field k v rest) (field k w more)

-- what is found stands for what is found
pub data Found_stands (t : Ties) : Option Value → Option Value → Type 0 where
  both_none : Found_stands t None None
  both_some : {v w : Value} → Stands t v w → Found_stands t (Some v) (Some w)

-- two lists in which every two at one place are related
pub data Pairwise {A B : Type 0} (R : A → B → Type 0) : List A → List B → Type 0 where
  no_more : Pairwise R [] []
  one_more : {a : A} {b : B} {rest : List A} {more : List B} → R a b → Pairwise R rest more → Pairwise R (a ∷ rest) (b ∷ more)

-- objects of one kind whose contents stand for one another
pub data Object_stands (t : Ties) : Object → Object → Type 0 where
  plain : {f g : Fields} → Fields_stand t f g → Object_stands t (Plain f) (Plain g)
  array : {v w : Values} → All_stand t v w → Object_stands t (Array v) (Array w)
  signal : {v w : Value} → Stands t v w → Object_stands t (Signal v) (Signal w)
  computed : {v w : Value} → Stands t v w → Object_stands t (Computed v) (Computed w)
  props : {f g : Fields} → Fields_stand t f g → Object_stands t (Props f) (Props g)

-- the same key of paired addresses
pub data Loc_stands (t : Ties) : Loc → Loc → Type 0 where
  located_alike : {a b : ℕ} {k : Key} → Paired t.pairing a b → Loc_stands t (record { address = a; key = k }) (record { address = b; key = k })

-- what must hold of the ties: addresses, sites and symbols stand one to one
pub record Apart (t : Ties) : Type 0 where
  pub one_right : (a b c : ℕ) → Paired t.pairing a b → Paired t.pairing a c → b ≡ c
  pub one_left : (a b c : ℕ) → Paired t.pairing a c → Paired t.pairing b c → a ≡ b
  pub captured_alike : (s u : Site) → same_site s u ≡ true → t.sites.captures s ≡ t.sites.captures u
  pub sites_one : (s u : Site) → t.sites.stays s ≡ true → t.sites.stays u ≡ true → same_site s u ≡ same_site (t.sites.other s) (t.sites.other u)
  pub symbols_one : (s u : Site) → t.sites.lifts s ≡ true → t.sites.lifts u ≡ true → same_site s u ≡ same_text (t.sites.symbol s) (t.sites.symbol u)
  pub kinds_apart : (s u : Site) → t.sites.lifts s ≡ true → t.sites.stays u ≡ true → (same_site s u ≡ false) × (same_site u s ≡ false)
  pub no_both : (s : Site) → t.sites.lifts s ≡ true → t.sites.symbols ≡ true → ⊥
