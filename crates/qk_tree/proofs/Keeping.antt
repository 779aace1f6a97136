-- What every visit keeps of a state, every expansion keeps.
use Rattle.std.specs.Prelude.{ℕ, zero, suc, Bool, true, false, List, [], ◌∷◌}
use Rattle.qk_meaning.specs.Value.{Text, Shown, Element, Component, Lifted_component, Fragment, Slot, Value, Values, Fields, Undefined, Null, Truth, Int, Words, Ref, Items, Record, Elem, Closure, Lifted, none, item}
use Rattle.qk_meaning.specs.World.{Step, Place}
use Rattle.qk_meaning.specs.Fault.{TreeTooDeep}
use Rattle.qk_meaning.specs.Doing.{Doing, Outcome, Gives, Stops, after, ◌>>=◌, give, fault, state_left}
use Rattle.qk_meaning.specs.Expansion.{Node, Tagged, Inside, Nodes, node, no_nodes, Placed, Given, nothing_given, children_of, placed, for_slot, step_name, further, Met, Visit, Expands, in_order, joined, wrapped, view_with, takes_step, leaf, slot_with, component_with, elem_with, item_with, expand_item}

module _ {S : Type 0} (P : S → Type 0) where
  abbrev pub Keeps : {A : Type 0} → Doing S A → Type 0
  Keeps m = (s : S) → P s → P (state_left (m s))

  behind_outcome : {A B : Type 0} (o : Outcome S A) (f : A → Doing S B) → ((a : A) → Keeps (f a)) → P (state_left o) → P (state_left (after o f))
  behind_outcome (Gives a s) f p h = p a s h
  behind_outcome (Stops why s) f p h = h

  bind : {A B : Type 0} (m : Doing S A) (f : A → Doing S B) → Keeps m → ((a : A) → Keeps (f a)) → Keeps (◌>>=◌ m f)
  bind m f p q s h = behind_outcome (m s) f q (p s h)

  gives : {A : Type 0} (a : A) → Keeps (give a)
  gives a s h = h

  pub in_orders : (one : Place → Value → Doing S Nodes) → ((place : Place) (v : Value) → Keeps (one place v)) → (all : List Placed) → Keeps (in_order one all)
  in_orders one p [] = gives no_nodes
  in_orders one p (x ∷ rest) =
      bind (one x.place x.value) (λ first. ◌>>=◌ (in_order one rest) (λ others. give (joined first others))) (p x.place x.value)
      (λ first. bind (in_order one rest) (λ others. give (joined first others)) (in_orders one p rest) (λ others. gives (joined first others)))

  pub wraps : (around : Nodes → Node) (m : Doing S Nodes) → Keeps m → Keeps (wrapped around m)
  wraps around m p = bind m (λ nodes. give (node (around nodes) no_nodes)) p (λ nodes. gives (node (around nodes) no_nodes))

  leaves : (v : Value) → Keeps (leaf v)
  leaves (Words w) s h = h
  leaves (Int i) s h = h
  leaves Undefined s h = h
  leaves Null s h = h
  leaves (Truth b) s h = h
  leaves (Ref a) s h = h
  leaves (Items list) s h = h
  leaves (Record fields) s h = h
  leaves (Elem shown key slot attributes children) s h = h
  leaves (Closure site scope hidden) s h = h
  leaves (Lifted symbol captured hidden) s h = h

  abbrev pub All_keep : Expands S → Type 0
  All_keep inner = (path : List Step) (given : Given) (place : Place) (v : Value) → Keeps (inner path given place v)

  slots : (inner : Expands S) → All_keep inner → (path : List Step) (name : Text) (given : Given) → Keeps (slot_with inner path name given)
  slots inner p path name nothing_given = gives no_nodes
  slots inner p path name (children_of list outer) = in_orders (inner path outer) (p path outer) (for_slot name (placed list))

  module _ (visit : Visit S) (V : (met : Met) → Keeps (visit met)) where
    components : (inner : Expands S) → All_keep inner → (path : List Step) (given : Given) (shown : Shown) (fields : Fields) (children : Values) → Keeps (component_with visit inner path given shown fields children)
    components inner p path given shown fields children =
        bind (visit (record { path = path; shown = shown; fields = fields })) (λ view. wrapped (Inside path) (view_with inner path (children_of children given) view)) (V (record { path = path; shown = shown; fields = fields }))
        (λ view. wraps (Inside path) (view_with inner path (children_of children given) view) (in_orders (inner path (children_of children given)) (p path (children_of children given)) (placed (item view none))))

    elems : (inner : Expands S) → All_keep inner → (path : List Step) (given : Given) (shown : Shown) (fields : Fields) (children : Values) → Keeps (elem_with visit inner path given shown fields children)
    elems inner p path given (Element tag) fields children = wraps (Tagged tag fields) (in_order (inner path given) (placed children)) (in_orders (inner path given) (p path given) (placed children))
    elems inner p path given Fragment fields children = in_orders (inner path given) (p path given) (placed children)
    elems inner p path given (Slot name) fields children = slots inner p path name given
    elems inner p path given (Component site) fields children = components inner p path given (Component site) fields children
    elems inner p path given (Lifted_component symbol) fields children = components inner p path given (Lifted_component symbol) fields children

    items : (inner : Expands S) → All_keep inner → All_keep (item_with visit inner)
    items inner p path given place (Items list) = in_orders (inner (further path place []) given) (p (further path place []) given) (placed list)
    items inner p path given place (Elem shown key slot attributes children) = elems inner p (further path place (step_name shown)) given shown attributes children
    items inner p path given place (Words w) = leaves (Words w)
    items inner p path given place (Int i) = leaves (Int i)
    items inner p path given place Undefined = leaves Undefined
    items inner p path given place Null = leaves Null
    items inner p path given place (Truth b) = leaves (Truth b)
    items inner p path given place (Ref a) = leaves (Ref a)
    items inner p path given place (Record fields) = leaves (Record fields)
    items inner p path given place (Closure site scope hidden) = leaves (Closure site scope hidden)
    items inner p path given place (Lifted symbol captured hidden) = leaves (Lifted symbol captured hidden)

    pub expands : (n : ℕ) → All_keep (expand_item visit n)
    expands zero path given place v = last (takes_step v)
      where
        last : (b : Bool) → Keeps (elim b [ true ↦ fault TreeTooDeep | false ↦ leaf v ])
        last true s h = h
        last false s h = leaves v s h
    expands (suc n) path given place v = items (expand_item visit n) (expands n) path given place v
