-- What is expanded keeps what the visits of components keep, in one way of visiting them or between two.
use Rattle.std.specs.Prelude.{ℕ, zero, suc, Bool, true, false, List, [], ◌∷◌}
use Rattle.qk_meaning.specs.Value.{Text, Shown, Element, Component, Lifted_component, Fragment, Slot, Value, Values, Fields, Undefined, Null, Truth, Int, Words, Ref, Items, Record, Elem, Closure, Lifted, none, item, end}
use Rattle.qk_meaning.specs.World.{Step, Place}
use Rattle.qk_meaning.specs.Fault.{Fault, TreeTooDeep}
use Rattle.qk_meaning.specs.Doing.{Doing, ◌>>=◌, give, fault}
use Rattle.qk_meaning.specs.Expansion.{Node, Tagged, Inside, Nodes, node, no_nodes, Placed, Given, nothing_given, children_of, placed, for_slot, step_name, further, Met, Visit, Expands, in_order, joined, wrapped, takes_step, leaf, slot_with, component_with, elem_with, item_with, expand_item, expand_app}

-- a relation of doings that the few words of an expansion keep
pub record Kept_by (S : Type 0) (K : (A : Type 0) → Doing S A → Doing S A → Type 0) : Type 1 where
  pub gives : {A : Type 0} (a : A) → K A (give a) (give a)
  pub refuses : {A : Type 0} (f : Fault) → K A (fault f) (fault f)
  pub bind : {A B : Type 0} {m m' : Doing S A} {f f' : A → Doing S B} → K A m m' → ((a : A) → K B (f a) (f' a)) → K B (◌>>=◌ m f) (◌>>=◌ m' f')

module _ (S : Type 0) (K : (A : Type 0) → Doing S A → Doing S A → Type 0) (laws : Kept_by S K) where
  open laws use {gives, refuses, bind}

  in_orders : {one one' : Place → Value → Doing S Nodes} → ((place : Place) (v : Value) → K Nodes (one place v) (one' place v)) → (all : List Placed) → K Nodes (in_order one all) (in_order one' all)
  in_orders p [] = gives no_nodes
  in_orders p (x ∷ rest) = bind (p x.place x.value) (λ first. bind (in_orders p rest) (λ others. gives (joined first others)))

  wraps : (around : Nodes → Node) {m m' : Doing S Nodes} → K Nodes m m' → K Nodes (wrapped around m) (wrapped around m')
  wraps around p = bind p (λ nodes. gives (node (around nodes) no_nodes))

  leaves : (v : Value) → K Nodes (leaf v) (leaf v)
  leaves (Words w) = gives _
  leaves (Int i) = gives _
  leaves Undefined = gives _
  leaves Null = gives _
  leaves (Truth b) = gives _
  leaves (Ref a) = refuses _
  leaves (Items all) = refuses _
  leaves (Record all) = refuses _
  leaves (Elem shown key slot attributes children) = refuses _
  leaves (Closure site scope hidden) = refuses _
  leaves (Lifted symbol captured hidden) = refuses _

  abbrev Expand_so : Expands S → Expands S → Type 0
  Expand_so inner inner' = (path : List Step) (given : Given) (place : Place) (v : Value) → K Nodes (inner path given place v) (inner' path given place v)

  slots : (inner inner' : Expands S) → Expand_so inner inner' → (path : List Step) (name : Text) (given : Given) → K Nodes (slot_with inner path name given) (slot_with inner' path name given)
  slots inner inner' p path name nothing_given = gives no_nodes
  slots inner inner' p path name (children_of all outer) = in_orders (p path outer) (for_slot name (placed all))

  module _ (visit visit' : Visit S) (V : (met : Met) → K Value (visit met) (visit' met)) where
    components : (inner inner' : Expands S) → Expand_so inner inner' → (path : List Step) (given : Given) (shown : Shown) (fields : Fields) (children : Values)
        → K Nodes (component_with visit inner path given shown fields children) (component_with visit' inner' path given shown fields children)
    components inner inner' p path given shown fields children =
        bind (V (record { path = path; shown = shown; fields = fields })) (λ view. wraps (Inside path) (in_orders (p path (children_of children given)) (placed (item view none))))

    elems : (inner inner' : Expands S) → Expand_so inner inner' → (path : List Step) (given : Given) (shown : Shown) (fields : Fields) (children : Values)
        → K Nodes (elem_with visit inner path given shown fields children) (elem_with visit' inner' path given shown fields children)
    elems inner inner' p path given (Element tag) fields children = wraps (Tagged tag fields) (in_orders (p path given) (placed children))
    elems inner inner' p path given Fragment fields children = in_orders (p path given) (placed children)
    elems inner inner' p path given (Slot name) fields children = slots inner inner' p path name given
    elems inner inner' p path given (Component site) fields children = components inner inner' p path given (Component site) fields children
    elems inner inner' p path given (Lifted_component symbol) fields children = components inner inner' p path given (Lifted_component symbol) fields children

    items : (inner inner' : Expands S) → Expand_so inner inner' → Expand_so (item_with visit inner) (item_with visit' inner')
    items inner inner' p path given place (Items all) = in_orders (p (further path place []) given) (placed all)
    items inner inner' p path given place (Elem shown key slot attributes children) = elems inner inner' p (further path place (step_name shown)) given shown attributes children
    items inner inner' p path given place (Words w) = leaves (Words w)
    items inner inner' p path given place (Int i) = leaves (Int i)
    items inner inner' p path given place Undefined = leaves Undefined
    items inner inner' p path given place Null = leaves Null
    items inner inner' p path given place (Truth b) = leaves (Truth b)
    items inner inner' p path given place (Ref a) = leaves (Ref a)
    items inner inner' p path given place (Record all) = leaves (Record all)
    items inner inner' p path given place (Closure site scope hidden) = leaves (Closure site scope hidden)
    items inner inner' p path given place (Lifted symbol captured hidden) = leaves (Lifted symbol captured hidden)

    steps : (n : ℕ) → Expand_so (expand_item visit n) (expand_item visit' n)
    steps zero path given place v = last (takes_step v)
      where
        last : (b : Bool) → K Nodes (elim b [ true ↦ fault TreeTooDeep | false ↦ leaf v ]) (elim b [ true ↦ fault TreeTooDeep | false ↦ leaf v ])
        last true = refuses _
        last false = leaves v
    steps (suc n) path given place v = items (expand_item visit n) (expand_item visit' n) (steps n) path given place v

    pub expands : (app : Shown) → K Nodes (expand_app visit app) (expand_app visit' app)
    expands app = components (expand_item visit 128) (expand_item visit' 128) (steps 128) [] nothing_given app end none
