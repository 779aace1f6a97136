-- What setting the props of an instance comes to.
use Rattle.std.specs.Prelude.{◌≡◌, ℕ, Bool, true, false, not, List, [], set, slice_get, Option, Some}
use Rattle.std.specs.Option.{option_map}
use Rattle.qk_ast.specs.Texts.{Text}
use Rattle.qk_meaning.specs.Value as M
use Rattle.qk_meaning.specs.Value.{Site}
use Rattle.qk_meaning.specs.World as world
use Rattle.qk_meaning.specs.Parts.{value_at, has_field, or_undefined}
use Rattle.qk_meaning.specs.Heap.{object_at}
use Rattle.qk_meaning.specs.Same.{same}
use Rattle.qk_meaning.specs.Changes.{unless_same}
use Rattle.qk_meaning.specs.Props.{fields_after, props_log}
use Rattle.qk_meaning.specs.Execution.{fields_of}
use Rattle.qk_value.specs.declared.value.Value.{Value}
use Rattle.qk_value.specs.View.{seen, seen_fields}
use Rattle.qk_heap.specs.declared.object.Object.{Object}
use Rattle.qk_heap.specs.Told.{Told, Hears, all_changed}
use Rattle.qk_heap.specs.Seen.{object_seen, heap_seen}

abbrev pub IsProps : Object → Type 0
IsProps (Object.Props fields) = Unit {0}
IsProps _ = ⊥

-- the object at an address holds props
abbrev pub HoldsProps : List Object → ℕ → Type 0
HoldsProps objects a = (fields : List (Text × Value)) × (slice_get objects a ≡ Some (Object.Props fields))

-- the object at an address has the definition's fields afterwards, the other objects stay, and the watch was told the definition's log
pub record HeapPropsSet {W : Type 0} (stands_for : W → List Told → Type 0) (names : Site → List Text) (a : ℕ) (given : List (Text × Value)) (old new : List Object) (before after : W) : Type 0 where
  pub heap : heap_seen names new ≡ set (heap_seen names old) a (world.Props (fields_after (same names) (fields_of (object_at (heap_seen names old) a)) (seen_fields names given)))
  pub told : Hears stands_for before (all_changed (props_log (same names) a (fields_of (object_at (heap_seen names old) a)) (seen_fields names given))) after

-- the same of the object
pub record ObjectPropsSet {W : Type 0} (stands_for : W → List Told → Type 0) (names : Site → List Text) (a : ℕ) (given : List (Text × Value)) (old new : Object) (before after : W) : Type 0 where
  pub object : object_seen names new ≡ world.Props (fields_after (same names) (fields_of (object_seen names old)) (seen_fields names given))
  pub told : Hears stands_for before (all_changed (props_log (same names) a (fields_of (object_seen names old)) (seen_fields names given))) after

-- the same of the fields alone
pub record PropsSet {W : Type 0} (stands_for : W → List Told → Type 0) (names : Site → List Text) (a : ℕ) (given old new : List (Text × Value)) (before after : W) : Type 0 where
  pub fields : seen_fields names new ≡ fields_after (same names) (seen_fields names old) (seen_fields names given)
  pub told : Hears stands_for before (all_changed (props_log (same names) a (seen_fields names old) (seen_fields names given))) after

-- ---- words of the steps

-- whether a name is told of: each name, or those that aren't given
abbrev pub passes : (gone : Bool) → M.Fields → Text → Bool
passes true given k = not (has_field k given)
passes false given k = true

-- the property of a name, unless the test refuses it or both have the same value
abbrev pub changed_at : (Site → List Text) → Bool → Text → M.Fields → M.Fields → List world.Key
changed_at names test k old given = elim test [ false ↦ [] | true ↦ unless_same names (value_at k old) (value_at k given) (world.Prop k) ]

-- a value that may be missing
abbrev pub value_seen : (Site → List Text) → Option Value → M.Value
value_seen names v = or_undefined (option_map (seen names) v)

-- the older value where both are the same, else the newer
abbrev pub older_or_new : (Site → List Text) → M.Value → M.Value → M.Value
older_or_new names v w = elim (same names v w) [ true ↦ v | false ↦ w ]
