-- What came of a change of an object, beside what the definition makes of it.
use Rattle.std.specs.Prelude.{◌≡◌, ℕ, true, false, List, set, slice_get, Some}
use Rattle.qk_value.specs.declared.value.Value.{Value}
use Rattle.qk_ast.specs.Texts.{Text}
use Rattle.qk_meaning.specs.Value.{Site, Words}
use Rattle.qk_meaning.specs.World as M
use Rattle.qk_meaning.specs.Fault.{FixedWrite}
use Rattle.qk_meaning.specs.Heap.{object_at}
use Rattle.qk_meaning.specs.Writing.{Becoming, Becomes, Stays, is_state, deleted}
use Rattle.qk_meaning.specs.Changes.{changed_in}
use Rattle.qk_value.specs.Faults.{fault_of}
use Rattle.qk_heap.specs.declared.fault.HeapStop.{HeapStop}
use Rattle.qk_heap.specs.declared.object.Object.{Object}
use Rattle.qk_heap.specs.Told.{Told, Hears, keys_changed}
use Rattle.qk_heap.specs.Seen.{object_seen, heap_seen}

-- the object is what it becomes, and the watch was told of each key whose old and new value aren't the same, in the definition's order
pub record Became {W : Type 0} (stands_for : W → List Told → Type 0) (names : Site → List Text) (a : ℕ) (becoming : Becoming) (old new : Object) (before after : W) : Type 0 where
  pub becomes : becoming ≡ Becomes (object_seen names new)
  pub told : Hears stands_for before (keys_changed a (changed_in names (object_seen names old) (object_seen names new))) after

-- the fault is the definition's; want of memory may always come
abbrev pub Refuses : HeapStop → Becoming → Type 0
Refuses (HeapStop.Fault f) becoming = becoming ≡ Stays (fault_of f)
Refuses HeapStop.Memory becoming = Unit {0}

-- at a fault nothing was told
abbrev pub AtFault : HeapStop → Type 0 → Type 0
AtFault (HeapStop.Fault f) P = P
AtFault HeapStop.Memory P = Unit {0}

-- a key of an object is deleted; one that is no state object stays before the key is tried
abbrev pub deleted_from : M.Object → Text → Becoming
deleted_from o t = elim (is_state o) [ true ↦ deleted o (Words t) | false ↦ Stays FixedWrite ]

-- the same of a heap: the object at an address becomes what the definition makes of it, the others stay, and the watch was told of each key that isn't the same
pub record HeapBecame {W : Type 0} (stands_for : W → List Told → Type 0) (names : Site → List Text) (a : ℕ) (becoming : Becoming) (old new : List Object) (before after : W) : Type 0 where
  pub object : M.Object
  pub becomes : becoming ≡ Becomes object
  pub heap : heap_seen names new ≡ set (heap_seen names old) a object
  pub told : Hears stands_for before (keys_changed a (changed_in names (object_at (heap_seen names old) a) object)) after

abbrev pub IsArray : Object → Type 0
IsArray (Object.Array items) = Unit {0}
IsArray _ = ⊥

-- the object at an address is an array
abbrev pub HoldsArray : List Object → ℕ → Type 0
HoldsArray objects a = (items : List Value) × (slice_get objects a ≡ Some (Object.Array items))
