-- What each kind of change logs, in its order; these are the equations by which the heap of a program can be written. What a change doesn't log is the same behind it.
use Rattle.std.specs.Prelude.{ℕ, ◌≡◌, ◌<◌, Bool, true, false, not, ◌&&◌, List, [], ◌∷◌, ◌++◌, length, set, ⊤, codes}
use Rattle.std.specs.List.{list_any}
use Rattle.qk_meaning.specs.Value.{Text, Site, Value, Undefined, Fields, end, field}
use Rattle.qk_meaning.specs.World.{Object, Plain, Array, Signal, Loc, Key, Keys, Length, Index, Prop}
use Rattle.qk_meaning.specs.Parts.{packed, nth, value_at, has_field, with_field, without_field}
use Rattle.qk_meaning.specs.Same.{same}
use Rattle.qk_meaning.specs.Changes.{unless_same, changed_in, located}
use Rattle.qk_meaning.specs.Places.{same_location}
use Rattle.qk_meaning.specs.Writing.{Becoming, Becomes, Stays, written, deleted, pushed_on, items_left}
use Rattle.qk_meaning.specs.Props.{props_log}
use Rattle.qk_meaning.specs.Standing.{at_key, Same_standing}
use Rattle.qk_meaning.specs.Execution.{fields_of, props_become}

-- every value is the same as itself
abbrev pub SameAsItself : Type 0
SameAsItself = (captures : Site → List Text) (v : Value) → same captures v v ≡ true

-- no name stands twice
abbrev pub distinct : Fields → Bool
distinct end = true
distinct (field n v rest) = not (has_field n rest) && distinct rest

abbrev pub keys_if : Bool → List Key
keys_if true = Keys ∷ []
keys_if false = []

abbrev pub listed_if : Bool → List Key → List Key
listed_if true keys = keys
listed_if false keys = []

-- a property is written: it, unless it holds the same, and the key list where it is new
abbrev pub PropertyWritten : Type 0
PropertyWritten =
    (captures : Site → List Text) (fields : Fields) (name : Text) (v : Value) → distinct fields ≡ true →
    changed_in captures (Plain fields) (Plain (with_field name v fields)) ≡ unless_same captures (value_at name fields) v (Prop name) ++ keys_if (not (has_field name fields))

-- a property is deleted: it, unless it was undefined, and the key list; nothing where there is none
abbrev pub PropertyDeleted : Type 0
PropertyDeleted =
    (captures : Site → List Text) (fields : Fields) (name : Text) → distinct fields ≡ true →
    changed_in captures (Plain fields) (Plain (without_field name fields)) ≡ listed_if (has_field name fields) (unless_same captures (value_at name fields) Undefined (Prop name) ++ (Keys ∷ []))

-- an index below the length is written
abbrev pub IndexWritten : Type 0
IndexWritten =
    (captures : Site → List Text) (all : List Value) (n : ℕ) (v : Value) → n < length all →
    changed_in captures (Array (packed all)) (Array (packed (set all n v))) ≡ unless_same captures (nth all n) v (Index n)

-- an item stands behind the others now: its index, unless it is undefined, and the length
abbrev pub ItemPushed : Type 0
ItemPushed =
    (captures : Site → List Text) (all : List Value) (v : Value) →
    changed_in captures (Array (packed all)) (Array (packed (all ++ (v ∷ [])))) ≡ unless_same captures Undefined v (Index (length all)) ++ (Length ∷ [])

-- the last item goes: its index, unless it was undefined, and the length
abbrev pub ItemPopped : Type 0
ItemPopped =
    (captures : Site → List Text) (all : List Value) (v : Value) →
    changed_in captures (Array (packed (all ++ (v ∷ [])))) (Array (packed all)) ≡ unless_same captures v Undefined (Index (length all)) ++ (Length ∷ [])

-- a signal is written
abbrev pub SignalWritten : Type 0
SignalWritten = (captures : Site → List Text) (v w : Value) → changed_in captures (Signal v) (Signal w) ≡ unless_same captures v w (Prop (codes "value"))

-- ---- what isn't logged

-- behind what became of the object at an address the same stands at each of its keys that isn't logged
abbrev pub Unlogged_same : (Site → List Text) → ℕ → (Object → Object → List Loc) → Object → Becoming → Type 0
Unlogged_same captures a logs old (Becomes new) = (k : Key) → list_any (same_location (record { address = a; key = k })) (logs old new) ≡ false → Same_standing captures (at_key old k) (at_key new k)
Unlogged_same captures a logs old (Stays f) = ⊤

-- so it is behind a change of any object that logs this
abbrev pub Logs_all : (Site → List Text) → ℕ → (Object → Becoming) → (Object → Object → List Loc) → Type 0
Logs_all captures a change logs = (old : Object) → Unlogged_same captures a logs old (change old)

-- what a change of code logs, and what the setting of props does
abbrev pub log_of_change : (Site → List Text) → ℕ → Object → Object → List Loc
log_of_change captures a old new = located a (changed_in captures old new)

abbrev pub log_of_props : (Site → List Text) → ℕ → Fields → Object → Object → List Loc
log_of_props captures a given old new = props_log (same captures) a (fields_of old) given

-- all changes log whatever isn't the same behind them: properties written and deleted, indexes written, items more and less, and props that are set
pub record All_log_all (captures : Site → List Text) (a : ℕ) : Type 0 where
  pub written : (key v : Value) → Logs_all captures a (λ o. written o key v) (log_of_change captures a)
  pub deleted : (key : Value) → Logs_all captures a (λ o. deleted o key) (log_of_change captures a)
  pub pushed : (v : Value) → Logs_all captures a (pushed_on v) (log_of_change captures a)
  pub left : (f : List Value → List Value) → Logs_all captures a (items_left f) (log_of_change captures a)
  pub set : (given : Fields) → Logs_all captures a (props_become (same captures) given) (log_of_props captures a given)

-- what a change doesn't log is the same behind it
abbrev pub UnloggedIsSame : Type 0
UnloggedIsSame = (captures : Site → List Text) (a : ℕ) → All_log_all captures a
