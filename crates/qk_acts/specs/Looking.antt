-- What stands at a key of a value.
use Rattle.std.specs.Prelude.{◌≡◌, ℤ, List, [], ◌∷◌, Option, Some, None, Result, Ok, Err}
use Rattle.qk_meaning.specs.World as W
use Rattle.qk_meaning.specs.Heap.{Member_read, Found, Runs, Not_there, index_location, read_member}
use Rattle.qk_value.specs.declared.fault.Fault.{Fault as Refusal}
use Rattle.qk_value.specs.declared.value.Addr.{Addr}
use Rattle.qk_value.specs.declared.value.Value.{Value}
use Rattle.qk_value.specs.View.{seen, seen_function}
use Rattle.qk_value.specs.Faults.{fault_of}
use Rattle.qk_heap.specs.declared.location.Loc.{Loc}
use Rattle.qk_heap.specs.declared.object.Object.{Object}
use Rattle.qk_heap.specs.Seen.{loc_seen, heap_seen}
use Rattle.qk_code.specs.declared.stop.Stop.{Stop}
use Rattle.qk_code.specs.declared.stop.Stop.TheVariants.{Fault, Ended, Code, Memory}
use Rattle.qk_acts.specs.declared.reading.Look.{Look}
use Rattle.qk_environment.specs.Scoping.{Captures}

abbrev pub locations_of : Option Loc → List W.Loc
locations_of None = []
locations_of (Some l) = loc_seen l ∷ []

abbrev pub look_seen : Captures → Look → Member_read
look_seen captured (Look.Found v l) = Found (seen captured v) (locations_of l)
look_seen captured (Look.Runs a f) = Runs a.0 (seen_function captured f)

-- it is what is read, or the fault of the read
abbrev pub Reads : (Captures → Member_read) → Result Look Stop → Type 0
Reads read (Ok look) = (captured : Captures) → read captured ≡ look_seen captured look
Reads read (Err (Fault f)) = (captured : Captures) → read captured ≡ Not_there (fault_of f)
Reads read (Err Ended) = ⊥
Reads read (Err (Code why)) = ⊥
Reads read (Err Memory) = Unit {0}

-- it is what the meaning reads there, or the meaning's fault
abbrev pub LooksUp : List Object → Value → Value → Result Look Stop → Type 0
LooksUp heap object key = Reads (λ captured. read_member (heap_seen captured heap) (seen captured object) (seen captured key))

-- the location of a key of the object at an address; a fixed value has none
abbrev pub key_location : Option Addr → W.Key → List W.Loc
key_location None key = []
key_location (Some a) key = record { address = a.0; key = key } ∷ []

-- the location of an index of an array; a fixed list has none
abbrev pub item_location : Option Addr → ℤ → List W.Loc
item_location None n = []
item_location (Some a) n = index_location a.0 n

-- what is read, unless the key is refused
abbrev pub unless_refused : {A : Type 0} → Result A Refusal → Member_read → Member_read
unless_refused (Ok a) read = read
unless_refused (Err f) read = Not_there (fault_of f)
