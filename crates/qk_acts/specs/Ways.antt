-- What stands in the way of a change, and what calls are given.
use Rattle.std.specs.Prelude.{◌≡◌, ℤ, List, [], ◌∷◌, Option, Some, None, Result, Ok, Err}
use Rattle.qk_meaning.specs.Value as M
use Rattle.qk_meaning.specs.Fault as F
use Rattle.qk_meaning.specs.Writing.{in_the_way}
use Rattle.qk_meaning.specs.Setting.{is_effect}
use Rattle.qk_value.specs.declared.fault.Fault.{Fault}
use Rattle.qk_value.specs.declared.value.Addr.{Addr}
use Rattle.qk_value.specs.declared.value.Value.{Value}
use Rattle.qk_value.specs.Faults.{fault_of}
use Rattle.qk_value.specs.View.{seen}
use Rattle.qk_heap.specs.declared.object.Object.{Object}
use Rattle.qk_heap.specs.Seen.{heap_seen}
use Rattle.qk_environment.specs.Scoping.{Captures}
use Rattle.qk_code.specs.declared.mode.Mode.{Mode}
use Rattle.qk_code.specs.Modes.{mode_seen}

-- what stands in the way of a change of a value in a mode
abbrev pub in_way : Captures → Mode → List Object → Value → Option F.Fault
in_way captured mode heap v = in_the_way (is_effect (mode_seen mode)) (heap_seen captured heap) (seen captured v)

-- the value is the state object at an address and nothing stands in the way, or this does
abbrev pub WayTo : Mode → List Object → Value → Result Addr Fault → Type 0
WayTo mode heap v (Ok a) = (v ≡ Value.Ref a) × ((captured : Captures) → in_way captured mode heap v ≡ None)
WayTo mode heap v (Err f) = (captured : Captures) → in_way captured mode heap v ≡ Some (fault_of f)

-- the one of a list that has one alone
abbrev pub only_of : {A : Type 0} → List A → Option A
only_of (a ∷ []) = Some a
only_of _ = None

-- the two integers that these values are
abbrev pub integers_in : List M.Value → Option (ℤ × ℤ)
integers_in (M.Int a ∷ (M.Int b ∷ [])) = Some (a, b)
integers_in _ = None
