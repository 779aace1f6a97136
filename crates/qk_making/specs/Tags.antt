-- Words on what a JSX value shows.
use Rattle.std.specs.Prelude.{Bool, true, false, [], codes, None}
use Rattle.qk_meaning.specs.Value.{Shown, Slot, Value, Fields, Elem, none, end}
use Rattle.qk_making.specs.Attributes.{text_under}

abbrev pub is_slot : Shown → Bool
is_slot (Slot name) = true
is_slot _ = false

-- a slot has its name alone
abbrev pub slot_seen : Fields → Value
slot_seen attributes = Elem (Slot (text_under (codes "name") attributes)) None [] end none
