-- What is answered of a text: its items, or why it is no script.
use Rattle.std.specs.Prelude.{◌≡◌, ◌≤◌, ◌<◌, ℕ, suc, List, [], ◌∷◌, ◌++◌, length, string_bytes}
use Rattle.std.specs.Option.{option_map}
use Rattle.qk_meaning.specs.Value.{Text}
use Rattle.qk_meaning.specs.Item.{Event}
use Rattle.qk_meaning.specs.Run.{Line, Happens, Pauses}
use Rattle.qk_script.specs.declared.item.Event.{Event as Kept}
use Rattle.qk_script.specs.declared.item.ScriptItem.{ScriptItem}
use Rattle.qk_script.specs.declared.item.ScriptItem.TheVariants as item
use Rattle.qk_script.specs.declared.fault.ScriptFault.{ScriptFault}
use Rattle.qk_script.specs.declared.fault.ScriptFault.TheVariants as fault
use Rattle.qk_script.specs.Script.{lines_of, IsLine, TextSpells}

-- the event that is kept so
abbrev pub event_of : Kept → Event
event_of e = record { kind = string_bytes e.kind; id = string_bytes e.id; value = option_map string_bytes e.value }

-- the item that is kept so
abbrev pub item_of : ScriptItem → Line
item_of (item.Event e) = Happens (event_of e)
item_of item.Pause = Pauses

-- these are lines of a script, all of them
abbrev pub AreLines : List Text → Type 0
AreLines [] = Unit {0}
AreLines (line ∷ lines) = IsLine line × AreLines lines

-- the line of this number, counted from 1, is the first that is no line of a script
pub record FirstWrong (text : Text) (number : ℕ) : Type 0 where
  pub before : List Text
  pub wrong : Text
  pub after : List Text
  pub stands : lines_of text ≡ before ++ (wrong ∷ after)
  pub numbered : number ≡ suc (length before)
  pub right : AreLines before
  pub is_wrong : ¬ IsLine wrong

-- a script has at most so many items
abbrev pub most_items : ℕ
most_items = 65536

-- the text spells more items than a script may have
pub record HasTooMany (text : Text) : Type 0 where
  pub items : List Line
  pub spelled : TextSpells text items
  pub many : most_items < length items

abbrev pub IsFaultOf : Text → ScriptFault → Type 0
IsFaultOf text (fault.Line number) = FirstWrong text number
IsFaultOf text fault.TooMany = HasTooMany text
IsFaultOf text fault.Memory = Unit {0}

-- the text is a script of these items
abbrev pub IsScript : Text → List Line → Type 0
IsScript text items = TextSpells text items × (length items ≤ most_items)
