-- Which texts are scripts that are played, and why another one is refused.
use Rattle.std.specs.Prelude.{◌≤◌, ◌<◌, ℕ, List, ◌++◌, length, map, codes, Contains}
use Rattle.std.specs.Str.{IsUtf8}
use Rattle.qk_meaning.specs.Value.{Text}
use Rattle.qk_meaning.specs.Item.{Event}
use Rattle.qk_meaning.specs.Run.{Line, Happens, Pauses}
use Rattle.qk_script.specs.Answer.{IsScript, FirstWrong, HasTooMany}
use Rattle.qk_top.specs.Decimals.{count_text}

-- the text may have lines: it has at most 1 MiB and is UTF-8
pub record IsReadable (text : Text) : Type 0 where
  pub short : length text ≤ 1048576
  pub utf8 : IsUtf8 text

-- the text is a script of these items
pub record SpellsItems (text : Text) (items : List Line) : Type 0 where
  pub readable : IsReadable text
  pub spelled : IsScript text items

-- the text is a script of these events, without a pause
abbrev pub SpellsEvents : Text → List Event → Type 0
SpellsEvents text events = SpellsItems text (map Happens events)

-- The text is refused as this; each cause stands where none before it does.
pub data RefusedText (text : Text) : Text → Type 0 where
  too_long : 1048576 < length text → RefusedText text (codes "ScriptTooLong")
  not_utf8 : length text ≤ 1048576 → ¬ IsUtf8 text → RefusedText text (codes "ScriptNotUtf8")
  -- the line of this number, counting all from 1, is the first that is no line of a script
  wrong_line : {number : ℕ} → IsReadable text → FirstWrong text number → RefusedText text (codes "ScriptLine " ++ count_text number)
  too_many : IsReadable text → HasTooMany text → RefusedText text (codes "ScriptTooMany")
  -- a script, but with a pause; there are no pauses yet
  with_pause : {items : List Line} → SpellsItems text items → Contains items Pauses → RefusedText text (codes "NotBuilt")
