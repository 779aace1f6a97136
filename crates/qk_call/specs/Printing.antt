-- What is printed of a call.
use Rattle.std.specs.Prelude.{◌≡◌, ◌++◌, flat_map, codes}
use Rattle.qk_ast.specs.Texts.{Text}
use Rattle.qk_meaning.specs.Fault.{fault_name}
use Rattle.qk_meaning.specs.Output.{printed_char, line, log_lines}
use Rattle.qk_value.specs.Faults.{fault_of}
use Rattle.qk_call.specs.declared.played.Came.{Came}
use Rattle.qk_call.specs.declared.played.Played.{Played}

-- a text in which a backslash, a line feed and a carriage return are written by two characters
abbrev pub on_a_line : Text → Text
on_a_line t = flat_map printed_char t

abbrev pub log_line : Text → Text
log_line w = line (codes "log " ++ on_a_line w)

-- how a call came out, on a line; a value has some text
abbrev pub EndsIn : Came → Text → Type 0
EndsIn (Came.Value v) last = (shown : Text) × (last ≡ line (on_a_line shown))
EndsIn (Came.Fault f) last = last ≡ line (codes "fault " ++ fault_name (fault_of f))
EndsIn Came.Ended last = last ≡ line (codes "ended")

-- the console lines, and behind them how the call came out
pub record IsText (played : Played) (text : Text) : Type 0 where
  pub last : Text
  pub ends : EndsIn played.came last
  pub is : text ≡ log_lines played.lines ++ last
