-- One module at its turn.
use Rattle.std.specs.Prelude.{◌≡◌, ◌<◌, ℕ, IsTrue, List, [], ◌∷◌, length, All, Option, Some, Result, Ok, Err}
use Rattle.std.specs.Option.{option_map}
use Rattle.std.specs.Str.{IsUtf8}
use Rattle.qk_ast.specs.declared.Form.TheVariants.{Source}
use Rattle.qk_ast.specs.Derives.{Derives}
use Rattle.qk_ast.specs.Texts.{Text}
use Rattle.qk_ast.specs.Sources.{source_module, is_module_source}
use Rattle.qk_store.specs.Files.{Files}
use Rattle.qk_store.specs.Answers.{bytes, Answer}
use Rattle.qk_modules.specs.declared.modules.NamedModule.{NamedModule}
use Rattle.qk_modules.specs.declared.fault.GatherFault.{GatherFault}
use Rattle.qk_modules.specs.declared.fault.GatherFault.TheVariants.{Memory, Parse}
use Rattle.qk_parse.specs.declared.parse.ParseFault.{ParseFault}
use Rattle.qk_parse.specs.declared.parse.ParseFault.TheVariants as parse
use Rattle.qk_modules.specs.Places.{place_of}
use Rattle.qk_modules.specs.Gathering.{read_as, IsTold, RefusedText, RefusedTurn, behind}

-- what comes of the text of a module before which so many stand
abbrev pub TextComes : (before : ℕ) (name text : Text) → Result NamedModule GatherFault → Type 0
TextComes before name text (Ok m) = (m.name ≡ name) × IsUtf8 text × Derives Source text m.module × (before < 256)
TextComes before name text (Err fault) = RefusedText before name text fault

-- what comes of a turn in which this was read
abbrev pub TurnComes : List NamedModule → (source : Text) → List Answer → Result NamedModule GatherFault → Type 0
TurnComes modules source last (Ok m) = (text : Text) × (last ≡ read_as (source_module source) (bytes text) ∷ []) × IsTrue (is_module_source source) × TextComes (length modules) (source_module source) text (Ok m)
TurnComes modules source last (Err fault) = RefusedTurn modules source last fault

-- a turn over a store of these files, if it tells them, which had answered that before and after, if it tells it
pub record Turns (files : Option Files) (before after : Option (List Answer)) (modules : List NamedModule) (source : Text) (result : Result NamedModule GatherFault) : Type 0 where
  pub last : List Answer
  pub answered : after ≡ option_map (behind last) before
  pub told : (told : Files) → files ≡ Some told → All (IsTold told) last
  pub comes : TurnComes modules source last result

-- the refusal of a text by the parser's fault
abbrev pub fault_of : (name text : Text) → ParseFault → GatherFault
fault_of name text parse.Memory = Memory
fault_of name text fault = Parse name fault (place_of text fault)
