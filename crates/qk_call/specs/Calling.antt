-- A call of a root arrow of the module in a file, and what is printed of it.
use Rattle.std.specs.Prelude.{◌≡◌, List, ◌∷◌, Option, Some}
use Rattle.qk_ast.specs.declared.Form.TheVariants.{Source}
use Rattle.qk_ast.specs.declared.Module.{Module}
use Rattle.qk_ast.specs.Derives.{Derives}
use Rattle.qk_ast.specs.Sources.{Named_module}
use Rattle.qk_ast.specs.Texts.{Text}
use Rattle.qk_base.specs.declared.meter.Budget.{Budget}
use Rattle.qk_meaning.specs.Readings.{captured_program_of}
use Rattle.qk_meaning.specs.Running.{Mode}
use Rattle.qk_store.specs.Files.{Files}
use Rattle.qk_store.specs.Pieces.{IsPut}
use Rattle.qk_call.specs.declared.played.Played.{Played}
use Rattle.qk_call.specs.declared.played.Ending.{Ending}
use Rattle.qk_call.specs.Playing.{PlaysNamed, ending_of}
use Rattle.qk_call.specs.Printing.{IsText}

-- The text is what is printed of the call of that name in the module that the source derives: of what the call comes to by the meaning of that module with some files behind it, and so it
-- ends.
pub record ComesOf (source «module» name : Text) (budget : Budget) (mode : Mode) (ending : Ending) (text : Text) : Type 0 where
  pub tree : Module
  pub derives : Derives Source source tree
  pub others : List Named_module
  pub played : Played
  pub plays : PlaysNamed (captured_program_of ((«module», tree) ∷ others)) «module» name budget mode played
  pub is : IsText played text
  pub ends : ending ≡ ending_of played.came

-- it was put
pub record IsCalled (source «module» name : Text) (budget : Budget) (mode : Mode) (ending : Ending) (before after : Option Text) : Type 0 where
  pub text : Text
  pub comes : ComesOf source «module» name budget mode ending text
  pub put : IsPut text before after

-- so it is with the file of that name
pub record PrintsCall (told : Files) (file «module» name : Text) (budget : Budget) (mode : Mode) (ending : Ending) (before after : Option Text) : Type 0 where
  pub source : Text
  pub stands : told file ≡ Some source
  pub called : IsCalled source «module» name budget mode ending before after
