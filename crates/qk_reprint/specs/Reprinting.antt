-- What is printed of a module's file.
use Rattle.std.specs.Prelude.{◌≡◌, Option, Some}
use Rattle.qk_ast.specs.declared.Module.{Module}
use Rattle.qk_ast.specs.declared.Form.TheVariants.{Source}
use Rattle.qk_ast.specs.Derives.{Derives}
use Rattle.qk_ast.specs.Texts.{Text}
use Rattle.qk_store.specs.Files.{Files}
use Rattle.qk_store.specs.Pieces.{IsPut}
use Rattle.qk_print.specs.Printing.{print_text}

-- the source derives a module, whose text as built files have it was put
pub record IsPrinted (source : Text) (before after : Option Text) : Type 0 where
  pub m : Module
  pub derives : Derives Source source m
  pub put : IsPut (print_text m) before after

-- so it is with the file of that name
pub record Reprints (told : Files) (name : Text) (before after : Option Text) : Type 0 where
  pub source : Text
  pub stands : told name ≡ Some source
  pub printed : IsPrinted source before after
