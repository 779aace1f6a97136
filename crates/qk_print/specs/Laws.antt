-- What is known of the text that is printed.
use Rattle.std.specs.Prelude.{ℕ, List}
use Rattle.qk_ast.specs.declared.Form.TheVariants.{Source, Built}
use Rattle.qk_ast.specs.declared.Module.{Module}
use Rattle.qk_ast.specs.Derives.{Derives}
use Rattle.qk_print.specs.Printing.{print_text}

-- The printed text of a module that a source derives is a built file that derives the same module, within the limits of built files on length and
-- nesting.
abbrev pub PrintedReadsBack : Type 0
PrintedReadsBack = (source : List ℕ) (m : Module) → Derives Source source m → Derives Built (print_text m) m
