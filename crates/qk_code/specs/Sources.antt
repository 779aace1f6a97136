-- The files that a code has, and what they mean.
use Rattle.std.specs.Prelude.{◌≡◌, List, ◌++◌}
use Rattle.qk_ast.specs.declared.Form.{Form}
use Rattle.qk_ast.specs.declared.Form.TheVariants.{Source, Built}
use Rattle.qk_ast.specs.Sources.{Named_module}
use Rattle.qk_meaning.specs.Index.{Index}
use Rattle.qk_meaning.specs.Program.{Program}
use Rattle.qk_meaning.specs.Readings.{captured_program_of, captured_built_program_of}

-- modules or built files by their names, and the index of the application
pub record Sources : Type 0 where
  pub files : List Named_module
  pub index : Index

-- files may be added; those that stand there stay, and so does the index
pub record Extends (before after : Sources) : Type 0 where
  pub added : List Named_module
  pub files : after.files ≡ before.files ++ added
  pub index : after.index ≡ before.index

-- what they mean: modules as they are written, or built files, each with functions that keep the values of what they capture
abbrev pub reading : Form → Sources → Program
reading Source s = captured_program_of s.files
reading Built s = captured_built_program_of s.index s.files
