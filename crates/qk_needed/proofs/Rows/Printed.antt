-- What is printed of a script where only what is needed is played, and an accepted pause drops hidden functions and all that is kept of computeds.
use Rattle.std.specs.Prelude.{List}
use Rattle.qk_meaning.specs.Value.{Text}
use Rattle.qk_ast.specs.Sources.{Named_module}
use Rattle.qk_meaning.specs.Program.{Program}
use Rattle.qk_meaning.specs.Readings.{program_of, captured_program_of}
use Rattle.qk_meaning.specs.Item.{Limits}
use Rattle.qk_meaning.specs.Run.{Line}
use Rattle.qk_meaning.specs.Dropping.{accepts_pause, left_by_pause}
use Rattle.qk_meaning.specs.Output.{output}
use Rattle.qk_needed.specs.Needed_item.{plays_needed}

abbrev pub printed_needed_by : Program → Limits → List Line → Text
printed_needed_by program limits script = output program (plays_needed program (left_by_pause program) (accepts_pause program) limits script)

abbrev pub printed_needed : List Named_module → Limits → List Line → Text
printed_needed modules limits script = printed_needed_by (program_of modules) limits script

abbrev pub printed_needed_captured : List Named_module → Limits → List Line → Text
printed_needed_captured modules limits script = printed_needed_by (captured_program_of modules) limits script
