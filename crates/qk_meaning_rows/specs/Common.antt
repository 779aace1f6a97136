-- What the rows compare: what is printed of a script, and the page of its last world.
use Rattle.std.specs.Prelude.{true, false, List, [], ◌∷◌, ◌++◌, codes}
use Rattle.qk_meaning.specs.Value.{Text, Lifted_component}
use Rattle.qk_meaning.specs.World.{World}
use Rattle.qk_ast.specs.Texts.{is_among}
use Rattle.qk_meaning.specs.Program.{Root, Shows, Program}
use Rattle.qk_meaning.specs.Index.{Index, For_task, For_function}
use Rattle.qk_meaning.specs.Roots.{root_of}
use Rattle.qk_ast.specs.Sources.{Named_module}
use Rattle.qk_meaning.specs.Readings.{program_of, captured_program_of, built_program_of}
use Rattle.qk_meaning.specs.Session.{nothing_yet}
use Rattle.qk_meaning.specs.Item.{Limits}
use Rattle.qk_meaning.specs.Run.{Line, Entry, Played, plays}
use Rattle.qk_meaning.specs.Dropping.{left_by_pause}
use Rattle.qk_meaning.specs.Output.{output}
use Rattle.qk_meaning.specs.Page.{page}

-- the budget without options
abbrev pub usual : Limits
usual = record { turns = 100000; levels = 48 }

-- lines, each ended by a line feed
abbrev pub lines_of : List Text → Text
lines_of [] = []
lines_of (w ∷ rest) = w ++ (10 ∷ lines_of rest)

abbrev pub printed_by : Program → Limits → List Line → Text
printed_by program limits script = output program (plays program (λ w. w) limits script)

-- of source modules with whole scopes
abbrev pub printed : List Named_module → Limits → List Line → Text
printed modules limits script = printed_by (program_of modules) limits script

-- of source modules with captured values
abbrev pub printed_captured : List Named_module → Limits → List Line → Text
printed_captured modules limits script = printed_by (captured_program_of modules) limits script

-- the symbol of a component that a root holds
abbrev component_of : Root → Text
component_of (Shows (Lifted_component symbol)) = symbol
component_of _ = []

-- the index of built files: `App` as its root file says, and these symbols of tasks
abbrev index_of : List Text → List Named_module → Index
index_of tasks files =
    record { app = component_of (root_of files (codes "root") (codes "App")); kind_of = λ symbol. elim (is_among symbol tasks) [ true ↦ For_task | false ↦ For_function ] }

abbrev pub built : List Text → List Named_module → Program
built tasks files = built_program_of (index_of tasks files) files

-- of built files, with the symbols of their tasks
abbrev pub printed_built : List Text → List Named_module → Limits → List Line → Text
printed_built tasks files limits script = printed_by (built tasks files) limits script

-- where an answered pause drops hidden functions
abbrev pub printed_dropping_by : Program → Limits → List Line → Text
printed_dropping_by program limits script = output program (plays program (left_by_pause program) limits script)

abbrev pub printed_dropping : List Named_module → Limits → List Line → Text
printed_dropping modules limits script = printed_dropping_by (program_of modules) limits script

abbrev pub printed_dropping_captured : List Named_module → Limits → List Line → Text
printed_dropping_captured modules limits script = printed_dropping_by (captured_program_of modules) limits script

abbrev world_after : World → List Entry → World
world_after w [] = w
world_after w (Played block next ∷ rest) = world_after next rest
world_after w (_ ∷ rest) = world_after w rest

-- the page of the last world of a run
abbrev pub last_page_by : Program → List Line → Text
last_page_by program script = page program (world_after nothing_yet (plays program (λ w. w) usual script))

abbrev pub last_page : List Named_module → List Line → Text
last_page modules script = last_page_by (program_of modules) script

abbrev pub last_page_captured : List Named_module → List Line → Text
last_page_captured modules script = last_page_by (captured_program_of modules) script

abbrev pub last_page_built : List Text → List Named_module → List Line → Text
last_page_built tasks files script = last_page_by (built tasks files) script
