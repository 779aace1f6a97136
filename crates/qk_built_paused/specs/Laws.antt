-- The laws: what is printed of accepted modules is what is printed of their built files that go on from what pages hold.
use Rattle.std.specs.Prelude.{◌≡◌, List}
use Rattle.qk_ast.specs.Sources.{Named_module}
use Rattle.qk_meaning.specs.Index.{Index}
use Rattle.qk_meaning.specs.Readings.{program_of, built_program_of}
use Rattle.qk_meaning.specs.Dropping.{left_by_pause}
use Rattle.qk_meaning.specs.Item.{Limits}
use Rattle.qk_meaning.specs.Run.{Line, plays}
use Rattle.qk_meaning.specs.Output.{output}
use Rattle.qk_lifting.specs.Files.{built_modules}
use Rattle.qk_source_alike.specs.Accepted.{Accepted}
use Rattle.qk_source_alike.specs.Laws.{all_new}
use Rattle.qk_built_alike.specs.Built_rules.{built_ties}
use Rattle.qk_built_alike.specs.Built_facts.{Built_facts}
use Rattle.qk_paused.specs.Paused_runs.{Keeps_sound, Pausable, Pauses_in, Hides_nothing, resumed_by_pause}

-- an accepted application whose built files are as asked, and whose items leave sound worlds, may go over to its built files at a pause
abbrev pub AcceptedPausable : Type 0
AcceptedPausable =
    (modules : List Named_module) → Accepted modules → (index : Index) → Built_facts modules index → Keeps_sound (program_of modules) →
    Pausable (built_ties modules all_new) (program_of modules) (built_program_of index (built_modules modules))

-- so what is printed of the modules, where no pause changes anything and no accepted one finds a hidden function,
-- is what is printed of the built files where each accepted pause leaves only what its page holds
abbrev pub AcceptedSameOutput : Type 0
AcceptedSameOutput =
    (modules : List Named_module) → Accepted modules → (index : Index) → Built_facts modules index → Keeps_sound (program_of modules) → (limits : Limits) (script : List Line) →
    Pauses_in (Hides_nothing (program_of modules)) (plays (program_of modules) (λ w. w) limits script) →
    output (program_of modules) (plays (program_of modules) (λ w. w) limits script)
    ≡ output (built_program_of index (built_modules modules)) (plays (built_program_of index (built_modules modules)) (resumed_by_pause (built_program_of index (built_modules modules))) limits script)

-- and so it is where accepted pauses drop hidden functions, whatever is hidden
abbrev pub AcceptedSameOutputDropped : Type 0
AcceptedSameOutputDropped =
    (modules : List Named_module) → Accepted modules → (index : Index) → Built_facts modules index → Keeps_sound (program_of modules) → (limits : Limits) (script : List Line) →
    output (program_of modules) (plays (program_of modules) (left_by_pause (program_of modules)) limits script)
    ≡ output (built_program_of index (built_modules modules)) (plays (built_program_of index (built_modules modules)) (resumed_by_pause (built_program_of index (built_modules modules))) limits script)
