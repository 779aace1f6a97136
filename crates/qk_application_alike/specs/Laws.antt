-- The laws: an application that is accepted over files means the same with whole scopes and with captured values.
use Rattle.std.specs.Prelude.{List, map, Ok}
use Rattle.qk_ast.specs.Sources.{Named_module}
use Rattle.qk_store.specs.Files.{Files}
use Rattle.qk_application.specs.declared.application.Application.{Application}
use Rattle.qk_application.specs.Accepting.{named_module, AcceptsOver}
use Rattle.qk_meaning.specs.Setting.{called_anew}
use Rattle.qk_meaning.specs.Readings.{program_of, captured_program_of}
use Rattle.qk_meaning.specs.Ties.{Ties, Pairing, Shown_as, Pairwise}
use Rattle.qk_meaning.specs.Worlds_stand.{Start}
use Rattle.qk_meaning.specs.Readings_agree.{Readings_agree, Events_agree}
use Rattle.qk_source_alike.specs.Source_rules.{source_ties}
use Rattle.qk_source_alike.specs.Accepted.{lifts_in_source, stays_in_source}
use Rattle.qk_source_alike.specs.Laws.{all_new}
use Rattle.qk_alike.specs.Pairings.{One_to_one}
use Rattle.qk_session_alike.specs.Laws.{Entries_stand, Other_run}
use Rattle.qk_meaning.specs.Item.{Limits}
use Rattle.qk_meaning.specs.Run.{Line, Entry, Run, plays}

-- the modules of an application, as the meaning speaks of them
abbrev pub modules_of : Application → List Named_module
modules_of a = map named_module a.modules.list

-- whole scopes first, captured values second
abbrev pub ties_of : Application → Pairing → Ties
ties_of a pairing = source_ties (modules_of a) lifts_in_source stays_in_source pairing

-- every call agrees, and the component of the application stands for its symbol
abbrev pub ApplicationsAgree : Type 0
ApplicationsAgree =
    (files : Files) (a : Application) → AcceptsOver files (Ok a) → (pairing : Pairing) → One_to_one pairing → (b : Start) →
    Readings_agree (ties_of a pairing) b called_anew (program_of (modules_of a)) (captured_program_of (modules_of a))
    × Shown_as (ties_of a pairing).sites (program_of (modules_of a)).app (captured_program_of (modules_of a)).app

-- every script shows the same, at the same limits
abbrev pub ApplicationScriptsAgree : Type 0
ApplicationScriptsAgree =
    (files : Files) (a : Application) → AcceptsOver files (Ok a) → (limits : Limits) (script : List Line) →
    Pairwise (Entries_stand (ties_of a all_new)) (plays (program_of (modules_of a)) (λ w. w) limits script) (plays (captured_program_of (modules_of a)) (λ w. w) limits script)

-- every event is played alike
abbrev pub ApplicationEventsAgree : Type 0
ApplicationEventsAgree =
    (files : Files) (a : Application) → AcceptsOver files (Ok a) → (pairing : Pairing) → One_to_one pairing → Events_agree (ties_of a pairing) (program_of (modules_of a)) (captured_program_of (modules_of a))

-- each run has a run over captured values that shows the same, whatever the limits
abbrev pub ApplicationRunsAgree : Type 0
ApplicationRunsAgree =
    (files : Files) (a : Application) → AcceptsOver files (Ok a) → (script : List Line) (entries : List Entry) → Run (program_of (modules_of a)) (λ w. w) script entries →
    Other_run (ties_of a all_new) (captured_program_of (modules_of a)) (λ w. w) script entries
