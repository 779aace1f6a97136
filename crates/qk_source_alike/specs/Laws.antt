-- The laws: whole scopes and captured values agree.
use Rattle.std.specs.Prelude.{Bool, List, []}
use Rattle.qk_ast.specs.Sources.{Named_module}
use Rattle.qk_meaning.specs.Value.{Site}
use Rattle.qk_meaning.specs.Setting.{Computed_reading}
use Rattle.qk_meaning.specs.Readings.{program_of, captured_program_of}
use Rattle.qk_meaning.specs.Ties.{Pairing, Shown_as, Pairwise}
use Rattle.qk_meaning.specs.Worlds_stand.{Start}
use Rattle.qk_meaning.specs.Readings_agree.{Readings_agree, Events_agree}
use Rattle.qk_meaning.specs.Item.{Limits}
use Rattle.qk_meaning.specs.Run.{Line, Entry, Run, plays}
use Rattle.qk_session_alike.specs.Laws.{Entries_stand, Other_run}
use Rattle.qk_alike.specs.Computed_alike.{Computed_alike}
use Rattle.qk_source_alike.specs.Source_rules.{source_ties, Source_rules}
use Rattle.qk_source_alike.specs.Accepted.{Accepted, lifts_in_source, stays_in_source}
use Rattle.qk_alike.specs.Pairings.{One_to_one}

-- where names and places are as the rules say, the two readings of the modules agree on every call
abbrev pub ScopesAgree : Type 0
ScopesAgree =
    (modules : List Named_module) (lifts stays : Site → Bool) (pairing : Pairing) (b : Start) (computed : Computed_reading) → Source_rules modules lifts stays pairing →
    Computed_alike (source_ties modules lifts stays pairing) b computed → Readings_agree (source_ties modules lifts stays pairing) b computed (program_of modules) (captured_program_of modules)

-- for every accepted application, evaluation with whole scopes and evaluation with captured values agree on every call
abbrev pub AcceptedAgree : Type 0
AcceptedAgree =
    (modules : List Named_module) → Accepted modules → (pairing : Pairing) → One_to_one pairing → (b : Start) (computed : Computed_reading) →
    Computed_alike (source_ties modules lifts_in_source stays_in_source pairing) b computed →
    Readings_agree (source_ties modules lifts_in_source stays_in_source pairing) b computed (program_of modules) (captured_program_of modules)

-- and the application's component stands for its symbol
abbrev pub AcceptedAppsStand : Type 0
AcceptedAppsStand = (modules : List Named_module) → Accepted modules → (pairing : Pairing) → Shown_as (source_ties modules lifts_in_source stays_in_source pairing).sites (program_of modules).app (captured_program_of modules).app

-- ---- sessions

-- the pairing of two runs that begin with nothing
abbrev pub all_new : Pairing
all_new = record { pairs = []; left_from = 0; right_from = 0 }

-- for every accepted application, every event is played alike with whole scopes and with captured values
abbrev pub AcceptedEventsAgree : Type 0
AcceptedEventsAgree =
    (modules : List Named_module) → Accepted modules → (pairing : Pairing) → One_to_one pairing →
    Events_agree (source_ties modules lifts_in_source stays_in_source pairing) (program_of modules) (captured_program_of modules)

-- and every script shows the same, at the same limits: blocks, faults with their lines, ends
abbrev pub AcceptedScriptsAgree : Type 0
AcceptedScriptsAgree =
    (modules : List Named_module) → Accepted modules → (limits : Limits) (script : List Line) →
    Pairwise (Entries_stand (source_ties modules lifts_in_source stays_in_source all_new)) (plays (program_of modules) (λ w. w) limits script) (plays (captured_program_of modules) (λ w. w) limits script)

-- and each run has a run over captured values that shows the same, whatever the limits
abbrev pub AcceptedRunsAgree : Type 0
AcceptedRunsAgree =
    (modules : List Named_module) → Accepted modules → (script : List Line) (entries : List Entry) → Run (program_of modules) (λ w. w) script entries →
    Other_run (source_ties modules lifts_in_source stays_in_source all_new) (captured_program_of modules) (λ w. w) script entries
