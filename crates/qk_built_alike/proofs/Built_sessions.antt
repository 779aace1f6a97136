-- Accepted modules and their built files play every event alike, and every script shows the same.
use Rattle.std.specs.Prelude.{refl, List, []}
use Rattle.qk_alike.proofs.Pairings_apart.{heaps_begin, pairs_one_to_one}
use Rattle.qk_alike.specs.Code_stands.{Programs_stand}
use Rattle.qk_ast.specs.Sources.{Named_module}
use Rattle.qk_lifting.specs.Built_reading.{SymbolsAreSites}
use Rattle.qk_lifting.specs.Files.{built_modules}
use Rattle.qk_meaning.specs.Index.{Index}
use Rattle.qk_meaning.specs.Item.{Limits}
use Rattle.qk_meaning.specs.Program.{Program}
use Rattle.qk_meaning.specs.Readings.{program_of, built_program_of}
use Rattle.qk_meaning.specs.Run.{Line, Entry, Run, plays}
use Rattle.qk_meaning.specs.Ties.{Ties, Pairing, Pairwise}
use Rattle.qk_meaning.specs.Worlds_stand.{Heaps_stand}
use Rattle.qk_session_alike.proofs.Items_alike.{events_agree}
use Rattle.qk_session_alike.proofs.Runs.{runs_agree}
use Rattle.qk_session_alike.proofs.Scripts.{scripts_agree}
use Rattle.qk_session_alike.specs.Laws.{Entries_stand, Other_run}
use Rattle.qk_session_alike.specs.Trees_stand.{Named_alike}
use Rattle.qk_source_alike.proofs.Accepted_rules.{none_among, all_apart}
use Rattle.qk_source_alike.specs.Accepted.{Accepted}
use Rattle.qk_source_alike.specs.Laws.{all_new}
use Rattle.qk_built_alike.specs.Built_facts.{Built_facts}
use Rattle.qk_built_alike.specs.Built_rules.{Built_rules, built_ties}
use Rattle.qk_built_alike.specs.Laws.{AcceptedBuiltEventsAgree, AcceptedBuiltScriptsAgree, AcceptedBuiltRunsAgree}
use Rattle.qk_built_alike.proofs.Accepted_built.{rules}
use Rattle.qk_built_alike.proofs.Programs.{programs}

names_alike : (modules : List Named_module) (pairing : Pairing) → Named_alike (built_ties modules pairing).sites
names_alike modules pairing = record { lifted = λ s h. refl }

pub accepted_built_events_agree : SymbolsAreSites → AcceptedBuiltEventsAgree
accepted_built_events_agree law modules accepted index pairing one facts =
    let kept = rules modules accepted index pairing law one facts in
    events_agree (built_ties modules pairing) (program_of modules) (built_program_of index (built_modules modules)) kept.apart (programs modules index pairing kept) (names_alike modules pairing)

module _ (law : SymbolsAreSites) (modules : List Named_module) (accepted : Accepted modules) (index : Index) (facts : Built_facts modules index) where
  abbrev P : Program
  P = program_of modules

  abbrev Q : Program
  Q = built_program_of index (built_modules modules)

  abbrev t : Ties
  t = built_ties modules all_new

  kept : Built_rules modules index all_new
  kept = rules modules accepted index all_new law (pairs_one_to_one all_new all_apart) facts

  stand : Programs_stand P Q t.sites
  stand = programs modules index all_new kept

  heaps : Heaps_stand t [] []
  heaps = heaps_begin t [] [] refl refl (λ a b h. none_among a b h)

  scripts : (limits : Limits) (script : List Line) → Pairwise (Entries_stand t) (plays P (λ w. w) limits script) (plays Q (λ w. w) limits script)
  scripts = scripts_agree t P Q kept.apart stand (names_alike modules all_new) facts.app heaps (λ w. w) (λ w. w) (λ w v h. h)

  runs : (script : List Line) (entries : List Entry) → Run P (λ w. w) script entries → Other_run t Q (λ w. w) script entries
  runs = runs_agree t P Q kept.apart stand (names_alike modules all_new) facts.app heaps (λ w. w) (λ w. w) (λ w v h. h)

pub accepted_built_scripts_agree : SymbolsAreSites → AcceptedBuiltScriptsAgree
accepted_built_scripts_agree law modules accepted index facts = scripts law modules accepted index facts

pub accepted_built_runs_agree : SymbolsAreSites → AcceptedBuiltRunsAgree
accepted_built_runs_agree law modules accepted index facts = runs law modules accepted index facts
