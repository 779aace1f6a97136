-- Accepted modules are as the rules say, and so their two readings agree.
use Rattle.std.specs.Prelude.{refl, ℕ, List, [], codes}
use Rattle.std.proofs.Common.{sym, ap}
use Rattle.qk_ast.specs.Sources.{Named_module}
use Rattle.qk_meaning.specs.Program.{Root, Framework, Holds, Shows, Unknown}
use Rattle.qk_meaning.specs.Sites.{arrow_of, code_of}
use Rattle.qk_ast.specs.Uses.{captures_of}
use Rattle.qk_meaning.specs.Making.{root_shown}
use Rattle.qk_meaning.specs.Roots.{root_of}
use Rattle.qk_meaning.specs.Readings.{lifted_shown, lifted_root}
use Rattle.qk_meaning.specs.Ties.{Ties, Site_ties, Pairing, Shown_as, a_fragment, Apart, Pairwise}
use Rattle.qk_alike.specs.Meanings_stand.{Roots_stand, shows}
use Rattle.qk_alike.proofs.Sames.{not_both}
use Rattle.qk_source_alike.specs.Accepted.{Accepted, lifts_in_source, stays_in_source}
use Rattle.qk_alike.specs.Pairings.{One_to_one}
use Rattle.qk_source_alike.specs.Source_rules.{source_ties, source_sites, Source_rules}
use Rattle.qk_source_alike.specs.Laws.{AcceptedAgree, AcceptedAppsStand, AcceptedEventsAgree, AcceptedScriptsAgree, AcceptedRunsAgree, all_new}
use Rattle.qk_source_alike.proofs.Arrows_found.{inner, tracks}
use Rattle.qk_source_alike.proofs.Symbols.{spelled_back, site_is_same, symbols_one, kinds_apart}
use Rattle.qk_source_alike.proofs.Roots_alike.{roots_alike}
use Rattle.qk_source_alike.proofs.Two_readings.{scopes_agree, programs}
use Rattle.qk_meaning.specs.Ties.{Among}
use Rattle.qk_meaning.specs.Readings.{program_of, captured_program_of}
use Rattle.qk_alike.specs.Pairings.{Pairs_apart}
use Rattle.qk_alike.proofs.Pairings_apart.{heaps_begin, pairs_one_to_one}
use Rattle.qk_session_alike.specs.Trees_stand.{Named_alike}
use Rattle.qk_session_alike.proofs.Items_alike.{events_agree}
use Rattle.qk_session_alike.proofs.Scripts.{scripts_agree}
use Rattle.qk_session_alike.proofs.Runs.{runs_agree}
use Rattle.qk_session_alike.specs.Laws.{Entries_stand, Other_run}
use Rattle.qk_meaning.specs.Item.{Limits}
use Rattle.qk_meaning.specs.Run.{Line, Entry, Run, plays}
use Rattle.qk_meaning.specs.Worlds_stand.{Heaps_stand}
use Rattle.qk_alike.specs.Code_stands.{Programs_stand}

module _ (modules : List Named_module) (accepted : Accepted modules) (pairing : Pairing) (one : One_to_one pairing) where
  apart : Apart (source_ties modules lifts_in_source stays_in_source pairing)
  apart = record {
    one_right = one.one_right;
    one_left = one.one_left;
    captured_alike = λ s u e. ap (λ x. captures_of (arrow_of modules x)) (site_is_same s u e);
    sites_one = λ s u h k. refl;
    symbols_one = symbols_one;
    kinds_apart = kinds_apart;
    no_both = λ s h e. not_both (sym e);
  }

  pub rules : Source_rules modules lifts_in_source stays_in_source pairing
  rules = record {
    inner = inner modules accepted;
    tracks = tracks modules accepted;
    roots = roots_alike modules accepted;
    lifted = λ s h. ap (code_of modules) (spelled_back s h);
    apart = apart;
  }

pub accepted_agree : AcceptedAgree
accepted_agree modules accepted pairing one b computed alike = scopes_agree modules lifts_in_source stays_in_source pairing b computed (rules modules accepted pairing one) alike

shown_alike : (t : Site_ties) (r : Root) → Roots_stand t r (lifted_root r) → Shown_as t (root_shown r) (lifted_shown (root_shown r))
shown_alike t (Framework name) h = a_fragment
shown_alike t (Holds v) h = a_fragment
shown_alike t Unknown h = a_fragment
shown_alike t (Shows x) (shows h) = h

pub accepted_apps_stand : AcceptedAppsStand
accepted_apps_stand modules accepted pairing = shown_alike (source_sites modules lifts_in_source stays_in_source) (root_of modules (codes "root") (codes "App")) (roots_alike modules accepted (codes "root") (codes "App"))

-- ---- sessions

names_alike : (modules : List Named_module) (pairing : Pairing) → Named_alike (source_ties modules lifts_in_source stays_in_source pairing).sites
names_alike modules pairing = record { lifted = λ s h. refl }

pub accepted_events_agree : AcceptedEventsAgree
accepted_events_agree modules accepted pairing one =
    events_agree (source_ties modules lifts_in_source stays_in_source pairing) (program_of modules) (captured_program_of modules) (apart modules accepted pairing one) (programs modules lifts_in_source stays_in_source pairing (rules modules accepted pairing one)) (names_alike modules pairing)

pub none_among : {C : Type 0} (a b : ℕ) → Among [] a b → C
none_among a b h = elim h [ ]

pub all_apart : Pairs_apart all_new
all_apart = record { left_made = λ a b h. none_among a b h; right_made = λ a b h. none_among a b h; right = λ a b c h k. none_among a b h; left = λ a b c h k. none_among a c h }

module _ (modules : List Named_module) (accepted : Accepted modules) where
  abbrev t : Ties
  t = source_ties modules lifts_in_source stays_in_source all_new

  one : One_to_one all_new
  one = pairs_one_to_one all_new all_apart

  stand : Programs_stand (program_of modules) (captured_program_of modules) t.sites
  stand = programs modules lifts_in_source stays_in_source all_new (rules modules accepted all_new one)

  heaps : Heaps_stand t [] []
  heaps = heaps_begin t [] [] refl refl (λ a b h. none_among a b h)

  scripts : (limits : Limits) (script : List Line) → Pairwise (Entries_stand t) (plays (program_of modules) (λ w. w) limits script) (plays (captured_program_of modules) (λ w. w) limits script)
  scripts = scripts_agree t (program_of modules) (captured_program_of modules) (apart modules accepted all_new one) stand (names_alike modules all_new) (accepted_apps_stand modules accepted all_new) heaps (λ w. w) (λ w. w) (λ w v h. h)

  runs : (script : List Line) (entries : List Entry) → Run (program_of modules) (λ w. w) script entries → Other_run t (captured_program_of modules) (λ w. w) script entries
  runs = runs_agree t (program_of modules) (captured_program_of modules) (apart modules accepted all_new one) stand (names_alike modules all_new) (accepted_apps_stand modules accepted all_new) heaps (λ w. w) (λ w. w) (λ w v h. h)

pub accepted_scripts_agree : AcceptedScriptsAgree
accepted_scripts_agree = scripts

pub accepted_runs_agree : AcceptedRunsAgree
accepted_runs_agree = runs
