-- An accepted application may go over to its built files at a pause.
use Rattle.std.specs.Prelude.{◌≡◌, refl, Bool, true, false, not, ◌&&◌, List, []}
use Rattle.std.proofs.Common.{sym, ◌∙◌, ap}
use Rattle.qk_ast.specs.Sources.{Named_module}
use Rattle.qk_meaning.specs.Index.{Index}
use Rattle.qk_meaning.specs.Program.{Program, captures_in, symbol_of}
use Rattle.qk_meaning.specs.Readings.{program_of, built_program_of}
use Rattle.qk_meaning.specs.State_script.{dollar_symbol}
use Rattle.qk_meaning.specs.Ties.{Ties}
use Rattle.qk_meaning.specs.Value.{Text, Site}
use Rattle.qk_alike.proofs.Sames.{not_both}
use Rattle.qk_alike.proofs.Pairings_apart.{heaps_begin, pairs_one_to_one}
use Rattle.qk_alike.specs.Code_stands.{Programs_stand}
use Rattle.qk_lifting.specs.Built_reading.{SymbolsAreSites}
use Rattle.qk_lifting.specs.Files.{built_modules}
use Rattle.qk_source_alike.specs.Accepted.{Accepted}
use Rattle.qk_source_alike.specs.Laws.{all_new}
use Rattle.qk_source_alike.proofs.Accepted_rules.{none_among, all_apart}
use Rattle.qk_built_alike.specs.Built_facts.{Built_facts}
use Rattle.qk_built_alike.specs.Built_rules.{Built_rules, built_ties, built_site, is_site, stays_in_built}
use Rattle.qk_built_alike.proofs.Accepted_built.{rules}
use Rattle.qk_built_alike.proofs.Programs.{programs}
use Rattle.qk_paused.specs.Tied.{Tied}
use Rattle.qk_paused.proofs.Printed_alike.{same_output, same_output_dropped}
use Rattle.qk_built_paused.specs.Laws.{AcceptedPausable, AcceptedSameOutput, AcceptedSameOutputDropped}

is_true : (b c : Bool) → (b && c) ≡ true → b ≡ true
is_true true c e = refl
is_true false c e = absurd (not_both (sym e))

is_false : (b c : Bool) → (not b && c) ≡ true → b ≡ false
is_false false c e = refl
is_false true c e = absurd (not_both (sym e))

no_symbol : (s : Site) → s.dollar ≡ false → dollar_symbol s ≡ []
no_symbol s e = ap (λ (c : Bool). elim c as (λ y. Text) [ true ↦ symbol_of s | false ↦ [] ]) e

module _ (law : SymbolsAreSites) (modules : List Named_module) (accepted : Accepted modules) (index : Index) (facts : Built_facts modules index) where
  abbrev P : Program
  P = program_of modules

  abbrev Q : Program
  Q = built_program_of index (built_modules modules)

  abbrev t : Ties
  t = built_ties modules all_new

  pub kept : Built_rules modules index all_new
  kept = rules modules accepted index all_new law (pairs_one_to_one all_new all_apart) facts

  pub stand : Programs_stand P Q t.sites
  stand = programs modules index all_new kept

  plain : (s : Site) → stays_in_built modules s ≡ true → s.dollar ≡ false
  plain s l = is_false s.dollar (is_site modules s) l

  pub tied : Tied t.sites (captures_in P) (captures_in Q)
  tied = record {
    captured_lifted = λ s l. refl;
    captured_stayed = λ s l. refl;
    captured_other = stand.other_captures;
    dollar_lifted = λ s l. is_true s.dollar (is_site modules s) l;
    dollar_other = λ s l. plain s l ∙ sym (facts.plain s l);
    symbol_other = λ s l. no_symbol s (plain s l) ∙ sym (no_symbol (built_site modules s) (facts.plain s l));
  }

pub accepted_pausable : SymbolsAreSites → AcceptedPausable
accepted_pausable law modules accepted index facts sound =
    record {
      apart = (kept law modules accepted index facts).apart;
      start = heaps_begin (built_ties modules all_new) [] [] refl refl (λ a b h. none_among a b h);
      app = facts.app;
      named = record { lifted = λ s h. refl };
      tied = tied law modules accepted index facts;
      symbols = λ s l. is_false s.dollar (is_site modules s) l;
      programs = stand law modules accepted index facts;
      sound = sound;
    }

pub accepted_same_output : SymbolsAreSites → AcceptedSameOutput
accepted_same_output law modules accepted index facts sound limits script hides =
    same_output (built_ties modules all_new) (program_of modules) (built_program_of index (built_modules modules)) (accepted_pausable law modules accepted index facts sound) limits script hides

pub accepted_same_output_dropped : SymbolsAreSites → AcceptedSameOutputDropped
accepted_same_output_dropped law modules accepted index facts sound limits script =
    same_output_dropped (built_ties modules all_new) (program_of modules) (built_program_of index (built_modules modules)) (accepted_pausable law modules accepted index facts sound) limits script
