-- Functions that stand for one another are entered alike.
use Rattle.std.specs.Prelude.{◌≡◌, refl, ℕ, List, []}
use Rattle.std.proofs.Common.{sym, subst}
use Rattle.qk_ast.specs.Texts.{Text}
use Rattle.qk_ast.specs.Names.{around}
use Rattle.qk_meaning.specs.Value.{Value, Fields, Closure, Lifted}
use Rattle.qk_meaning.specs.Parts.{zipped, listed}
use Rattle.qk_meaning.specs.Program.{Code, Program, captures_in}
use Rattle.qk_meaning.specs.Running.{Mode}
use Rattle.qk_meaning.specs.Happening.{Which, Of_symbol}
use Rattle.qk_meaning.specs.Ties.{Ties, Apart, Paired, Stands, undefined, null, truth, int, words, ref, items, fields, elem, closure, by_symbol, lifted, Pairwise}
use Rattle.qk_meaning.specs.Alike.{Reach, Scopes_stand, Locals_stand, outer_names, Whichs_stand, both_sites, site_and_symbol, both_symbols, both_entered}
use Rattle.qk_meaning.specs.Worlds_stand.{Start}
use Rattle.qk_meaning.specs.Setting.{Entering, Computed_reading, Setting, setting_of}
use Rattle.qk_meaning.specs.References.{all_bound}
use Rattle.qk_meaning.specs.Flow.{opened}
use Rattle.qk_meaning.specs.Evaluation.{own_names, scope_of, parameters_bound, entered, entered_with}
use Rattle.qk_alike.specs.Code_stands as C
use Rattle.qk_alike.proofs.Value_laws.{Facts}
use Rattle.qk_alike.proofs.Doing_laws.{Relation, Done, done, Laws, Enterings_stand, Computings_stand, Settings_stand}
use Rattle.qk_alike.proofs.Scopes.{kept_scopes, captured_scopes, taken_scopes, opens, seen_scopes}
use Rattle.qk_alike.proofs.Steps as S
use Rattle.qk_alike.proofs.Referred.{all_bound_lem}
use Rattle.qk_alike.proofs.Code_runs.{bodies}

module _ {t : Ties} (apart : Apart t) {b : Start} {K : Relation} (laws : Laws t b K) (P Q : Program) (programs : C.Programs_stand P Q t.sites) (facts : Facts t (captures_in P) (captures_in Q)) (computed : Computed_reading) (computeds : Computings_stand t K computed) (enter enter' : Entering) (entering : Enterings_stand t K enter enter') where
  open laws use {gives, bind, turn, notes, withins}

  parameters : {r : Reach} {here here' : Setting} (code code' : Code) {all all' : List Value} → Settings_stand t b K here here' → code.params ≡ code'.params → Pairwise (Stands t) all all' →
      K r _ _ Done (parameters_bound here code all) (parameters_bound here' code' all')
  parameters {r} {here} {here'} code code' {all} {all'} w p hs =
      S.choose laws w.tracks (gives done) (subst (λ x. K r _ _ Done (all_bound here code.params all) (all_bound here' x all')) p (all_bound_lem w code.params hs))

  codes_enter : {r : Reach} (mode : Mode) {running running' : List ℕ} {code code' : Code} {free captured : List Text} {x x' : Which} {f g : Fields} {all all' : List Value} →
      C.Codes_stand P Q t.sites (C.seen code free) captured code code' → Whichs_stand t x x' → Pairwise (Paired t.pairing) running running' → Scopes_stand t free captured f g → Pairwise (Stands t) all all' →
      K r _ _ (Stands t) (entered x code (setting_of P computed enter mode running code) f all) (entered x' code' (setting_of Q computed enter' mode running' code') g all')
  codes_enter mode {running} {running'} {code} {code'} {free} {captured} {f = f} {g = g} c xx rr sc hs =
      bind turn (λ x y d. bind (notes (both_entered xx)) (λ x y d. withins (C.reach_of code (C.seen code free) captured) names (bind (parameters code code' w c.params hs) (λ x y d. bodies apart w c.bodies))))
    where
      w : Settings_stand t b K (setting_of P computed enter mode running code) (setting_of Q computed enter' mode running' code')
      w = record { laws = laws; facts = facts; entering = entering; mode = refl; running = rr; tracks = c.tracker; computeds = λ xy h. computeds.reads entering rr xy h }

      names : Locals_stand t (C.seen code free) captured (around (own_names code) []) (opened (own_names code) (scope_of code f)) (opened (own_names code') (scope_of code' g))
      names = subst (λ x. Locals_stand t (C.seen code free) captured (around (own_names code) []) (opened (own_names code) (scope_of code f)) (opened x (scope_of code' g))) c.names
          (opens (own_names code) (outer_names (seen_scopes code code' c.tracker c.tracked sc)))

  pub enters_with : {r : Reach} (mode : Mode) {running running' : List ℕ} {f g : Value} {all all' : List Value} → Pairwise (Paired t.pairing) running running' → Stands t f g → Pairwise (Stands t) all all' →
      K r _ _ (Stands t) (entered_with P computed enter mode running f all) (entered_with Q computed enter' mode running' g all')
  enters_with mode rr (closure {site = site} {f = f} {g = g} l p q h) hs = codes_enter mode (programs.sites site l) (both_sites l) rr (kept_scopes f g p q h) hs
  enters_with {r} mode {running} {running'} {all = all} {all' = all'} rr (by_symbol {site = site} {f = f} {v = v} {hidden = hidden} l p h) hs =
      subst (λ names. K r _ _ (Stands t) (entered_with P computed enter mode running (Closure site f hidden) all)
      (entered (Of_symbol (t.sites.symbol site)) (Q.lifted (t.sites.symbol site)) (setting_of Q computed enter' mode running' (Q.lifted (t.sites.symbol site))) (zipped names (listed v)) all')) (sym (programs.lifted_captures site l))
      (codes_enter mode (programs.lifts site l) (site_and_symbol l) rr (captured_scopes f v p h) hs)
  enters_with {r} mode {running} {running'} {all = all} {all' = all'} rr (lifted {symbol = symbol} {v = v} {w = v'} {hidden = hidden} e n h) hs =
      subst (λ names. K r _ _ (Stands t) (entered (Of_symbol symbol) (P.lifted symbol) (setting_of P computed enter mode running (P.lifted symbol)) (zipped names (listed v)) all) (entered_with Q computed enter' mode running' (Lifted symbol v' hidden) all')) (sym (programs.taken e symbol).0)
      (subst (λ names. K r _ _ (Stands t) (entered (Of_symbol symbol) (P.lifted symbol) (setting_of P computed enter mode running (P.lifted symbol)) (zipped (t.sites.taken symbol) (listed v)) all)
      (entered (Of_symbol symbol) (Q.lifted symbol) (setting_of Q computed enter' mode running' (Q.lifted symbol)) (zipped names (listed v')) all')) (sym (programs.taken e symbol).1)
      (codes_enter mode (programs.symbols e symbol).1 (both_symbols e) rr (taken_scopes (t.sites.taken symbol) v v' n h) hs))
  enters_with mode rr undefined hs = S.faults laws _
  enters_with mode rr null hs = S.faults laws _
  enters_with mode rr truth hs = S.faults laws _
  enters_with mode rr int hs = S.faults laws _
  enters_with mode rr words hs = S.faults laws _
  enters_with mode rr (ref k) hs = S.faults laws _
  enters_with mode rr (items k) hs = S.faults laws _
  enters_with mode rr (fields k) hs = S.faults laws _
  enters_with mode rr (elem s f k) hs = S.faults laws _
