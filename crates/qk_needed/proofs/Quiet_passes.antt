-- A needed pass that mounts nothing and enters no function does what a pass does that keeps all views.
use Rattle.std.specs.Prelude.{◌≡◌, refl, ℕ, zero, suc, Bool, true, false, ◌||◌, List, [], ◌∷◌, ◌++◌, length, drop, Option, Some, None, find, ⊤}
use Rattle.std.proofs.Common.{sym, ap, subst, ◌∙◌}
use Rattle.std.proofs.lemmas.Bool.{false≢true}
use Rattle.std.proofs.lemmas.List.{append_assoc, append-nil, append_cancel_left}
use Rattle.qk_meaning.specs.Value.{Shown, Value, Ref, Closure, Lifted}
use Rattle.qk_meaning.specs.World.{Props, Loc, Instance}
use Rattle.qk_meaning.specs.Fault.{Fault}
use Rattle.qk_meaning.specs.Places.{same_path}
use Rattle.qk_meaning.specs.Parts.{listed, zipped}
use Rattle.qk_meaning.specs.Markup.{child_fault}
use Rattle.qk_meaning.specs.Same.{same}
use Rattle.qk_meaning.specs.Program.{Program, captures_in}
use Rattle.qk_meaning.specs.Doing.{Doing, Outcome, Gives, Stops, ◌>>=◌, ◌>>◌, after, give, asked, becomes, chosen, put_back, state_left}
use Rattle.qk_meaning.specs.Happening.{Happening, Entered, Which, At_site, Of_symbol}
use Rattle.qk_meaning.specs.Running.{Running, Pure, Outside, Hooking, Again, Mounting, noted, turn_of, unless_fault, hooking_becomes}
use Rattle.qk_meaning.specs.Trace.{entries, own_reads}
use Rattle.qk_meaning.specs.Setting.{setting_of, captures}
use Rattle.qk_meaning.specs.Evaluation.{inside, entering}
use Rattle.qk_meaning.specs.Laws_of_code.{Adds}
use Rattle.qk_meaning.specs.Expansion.{Met, Nodes, expand_app}
use Rattle.qk_meaning.specs.Session.{Session, runs}
use Rattle.qk_meaning.specs.Execution.{function_of, Execution, made_hooks, finished, stands, execution, mount, props_set, run_again}
use Rattle.qk_meaning.specs.Settling.{pass}
use Rattle.qk_needed.specs.Needed.{called_if_needed, keep_or_run, kept_or_mounted, keep_or_mount, isn't_stale, needed}
use Rattle.qk_needed.specs.Laws.{keeping, QuietPasses}
use Rattle.qk_meaning.proofs.Running_laws.{hook_laws}
use Rattle.qk_meaning.proofs.Meanings as Meanings
use Rattle.qk_meaning.proofs.Growth as Growth
use Rattle.qk_meaning.proofs.Growth.{Adding}
use Rattle.qk_needed.proofs.Found.{found_in}
use Rattle.qk_needed.proofs.Adding_kept as More
use Rattle.qk_needed.proofs.Expansion_keeps.{Kept_by, expands}

-- one trace with more behind it
pub record Longer (trace trace' : List Happening) : Type 0 where
  pub more : List Happening
  pub is : trace' ≡ trace ++ more

same_trace : (trace : List Happening) → Longer trace trace
same_trace trace = record { more = []; is = sym (append-nil trace) }

longer_still : (a b c : List Happening) → Longer a b → Longer b c → Longer a c
longer_still a b c p q = record { more = p.more ++ q.more; is = q.is ∙ (ap (λ x. x ++ q.more) p.is ∙ append_assoc a p.more q.more) }

-- ---- a call that gives a value has entered a function

abbrev pub Some_entered : List Happening → Type 0
Some_entered news = entries news ≡ [] → ⊥

entered_front : (news more : List Happening) → Some_entered news → Some_entered (news ++ more)
entered_front [] more p e = p refl
entered_front (Entered which ∷ rest) more p e = p (absurd (not_empty e))
  where
    not_empty : (which ∷ entries (rest ++ more)) ≡ [] → ⊥
    not_empty h = false≢true (ap (λ x. elim x [ [] ↦ true | ◌∷◌ y ys ↦ false ]) h)
entered_front (_ ∷ rest) more p e = entered_front rest more p e

entered_behind : (news more : List Happening) → Some_entered more → Some_entered (news ++ more)
entered_behind [] more p e = p e
entered_behind (Entered which ∷ rest) more p e = false≢true (ap (λ x. elim x [ [] ↦ true | ◌∷◌ y ys ↦ false ]) e)
entered_behind (_ ∷ rest) more p e = entered_behind rest more p e

pub record Enters (trace trace' : List Happening) : Type 0 where
  pub news : List Happening
  pub told : trace' ≡ trace ++ news
  pub some : Some_entered news

abbrev Enters_left : {A : Type 0} → List Happening → Outcome Running A → Type 0
Enters_left trace (Gives a s) = Enters trace s.trace
Enters_left trace (Stops why s) = ⊤

first_entered : (which : Which) → Some_entered (Entered which ∷ [])
first_entered which e = false≢true (ap (λ x. elim x [ [] ↦ true | ◌∷◌ y ys ↦ false ]) e)

-- behind a turn the entering is told
behind_entering : (which : Which) (m : Doing Running Value) → ((s : Running) → Adds s (state_left (m s))) → (s : Running) → Enters_left s.trace (after (turn_of s.turns s) (λ u. ◌>>◌ (noted (Entered which)) m))
behind_entering which m p s = by_turn s.turns
  where
    by_turn : (n : ℕ) → Enters_left s.trace (after (turn_of n s) (λ u. ◌>>◌ (noted (Entered which)) m))
    by_turn zero = tt
    by_turn (suc n) = go (m s0) (p s0)
      where
        s0 : Running
        s0 = record s { turns = n; trace = s.trace ++ Entered which ∷ [] }

        go : (o : Outcome Running Value) → Adds (record s { turns = n; trace = s.trace ++ Entered which ∷ [] }) (state_left o) → Enters_left s.trace o
        go (Stops why u) g = tt
        go (Gives v u) g = record { news = Entered which ∷ g.told; told = g.trace ∙ append_assoc s.trace (Entered which ∷ []) g.told; some = entered_front (Entered which ∷ []) g.told (first_entered which) }

call_enters : (program : Program) (d : ℕ) (f : Value) (arguments : List Value) (s : Running) → Enters_left s.trace (entering program called_if_needed d Pure [] f arguments s)
call_enters program zero f arguments s = tt
call_enters program (suc d) (Closure site scope hidden) arguments s =
    let code = program.code site in
    let enter = entering program called_if_needed d in
    let E = More.adding called_if_needed More.if_needed_adds program d in
    let here = setting_of program called_if_needed enter Pure [] code in
    behind_entering (At_site site) (inside code here scope arguments)
    (Meanings.insides Adding (Growth.laws (captures here)) (hook_laws Adding (Growth.laws (captures here)) Growth.hooking_laws) here (Growth.named (captures here)) enter (called_if_needed enter []) E (More.if_needed_adds enter enter E []) code scope arguments) s
call_enters program (suc d) (Lifted symbol captured hidden) arguments s =
    let code = program.lifted symbol in
    let enter = entering program called_if_needed d in
    let E = More.adding called_if_needed More.if_needed_adds program d in
    let here = setting_of program called_if_needed enter Pure [] code in
    let scope = zipped code.captures (listed captured) in
    behind_entering (Of_symbol symbol) (inside code here scope arguments)
    (Meanings.insides Adding (Growth.laws (captures here)) (hook_laws Adding (Growth.laws (captures here)) Growth.hooking_laws) here (Growth.named (captures here)) enter (called_if_needed enter []) E (More.if_needed_adds enter enter E []) code scope arguments) s
call_enters program (suc d) f arguments s = tt

-- ---- a pass: it mounts, or enters a function, or does what the other does

module _ (program : Program) (levels : ℕ) where
  -- what a needed doing gives beside one that keeps all views
  pub data Alike {A : Type 0} (w : Session) (a : A) (u : Session) (o : Outcome Session A) : Type 0 where
    mounts_one : u.mounted ≡ true → Alike w a u o
    enters_one : Enters w.running.trace u.running.trace → Alike w a u o
    is_the_same : o ≡ Gives a u → Alike w a u o

  pub record Beside_keeping {A : Type 0} (w : Session) (a : A) (u : Session) (o : Outcome Session A) : Type 0 where
    pub grows : Longer w.running.trace u.running.trace
    pub mounted_stays : w.mounted ≡ true → u.mounted ≡ true
    pub alike : Alike w a u o

  abbrev Beside_left : {A : Type 0} → Session → Outcome Session A → Outcome Session A → Type 0
  Beside_left w (Gives a u) o = Beside_keeping w a u o
  Beside_left w (Stops why u) o = ⊤

  abbrev Quietly : (A : Type 0) → Doing Session A → Doing Session A → Type 0
  Quietly A m m' = (w : Session) → Beside_left w (m w) (m' w)

  enters_then : (a b c : List Happening) → Enters a b → Longer b c → Enters a c
  enters_then a b c p q = record { news = p.news ++ q.more; told = q.is ∙ (ap (λ x. x ++ q.more) p.told ∙ append_assoc a p.news q.more); some = entered_front p.news q.more p.some }

  then_enters : (a b c : List Happening) → Longer a b → Enters b c → Enters a c
  then_enters a b c p q = record { news = p.more ++ q.news; told = q.told ∙ (ap (λ x. x ++ q.news) p.is ∙ append_assoc a p.more q.news); some = entered_behind p.more q.news q.some }

  quiet_binds : {A B : Type 0} (m m' : Doing Session A) (f f' : A → Doing Session B) → Quietly A m m' → ((a : A) → Quietly B (f a) (f' a)) → Quietly B (◌>>=◌ m f) (◌>>=◌ m' f')
  quiet_binds {A} {B} m m' f f' p q w = go (m w) (p w)
    where
      go : (o : Outcome Session A) → Beside_left w o (m' w) → Beside_left w (after o f) (after (m' w) f')
      go (Stops why u) g = tt
      go (Gives a u) g = go_on (f a u) (q a u)
        where
          go_on : (o : Outcome Session B) → Beside_left u o (f' a u) → Beside_left w o (after (m' w) f')
          go_on (Stops why v) h = tt
          go_on (Gives b v) h =
              record { grows = longer_still w.running.trace u.running.trace v.running.trace g.grows h.grows; mounted_stays = λ e. h.mounted_stays (g.mounted_stays e); alike = both g.alike h.alike }
            where
              both : Alike w a u (m' w) → Alike u b v (f' a u) → Alike w b v (after (m' w) f')
              both (mounts_one e) k = mounts_one (h.mounted_stays e)
              both (enters_one e) k = enters_one (enters_then w.running.trace u.running.trace v.running.trace e h.grows)
              both (is_the_same e) (mounts_one k) = mounts_one k
              both (is_the_same e) (enters_one k) = enters_one (then_enters w.running.trace u.running.trace v.running.trace g.grows k)
              both (is_the_same e) (is_the_same k) = is_the_same (ap (λ x. after x f') e ∙ k)

  quiet_laws : Kept_by Session Quietly
  quiet_laws =
      record {
        gives = λ a w. record { grows = same_trace w.running.trace; mounted_stays = λ e. e; alike = is_the_same refl };
        refuses = λ f w. tt;
        bind = λ {A} {B} {m} {m'} {f} {f'} p q. quiet_binds m m' f f' p q;
      }

  -- code that runs on both sides alike
  same_code : {A : Type 0} (m : Doing Running A) → ((s : Running) → Adds s (state_left (m s))) → Quietly A (runs m) (runs m)
  same_code {A} m p w = go (m w.running) (p w.running)
    where
      go : (o : Outcome Running A) → Adds w.running (state_left o) → Beside_left w (put_back (λ s. record w { running = s }) o) (put_back (λ s. record w { running = s }) o)
      go (Stops why u) g = tt
      go (Gives a u) g = record { grows = record { more = g.told; is = g.trace }; mounted_stays = λ e. e; alike = is_the_same refl }

  or_true : (b : Bool) → (b || true) ≡ true
  or_true true = refl
  or_true false = refl

  or_false : (b : Bool) → b ≡ true → (b || false) ≡ true
  or_false true e = refl
  or_false false e = absurd (false≢true e)

  execution_grows : (hooking : Hooking) (shown : Shown) (props : ℕ) (s : Running) → Enters_left s.trace (execution program called_if_needed levels hooking shown props s)
  execution_grows hooking shown props s = go (entering program called_if_needed levels Pure [] (function_of shown) (Ref props ∷ []) s0) (call_enters program levels (function_of shown) (Ref props ∷ []) s0)
    where
      s0 : Running
      s0 = record s { hooking = hooking }

      go : (o : Outcome Running Value) → Enters_left s.trace o → Enters_left s.trace (after (found_in (length s.trace) o) finished)
      go (Stops why u) g = tt
      go (Gives v u) g = by_child (child_fault v)
        where
          by_child : (o : Option Fault) → Enters_left {A = Execution} s.trace (after (unless_fault o u) (λ n. ◌>>=◌ (asked (λ t. made_hooks t.hooking)) (λ hooks. ◌>>◌ (hooking_becomes (λ h. Outside)) (give (record { view = v; hooks = hooks; reads = own_reads (drop (length s.trace) u.trace) })))))
          by_child None = g
          by_child (Some f) = tt

  enters_longer : (a b : List Happening) → Enters a b → Longer a b
  enters_longer a b p = record { more = p.news; is = p.told }

  mount_quiet : (met : Met) (w : Session) (o : Outcome Session Value) → Beside_left w (mount program called_if_needed levels met w) o
  mount_quiet met w o =
      go (execution program called_if_needed levels (Mounting met.path w.executed []) met.shown (length w.running.heap) s0) (execution_grows (Mounting met.path w.executed []) met.shown (length w.running.heap) s0)
    where
      s0 : Running
      s0 = record (w.running) { heap = w.running.heap ++ (Props met.fields ∷ []) }

      go : (x : Outcome Running Execution) → Enters_left w.running.trace x
          → Beside_left w (after (put_back (λ s. record w { running = s }) x) (λ e. stands true (record { path = met.path; component = met.shown; props = length w.running.heap; hooks = e.hooks; view = e.view; reads = e.reads }))) o
      go (Stops why u) g = tt
      go (Gives e u) g = record { grows = enters_longer w.running.trace u.trace g; mounted_stays = λ e. or_true w.mounted; alike = mounts_one (or_true w.mounted) }

  kept_or_executed : (i : Instance) (met : Met) (b : Bool) → Quietly Value (chosen b (stands false i) (run_again program called_if_needed levels i met)) (stands false i)
  kept_or_executed i met true w = record { grows = same_trace w.running.trace; mounted_stays = or_false w.mounted; alike = is_the_same refl }
  kept_or_executed i met false w = go (execution program called_if_needed levels (Again i.hooks) met.shown i.props w.running) (execution_grows (Again i.hooks) met.shown i.props w.running)
    where
      go : (x : Outcome Running Execution) → Enters_left w.running.trace x
          → Beside_left w (after (put_back (λ s. record w { running = s }) x) (λ e. stands false (record i { view = e.view; reads = e.reads }))) (stands false i w)
      go (Stops why u) g = tt
      go (Gives e u) g = record { grows = enters_longer w.running.trace u.trace g; mounted_stays = or_false w.mounted; alike = enters_one g }

  -- in both the props are set first
  again_quiet : (i : Instance) (met : Met) → Quietly Value (keep_or_run isn't_stale program levels i met) (keep_or_run (λ i s. true) program 0 i met)
  again_quiet i met =
      let alike = same (captures_in program) in
      quiet_binds (runs (props_set program called_if_needed levels i.props met.fields)) (runs (props_set program called_if_needed 0 i.props met.fields))
      (λ u. ◌>>=◌ (asked (λ w. isn't_stale i w.running)) (λ kept. chosen kept (stands false i) (run_again program called_if_needed levels i met)))
      (λ u. ◌>>=◌ (asked (λ w. true)) (λ kept. chosen kept (stands false i) (run_again program called_if_needed 0 i met)))
      (same_code (props_set program called_if_needed levels i.props met.fields) (λ s. Growth.props_add program i.props met.fields s))
      (λ u w. kept_or_executed i met (isn't_stale i w.running) w)

  visit_quiet : (met : Met) → Quietly Value (keep_or_mount isn't_stale program levels met) (keep_or_mount (λ i s. true) program 0 met)
  visit_quiet met w = go (find (λ i. same_path i.path met.path) w.instances)
    where
      go : (o : Option Instance) → Beside_left w (kept_or_mounted isn't_stale program levels o met w) (kept_or_mounted (λ i s. true) program 0 o met w)
      go (Some i) = again_quiet i met w
      go None = mount_quiet met w (mount program called_if_needed 0 met w)

  abbrev Quiet_enough : Session → Outcome Session Nodes → Outcome Session Nodes → Type 0
  Quiet_enough w (Gives a u) o = Alike w a u o
  Quiet_enough w (Stops why u) o = ⊤

  -- how a pass ends
  abbrev ends_so : Nodes → Doing Session Nodes
  ends_so nodes = ◌>>◌ (becomes (λ u. record u { instances = u.executed; executed = [] })) (give nodes)

  passes_quiet : (w : Session) → Quiet_enough w (pass (needed program levels) w) (pass (keeping program 0) w)
  passes_quiet w =
      go (expand_app (keep_or_mount isn't_stale program levels) program.app w0) (expands Session Quietly quiet_laws (keep_or_mount isn't_stale program levels) (keep_or_mount (λ i s. true) program 0) visit_quiet program.app w0)
    where
      w0 : Session
      w0 = record w { executed = []; mounted = false }

      go : (o : Outcome Session Nodes) → Beside_left (record w { executed = []; mounted = false }) o (expand_app (keep_or_mount (λ i s. true) program 0) program.app (record w { executed = []; mounted = false }))
          → Quiet_enough w (after o ends_so) (after (expand_app (keep_or_mount (λ i s. true) program 0) program.app (record w { executed = []; mounted = false })) ends_so)
      go (Stops why u) g = tt
      go (Gives nodes u) g = by_alike g.alike
        where
          by_alike : Alike (record w { executed = []; mounted = false }) nodes u (expand_app (keep_or_mount (λ i s. true) program 0) program.app (record w { executed = []; mounted = false }))
              → Alike w nodes (record u { instances = u.executed; executed = [] }) (after (expand_app (keep_or_mount (λ i s. true) program 0) program.app (record w { executed = []; mounted = false })) ends_so)
          by_alike (mounts_one e) = mounts_one e
          by_alike (enters_one e) = enters_one e
          by_alike (is_the_same e) = is_the_same (ap (λ x. after x ends_so) e)

gave_one : (a b : Outcome Session Nodes) (x y : Nodes) (u v : Session) → a ≡ Gives x u → b ≡ Gives y v → a ≡ b → v.running.log ≡ u.running.log
gave_one a b x y u v p q e = ap log_of (sym q ∙ (sym e ∙ p))
  where
    log_of : Outcome Session Nodes → List Loc
    log_of (Gives z w) = w.running.log
    log_of (Stops why w) = w.running.log

pub quiet_passes : QuietPasses
quiet_passes program levels w after nodes news orderly gave mounted told none = by_alike (subst (λ o. Quiet_enough program levels w o (pass (keeping program 0) w)) gave (passes_quiet program levels w))
  where
    by_alike : Alike program levels w nodes after (pass (keeping program 0) w) → after.running.log ≡ w.running.log
    by_alike (mounts_one e) = absurd (false≢true (sym mounted ∙ e))
    by_alike (enters_one e) = absurd (e.some (ap entries (append_cancel_left w.running.trace e.news news (sym e.told ∙ told)) ∙ none))
    by_alike (is_the_same e) = gave_one (pass (keeping program 0) w) (Gives nodes after) orderly.shown nodes orderly.kept after orderly.passes refl e ∙ orderly.logs_nothing
