-- Once a session has settled no task is due, and no instance is stale.
use Rattle.std.specs.Prelude.{◌≡◌, refl, ◌≤◌, ℕ, zero, suc, Bool, true, false, not, ◌&&◌, ◌||◌, ◌==◌, List, [], ◌∷◌, ◌++◌, length, drop, Option, Some, None, find, is_some, ⊤}
use Rattle.std.specs.List.{list_any}
use Rattle.std.proofs.Common.{sym, ap, subst, ◌∙◌, arith}
use Rattle.std.proofs.lemmas.Bool.{false≢true, eqb-true}
use Rattle.std.proofs.lemmas.List.{append-nil}
use Rattle.qk_meaning.specs.Value.{Shown, Value, Ref, Fields}
use Rattle.qk_meaning.specs.World.{Object, Props, Loc, Read, Hook, Instance}
use Rattle.qk_meaning.specs.Fault.{Fault}
use Rattle.qk_meaning.specs.Places.{same_location, same_path}
use Rattle.qk_meaning.specs.Markup.{child_fault}
use Rattle.qk_meaning.specs.Same.{same}
use Rattle.qk_meaning.specs.Program.{Program, captures_in}
use Rattle.qk_meaning.specs.Doing.{Doing, Outcome, Gives, Stops, ◌>>=◌, ◌>>◌, after, give, asked, becomes, chosen, put_back, state_left}
use Rattle.qk_meaning.specs.Happening.{Happening, Did_read, Began, Left, Took, The_task}
use Rattle.qk_meaning.specs.Running.{Running, Pure, Outside, Again, Mounting, hooking_becomes, unless_fault}
use Rattle.qk_meaning.specs.Trace.{own_reads, own_reads_from, logged_in}
use Rattle.qk_meaning.specs.Setting.{Computed_reading, called_anew}
use Rattle.qk_meaning.specs.Evaluation.{entering}
use Rattle.qk_meaning.specs.Laws_of_code.{Adds}
use Rattle.qk_meaning.specs.Expansion.{Met, Nodes, expand_app}
use Rattle.qk_meaning.specs.Session.{Session, world_of, runs}
use Rattle.qk_meaning.specs.Execution.{function_of, Execution, made_hooks, finished, stands, execution, mount, props_set, run_again, taken, take_or_mount}
use Rattle.qk_meaning.specs.Manner.{Manner, whole}
use Rattle.qk_meaning.specs.Settling.{Spot, first_due, pass, run_task, is_quiet, round, settled_within}
use Rattle.qk_needed.specs.Needed.{logged_since, is_stale, called_if_needed, kept_or_mounted, keep_or_mount, isn't_stale, needed}
use Rattle.qk_needed.specs.Laws.{None_stale, SettledBy, Settled}
use Rattle.qk_meaning.proofs.Growth as Growth
use Rattle.qk_needed.proofs.Found.{found_in, news_behind}
use Rattle.qk_needed.proofs.Quiet_calls as Quiet
use Rattle.qk_needed.proofs.Quiet_calls.{All_at, Told_at, Reads_quietly, Left_at_rest}
use Rattle.qk_needed.proofs.Expansion_keeps.{Kept_by, expands}

-- ---- what was read at the length of the log isn't logged since

nothing_behind : (log : List Loc) → drop (length log) log ≡ []
nothing_behind [] = refl
nothing_behind (l ∷ rest) = nothing_behind rest

fresh_read : (log : List Loc) (r : Read) → r.at ≡ length log → logged_since log r ≡ false
fresh_read log r e = ap (λ n. list_any (same_location r.loc) (drop n log)) e ∙ ap (list_any (same_location r.loc)) (nothing_behind log)

either : (a b : Bool) → a ≡ false → b ≡ false → (a || b) ≡ false
either true b p q = absurd (false≢true (sym p))
either false b p q = q

pub all_fresh_reads : (log : List Loc) (reads : List Read) → All_at (length log) reads → is_stale log reads ≡ false
all_fresh_reads log [] h = refl
all_fresh_reads log (r ∷ rest) h = either (logged_since log r) (is_stale log rest) (fresh_read log r h.0) (all_fresh_reads log rest h.1)

both_fresh : (log : List Loc) (reads more : List Read) → is_stale log reads ≡ false → is_stale log more ≡ false → is_stale log (reads ++ more) ≡ false
both_fresh log [] more p q = q
both_fresh log (r ∷ rest) more p q = go (logged_since log r) p (λ h. both_fresh log rest more h q)
  where
    go : (b : Bool) → (b || is_stale log rest) ≡ false → (is_stale log rest ≡ false → is_stale log (rest ++ more) ≡ false) → (b || is_stale log (rest ++ more)) ≡ false
    go true h k = h
    go false h k = k h

fresh_reads : (log : List Loc) (inside : Bool) (news : List Happening) → Told_at (length log) news → is_stale log (own_reads_from inside news) ≡ false
fresh_reads log inside [] h = refl
fresh_reads log true (Did_read r ∷ rest) h = fresh_reads log true rest h.1
fresh_reads log false (Did_read r ∷ rest) h = either (logged_since log r) (is_stale log (own_reads_from false rest)) (fresh_read log r h.0) (fresh_reads log false rest h.1)
fresh_reads log true (Took a v reads ∷ rest) h = fresh_reads log true rest h.1
fresh_reads log false (Took a v reads ∷ rest) h = both_fresh log reads (own_reads_from false rest) (all_fresh_reads log reads h.0) (fresh_reads log false rest h.1)
fresh_reads log true (Began The_task ∷ rest) h = fresh_reads log true rest h
fresh_reads log false (Began The_task ∷ rest) h = fresh_reads log true rest h
fresh_reads log true (Left The_task ∷ rest) h = fresh_reads log false rest h
fresh_reads log false (Left The_task ∷ rest) h = fresh_reads log false rest h
fresh_reads log true (_ ∷ rest) h = fresh_reads log true rest h
fresh_reads log false (_ ∷ rest) h = fresh_reads log false rest h

-- ---- a pass: it mounts an instance, or logs something, or what it has executed isn't stale

pub data Fine (log0 : List Loc) (w : Session) : Type 0 where
  has_mounted : w.mounted ≡ true → Fine log0 w
  has_logged : suc (length log0) ≤ length w.running.log → Fine log0 w
  all_fresh : w.running.log ≡ log0 → None_stale log0 w.executed → Fine log0 w

abbrev Fine_left : {A : Type 0} → List Loc → Outcome Session A → Type 0
Fine_left log0 (Gives a w) = Fine log0 w
Fine_left log0 (Stops why w) = ⊤

-- one log with another behind it
pub record Longer (log log' : List Loc) : Type 0 where
  pub more : List Loc
  pub is : log' ≡ log ++ more

longer_length : (a b : List Loc) → Longer a b → length a ≤ length b
longer_length a b p = subst (λ x. length a ≤ length x) (sym p.is) (front a p.more)
  where
    front : (xs more : List Loc) → length xs ≤ length (xs ++ more)
    front [] more = omega arith
    front (x ∷ rest) more = omega (arith, front rest more)

-- a log that is longer, or the same
data Longer_or_same (a b : List Loc) : Type 0 where
  more_logged : suc (length a) ≤ length b → Longer_or_same a b
  same_logged : b ≡ a → Longer_or_same a b

longer_or_same : (a b : List Loc) → Longer a b → Longer_or_same a b
longer_or_same a b p = by_more p.more p.is
  where
    by_more : (more : List Loc) → b ≡ a ++ more → Longer_or_same a b
    by_more [] e = same_logged (e ∙ append-nil a)
    by_more (l ∷ rest) e = more_logged (subst (λ x. suc (length a) ≤ length x) (sym e) (front a))
      where
        front : (xs : List Loc) → suc (length xs) ≤ length (xs ++ l ∷ rest)
        front [] = omega arith
        front (x ∷ others) = omega (arith, front others)

one_more : (log : List Loc) (all : List Instance) (i : Instance) → None_stale log all → is_stale log i.reads ≡ false → None_stale log (all ++ i ∷ [])
one_more log [] i p q = (q, tt)
one_more log (j ∷ rest) i p q = (p.0, one_more log rest i p.1 q)

or_true : (b : Bool) → (b || true) ≡ true
or_true true = refl
or_true false = refl

or_false : (b : Bool) → b ≡ true → (b || false) ≡ true
or_false true e = refl
or_false false e = absurd (false≢true e)

-- what is known of a reading of computeds
pub record Careful (computed : Computed_reading) : Type 1 where
  pub quiet : (G : List Object) (log : List Loc) → Reads_quietly G log computed

module _ (log0 : List Loc) where
  abbrev Keeps : (A : Type 0) → Doing Session A → Type 0
  Keeps A m = (w : Session) → Fine log0 w → Fine_left log0 (m w)

  keeps_binds : {A B : Type 0} (m : Doing Session A) (f : A → Doing Session B) → Keeps A m → ((a : A) → Keeps B (f a)) → Keeps B (◌>>=◌ m f)
  keeps_binds {A} {B} m f p q w h = go (m w) (p w h)
    where
      go : (o : Outcome Session A) → Fine_left log0 o → Fine_left log0 (after o f)
      go (Stops why u) g = tt
      go (Gives a u) g = q a u g

  keeping_laws : Kept_by Session (λ A m m'. Keeps A m)
  keeping_laws = record { gives = λ a w h. h; refuses = λ f w h. tt; bind = λ {A} {B} {m} {m'} {f} {f'} p q. keeps_binds m f p q }

  -- how code that is run changes a session
  run_left : {A : Type 0} (m : Doing Running A) → ((s : Running) → Adds s (state_left (m s))) → Keeps A (runs m)
  run_left {A} m p w h = go (m w.running) (p w.running)
    where
      go : (o : Outcome Running A) → Adds w.running (state_left o) → Fine_left log0 (put_back (λ s. record w { running = s }) o)
      go (Stops why u) g = tt
      go (Gives a u) g = by_fine h
        where
          longer : Longer w.running.log u.log
          longer = record { more = logged_in g.told; is = g.log }

          by_fine : Fine log0 w → Fine log0 (record w { running = u })
          by_fine (has_mounted e) = has_mounted e
          by_fine (has_logged l) = has_logged (omega (arith, l, longer_length w.running.log u.log longer))
          by_fine (all_fresh e f) = by_log (longer_or_same w.running.log u.log longer)
            where
              by_log : Longer_or_same w.running.log u.log → Fine log0 (record w { running = u })
              by_log (more_logged l) = has_logged (subst (λ x. suc (length x) ≤ length u.log) e l)
              by_log (same_logged k) = all_fresh (k ∙ e) f

  stands_fine : (i : Instance) (w : Session) → Fine log0 w → is_stale w.running.log i.reads ≡ false → Fine_left log0 (stands false i w)
  stands_fine i w (has_mounted e) q = has_mounted (or_false w.mounted e)
  stands_fine i w (has_logged l) q = has_logged l
  stands_fine i w (all_fresh e f) q = all_fresh e (one_more log0 w.executed i f (subst (λ x. is_stale x i.reads ≡ false) e q))

  -- ---- by a reading of computeds

  module _ (computed : Computed_reading) (careful : Careful computed) (program : Program) (levels : ℕ) where
    -- an instance that is mounted is told of
    mount_fine : (met : Met) (w : Session) → Fine_left log0 (mount program computed levels met w)
    mount_fine met w = go (execution program computed levels (Mounting met.path w.executed []) met.shown (length w.running.heap) (record (w.running) { heap = w.running.heap ++ (Props met.fields ∷ []) }))
      where
        go : (o : Outcome Running Execution)
            → Fine_left log0 (after (put_back (λ s. record w { running = s }) o) (λ e. stands true (record { path = met.path; component = met.shown; props = length w.running.heap; hooks = e.hooks; view = e.view; reads = e.reads })))
        go (Stops why u) = tt
        go (Gives e u) = has_mounted (or_true w.mounted)

    -- an execution of an instance that stood before reads at the length of the log, and leaves the log
    pub record Fresh (s : Running) (e : Execution) (s' : Running) : Type 0 where
      pub log : s'.log ≡ s.log
      pub fresh : is_stale s.log e.reads ≡ false

    abbrev Fresh_left : Running → Outcome Running Execution → Type 0
    Fresh_left s (Gives e s') = Fresh s e s'
    Fresh_left s (Stops why s') = ⊤

    finished_fresh : (s s1 : Running) (run : Value × List Read) → s1.log ≡ s.log → is_stale s.log run.1 ≡ false → Fresh_left s (finished run s1)
    finished_fresh s s1 run l q = by_child (child_fault run.0)
      where
        by_child : (o : Option Fault) → Fresh_left s (after (unless_fault o s1) (λ u. ◌>>=◌ (asked (λ t. made_hooks t.hooking)) (λ hooks. ◌>>◌ (hooking_becomes (λ h. Outside)) (give (record { view = run.0; hooks = hooks; reads = run.1 })))))
        by_child None = record { log = l; fresh = q }
        by_child (Some f) = tt

    again_fresh : (hooks : List Hook) (shown : Shown) (props : ℕ) (s : Running) → Fresh_left s (execution program computed levels (Again hooks) shown props s)
    again_fresh hooks shown props s =
        go (entering program computed levels Pure [] (function_of shown) (Ref props ∷ []) s0)
        (Quiet.calls s.heap s.log computed (careful.quiet s.heap s.log) program levels Pure tt [] (function_of shown) (Ref props ∷ []) s0 (record { heap = refl; log = refl; no_hooks = tt }))
      where
        s0 : Running
        s0 = record s { hooking = Again hooks }

        go : (o : Outcome Running Value) → Left_at_rest s.heap s.log (record s { hooking = Again hooks }) o → Fresh_left s (after (found_in (length s.trace) o) finished)
        go (Stops why u) g = tt
        go (Gives v u) g =
            let news : drop (length s.trace) u.trace ≡ g.news = ap (λ x. drop (length s.trace) x) g.told ∙ news_behind s.trace g.news in
            finished_fresh s u (v, own_reads (drop (length s.trace) u.trace)) g.rest.log (subst (λ x. is_stale s.log (own_reads x) ≡ false) (sym news) (fresh_reads s.log false g.news g.at))

    executed_fine : (i : Instance) (met : Met) → Keeps Value (run_again program computed levels i met)
    executed_fine i met w h = go (execution program computed levels (Again i.hooks) met.shown i.props w.running) (again_fresh i.hooks met.shown i.props w.running)
      where
        go : (o : Outcome Running Execution) → Fresh_left w.running o → Fine_left log0 (after (put_back (λ s. record w { running = s }) o) (λ e. stands false (record i { view = e.view; reads = e.reads })))
        go (Stops why u) g = tt
        go (Gives e u) g =
            stands_fine (record i { view = e.view; reads = e.reads }) (record w { running = u }) (moved h) (subst (λ x. is_stale x e.reads ≡ false) (sym g.log) g.fresh)
          where
            moved : Fine log0 w → Fine log0 (record w { running = u })
            moved (has_mounted m) = has_mounted m
            moved (has_logged l) = has_logged (subst (λ x. suc (length log0) ≤ length x) (sym g.log) l)
            moved (all_fresh l f) = all_fresh (g.log ∙ l) f

    props_fine : (i : Instance) (given : Fields) → Keeps (Unit {0}) (runs (props_set program computed levels i.props given))
    props_fine i given =
        let alike = same (captures_in program) in
        run_left (props_set program computed levels i.props given) (λ s. Growth.props_add program i.props given s)

    -- every instance is executed
    pub whole_fine : (met : Met) → Keeps Value (take_or_mount program computed levels met)
    whole_fine met w h = go (find (λ i. same_path i.path met.path) w.instances)
      where
        go : (o : Option Instance) → Fine_left log0 (taken program computed levels o met w)
        go (Some i) = keeps_binds (runs (props_set program computed levels i.props met.fields)) (λ u. run_again program computed levels i met) (props_fine i met.fields) (λ u. executed_fine i met) w h
        go None = mount_fine met w

  -- those that aren't stale are kept
  denied : (b : Bool) → not b ≡ true → b ≡ false
  denied true h = absurd (false≢true h)
  denied false h = refl

  pub needed_fine : (careful : Careful called_if_needed) (program : Program) (levels : ℕ) (met : Met) → Keeps Value (keep_or_mount isn't_stale program levels met)
  needed_fine careful program levels met w h = go (find (λ i. same_path i.path met.path) w.instances)
    where
      kept_so : (i : Instance) (u : Session) → Fine log0 u → (b : Bool) → isn't_stale i u.running ≡ b → Fine_left log0 (chosen b (stands false i) (run_again program called_if_needed levels i met) u)
      kept_so i u k true e = stands_fine i u k (denied (is_stale u.running.log i.reads) e)
      kept_so i u k false e = executed_fine called_if_needed careful program levels i met u k

      go : (o : Option Instance) → Fine_left log0 (kept_or_mounted isn't_stale program levels o met w)
      go (Some i) =
          keeps_binds (runs (props_set program called_if_needed levels i.props met.fields)) (λ u. ◌>>=◌ (asked (λ v. isn't_stale i v.running)) (λ kept. chosen kept (stands false i) (run_again program called_if_needed levels i met)))
          (props_fine called_if_needed careful program levels i met.fields) (λ u v k. kept_so i v k (isn't_stale i v.running) refl) w h
      go None = mount_fine called_if_needed careful program levels met w

-- ---- settling

left : (a b : Bool) → (a && b) ≡ true → a ≡ true
left true b h = refl
left false b h = absurd (false≢true h)

right : (a b : Bool) → (a && b) ≡ true → b ≡ true
right true b h = h
right false b h = absurd (false≢true h)

not_true : (b : Bool) → not b ≡ true → b ≡ true → ⊥
not_true true h e = false≢true h
not_true false h e = false≢true e

none_due : (o : Option Spot) → not (is_some o) ≡ true → o ≡ None
none_due None h = refl
none_due (Some spot) h = absurd (false≢true h)

abbrev pub Good : Session → Type 0
Good w = (first_due (world_of w) ≡ None) × None_stale w.running.log w.instances

abbrev Good_left : Outcome Session (Unit {0}) → Type 0
Good_left (Gives a w) = Good w
Good_left (Stops why w) = ⊤

module _ (manner : Manner) (V : (log0 : List Loc) (met : Met) → Keeps log0 Value (manner.visit met)) where
  -- what a pass leaves, begun with this log
  pub data Passed (log0 : List Loc) (w : Session) : Type 0 where
    passed_mounting : w.mounted ≡ true → Passed log0 w
    passed_logging : suc (length log0) ≤ length w.running.log → Passed log0 w
    passed_fresh : w.running.log ≡ log0 → None_stale log0 w.instances → Passed log0 w

  abbrev Passed_left : List Loc → Outcome Session Nodes → Type 0
  Passed_left log0 (Gives a w) = Passed log0 w
  Passed_left log0 (Stops why w) = ⊤

  passes : (w : Session) → Passed_left w.running.log (pass manner w)
  passes w =
      go (expand_app manner.visit manner.program.app (record w { executed = []; mounted = false }))
      (expands Session (λ A m m'. Keeps w.running.log A m) (keeping_laws w.running.log) manner.visit manner.visit (V w.running.log) manner.program.app (record w { executed = []; mounted = false }) (all_fresh refl tt))
    where
      go : (o : Outcome Session Nodes) → Fine_left w.running.log o → Passed_left w.running.log (after o (λ nodes. ◌>>◌ (becomes (λ u. record u { instances = u.executed; executed = [] })) (give nodes)))
      go (Stops why u) g = tt
      go (Gives nodes u) (has_mounted e) = passed_mounting e
      go (Gives nodes u) (has_logged l) = passed_logging l
      go (Gives nodes u) (all_fresh e f) = passed_fresh e f

  quiet_is_good : (log0 : List Loc) (w : Session) → Passed log0 w → is_quiet (length log0) w ≡ true → Good w
  quiet_is_good log0 w p q =
      let mounted = left (not w.mounted) ((length w.running.log == length log0) && not (is_some (first_due (world_of w)))) q in
      let rest = right (not w.mounted) ((length w.running.log == length log0) && not (is_some (first_due (world_of w)))) q in
      let one_length = eqb-true (length w.running.log) (length log0) (left (length w.running.log == length log0) (not (is_some (first_due (world_of w)))) rest) in
      (none_due (first_due (world_of w)) (right (length w.running.log == length log0) (not (is_some (first_due (world_of w)))) rest), by_pass p mounted one_length)
    where
      by_pass : Passed log0 w → not w.mounted ≡ true → length w.running.log ≡ length log0 → None_stale w.running.log w.instances
      by_pass (passed_mounting e) m l = absurd (not_true w.mounted m e)
      by_pass (passed_logging k) m l = absurd (omega (arith, k, l))
      by_pass (passed_fresh e f) m l = subst (λ x. None_stale x w.instances) (sym e) f

  behind_task : (o : Outcome Session (Unit {0})) (go_on : Doing Session (Unit {0})) → ((w : Session) → Good_left (go_on w)) → Good_left (after o (λ u. go_on))
  behind_task (Stops why u) go_on p = tt
  behind_task (Gives a u) go_on p = p u

  rounds : (go_on : Doing Session (Unit {0})) → ((w : Session) → Good_left (go_on w)) → (o : Option Spot) (w : Session) → Good_left (round manner go_on o w)
  rounds go_on p (Some spot) w = behind_task (run_task manner spot w) go_on p
  rounds go_on p None w = go (pass manner w) (passes w)
    where
      go : (o : Outcome Session Nodes) → Passed_left w.running.log o → Good_left (after o (λ nodes. ◌>>=◌ (asked (is_quiet (length w.running.log))) (λ quiet. chosen quiet (give tt) go_on)))
      go (Stops why u) g = tt
      go (Gives a u) g = by_quiet (is_quiet (length w.running.log) u) refl
        where
          by_quiet : (b : Bool) → is_quiet (length w.running.log) u ≡ b → Good_left (chosen b (give tt) go_on u)
          by_quiet true e = quiet_is_good w.running.log u g e
          by_quiet false e = p u

  settles_within : (n : ℕ) (w : Session) → Good_left (settled_within manner n w)
  settles_within zero w = tt
  settles_within (suc n) w = rounds (settled_within manner n) (settles_within n) (first_due (world_of w)) w

settled_so : (manner : Program → ℕ → Manner) → ((program : Program) (levels : ℕ) (log0 : List Loc) (met : Met) → Keeps log0 Value ((manner program levels).visit met)) → SettledBy manner
settled_so manner V program levels w after e = subst Good_left e (settles_within (manner program levels) (V program levels) (suc w.running.turns) w)

careful_anew : Careful called_anew
careful_anew = record { quiet = λ G log. Quiet.anew_quietly G log }

careful_needed : Careful called_if_needed
careful_needed = record { quiet = λ G log. Quiet.if_needed_quietly G log }

pub settled : Settled
settled = (settled_so whole (λ program levels log0 met. whole_fine log0 called_anew careful_anew program levels met), settled_so needed (λ program levels log0 met. needed_fine log0 careful_needed program levels met))
