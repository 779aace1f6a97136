-- No doing has more turns left at its end than at its beginning, and a call takes one; so the bound on the rounds of settling decides nothing.
use Rattle.std.specs.Prelude.{◌≡◌, refl, ℕ, zero, suc, ◌≤◌, ⊤, Bool, true, false, List, [], ◌∷◌, Option, Some, None, length, drop, find}
use Rattle.std.proofs.Common.{ap, arith}
use Rattle.qk_meaning.specs.Writing.{Becoming, Becomes, Stays}
use Rattle.qk_meaning.specs.Heap.{object_at}
use Rattle.qk_meaning.specs.Value.{Shown, Value, Ref, Closure, Lifted, none, end, Site, Text}
use Rattle.qk_meaning.specs.World.{Props, Instance, Object, Loc, Read}
use Rattle.qk_meaning.specs.Parts.{listed, zipped}
use Rattle.qk_meaning.specs.Places.{same_path}
use Rattle.qk_meaning.specs.Program.{Program, captures_in}
use Rattle.qk_meaning.specs.Doing.{Outcome, Gives, Stops, Doing, ◌>>=◌, ◌>>◌, after, put_back, chosen, give, asked, becomes}
use Rattle.qk_meaning.specs.Happening.{At_site, Of_symbol, Entered, Happening}
use Rattle.qk_meaning.specs.Running.{Running, Mode, Effect, Pure, Hooking, Mounting, Again, noted, take_turn, turn_of, told_apart, made_at, hooking_becomes, becomes_so}
use Rattle.qk_meaning.specs.Trace.{own_reads, tracked_reads, read_in, tracked_in}
use Rattle.qk_meaning.specs.Setting.{called_anew, setting_of}
use Rattle.qk_meaning.specs.Evaluation.{inside, entering}
use Rattle.qk_meaning.specs.Expansion.{Nodes, Inside, Met, nothing_given, children_of, wrapped, view_with, expand_item}
use Rattle.qk_meaning.specs.Session.{Session, runs, world_of}
use Rattle.qk_meaning.specs.Execution.{function_of, Execution, finished, stands, execution, mount, props_set, execute_again, taken, take_or_mount}
use Rattle.qk_meaning.specs.Manner.{Manner, whole, called_by}
use Rattle.qk_meaning.specs.Settling.{Spot, first_due, put_task, pass, run_task, is_quiet, round, settled_within}
use Rattle.qk_meaning.proofs.Running_laws.{Relation, Laws, Trace_laws, finds_reads, finds_tracked, Hook_laws, Hooking_laws, hook_laws}
use Rattle.qk_meaning.proofs.Meanings.{Enter_alike, enters_with, behind_turn, calls_anew}
use Rattle.qk_meaning.proofs.Session_laws.{Session_relation, Session_laws, finishes, stand, sets_props, view_expands, visits}

module _ {S : Type 0} (turns_of : S → ℕ) where
  -- what is given has at most so many turns left
  abbrev pub At_most : {A : Type 0} → ℕ → Outcome S A → Type 0
  At_most b (Gives a u) = turns_of u ≤ b
  At_most b (Stops why u) = ⊤

  abbrev pub Not_more : (A : Type 0) → Doing S A → Doing S A → Type 0
  Not_more A m m' = (s : S) → At_most (turns_of s) (m s)

  pub weaker : {A : Type 0} (b c : ℕ) (o : Outcome S A) → b ≤ c → At_most b o → At_most c o
  weaker b c (Gives a u) h k = omega (arith, k)
  weaker b c (Stops why u) h k = tt

  pub binds : {A B : Type 0} (m m' : Doing S A) (f f' : A → Doing S B) → Not_more A m m' → ((a : A) → Not_more B (f a) (f' a)) → Not_more B (◌>>=◌ m f) (◌>>=◌ m' f')
  binds {A} {B} m m' f f' p q s = go (m s) (p s)
    where
      go : (o : Outcome S A) → At_most (turns_of s) o → At_most (turns_of s) (after o f)
      go (Gives a u) h = weaker (turns_of u) (turns_of s) (f a u) h (q a u)
      go (Stops why u) h = tt

  -- what is given has fewer turns left
  abbrev pub Fewer : {A : Type 0} → ℕ → Outcome S A → Type 0
  Fewer b (Gives a u) = suc (turns_of u) ≤ b
  Fewer b (Stops why u) = ⊤

  abbrev pub Takes : (A : Type 0) → Doing S A → Type 0
  Takes A m = (s : S) → Fewer (turns_of s) (m s)

  fewer_still : {A : Type 0} (b c : ℕ) (o : Outcome S A) → b ≤ c → Fewer b o → Fewer c o
  fewer_still b c (Gives a u) h k = omega (arith, k)
  fewer_still b c (Stops why u) h k = tt

  fewer_at_most : {A : Type 0} (b c : ℕ) (o : Outcome S A) → suc b ≤ c → At_most b o → Fewer c o
  fewer_at_most b c (Gives a u) h k = omega (arith, k)
  fewer_at_most b c (Stops why u) h k = tt

  -- a turn is taken in the first, or in the second
  pub takes_first : {A B : Type 0} (m : Doing S A) (f : A → Doing S B) → Takes A m → ((a : A) → Not_more B (f a) (f a)) → Takes B (◌>>=◌ m f)
  takes_first {A} {B} m f p q s = go (m s) (p s)
    where
      go : (o : Outcome S A) → Fewer (turns_of s) o → Fewer (turns_of s) (after o f)
      go (Gives a u) h = fewer_at_most (turns_of u) (turns_of s) (f a u) h (q a u)
      go (Stops why u) h = tt

  pub takes_then : {A B : Type 0} (m : Doing S A) (f : A → Doing S B) → Not_more A m m → ((a : A) → Takes B (f a)) → Takes B (◌>>=◌ m f)
  takes_then {A} {B} m f p q s = go (m s) (p s)
    where
      go : (o : Outcome S A) → At_most (turns_of s) o → Fewer (turns_of s) (after o f)
      go (Gives a u) h = fewer_still (turns_of u) (turns_of s) (f a u) h (q a u)
      go (Stops why u) h = tt

-- ---- code

abbrev pub left_in : Running → ℕ
left_in s = s.turns

abbrev pub None_more : Relation
None_more = Not_more left_in

turns : None_more (Unit {0}) take_turn take_turn
turns s = go s.turns
  where
    go : (n : ℕ) → At_most left_in n (turn_of n s)
    go zero = tt
    go (suc n) = omega arith

acted : (a : ℕ) (differing : Object → Object → List Loc) (s : Running) (old : Object) (b : Becoming) → At_most left_in s.turns (becomes_so a differing old b s)
acted a differing s old (Becomes new) = omega arith
acted a differing s old (Stays f) = tt

trace_laws : Trace_laws None_more
trace_laws = record { gives = λ a s. omega arith; bind = λ {A} {B} {m} {m'} {f} {f'} p q. binds left_in m m' f f' p q; asks_trace = λ f s. omega arith }

pub laws : (names : Site → List Text) → Laws None_more
laws names =
    record {
      names = names;
      gives = λ a s. omega arith;
      faults = λ f s. tt;
      ends = λ m s. tt;
      bind = λ {A} {B} {m} {m'} {f} {f'} p q. binds left_in m m' f f' p q;
      turn = turns;
      tracks = λ {A} {m} {m'} p. finds_tracked None_more trace_laws {A = A} {m = m} {m' = m'} p;
      asks = λ f e s. omega arith;
      tells = λ f e q s. omega arith;
      makes = λ o s. omega arith;
      acts = λ a change differing k q s. acted a differing s (object_at s.heap a) (change (object_at s.heap a));
      logs = λ all s. omega arith;
      prints = λ line s. omega arith;
      sets = λ f s. omega arith;
      by_turns = λ {A} {f} {f'} p s. p s.turns s.turns (omega arith) s;
    }

pub named : (names : Site → List Text) → (laws names).names ≡ names
unfolding laws
named names = refl

hooking_laws : Hooking_laws None_more
hooking_laws = record { asks_hooking = λ s. omega arith; sets_hooking = λ f s. omega arith; tells_hook = λ kind arguments answered s. omega arith; begins_task = λ s. omega arith; leaves_task = λ s. omega arith; begins_computed = λ a s. omega arith; ends_computed = λ a v s. omega arith }

pub by_hooks : Hook_laws None_more
by_hooks = hook_laws None_more (laws (λ site. [])) hooking_laws

calls : (program : Program) (d : ℕ) (mode : Mode) (running : List ℕ) (f : Value) (arguments : List Value) → None_more Value (entering program called_anew d mode running f arguments) (entering program called_anew d mode running f arguments)
calls program zero mode running f arguments = λ s. tt
calls program (suc d) mode running f arguments = enters_with None_more (laws (captures_in program)) by_hooks program (named (captures_in program)) called_anew (calls_anew None_more by_hooks) (entering program called_anew d) (entering program called_anew d) (calls program d) mode running f arguments

-- as do reads of computeds
computeds : (program : Program) (d : ℕ) (running : List ℕ) (a : ℕ) (f : Value) → None_more Value (called_anew (entering program called_anew d) running a f) (called_anew (entering program called_anew d) running a f)
computeds program d running a f = calls_anew None_more by_hooks (entering program called_anew d) (entering program called_anew d) (calls program d) running a f

-- behind a turn there is one turn less
behind_a_turn : {A : Type 0} (m : Doing Running A) → None_more A m m → Takes left_in A (◌>>=◌ take_turn (λ u. m))
behind_a_turn {A} m p s = go s.turns
  where
    go : (n : ℕ) → Fewer left_in n (after (turn_of n s) (λ u. m))
    go zero = tt
    go (suc n) = less (m (record s { turns = n })) (p (record s { turns = n }))
      where
        less : (o : Outcome Running A) → At_most left_in n o → Fewer left_in (suc n) o
        less (Gives a u) h = omega (arith, h)
        less (Stops why u) h = tt

-- a call takes a turn
pub call_takes : (program : Program) (d : ℕ) (mode : Mode) (running : List ℕ) (f : Value) (arguments : List Value) → Takes left_in Value (entering program called_anew d mode running f arguments)
call_takes program zero mode running f arguments = λ s. tt
call_takes program (suc d) mode running (Closure site scope hidden) arguments =
    let code = program.code site in
    let here = setting_of program called_anew (entering program called_anew d) mode running code in
    behind_a_turn (◌>>◌ (noted (Entered (At_site site))) (inside code here scope arguments)) (behind_turn None_more (laws (captures_in program)) by_hooks here (named (captures_in program)) (entering program called_anew d) (called_anew (entering program called_anew d) running) (calls program d) (computeds program d running) (At_site site) code scope arguments)
call_takes program (suc d) mode running (Lifted symbol captured hidden) arguments =
    let code = program.lifted symbol in
    let here = setting_of program called_anew (entering program called_anew d) mode running code in
    let scope = zipped code.captures (listed captured) in
    behind_a_turn (◌>>◌ (noted (Entered (Of_symbol symbol))) (inside code here scope arguments)) (behind_turn None_more (laws (captures_in program)) by_hooks here (named (captures_in program)) (entering program called_anew d) (called_anew (entering program called_anew d) running) (calls program d) (computeds program d running) (Of_symbol symbol) code scope arguments)
call_takes program (suc d) mode running f arguments = λ s. tt

-- ---- sessions

abbrev left_over : Session → ℕ
left_over w = w.running.turns

abbrev None_more_there : Session_relation
None_more_there = Not_more left_over

running : {A : Type 0} (m m' : Doing Running A) → None_more A m m' → None_more_there A (runs m) (runs m')
running {A} m m' p w = go (m w.running) (p w.running)
  where
    go : (o : Outcome Running A) → At_most left_in w.running.turns o → At_most left_over w.running.turns (put_back (λ s. record w { running = s }) o)
    go (Gives a u) h = h
    go (Stops why u) h = tt

running_takes : {A : Type 0} (m : Doing Running A) → Takes left_in A m → Takes left_over A (runs m)
running_takes {A} m p w = go (m w.running) (p w.running)
  where
    go : (o : Outcome Running A) → Fewer left_in w.running.turns o → Fewer left_over w.running.turns (put_back (λ s. record w { running = s }) o)
    go (Gives a u) h = h
    go (Stops why u) h = tt

session_laws : Session_laws None_more None_more_there
session_laws =
    record {
      finds = λ {A} {m} {m'} p. finds_reads None_more trace_laws {A = A} {m = m} {m' = m'} p;
      gives = λ a w. omega arith;
      ends = λ m w. tt;
      bind = λ {A} {B} {m} {m'} {f} {f'} p q. binds left_over m m' f f' p q;
      asks = λ f e w. omega arith;
      becomes_so = λ f k e w. omega (arith, ap (λ s. s.turns) (k w));
      refuses = λ f w. tt;
      runs_so = λ {A} {m} {m'} p. running m m' p;
      by_turns = λ {A} {f} {f'} p w. p w.running.turns w.running.turns (omega arith) w;
    }

told_takes : {A : Type 0} (m : Doing Running A) → Takes left_in A m → Takes left_in (A × List Happening) (told_apart m)
told_takes m p =
    takes_then left_in (asked (λ s. length s.trace)) (λ before. ◌>>=◌ m (λ a. ◌>>=◌ (asked (λ s. s.trace)) (λ trace. give (a, drop before trace)))) (λ s. omega arith)
    (λ before. takes_first left_in m (λ a. ◌>>=◌ (asked (λ s. s.trace)) (λ trace. give (a, drop before trace))) p (λ a s. omega arith))

reads_take : {A : Type 0} (m : Doing Running A) → Takes left_in A m → Takes left_in (A × List Read) (read_in m)
reads_take m p = takes_first left_in (told_apart m) (λ run. give (run.0, own_reads run.1)) (told_takes m p) (λ run s. omega arith)

tracked_takes : {A : Type 0} (m : Doing Running A) → Takes left_in A m → Takes left_in (A × List Loc) (tracked_in m)
tracked_takes m p = takes_first left_in (told_apart m) (λ run. give (run.0, tracked_reads run.1)) (told_takes m p) (λ run s. omega arith)

module _ (program : Program) (levels : ℕ) where
  -- every instance that is met is executed
  abbrev manner : Manner
  manner = whole program levels

  called : Enter_alike None_more (entering program called_anew levels) (entering program called_anew levels)
  called = calls program levels

  execution_takes : (hooking : Hooking) (shown : Shown) (props : ℕ) → Takes left_in Execution (execution program called_anew levels hooking shown props)
  execution_takes hooking shown props =
      let call = entering program called_anew levels Pure [] (function_of shown) (Ref props ∷ []) in
      takes_then left_in (hooking_becomes (λ h. hooking)) (λ u. ◌>>=◌ (read_in call) finished) (λ s. omega arith)
      (λ u. takes_first left_in (read_in call) finished (reads_take call (call_takes program levels Pure [] (function_of shown) (Ref props ∷ []))) (finishes None_more (laws (captures_in program)) hooking_laws None_more_there session_laws))

  mount_takes : (met : Met) → Takes left_over Value (mount program called_anew levels met)
  mount_takes met =
      let new : ℕ → Execution → Instance = λ props e. record { path = met.path; component = met.shown; props = props; hooks = e.hooks; view = e.view; reads = e.reads } in
      let executes : List Instance → ℕ → Doing Session Execution = λ before props. runs (execution program called_anew levels (Mounting met.path before []) met.shown props) in
      takes_then left_over (asked (λ w. w.executed)) (λ before. ◌>>=◌ (runs (made_at (Props met.fields))) (λ props. ◌>>=◌ (executes before props) (λ e. stands true (new props e)))) (λ w. omega arith)
      (λ before. takes_then left_over (runs (made_at (Props met.fields))) (λ props. ◌>>=◌ (executes before props) (λ e. stands true (new props e)))
      (running (made_at (Props met.fields)) (made_at (Props met.fields)) ((laws (captures_in program)).makes (Props met.fields)))
      (λ props. takes_first left_over (executes before props) (λ e. stands true (new props e))
      (running_takes (execution program called_anew levels (Mounting met.path before []) met.shown props) (execution_takes (Mounting met.path before []) met.shown props))
      (λ e. stand None_more (laws (captures_in program)) hooking_laws None_more_there session_laws true (new props e))))

  again_takes : (i : Instance) (met : Met) → Takes left_over Value (execute_again program called_anew levels i met)
  again_takes i met =
      let later : Execution → Instance = λ e. record i { view = e.view; reads = e.reads } in
      let executes = runs (execution program called_anew levels (Again i.hooks) met.shown i.props) in
      takes_then left_over (runs (props_set program called_anew levels i.props met.fields)) (λ u. ◌>>=◌ executes (λ e. stands false (later e)))
      (running (props_set program called_anew levels i.props met.fields) (props_set program called_anew levels i.props met.fields) (sets_props None_more (laws (captures_in program)) hooking_laws None_more_there session_laws program (named (captures_in program)) called_anew levels levels called i.props met.fields))
      (λ u. takes_first left_over executes (λ e. stands false (later e))
      (running_takes (execution program called_anew levels (Again i.hooks) met.shown i.props) (execution_takes (Again i.hooks) met.shown i.props))
      (λ e. stand None_more (laws (captures_in program)) hooking_laws None_more_there session_laws false (later e)))

  taken_takes : (o : Option Instance) (met : Met) → Takes left_over Value (taken program called_anew levels o met)
  taken_takes (Some i) met = again_takes i met
  taken_takes None met = mount_takes met

  visit_takes : (met : Met) → Takes left_over Value (take_or_mount program called_anew levels met)
  visit_takes met =
      takes_then left_over (asked (λ w. w.instances)) (λ before. taken program called_anew levels (find (λ i. same_path i.path met.path) before) met) (λ w. omega arith)
      (λ before. taken_takes (find (λ i. same_path i.path met.path) before) met)

  -- a pass takes a turn, since it executes the application's component
  pub pass_takes : Takes left_over Nodes (pass manner)
  pass_takes =
      let app = program.app in
      let visit = take_or_mount program called_anew levels in
      let met : Met = record { path = []; shown = app; fields = end } in
      let behind : Value → Doing Session Nodes = λ view. wrapped (Inside []) (view_with (expand_item visit 128) [] (children_of none nothing_given) view) in
      let ends_so : Nodes → Doing Session Nodes = λ nodes. ◌>>◌ (becomes (λ w. record w { instances = w.executed; executed = [] })) (give nodes) in
      takes_then left_over (becomes (λ w. record w { executed = []; mounted = false })) (λ u. ◌>>=◌ (◌>>=◌ (visit met) behind) ends_so) (λ w. omega arith)
      (λ u. takes_first left_over (◌>>=◌ (visit met) behind) ends_so
      (takes_first left_over (visit met) behind (visit_takes met)
      (λ view. view_expands None_more (laws (captures_in program)) hooking_laws None_more_there session_laws visit visit (visits None_more (laws (captures_in program)) hooking_laws None_more_there session_laws program (named (captures_in program)) called_anew levels levels called) [] (children_of none nothing_given) view))
      (λ nodes w. omega arith))

  -- a run of a task takes a turn
  pub task_takes : (spot : Spot) → Takes left_over (Unit {0}) (run_task manner spot)
  task_takes spot =
      let call = called_by manner Effect spot.task.run [] in
      let behind : ℕ → Value × List Loc → Doing Session (Unit {0}) = λ began run. becomes (λ w. record w { instances = put_task spot.instance spot.hook (record { run = spot.task.run; tracked = run.1; began = began }) w.instances }) in
      takes_then left_over (asked (λ w. length w.running.log)) (λ began. ◌>>=◌ (runs (tracked_in call)) (behind began)) (λ w. omega arith)
      (λ began. takes_first left_over (runs (tracked_in call)) (behind began) (running_takes (tracked_in call) (tracked_takes call (call_takes program levels Effect [] spot.task.run []))) (λ run w. omega arith))

  -- what goes on alike with fewer turns goes on alike behind what takes a turn
  after_alike : {A : Type 0} (b : ℕ) (o : Outcome Session A) (g h : Doing Session (Unit {0})) → Fewer left_over b o → ((w : Session) → suc (left_over w) ≤ b → g w ≡ h w) → after o (λ a. g) ≡ after o (λ a. h)
  after_alike b (Gives a w) g h k e = e w k
  after_alike b (Stops why u) g h k e = refl

  choose_alike : (b : Bool) (g h : Doing Session (Unit {0})) (w : Session) → g w ≡ h w → chosen b (give tt) g w ≡ chosen b (give tt) h w
  choose_alike true g h w e = refl
  choose_alike false g h w e = e

  rounds_alike : (o : Option Spot) (g h : Doing Session (Unit {0})) (w : Session) → ((v : Session) → suc (left_over v) ≤ left_over w → g v ≡ h v) → round manner g o w ≡ round manner h o w
  rounds_alike (Some spot) g h w e = after_alike (left_over w) (run_task manner spot w) g h (task_takes spot w) e
  rounds_alike None g h w e =
      let before = length w.running.log in
      let next : Doing Session (Unit {0}) → Doing Session (Unit {0}) = λ m v. chosen (is_quiet before v) (give tt) m v in
      after_alike (left_over w) (pass manner w) (next g) (next h) (pass_takes w) (λ v k. choose_alike (is_quiet before v) g h v (e v k))

  -- every bound on rounds that is greater than the turns gives the same
  pub settled_alike : (n m : ℕ) (w : Session) → suc (left_over w) ≤ n → suc (left_over w) ≤ m → settled_within manner n w ≡ settled_within manner m w
  settled_alike zero m w h k = absurd (omega arith)
  settled_alike (suc n) zero w h k = absurd (omega arith)
  settled_alike (suc n) (suc m) w h k =
      rounds_alike (first_due (world_of w)) (settled_within manner n) (settled_within manner m) w
      (λ v j. settled_alike n m v (omega arith) (omega arith))
