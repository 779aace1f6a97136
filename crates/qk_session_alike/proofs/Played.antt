-- Passes, settling and items do alike.
use Rattle.std.specs.Prelude.{refl, ℕ, zero, suc, Bool, true, false, List, ◌∷◌, Option, Some, None, find, cond}
use Rattle.std.proofs.Common.{subst}
use Rattle.qk_meaning.specs.Value.{Value}
use Rattle.qk_meaning.specs.World.{Step, Task, Instance}
use Rattle.qk_meaning.specs.Same.{same}
use Rattle.qk_meaning.specs.Places.{same_path}
use Rattle.qk_meaning.specs.Program.{Program, captures_in}
use Rattle.qk_meaning.specs.Doing.{Ends, Doing, give, chosen}
use Rattle.qk_meaning.specs.Running.{Effect}
use Rattle.qk_alike.proofs.Hooked.{tracks_lem}
use Rattle.qk_meaning.specs.Setting.{Computed_reading}
use Rattle.qk_meaning.specs.Evaluation.{entering}
use Rattle.qk_meaning.specs.Expansion.{Nodes, Met}
use Rattle.qk_meaning.specs.Session.{Session}
use Rattle.qk_meaning.specs.Execution.{stands, mount, run_again, execute_again, taken, take_or_mount}
use Rattle.qk_meaning.specs.Manner.{Manner}
use Rattle.qk_meaning.specs.Settling.{Spot, pass, run_task, round, settled_within, settled}
use Rattle.qk_meaning.specs.Ties.{Ties, Apart, Shown_as, Stands, Pairwise, no_more, one_more, props}
use Rattle.qk_meaning.specs.Worlds_stand.{Start, Tasks_stand, Instances_stand}
use Rattle.qk_meaning.specs.Alike.{Doings_stand, both_mounting, both_again}
use Rattle.qk_alike.proofs.Doing_laws.{Done, done, Laws, Enterings_stand}
use Rattle.qk_alike.proofs.Told.{tasks_alike}
use Rattle.qk_session_alike.specs.Trees_stand.{Nodes_stand, Met_stand, met_alike, Named_alike}
use Rattle.qk_session_alike.proofs.Expanded.{Visits_stand, apps_expand}
use Rattle.qk_session_alike.proofs.Props_set.{Sames_agree}
use Rattle.qk_session_alike.proofs.Executed.{Asks_more, execution_lem, props_set_lem}
use Rattle.qk_session_alike.proofs.Sessions_kept.{Session_relation, Session_laws, Dues_stand, none_due, both_due}

-- instances of one path are found alike
pub data Instance_found (t : Ties) (b : Start) : Option Instance → Option Instance → Type 0 where
  none_found : Instance_found t b None None
  both_found : {i j : Instance} → Instances_stand t b i j → Instance_found t b (Some i) (Some j)

found_or : {t : Ties} {b : Start} (c : Bool) {i j : Instance} {o o' : Option Instance} → Instances_stand t b i j → Instance_found t b o o' → Instance_found t b (cond c (Some i) o) (cond c (Some j) o')
found_or true h k = both_found h
found_or false h k = k

pub found_alike : {t : Ties} {b : Start} (path : List Step) {all all' : List Instance} → Pairwise (Instances_stand t b) all all' → Instance_found t b (find (λ i. same_path i.path path) all) (find (λ i. same_path i.path path) all')
found_alike path no_more = none_found
found_alike {t} {b} path (one_more {a = i} {b = j} {rest = all} {more = all'} h hs) =
    subst (λ p. Instance_found t b (find (λ i. same_path i.path path) (i ∷ all)) (cond (same_path p path) (Some j) (find (λ i. same_path i.path path) all'))) h.path (found_or (same_path i.path path) h (found_alike path hs))

module _ {t : Ties} (apart : Apart t) (named : Named_alike t.sites) {b : Start} (laws : Laws t b (Doings_stand t b)) (more : Asks_more t b (Doings_stand t b)) (P Q : Program) (computed : Computed_reading) (levels : ℕ)
    (E : Enterings_stand t (Doings_stand t b) (entering P computed levels) (entering Q computed levels)) (sames : Sames_agree t (same (captures_in P)) (same (captures_in Q)))
    {K : Session_relation} (session : Session_laws t b K) where
  open session use {ran, log_lengths, turns_now, executed_now, instances_now, due_now, quiet_now, adds, begins, passes, puts}
  open session.steps use {gives, stops, bind}

  -- ---- visits

  stands_lem : (mounted : Bool) {i j : Instance} → Instances_stand t b i j → K Value Value (Stands t) (stands mounted i) (stands mounted j)
  stands_lem mounted h = bind (adds mounted h) (λ x y d. gives h.view)

  mount_lem : {m m' : Met} → Met_stand t m m' → K Value Value (Stands t) (mount P computed levels m) (mount Q computed levels m')
  mount_lem (met_alike {path = path} s f) =
      bind executed_now (λ all all' i. bind (ran (laws.makes (props f))) (λ p q k. bind (ran (execution_lem apart laws more P Q computed levels E sames (both_mounting {path = path} i no_more) s k)) (λ e e' h.
      stands_lem true (record { path = refl {a = path}; component = s; props = k; hooks = h.hooks; view = h.view; reads = h.reads }))))

  run_again_lem : {i j : Instance} → Instances_stand t b i j → {m m' : Met} → Met_stand t m m' → K Value Value (Stands t) (run_again P computed levels i m) (run_again Q computed levels j m')
  run_again_lem h (met_alike s f) = bind (ran (execution_lem apart laws more P Q computed levels E sames (both_again h.hooks) s h.props)) (λ e e' k.
      stands_lem false (record { path = h.path; component = h.component; props = h.props; hooks = h.hooks; view = k.view; reads = k.reads }))

  again_lem : {i j : Instance} → Instances_stand t b i j → {m m' : Met} → Met_stand t m m' → K Value Value (Stands t) (execute_again P computed levels i m) (execute_again Q computed levels j m')
  again_lem h (met_alike {path = path} s f) = bind (ran (props_set_lem apart laws more P Q computed levels E sames h.props f)) (λ x y d. run_again_lem h (met_alike {path = path} s f))

  taken_lem : {o o' : Option Instance} → Instance_found t b o o' → {m m' : Met} → Met_stand t m m' → K Value Value (Stands t) (taken P computed levels o m) (taken Q computed levels o' m')
  taken_lem none_found k = mount_lem k
  taken_lem (both_found h) k = again_lem h k

  visits : Visits_stand t K (take_or_mount P computed levels) (take_or_mount Q computed levels)
  visits = record { visits = λ k. visit_lem k }
    where
      visit_lem : {m m' : Met} → Met_stand t m m' → K Value Value (Stands t) (take_or_mount P computed levels m) (take_or_mount Q computed levels m')
      visit_lem (met_alike {path = path} s f) = bind instances_now (λ all all' i. taken_lem (found_alike path i) (met_alike {path = path} s f))

  -- ---- settling, in the manner that executes whatever is met

  abbrev manner : Manner
  manner = record { program = P; computed = computed; levels = levels; visit = take_or_mount P computed levels }

  abbrev manner' : Manner
  manner' = record { program = Q; computed = computed; levels = levels; visit = take_or_mount Q computed levels }

  module _ (app : Shown_as t.sites P.app Q.app) where
    pass_lem : K Nodes Nodes (Nodes_stand t) (pass manner) (pass manner')
    pass_lem = bind begins (λ x y d. bind (apps_expand named session.steps visits app) (λ v w h. bind passes (λ x y d. gives h)))

    run_task_lem : (i h : ℕ) {x y : Task} → Tasks_stand t b x y → K (Unit {0}) (Unit {0}) Done (run_task manner (record { instance = i; hook = h; task = x })) (run_task manner' (record { instance = i; hook = h; task = y }))
    run_task_lem i h {x} {y} k =
        bind log_lengths (λ n n' at. bind (ran (tracks_lem laws (E.enters Effect no_more k.run no_more))) (λ run run' r.
        puts i h (tasks_alike apart (record { run = x.run; tracked = run.1; began = n }) (record { run = y.run; tracked = run'.1; began = n' }) k.run r.tracked at)))

    choose_same : (c : Bool) {m n m' n' : Doing Session (Unit {0})} → K (Unit {0}) (Unit {0}) Done m m' → K (Unit {0}) (Unit {0}) Done n n' → K (Unit {0}) (Unit {0}) Done (chosen c m n) (chosen c m' n')
    choose_same true p q = p
    choose_same false p q = q

    round_lem : {m m' : Doing Session (Unit {0})} → K (Unit {0}) (Unit {0}) Done m m' → {o o' : Option Spot} → Dues_stand t b o o' → K (Unit {0}) (Unit {0}) Done (round manner m o) (round manner' m' o')
    round_lem p (both_due {i = i} {h = h} k) = bind (run_task_lem i h k) (λ x y d. p)
    round_lem {m} {m'} p none_due = bind log_lengths (λ n n' at. bind pass_lem (λ v w h. bind (quiet_now at) (λ c c' e. subst (λ z. K (Unit {0}) (Unit {0}) Done (chosen c (give tt) m) (chosen z (give tt) m')) e (choose_same c (gives done) p))))

    settled_so : (rounds : ℕ) → K (Unit {0}) (Unit {0}) Done (settled_within manner rounds) (settled_within manner' rounds)
    settled_so zero = stops Ends
    settled_so (suc rounds) = bind due_now (λ o o' k. round_lem (settled_so rounds) k)

    pub settled_lem : K (Unit {0}) (Unit {0}) Done (settled manner) (settled manner')
    settled_lem = bind turns_now (λ n n' e. subst (λ z. K (Unit {0}) (Unit {0}) Done (settled_within manner (suc n)) (settled_within manner' (suc z))) e (settled_so (suc n)))
