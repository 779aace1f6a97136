-- A pass, which task is due, and how a session settles.
use Rattle.std.specs.Prelude.{ℕ, zero, suc, Bool, true, false, not, ◌&&◌, ◌==◌, List, [], ◌∷◌, length, drop, Option, Some, None, is_some}
use Rattle.std.specs.List.{list_any}
use Rattle.qk_meaning.specs.World.{Loc, Task, Hook, Tasked, Instance, World}
use Rattle.qk_meaning.specs.Places.{same_location}
use Rattle.qk_meaning.specs.Doing.{Doing, ◌>>=◌, ◌>>◌, give, asked, becomes, chosen, ended}
use Rattle.qk_meaning.specs.Running.{Effect}
use Rattle.qk_meaning.specs.Trace.{tracked_in}
use Rattle.qk_meaning.specs.Expansion.{Nodes, expand_app}
use Rattle.qk_meaning.specs.Session.{Session, world_of, runs}
use Rattle.qk_meaning.specs.Manner.{Manner, called_by}

-- a task is due where the log, from its length at the start of the task's last run, holds a location that this run read inside `track`
abbrev pub is_due : List Loc → Task → Bool
is_due log task = list_any (λ l. list_any (same_location l) task.tracked) (drop task.began log)

-- a task and where it stands: the instance and the hook, each counted from 0
pub record Spot : Type 0 where
  pub instance : ℕ
  pub hook : ℕ
  pub task : Task

-- the first due task among the hooks of an instance
abbrev pub due_hook : List Loc → ℕ → ℕ → List Hook → Option Spot
due_hook log i h [] = None
due_hook log i h (Tasked task ∷ rest) = elim (is_due log task) [ true ↦ Some (record { instance = i; hook = h; task = task }) | false ↦ due_hook log i (suc h) rest ]
due_hook log i h (_ ∷ rest) = due_hook log i (suc h) rest

-- the first due task among instances
abbrev pub due_from : List Loc → ℕ → List Instance → Option Spot
due_from log i [] = None
due_from log i (instance ∷ rest) = elim (due_hook log i 0 instance.hooks) [ Some spot ↦ Some spot | None ↦ due_from log (suc i) rest ]

-- the first due task, by instance and hook order
abbrev pub first_due : World → Option Spot
first_due w = due_from w.log 0 w.instances

abbrev pub put_hook : ℕ → Hook → List Hook → List Hook
put_hook n hook [] = []
put_hook zero hook (h ∷ rest) = hook ∷ rest
put_hook (suc n) hook (h ∷ rest) = h ∷ put_hook n hook rest

-- the task at that place is this now
abbrev pub put_task : ℕ → ℕ → Task → List Instance → List Instance
put_task n h task [] = []
put_task zero h task (i ∷ rest) = record i { hooks = put_hook h (Tasked task) i.hooks } ∷ rest
put_task (suc n) h task (i ∷ rest) = i ∷ put_task n h task rest

-- the last pass mounted nothing, logged nothing since the log had this length, and left no task due
abbrev pub is_quiet : ℕ → Session → Bool
is_quiet logged_before w = not w.mounted && ((length w.running.log == logged_before) && not (is_some (first_due (world_of w))))

module _ (manner : Manner) where
  -- a pass expands from `App`; the instances afterwards are those that were met in it, so what wasn't met is gone
  abbrev pub pass : Doing Session Nodes
  pass = do
    becomes (λ w. record w { executed = []; mounted = false })
    nodes ← expand_app manner.visit manner.program.app
    becomes (λ w. record w { instances = w.executed; executed = [] })
    give nodes

  -- a run of a task: its function is called in Effect, and the task keeps what this run read inside `track`
  abbrev pub run_task : Spot → Doing Session (Unit {0})
  run_task spot = do
    began ← asked (λ w. length w.running.log)
    run ← runs (tracked_in (called_by manner Effect spot.task.run []))
    becomes (λ w. record w {
      instances = put_task spot.instance spot.hook (record { run = spot.task.run; tracked = run.1; began = began }) w.instances;
    })

  -- a round runs the first due task, or where none is due makes a pass; unless that was quiet, settling goes on
  abbrev pub round : Doing Session (Unit {0}) → Option Spot → Doing Session (Unit {0})
  round go_on (Some spot) = do
    run_task spot
    go_on
  round go_on None = do
    before ← asked (λ w. length w.running.log)
    nodes ← pass
    quiet ← asked (is_quiet before)
    chosen quiet (give tt) go_on

  -- settling in at most so many rounds
  abbrev pub settled_within : ℕ → Doing Session (Unit {0})
  settled_within zero = ended
  settled_within (suc rounds) = do
    due ← asked (λ w. first_due (world_of w))
    round (settled_within rounds) due

  -- each round takes a turn or more, so with one round more than there are turns the bound on rounds decides nothing
  abbrev pub settled : Doing Session (Unit {0})
  settled = do
    turns ← asked (λ w. w.running.turns)
    settled_within (suc turns)
