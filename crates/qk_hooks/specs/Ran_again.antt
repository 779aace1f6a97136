-- A task by its place, and what becomes of instances where it has run again.
use Rattle.std.specs.Prelude.{◌≡◌, ◌≤◌, ℕ, zero, suc, Bool, List, [], ◌∷◌, length, Option, Some, None, Vec}
use Rattle.std.specs.declared.alloc.Global.{Global}
use Rattle.qk_ast.specs.Texts.{Text}
use Rattle.qk_meaning.specs.Value.{Site}
use Rattle.qk_meaning.specs.World as W
use Rattle.qk_meaning.specs.Settling.{is_due}
use Rattle.qk_heap.specs.declared.location.Loc.{Loc}
use Rattle.qk_hooks.specs.declared.state.Task.{Task}
use Rattle.qk_hooks.specs.declared.state.Hook.{Hook}
use Rattle.qk_hooks.specs.declared.state.Instance.{Instance}
use Rattle.qk_hooks.specs.Standing.{Same_locations, IsTask}

-- ---- in the program

abbrev pub task_of : Hook → Option Task
task_of (Hook.Task task) = Some task
task_of _ = None

abbrev pub task_among : ℕ → List Hook → Option Task
task_among n [] = None
task_among zero (h ∷ rest) = task_of h
task_among (suc n) (h ∷ rest) = task_among n rest

-- the task at an instance and a hook, where one stands there
abbrev pub task_in : ℕ → ℕ → List Instance → Option Task
task_in n h [] = None
task_in zero h (i ∷ rest) = task_among h i.hooks.items
task_in (suc n) h (i ∷ rest) = task_in n h rest

-- a task has this mark now, and tracks these locations
abbrev pub hook_ran : Vec Loc Global → Bool → Hook → Hook
hook_ran tracks due (Hook.Task task) = Hook.Task (record task { tracks = tracks; due = due })
hook_ran tracks due other = other

abbrev pub hooks_ran : ℕ → Vec Loc Global → Bool → List Hook → List Hook
hooks_ran n tracks due [] = []
hooks_ran zero tracks due (h ∷ rest) = hook_ran tracks due h ∷ rest
hooks_ran (suc n) tracks due (h ∷ rest) = h ∷ hooks_ran n tracks due rest

-- nothing else of the instance changes
pub record HasRun (hook : ℕ) (tracks : Vec Loc Global) (due : Bool) (before after : Instance) : Type 0 where
  pub hooks : Vec Hook Global
  pub ran : hooks.items ≡ hooks_ran hook tracks due before.hooks.items
  pub is : after ≡ record before { hooks = hooks }

-- nor does another instance
abbrev pub HasRunAt : ℕ → ℕ → Vec Loc Global → Bool → List Instance → List Instance → Type 0
HasRunAt n hook tracks due [] after = after ≡ []
HasRunAt n hook tracks due (b ∷ before) [] = ⊥
HasRunAt zero hook tracks due (b ∷ before) (a ∷ after) = HasRun hook tracks due b a × (after ≡ before)
HasRunAt (suc n) hook tracks due (b ∷ before) (a ∷ after) = (a ≡ b) × HasRunAt n hook tracks due before after

-- ---- in the meaning

abbrev pub task_meant_of : W.Hook → Option W.Task
task_meant_of (W.Tasked task) = Some task
task_meant_of _ = None

abbrev pub task_meant_among : ℕ → List W.Hook → Option W.Task
task_meant_among n [] = None
task_meant_among zero (h ∷ rest) = task_meant_of h
task_meant_among (suc n) (h ∷ rest) = task_meant_among n rest

abbrev pub task_meant : ℕ → ℕ → List W.Instance → Option W.Task
task_meant n h [] = None
task_meant zero h (i ∷ rest) = task_meant_among h i.hooks
task_meant (suc n) h (i ∷ rest) = task_meant n h rest

module _ (names : Site → List Text) (log : List W.Loc) where
  -- the one stands for the other, or there is none
  abbrev pub MayBeTask : Option Task → Option W.Task → Type 0
  MayBeTask None None = Unit {0}
  MayBeTask (Some task) (Some meant) = IsTask names log task meant
  MayBeTask _ _ = ⊥

  -- the task in the meaning, behind a run that tracked these locations and after which it is due or not
  pub record Behind_run (tracks : List Loc) (due : Bool) (before after : W.Task) : Type 0 where
    pub run : after.run ≡ before.run
    pub tracked : Same_locations tracks after.tracked
    pub began : after.began ≤ length log
    pub so : is_due log after ≡ due
