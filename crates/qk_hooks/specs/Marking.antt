-- What becomes of instances where a location changes.
use Rattle.std.specs.Prelude.{◌≡◌, ◌||◌, List, [], ◌∷◌, map, Vec}
use Rattle.std.specs.Global.{Global}
use Rattle.std.specs.List.{list_any}
use Rattle.qk_meaning.specs.Places.{same_location}
use Rattle.qk_heap.specs.declared.location.Loc.{Loc}
use Rattle.qk_heap.specs.Seen.{loc_seen}
use Rattle.qk_hooks.specs.declared.state.Task.{Task}
use Rattle.qk_hooks.specs.declared.state.Hook.{Hook}
use Rattle.qk_hooks.specs.declared.state.Instance.{Instance}

-- a task that tracks it is due
abbrev pub task_marked : Loc → Task → Task
task_marked l task = record task { due = task.due || list_any (λ m. same_location (loc_seen l) (loc_seen m)) task.tracks.items }

abbrev pub hook_marked : Loc → Hook → Hook
hook_marked l (Hook.Task task) = Hook.Task (task_marked l task)
hook_marked l other = other

-- nothing else of the instance changes
pub record IsMarked (l : Loc) (before after : Instance) : Type 0 where
  pub hooks : Vec Hook Global
  pub marked : hooks.items ≡ map (hook_marked l) before.hooks.items
  pub is : after ≡ record before { hooks = hooks }

abbrev pub AreMarked : Loc → List Instance → List Instance → Type 0
AreMarked l [] [] = Unit {0}
AreMarked l (b ∷ before) (a ∷ after) = IsMarked l b a × AreMarked l before after
AreMarked l _ _ = ⊥
