-- Where the first due task stands.
use Rattle.std.specs.Prelude.{ℕ, suc, Bool, true, false, List, [], ◌∷◌, Option, Some, None}
use Rattle.qk_meaning.specs.Settling.{Spot}
use Rattle.qk_hooks.specs.declared.state.Hook.{Hook}
use Rattle.qk_hooks.specs.declared.state.Instance.{Instance}
use Rattle.qk_hooks.specs.declared.due.TaskId.{TaskId}

-- a spot without its task
abbrev pub spot_at : Option Spot → Option TaskId
spot_at (Some spot) = Some (record { instance = spot.instance; hook = spot.hook })
spot_at None = None

-- the hook is a due task
abbrev pub is_marked : Hook → Bool
is_marked (Hook.Task task) = task.due
is_marked _ = false

-- the first due task among hooks that are counted from this number on
abbrev pub marked_hook : ℕ → List Hook → Option ℕ
marked_hook n [] = None
marked_hook n (h ∷ rest) = elim (is_marked h) [ true ↦ Some n | false ↦ marked_hook (suc n) rest ]

abbrev pub at_hook : ℕ → Option ℕ → Option TaskId → Option TaskId
at_hook n (Some h) others = Some (record { instance = n; hook = h })
at_hook n None others = others

-- among instances that are counted from this number on
abbrev pub marked_from : ℕ → List Instance → Option TaskId
marked_from n [] = None
marked_from n (i ∷ rest) = at_hook n (marked_hook 0 i.hooks.items) (marked_from (suc n) rest)
