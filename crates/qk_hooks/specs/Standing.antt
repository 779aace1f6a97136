-- Which instances of the meaning those of the program stand for, where the log is this. The program keeps no log: whether a task is due stands with the task.
use Rattle.std.specs.Prelude.{◌≡◌, ◌≤◌, List, [], ◌∷◌, length, map}
use Rattle.std.specs.List.{list_any}
use Rattle.qk_ast.specs.Texts.{Text}
use Rattle.qk_meaning.specs.Value.{Site, Lifted_component}
use Rattle.qk_meaning.specs.World as W
use Rattle.qk_meaning.specs.Places.{same_location}
use Rattle.qk_meaning.specs.Settling.{is_due}
use Rattle.qk_value.specs.View.{seen, seen_function}
use Rattle.qk_heap.specs.declared.location.Loc.{Loc}
use Rattle.qk_heap.specs.Seen.{loc_seen}
use Rattle.qk_nodes.specs.Tree.{path_of}
use Rattle.qk_hooks.specs.declared.state.Task.{Task}
use Rattle.qk_hooks.specs.declared.state.Hook.{Hook}
use Rattle.qk_hooks.specs.declared.state.Instance.{Instance}

-- the same locations are in both; neither their order nor how often one stands there counts
abbrev pub Same_locations : List Loc → List W.Loc → Type 0
Same_locations here meant = (l : W.Loc) → list_any (same_location l) meant ≡ list_any (λ m. same_location l (loc_seen m)) here

module _ (names : Site → List Text) (log : List W.Loc) where
  pub record IsTask (task : Task) (meant : W.Task) : Type 0 where
    pub run : meant.run ≡ seen_function names task.run
    pub tracked : Same_locations task.tracks.items meant.tracked
    pub began : meant.began ≤ length log
    pub due : is_due log meant ≡ task.due

  abbrev pub IsHook : Hook → W.Hook → Type 0
  IsHook (Hook.Value v) (W.Kept w) = w ≡ seen names v
  IsHook (Hook.Provider id v) (W.Provided other w) = (other ≡ id) × (w ≡ seen names v)
  IsHook (Hook.Task task) (W.Tasked meant) = IsTask task meant
  IsHook _ _ = ⊥

  abbrev pub AreHooks : List Hook → List W.Hook → Type 0
  AreHooks [] [] = Unit {0}
  AreHooks (h ∷ hooks) (m ∷ meant) = IsHook h m × AreHooks hooks meant
  AreHooks _ _ = ⊥

  pub record IsInstance (instance : Instance) (meant : W.Instance) : Type 0 where
    pub path : meant.path ≡ path_of instance.path
    pub component : meant.component ≡ Lifted_component instance.symbol
    pub props : meant.props ≡ instance.props.0
    pub hooks : AreHooks instance.hooks.items meant.hooks
    pub view : meant.view ≡ seen names instance.view
    pub reads : Same_locations instance.reads.items (map (λ r. r.loc) meant.reads)

  abbrev pub AreInstances : List Instance → List W.Instance → Type 0
  AreInstances [] [] = Unit {0}
  AreInstances (i ∷ instances) (m ∷ meant) = IsInstance i m × AreInstances instances meant
  AreInstances _ _ = ⊥
