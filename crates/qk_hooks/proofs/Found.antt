-- What is found among instances is found among those that they stand for.
use Rattle.std.proofs.Common.{◌≡◌, ℕ, suc, Bool, true, false, List, [], ◌∷◌, Option, Some, None, refl, ap, ◌∙◌, sym}
use Rattle.std.specs.Option.{option_map, is_some}
use Rattle.std.proofs.lemmas.Bool.{false≢true}
use Rattle.qk_ast.specs.Texts.{Text, same_text}
use Rattle.qk_meaning.specs.Value as M
use Rattle.qk_meaning.specs.Value.{Site}
use Rattle.qk_meaning.specs.World as W
use Rattle.qk_meaning.specs.Parts.{or_else}
use Rattle.qk_meaning.specs.Places.{is_above}
use Rattle.qk_meaning.specs.Settling.{Spot, is_due, due_hook, due_from}
use Rattle.qk_meaning.specs.Hooks as H
use Rattle.qk_value.specs.declared.value.Value.{Value}
use Rattle.qk_value.specs.View.{seen}
use Rattle.qk_nodes.specs.Tree.{path_of}
use Rattle.qk_hooks.specs.declared.state.Hook.{Hook}
use Rattle.qk_hooks.specs.declared.state.Instance.{Instance}
use Rattle.qk_hooks.specs.declared.due.TaskId.{TaskId}
use Rattle.qk_hooks.specs.Standing.{AreHooks, AreInstances}
use Rattle.qk_hooks.specs.Spots.{spot_at, marked_hook, at_hook, marked_from}
use Rattle.qk_hooks.specs.Providing.{provided, context_of}

none_is_some : (id : TaskId) → ◌≡◌ {A = Option TaskId} None (Some id) → ⊥
none_is_some id e = false≢true (ap is_some e)

module _ (names : Site → List Text) (log : List W.Loc) where
  -- ---- the first due task

  -- a task that is due, or what is found behind it
  found_here : (i h : ℕ) (m : W.Task) (marked due : Bool) (spot : Option Spot) (others : Option ℕ) → due ≡ marked → spot_at spot ≡ at_hook i others None
      → spot_at (elim due [ true ↦ Some (record { instance = i; hook = h; task = m }) | false ↦ spot ]) ≡ at_hook i (elim marked [ true ↦ Some h | false ↦ others ]) None
  found_here i h m true due spot others e f = rw e refl
  found_here i h m false due spot others e f = rw e f

  hook_found : (i h : ℕ) (hooks : List Hook) (meant : List W.Hook) → AreHooks names log hooks meant → spot_at (due_hook log i h meant) ≡ at_hook i (marked_hook h hooks) None
  hook_found i h [] [] are = refl
  hook_found i h (Hook.Value v ∷ hooks) (W.Kept w ∷ meant) are = hook_found i (suc h) hooks meant are.1
  hook_found i h (Hook.Provider id v ∷ hooks) (W.Provided other w ∷ meant) are = hook_found i (suc h) hooks meant are.1
  hook_found i h (Hook.Task task ∷ hooks) (W.Tasked m ∷ meant) are = found_here i h m task.due (is_due log m) (due_hook log i (suc h) meant) (marked_hook (suc h) hooks) are.0.due (hook_found i (suc h) hooks meant are.1)
  hook_found i h [] (m ∷ meant) are = elim are [ ]
  hook_found i h (x ∷ hooks) [] are = elim are [ ]
  hook_found i h (Hook.Value v ∷ hooks) (W.Provided other w ∷ meant) are = absurd are.0
  hook_found i h (Hook.Value v ∷ hooks) (W.Tasked m ∷ meant) are = absurd are.0
  hook_found i h (Hook.Provider id v ∷ hooks) (W.Kept w ∷ meant) are = absurd are.0
  hook_found i h (Hook.Provider id v ∷ hooks) (W.Tasked m ∷ meant) are = absurd are.0
  hook_found i h (Hook.Task task ∷ hooks) (W.Kept w ∷ meant) are = absurd are.0
  hook_found i h (Hook.Task task ∷ hooks) (W.Provided other w ∷ meant) are = absurd are.0

  -- what is found in one instance, or behind it
  found_or : (i : ℕ) (spot others : Option Spot) (marked : Option ℕ) (marked_others : Option TaskId) → spot_at spot ≡ at_hook i marked None → spot_at others ≡ marked_others
      → spot_at (elim spot [ Some s ↦ Some s | None ↦ others ]) ≡ at_hook i marked marked_others
  found_or i (Some s) others (Some h) more e f = e
  found_or i None others None more e f = f
  found_or i None others (Some h) more e f = absurd (none_is_some _ e)
  found_or i (Some s) others None more e f = absurd (none_is_some _ (sym e))

  pub first_found : (i : ℕ) (instances : List Instance) (meant : List W.Instance) → AreInstances names log instances meant → spot_at (due_from log i meant) ≡ marked_from i instances
  first_found i [] [] are = refl
  first_found i [] (m ∷ meant) are = elim are [ ]
  first_found i (x ∷ instances) [] are = elim are [ ]
  first_found i (x ∷ instances) (m ∷ meant) are =
      found_or i (due_hook log i 0 m.hooks) (due_from log (suc i) meant) (marked_hook 0 x.hooks.items) (marked_from (suc i) instances) (hook_found i 0 x.hooks.items m.hooks are.0.hooks) (first_found (suc i) instances meant are.1)

  -- ---- contexts

  abbrev see : Option Value → Option M.Value
  see found = option_map (seen names) found

  see_or : (first other : Option Value) → or_else (see first) (see other) ≡ see (or_else first other)
  see_or (Some v) other = refl
  see_or None other = refl

  see_if : (b : Bool) (one other : Option Value) → elim b [ true ↦ see one | false ↦ see other ] ≡ see (elim b [ true ↦ one | false ↦ other ])
  see_if true one other = refl
  see_if false one other = refl

  provided_found : (id : Text) (hooks : List Hook) (meant : List W.Hook) → AreHooks names log hooks meant → H.provided id meant ≡ see (provided id hooks)
  provided_found id [] [] are = refl
  provided_found id (Hook.Value v ∷ hooks) (W.Kept w ∷ meant) are = provided_found id hooks meant are.1
  provided_found id (Hook.Task task ∷ hooks) (W.Tasked m ∷ meant) are = provided_found id hooks meant are.1
  provided_found id (Hook.Provider other v ∷ hooks) (W.Provided o w ∷ meant) are =
      let rest : H.provided id meant ≡ see (provided id hooks) = provided_found id hooks meant are.1 in
      let chosen : Text → Option M.Value → Option M.Value → Option M.Value = λ o mine others. elim (same_text o id) [ true ↦ or_else others mine | false ↦ others ] in
      ap (λ o. chosen o (Some w) (H.provided id meant)) are.0.0
      ∙ ap (λ x. chosen other (Some x) (H.provided id meant)) are.0.1
      ∙ ap (chosen other (Some (seen names v))) rest
      ∙ ap (λ (x : Option M.Value). elim (same_text other id) [ true ↦ x | false ↦ see (provided id hooks) ]) (see_or (provided id hooks) (Some v))
      ∙ see_if (same_text other id) _ _
  provided_found id [] (m ∷ meant) are = elim are [ ]
  provided_found id (h ∷ hooks) [] are = elim are [ ]
  provided_found id (Hook.Value v ∷ hooks) (W.Provided o w ∷ meant) are = absurd are.0
  provided_found id (Hook.Value v ∷ hooks) (W.Tasked m ∷ meant) are = absurd are.0
  provided_found id (Hook.Provider other v ∷ hooks) (W.Kept w ∷ meant) are = absurd are.0
  provided_found id (Hook.Provider other v ∷ hooks) (W.Tasked m ∷ meant) are = absurd are.0
  provided_found id (Hook.Task task ∷ hooks) (W.Kept w ∷ meant) are = absurd are.0
  provided_found id (Hook.Task task ∷ hooks) (W.Provided o w ∷ meant) are = absurd are.0

  pub context_found : (id : Text) (path : List W.Step) (instances : List Instance) (meant : List W.Instance) → AreInstances names log instances meant → H.context id path meant ≡ see (context_of id path instances)
  context_found id path [] [] are = refl
  context_found id path [] (m ∷ meant) are = elim are [ ]
  context_found id path (x ∷ instances) [] are = elim are [ ]
  context_found id path (x ∷ instances) (m ∷ meant) are =
      let rest : H.context id path meant ≡ see (context_of id path instances) = context_found id path instances meant are.1 in
      let own : H.provided id m.hooks ≡ see (provided id x.hooks.items) = provided_found id x.hooks.items m.hooks are.0.hooks in
      let stands : m.path ≡ path_of x.path = are.0.path in
      let chosen : List W.Step → Option M.Value → Option M.Value → Option M.Value = λ at mine others. elim (is_above at path) [ true ↦ or_else others mine | false ↦ others ] in
      ap (λ at. chosen at (H.provided id m.hooks) (H.context id path meant)) stands
      ∙ ap (λ v. chosen (path_of x.path) v (H.context id path meant)) own
      ∙ ap (chosen (path_of x.path) (see (provided id x.hooks.items))) rest
      ∙ ap (λ (v : Option M.Value). elim (is_above (path_of x.path) path) [ true ↦ v | false ↦ see (context_of id path instances) ]) (see_or (context_of id path instances) (provided id x.hooks.items))
      ∙ see_if (is_above (path_of x.path) path) _ _
