-- What is found at a place, and what a task that has run again leaves.
use Rattle.std.proofs.Common.{◌≡◌, ◌<◌, ◌≤◌, ◌+◌, ℕ, zero, suc, Bool, List, [], ◌∷◌, length, set, get_or, slice_get, Option, Some, None, is_some, Vec, refl, ap, ◌∙◌, sym, subst, arith}
use Rattle.std.proofs.lemmas.Bool.{false≢true}
use Rattle.std.specs.declared.alloc.Global.{Global}
use Rattle.qk_ast.specs.Texts.{Text}
use Rattle.qk_meaning.specs.Value.{Site}
use Rattle.qk_meaning.specs.World as W
use Rattle.qk_meaning.specs.Settling.{put_task, put_hook}
use Rattle.qk_heap.specs.declared.location.Loc.{Loc}
use Rattle.qk_hooks.specs.declared.state.Task.{Task}
use Rattle.qk_hooks.specs.declared.state.Hook.{Hook}
use Rattle.qk_hooks.specs.declared.state.Instance.{Instance}
use Rattle.qk_hooks.specs.Standing.{IsTask, IsHook, AreHooks, IsInstance, AreInstances}
use Rattle.qk_hooks.specs.Ran_again.{task_of, task_among, task_in, hook_ran, hooks_ran, HasRun, HasRunAt, task_meant_of, task_meant_among, task_meant, MayBeTask, Behind_run}

some_is_none : {A : Type 0} {a : A} → ◌≡◌ {A = Option A} (Some a) None → ⊥
some_is_none e = false≢true (sym (ap is_some e))

-- ---- places

pub no_instance : (n h : ℕ) (all : List Instance) → length all ≤ n → task_in n h all ≡ None
no_instance n h [] out = refl
no_instance zero h (i ∷ rest) out = absurd (omega (arith, out))
no_instance (suc n) h (i ∷ rest) out = no_instance n h rest (omega (arith, out))

pub at_instance : (n h : ℕ) (all : List Instance) (x : Instance) → n < length all → x ≡ get_or all n x → task_in n h all ≡ task_among h x.hooks.items
at_instance n h [] x l is = absurd (omega (arith, l))
at_instance zero h (i ∷ rest) x l is = ap (λ k. task_among h k.hooks.items) (sym is)
at_instance (suc n) h (i ∷ rest) x l is = at_instance n h rest x (omega (arith, l)) is

pub no_hook : (h : ℕ) (hooks : List Hook) → length hooks ≤ h → task_among h hooks ≡ None
no_hook h [] out = refl
no_hook zero (k ∷ rest) out = absurd (omega (arith, out))
no_hook (suc h) (k ∷ rest) out = no_hook h rest (omega (arith, out))

pub at_hook : (h : ℕ) (hooks : List Hook) (x : Hook) → h < length hooks → x ≡ get_or hooks h x → task_among h hooks ≡ task_of x
at_hook h [] x l is = absurd (omega (arith, l))
at_hook zero (k ∷ rest) x l is = ap task_of (sym is)
at_hook (suc h) (k ∷ rest) x l is = at_hook h rest x (omega (arith, l)) is

-- ---- what is written there

-- a hook is written at its place
pub written_hook : (h : ℕ) (tracks : Vec Loc Global) (due : Bool) (hooks : List Hook) (x y : Hook) → h < length hooks → x ≡ get_or hooks h x → y ≡ hook_ran tracks due x → set hooks h y ≡ hooks_ran h tracks due hooks
written_hook h tracks due [] x y l is e = absurd (omega (arith, l))
written_hook zero tracks due (k ∷ rest) x y l is e = ap (λ z. z ∷ rest) (e ∙ ap (hook_ran tracks due) is)
written_hook (suc h) tracks due (k ∷ rest) x y l is e = ap (λ z. k ∷ z) (written_hook h tracks due rest x y (omega (arith, l)) is e)

pub no_such_hook : (h : ℕ) (tracks : Vec Loc Global) (due : Bool) (hooks : List Hook) → length hooks ≤ h → hooks ≡ hooks_ran h tracks due hooks
no_such_hook h tracks due [] out = refl
no_such_hook zero tracks due (k ∷ rest) out = absurd (omega (arith, out))
no_such_hook (suc h) tracks due (k ∷ rest) out = ap (λ z. k ∷ z) (no_such_hook h tracks due rest (omega (arith, out)))

-- an instance is written at its place
pub written_instance : (n h : ℕ) (tracks : Vec Loc Global) (due : Bool) (all : List Instance) (x y : Instance) → n < length all → x ≡ get_or all n x → HasRun h tracks due x y → HasRunAt n h tracks due all (set all n y)
written_instance n h tracks due [] x y l is ran = absurd (omega (arith, l))
written_instance zero h tracks due (i ∷ rest) x y l is ran = (subst (λ z. HasRun h tracks due z y) is ran, refl)
written_instance (suc n) h tracks due (i ∷ rest) x y l is ran = (refl, written_instance n h tracks due rest x y (omega (arith, l)) is ran)

pub no_such_instance : (n h : ℕ) (tracks : Vec Loc Global) (due : Bool) (all : List Instance) → length all ≤ n → HasRunAt n h tracks due all all
no_such_instance n h tracks due [] out = refl
no_such_instance zero h tracks due (i ∷ rest) out = absurd (omega (arith, out))
no_such_instance (suc n) h tracks due (i ∷ rest) out = (refl, no_such_instance n h tracks due rest (omega (arith, out)))

-- ---- what it stands for

module _ (names : Site → List Text) (log : List W.Loc) where
  task_may : (k : Hook) (m : W.Hook) → IsHook names log k m → MayBeTask names log (task_of k) (task_meant_of m)
  task_may (Hook.Value v) (W.Kept w) is = tt
  task_may (Hook.Provider id v) (W.Provided other w) is = tt
  task_may (Hook.Task task) (W.Tasked m) is = is
  task_may (Hook.Value v) (W.Provided other w) is = absurd is
  task_may (Hook.Value v) (W.Tasked m) is = absurd is
  task_may (Hook.Provider id v) (W.Kept w) is = absurd is
  task_may (Hook.Provider id v) (W.Tasked m) is = absurd is
  task_may (Hook.Task task) (W.Kept w) is = absurd is
  task_may (Hook.Task task) (W.Provided other w) is = absurd is

  hooks_may : (h : ℕ) (hooks : List Hook) (meant : List W.Hook) → AreHooks names log hooks meant → MayBeTask names log (task_among h hooks) (task_meant_among h meant)
  hooks_may h [] [] are = tt
  hooks_may h [] (m ∷ meant) are = absurd are
  hooks_may h (k ∷ hooks) [] are = absurd are
  hooks_may zero (k ∷ hooks) (m ∷ meant) are = task_may k m are.0
  hooks_may (suc h) (k ∷ hooks) (m ∷ meant) are = hooks_may h hooks meant are.1

  pub all_may : (n h : ℕ) (all : List Instance) (meant : List W.Instance) → AreInstances names log all meant → MayBeTask names log (task_in n h all) (task_meant n h meant)
  all_may n h [] [] are = tt
  all_may n h [] (m ∷ meant) are = absurd are
  all_may n h (i ∷ all) [] are = absurd are
  all_may zero h (i ∷ all) (m ∷ meant) are = hooks_may h i.hooks.items m.hooks are.0.hooks
  all_may (suc n) h (i ∷ all) (m ∷ meant) are = all_may n h all meant are.1

  module _ (tracks : Vec Loc Global) (due : Bool) (before after : W.Task) (behind : Behind_run names log tracks.items due before after) where
    task_so : (task : Task) → IsTask names log task before → IsTask names log (record task { tracks = tracks; due = due }) after
    task_so task is = record { run = behind.run ∙ is.run; tracked = behind.tracked; began = behind.began; due = behind.so }

    hook_so : (k : Hook) (m : W.Hook) → IsHook names log k m → task_meant_of m ≡ Some before → IsHook names log (hook_ran tracks due k) (W.Tasked after)
    hook_so (Hook.Task task) (W.Tasked m) is e = task_so task (subst (λ o. MayBeTask names log (Some task) o) e is)
    hook_so k (W.Kept w) is e = absurd (some_is_none (sym e))
    hook_so k (W.Provided other w) is e = absurd (some_is_none (sym e))
    hook_so (Hook.Value v) (W.Tasked m) is e = absurd is
    hook_so (Hook.Provider id v) (W.Tasked m) is e = absurd is

    hooks_so : (h : ℕ) (hooks : List Hook) (meant : List W.Hook) → AreHooks names log hooks meant → task_meant_among h meant ≡ Some before → AreHooks names log (hooks_ran h tracks due hooks) (put_hook h (W.Tasked after) meant)
    hooks_so h [] [] are e = tt
    hooks_so h [] (m ∷ meant) are e = absurd are
    hooks_so h (k ∷ hooks) [] are e = absurd are
    hooks_so zero (k ∷ hooks) (m ∷ meant) are e = (hook_so k m are.0 e, are.1)
    hooks_so (suc h) (k ∷ hooks) (m ∷ meant) are e = (are.0, hooks_so h hooks meant are.1 e)

    instance_so : (h : ℕ) (i now : Instance) (m : W.Instance) → HasRun h tracks due i now → IsInstance names log i m → task_meant_among h m.hooks ≡ Some before → IsInstance names log now (record m { hooks = put_hook h (W.Tasked after) m.hooks })
    instance_so h i now m ran is e =
        rw ran.is (record {
          path = is.path;
          component = is.component;
          props = is.props;
          hooks = rw ran.ran (hooks_so h i.hooks.items m.hooks is.hooks e);
          view = is.view;
          reads = is.reads;
        })

    pub all_so : (n h : ℕ) (all now : List Instance) (meant : List W.Instance) → HasRunAt n h tracks due all now → AreInstances names log all meant → task_meant n h meant ≡ Some before → AreInstances names log now (put_task n h after meant)
    all_so n h [] now [] ran are e = subst (λ l. AreInstances names log l []) (sym ran) tt
    all_so n h [] now (m ∷ meant) ran are e = absurd are
    all_so n h (i ∷ all) now [] ran are e = absurd are
    all_so n h (i ∷ all) [] (m ∷ meant) ran are e = absurd ran
    all_so zero h (i ∷ all) (j ∷ now) (m ∷ meant) ran are e = (instance_so h i j m ran.0 are.0 e, subst (λ l. AreInstances names log l meant) (sym ran.1) are.1)
    all_so (suc n) h (i ∷ all) (j ∷ now) (m ∷ meant) ran are e = (subst (λ k. IsInstance names log k m) (sym ran.0) are.0, all_so n h all now meant ran.1 are.1 e)
