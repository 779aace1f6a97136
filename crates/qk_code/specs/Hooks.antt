-- Hook calls as the meaning has them, and what a host does where it answers one.
use Rattle.std.specs.Prelude.{◌≡◌, false, List, [], ◌∷◌, ◌++◌, map, Result, Ok, Err}
use Rattle.qk_meaning.specs.Value.{Text, Site}
use Rattle.qk_meaning.specs.Parts.{nth}
use Rattle.qk_meaning.specs.Happening as H
use Rattle.qk_meaning.specs.Hooks.{is_list_or_record}
use Rattle.qk_value.specs.declared.value.Value.{Value}
use Rattle.qk_value.specs.declared.fault.Fault.{Fault}
use Rattle.qk_value.specs.Faults.{fault_of}
use Rattle.qk_value.specs.View.{seen, seen_function}
use Rattle.qk_heap.specs.declared.fault.HeapStop.{HeapStop}
use Rattle.qk_heap.specs.declared.object.Object.{Object}
use Rattle.qk_heap.specs.Told.{Told, Besides}
use Rattle.qk_heap.specs.Seen.{object_seen}
use Rattle.qk_code.specs.declared.host.HookKind.{HookKind}
use Rattle.qk_code.specs.declared.host.HookAnswer.{HookAnswer}
use Rattle.qk_code.specs.Asked.{Goes_on}

abbrev pub kind_seen : HookKind → H.Hook_kind
kind_seen HookKind.Signal = H.Signal_hook
kind_seen HookKind.Store = H.Store_hook
kind_seen HookKind.Computed = H.Computed_hook
kind_seen HookKind.Task = H.Task_hook
kind_seen HookKind.Provider = H.Provider_hook
kind_seen HookKind.Context = H.Context_hook

module _ (names : Site → List Text) where
  abbrev pub answer_seen : HookAnswer → H.Hook_answer
  answer_seen (HookAnswer.Value v) = H.Gives_value (seen names v)
  answer_seen (HookAnswer.RunTask f) = H.Runs_task (seen_function names f)
  answer_seen HookAnswer.Nothing = H.Gives_nothing

  -- what is told of an answer, or of a fault: the call, its arguments, and the answer with the objects that were made for it
  abbrev pub hook_told : HookKind → List Value → List Object → Result HookAnswer HeapStop → List Told
  hook_told kind arguments made (Ok a) = Besides (H.Hooked (kind_seen kind) (map (seen names) arguments) (record { answer = answer_seen a; made = map (object_seen names) made })) ∷ []
  hook_told kind arguments made (Err (HeapStop.Fault f)) = Besides (H.Hooked (kind_seen kind) (map (seen names) arguments) (record { answer = H.Refuses (fault_of f); made = map (object_seen names) made })) ∷ []
  hook_told kind arguments made (Err HeapStop.Memory) = []

-- a hook call is refused only where a store is made of no list or record, or where no context is provided
abbrev pub RefusesOnly : HookKind → List Value → Fault → Type 0
RefusesOnly HookKind.Store arguments f = (f ≡ Fault.TypeMismatch) × ((names : Site → List Text) → is_list_or_record (nth (map (seen names) arguments) 0) ≡ false)
RefusesOnly HookKind.Context arguments f = f ≡ Fault.NoContext
RefusesOnly _ arguments f = ⊥

-- objects are made alone, all that stood in the heap stays, and the call is told with its answer
pub record Answers (before after : List Told → Type 0) (kind : HookKind) (arguments : List Value) (heap heap' : List Object) (result : Result HookAnswer HeapStop) : Type 0 where
  pub made : List Object
  pub stays : heap' ≡ heap ++ made
  pub told : (names : Site → List Text) → Goes_on before after (hook_told names kind arguments made result)
