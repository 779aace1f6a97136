-- Hook calls, the parts that are told of apart, and calls with the wrong number of arguments.
use Rattle.std.proofs.Common.{◌≡◌, ℕ, suc, List, [], ◌∷◌, ◌++◌, drop, length, map, Bool, true, false, Result, Ok, Err, refl, ap, ◌∙◌, sym, subst}
use Rattle.std.proofs.lemmas.Bool.{false≢true}
use Rattle.qk_ast.specs.declared.Form.{Form}
use Rattle.qk_meaning.specs.Value as M
use Rattle.qk_meaning.specs.World.{Hook, Tasked}
use Rattle.qk_meaning.specs.Program.{Program, captures_in}
use Rattle.qk_meaning.specs.Operators.{is_function}
use Rattle.qk_meaning.specs.Fault as Faulting
use Rattle.qk_meaning.specs.Doing.{Outcome, Gives, Stops, Faults, Doing, after, give, ◌>>◌, ◌>>=◌}
use Rattle.qk_meaning.specs.Happening as H
use Rattle.qk_meaning.specs.Happening.{Happening, Answered}
use Rattle.qk_meaning.specs.Running as R
use Rattle.qk_meaning.specs.Running.{Running, noted, answered, unhooked, as_part}
use Rattle.qk_meaning.specs.Trace.{tracked_reads}
use Rattle.qk_meaning.specs.Setting.{Setting, Entering, called_anew}
use Rattle.qk_meaning.specs.Hooks.{one_more, task_run, given_so, answered_hook, hook_called}
use Rattle.qk_meaning.specs.Calls.{The_tracker, The_dollar, The_mark, call, tracked, marked}
use Rattle.qk_meaning.specs.Evaluation.{entering, entered_with}
use Rattle.qk_meaning.proofs.Running_laws as L
use Rattle.qk_meaning.proofs.Growth.{Adding, laws, hooking_laws}
use Rattle.qk_value.specs.declared.fault.Fault.TheVariants.{NotCallable, TypeMismatch}
use Rattle.qk_value.specs.declared.value.Value.{Value, Fun as Function}
use Rattle.qk_value.specs.declared.value.Fun.{Fun}
use Rattle.qk_value.specs.declared.value.Addr.{Addr}
use Rattle.qk_value.proofs.Viewing.{seen-Fun}
use Rattle.qk_heap.specs.declared.fault.HeapStop.{HeapStop}
use Rattle.qk_heap.specs.declared.object.Object.{Object}
use Rattle.qk_heap.specs.Told.{Told, Besides}
use Rattle.qk_heap.specs.Seen.{object_seen, heap_seen}
use Rattle.qk_code.specs.declared.func.Func.{Func}
use Rattle.qk_code.specs.declared.host.HookKind.{HookKind}
use Rattle.qk_code.specs.declared.host.HookAnswer.{HookAnswer}
use Rattle.qk_code.specs.declared.mode.Mode.{Mode}
use Rattle.qk_code.specs.declared.stop.Stop.{Stop}
use Rattle.qk_code.specs.declared.stop.Stop.TheVariants.{Fault}
use Rattle.qk_code.specs.Stops.{stop_of}
use Rattle.qk_code.specs.Modes.{mode_seen}
use Rattle.qk_code.specs.Hooks.{kind_seen, answer_seen, Answers}
use Rattle.qk_code.specs.Asked.{Goes_on}
use Rattle.qk_code.specs.World.{World, Past, hooking_so, state}
use Rattle.qk_code.specs.Ran.{Ran}
use Rattle.qk_code.proofs.Runs.{ran_then, ran_err, ran_same, ran_known, ran_gives, ran_faults, ran_memory, ran_unhooked, extends_self, spent_self}
use Rattle.qk_code.proofs.Hooked.{ran_hooked, ran_hook_refused}
use Rattle.qk_eval.specs.Placing.{setting_so, addresses}
use Rattle.qk_eval.specs.Seeing.{value_seen, values_seen, nothing}
use Rattle.qk_eval.proofs.Growing.{gives, bind}
use Rattle.qk_eval.proofs.Steps.{ran_said}

-- ---- the meaning

-- where whoever calls answers hook calls, or they are given nothing, a hook that is made is not kept
unkept : (hooked : Bool) (rest : List Answered) (hook : Hook) → one_more hook (hooking_so hooked rest) ≡ hooking_so hooked rest
unkept true rest hook = refl
unkept false rest hook = refl

module _ (here : Setting) (f : M.Value) (hooked : Bool) (p : Program) (past : Past) (w : World) where
  abbrev s : Running
  s = state hooked p past w

  abbrev begun : List Happening
  begun = past.trace ++ (H.Began H.The_task ∷ [])

  -- what a task's function gives, and what is kept of it, are let go, whatever it comes to
  let_go : (o : Outcome Running M.Value) → after (unhooked (as_part H.The_task (λ t. o)) s) (λ x. give M.Undefined) ≡ task_run (record here { enter = λ mode under_way g arguments t. o }) f s
  let_go (Gives a u) =
      ap (λ h. Gives M.Undefined (record u { trace = u.trace ++ (H.Left H.The_task ∷ []); hooking = h }))
      (sym (unkept hooked past.rest (Tasked (record { run = f; tracked = tracked_reads (drop (length begun) u.trace); began = length past.log }))))
  let_go (Stops why u) = refl

  -- it runs as its part, where no hooks are answered
  task_is : after (unhooked (as_part H.The_task (here.enter R.Effect here.running f [])) s) (λ x. give M.Undefined) ≡ task_run here f s
  task_is = let_go (here.enter R.Effect here.running f [] (record s { trace = begun; hooking = R.Outside }))

-- what is no function is not entered
unentered : (p : Program) (enter : Entering) (mode : R.Mode) (running : List ℕ) (x : M.Value) (arguments : List M.Value) (s : Running) → is_function x ≡ false
    → entered_with p called_anew enter mode running x arguments s ≡ Stops (Faults Faulting.NotCallable) s
unentered p enter mode running M.Undefined arguments s not = refl
unentered p enter mode running M.Null arguments s not = refl
unentered p enter mode running (M.Truth b) arguments s not = refl
unentered p enter mode running (M.Int n) arguments s not = refl
unentered p enter mode running (M.Words t) arguments s not = refl
unentered p enter mode running (M.Ref a) arguments s not = refl
unentered p enter mode running (M.Items all) arguments s not = refl
unentered p enter mode running (M.Record fields) arguments s not = refl
unentered p enter mode running (M.Elem shown key slot fields children) arguments s not = refl
unentered p enter mode running (M.Closure site scope hidden) arguments s not = absurd (false≢true (sym not))
unentered p enter mode running (M.Lifted symbol captured hidden) arguments s not = absurd (false≢true (sym not))

-- what takes one value takes no other number of them
module _ (here : Setting) (p : Program) (s : Running) where
  untracked : (vs : List Value) → ((v : Value) → vs ≡ v ∷ [] → ⊥) → call here The_tracker (values_seen p vs) s ≡ Stops (Faults Faulting.TypeMismatch) s
  untracked [] not = refl
  untracked (v ∷ []) not = absurd (not v refl)
  untracked (v ∷ (w ∷ rest)) not = refl

  undollared : (vs : List Value) → ((v : Value) → vs ≡ v ∷ [] → ⊥) → call here The_dollar (values_seen p vs) s ≡ Stops (Faults Faulting.TypeMismatch) s
  undollared [] not = refl
  undollared (v ∷ []) not = absurd (not v refl)
  undollared (v ∷ (w ∷ rest)) not = refl

  unmarked : (vs : List Value) → ((v : Value) → vs ≡ v ∷ [] → ⊥) → call here The_mark (values_seen p vs) s ≡ Stops (Faults Faulting.TypeMismatch) s
  unmarked [] not = refl
  unmarked (v ∷ []) not = absurd (not v refl)
  unmarked (v ∷ (w ∷ rest)) not = refl

-- that a part is left is told, and nothing is logged or printed by that
leaving_adds : (part : H.Part) → Adding (Unit {0}) (noted (H.Left part)) (noted (H.Left part))
leaving_adds H.The_task = hooking_laws.leaves_task
leaving_adds H.The_track = L.notes Adding (laws (λ site. [])) (H.Left H.The_track) refl

module _ (form : Form) (hooked : Bool) (given : Program → Type 0) where
  -- ---- parts

  module _ (part : H.Part) (inner : Program → Doing Running M.Value) (w v : World) (told : List Told → Type 0) (begins : Goes_on w.told told (Besides (H.Began part) ∷ [])) where
    from_begin : (u : World) (r : Result Value Stop) → Ran form hooked given value_seen (λ p. ◌>>=◌ (inner p) (λ x. ◌>>◌ (noted (H.Left part)) (give x))) (record w { told = told }) r u
        → Ran form hooked given value_seen (λ p. as_part part (inner p)) w r u
    from_begin u r h =
        ran_then form hooked given nothing value_seen (λ p. noted (H.Began part)) (λ p y. ◌>>=◌ (inner p) (λ x. ◌>>◌ (noted (H.Left part)) (give x))) w (record w { told = told }) u tt r
        (ran_said form hooked given (λ p. H.Began part) w told (λ p. begins) (λ p. refl) (λ p. refl) (λ p. refl) (λ p. refl)) h

    pub ran_part : (x : Value) (told' : List Told → Type 0) → Goes_on v.told told' (Besides (H.Left part) ∷ []) → Ran form hooked given value_seen inner (record w { told = told }) (Ok x) v
        → Ran form hooked given value_seen (λ p. as_part part (inner p)) w (Ok x) (record v { told = told' })
    ran_part x told' ends h =
        from_begin (record v { told = told' }) (Ok x)
        (ran_then form hooked given value_seen value_seen inner (λ p x. ◌>>◌ (noted (H.Left part)) (give x)) (record w { told = told }) v (record v { told = told' }) x (Ok x) h
        (ran_then form hooked given nothing value_seen (λ p. noted (H.Left part)) (λ p u. give (value_seen p x)) v (record v { told = told' }) (record v { told = told' }) tt (Ok x)
        (ran_said form hooked given (λ p. H.Left part) v told' (λ p. ends) (λ p. refl) (λ p. refl) (λ p. refl) (λ p. refl))
        (ran_gives form hooked given value_seen (λ p. give (value_seen p x)) (record v { told = told' }) x (λ p g past. refl))))

    pub ran_part_err : (r : Result Value Stop) (why : Stop) → r ≡ Err why → Ran form hooked given value_seen inner (record w { told = told }) (Err why) v → Ran form hooked given value_seen (λ p. as_part part (inner p)) w r v
    ran_part_err r why is h =
        from_begin v r
        (ran_err form hooked given value_seen value_seen inner (λ p x. ◌>>◌ (noted (H.Left part)) (give x)) (record w { told = told }) v r why is
        (λ p x. bind {A = Unit {0}} (noted (H.Left part)) (λ u. give x) (leaving_adds part) (λ u. gives x)) h)

module _ (form : Form) (hooked : Bool) (given : Program → Type 0) (func : Func) (mode : Mode) (running : List Addr) (levels : ℕ) where
  abbrev set : Program → Setting
  set p = setting_so func mode running levels p

  -- ---- the arrow of `track`

  module _ (w v : World) (told : List Told → Type 0) (f : Value) (begins : Goes_on w.told told (Besides (H.Began H.The_track) ∷ [])) where
    abbrev track_inner : Program → Doing Running M.Value
    track_inner p = entering p called_anew levels R.Track (addresses running) (value_seen p f) []

    pub ran_tracked : (x : Value) (told' : List Told → Type 0) → Goes_on v.told told' (Besides (H.Left H.The_track) ∷ []) → Ran form hooked given value_seen track_inner (record w { told = told }) (Ok x) v
        → Ran form hooked given value_seen (λ p. tracked (set p) (value_seen p f)) w (Ok x) (record v { told = told' })
    ran_tracked x told' ends h = ran_part form hooked given H.The_track track_inner w v told begins x told' ends h

    pub ran_tracked_err : (r : Result Value Stop) (why : Stop) → r ≡ Err why → Ran form hooked given value_seen track_inner (record w { told = told }) (Err why) v
        → Ran form hooked given value_seen (λ p. tracked (set p) (value_seen p f)) w r v
    ran_tracked_err r why is h = ran_part_err form hooked given H.The_track track_inner w v told begins r why is h

  -- ---- the function of a task

  module _ (w v : World) (told : List Told → Type 0) (f : Fun) (none : List Value) (empty : none ≡ []) (begins : Goes_on w.told told (Besides (H.Began H.The_task) ∷ [])) where
    abbrev task_inner : Program → Doing Running M.Value
    task_inner p = entering p called_anew levels R.Effect (addresses running) (value_seen p (Function f)) []

    from_part : (u : World) (r : Result Value Stop) → Ran form hooked given value_seen (λ p s. after (unhooked (as_part H.The_task (task_inner p)) s) (λ x. give M.Undefined)) w r u
        → Ran form hooked given value_seen (λ p. task_run (set p) (value_seen p (Function f))) w r u
    from_part u r = ran_same form hooked given value_seen _ _ w u r (λ p g past. task_is (set p) (value_seen p (Function f)) hooked p past w)

    unhooked_part : (u : World) (r : Result Value Stop) → Ran form false (λ p. Unit {0}) value_seen (λ p. as_part H.The_task (task_inner p)) w r u → Ran form hooked given value_seen (λ p. unhooked (as_part H.The_task (task_inner p))) w r u
    unhooked_part u r h =
        ran_known form hooked given (λ p. Unit {0}) value_seen _ w u r (λ files more g. tt) (ran_unhooked form hooked (λ p. Unit {0}) value_seen (λ p. as_part H.The_task (task_inner p)) w u r h)

    pub ran_task : (x : Value) (told' : List Told → Type 0) → Goes_on v.told told' (Besides (H.Left H.The_task) ∷ [])
        → Ran form false (λ p. Unit {0}) value_seen (λ p. entering p called_anew levels R.Effect (addresses running) (value_seen p (Function f)) (values_seen p none)) (record w { told = told }) (Ok x) v
        → Ran form hooked given value_seen (λ p. task_run (set p) (value_seen p (Function f))) w (Ok Value.Undefined) (record v { told = told' })
    ran_task x told' ends h =
        from_part (record v { told = told' }) (Ok Value.Undefined)
        (ran_then form hooked given value_seen value_seen (λ p. unhooked (as_part H.The_task (task_inner p))) (λ p x. give M.Undefined) w (record v { told = told' }) (record v { told = told' }) x (Ok Value.Undefined)
        (unhooked_part (record v { told = told' }) (Ok x) (ran_part form false (λ p. Unit {0}) H.The_task task_inner w v told begins x told' ends (rw empty at h)))
        (ran_gives form hooked given value_seen (λ p. give M.Undefined) (record v { told = told' }) Value.Undefined (λ p g past. refl)))

    pub ran_task_err : (r : Result Value Stop) (why : Stop) → r ≡ Err why
        → Ran form false (λ p. Unit {0}) value_seen (λ p. entering p called_anew levels R.Effect (addresses running) (value_seen p (Function f)) (values_seen p none)) (record w { told = told }) (Err why) v
        → Ran form hooked given value_seen (λ p. task_run (set p) (value_seen p (Function f))) w r v
    ran_task_err r why is h =
        from_part v r
        (ran_err form hooked given value_seen value_seen (λ p. unhooked (as_part H.The_task (task_inner p))) (λ p x. give M.Undefined) w v r why is (λ p x. gives M.Undefined)
        (unhooked_part v (Err why) (ran_part_err form false (λ p. Unit {0}) H.The_task task_inner w v told begins (Err why) why refl (rw empty at h))))

  -- ---- what is no function

  pub ran_unentered : (entered : Mode) (l : ℕ) (w : World) (f : Value) (r : Result Value Stop) → r ≡ Err (Fault NotCallable) → levels ≡ suc l → ((p : Program) → is_function (value_seen p f) ≡ false)
      → Ran form hooked given value_seen (λ p. entering p called_anew levels (mode_seen entered) (addresses running) (value_seen p f) []) w r w
  ran_unentered entered l w f r rs is not =
      rw is (ran_faults form hooked given value_seen _ w r NotCallable rs (λ p g past. unentered p (entering p called_anew l) (mode_seen entered) (addresses running) (value_seen p f) [] (state hooked p past w) (not p)))

  -- ---- calls with another number of arguments than one

  pub ran_untracked : (w : World) (vs : List Value) (r : Result Value Stop) → r ≡ Err (Fault TypeMismatch) → ((v : Value) → vs ≡ v ∷ [] → ⊥) → Ran form hooked given value_seen (λ p. call (set p) The_tracker (values_seen p vs)) w r w
  ran_untracked w vs r rs not = ran_faults form hooked given value_seen _ w r TypeMismatch rs (λ p g past. untracked (set p) p (state hooked p past w) vs not)

  pub ran_undollared : (w : World) (vs : List Value) (r : Result Value Stop) → r ≡ Err (Fault TypeMismatch) → ((v : Value) → vs ≡ v ∷ [] → ⊥) → Ran form hooked given value_seen (λ p. call (set p) The_dollar (values_seen p vs)) w r w
  ran_undollared w vs r rs not = ran_faults form hooked given value_seen _ w r TypeMismatch rs (λ p g past. undollared (set p) p (state hooked p past w) vs not)

  pub ran_unmarked : (w : World) (vs : List Value) (r : Result Value Stop) → r ≡ Err (Fault TypeMismatch) → ((v : Value) → vs ≡ v ∷ [] → ⊥) → Ran form hooked given value_seen (λ p. call (set p) The_mark (values_seen p vs)) w r w
  ran_unmarked w vs r rs not = ran_faults form hooked given value_seen _ w r TypeMismatch rs (λ p g past. unmarked (set p) p (state hooked p past w) vs not)

  -- ---- and with one

  pub ran_call_tracker : (w v : World) (vs : List Value) (f : Value) (r : Result Value Stop) → vs ≡ f ∷ [] → Ran form hooked given value_seen (λ p. tracked (set p) (value_seen p f)) w r v
      → Ran form hooked given value_seen (λ p. call (set p) The_tracker (values_seen p vs)) w r v
  ran_call_tracker w v vs f r is h = rw is h

  pub ran_call_dollar : (w : World) (vs : List Value) (f f' : Value) → vs ≡ f ∷ [] → f' ≡ f → Ran form hooked given value_seen (λ p. call (set p) The_dollar (values_seen p vs)) w (Ok f') w
  ran_call_dollar w vs f f' is same = rw (is, same) (ran_gives form hooked given value_seen _ w f (λ p g past. refl))

  pub ran_call_mark : (w v : World) (vs : List Value) (f : Value) (r : Result Value Stop) → vs ≡ f ∷ [] → Ran form hooked given value_seen (λ p. answered (marked (value_seen p f))) w r v
      → Ran form hooked given value_seen (λ p. call (set p) The_mark (values_seen p vs)) w r v
  ran_call_mark w v vs f r is h = rw is h

  -- ---- hook calls

  pub ran_unanswered : (w : World) (kind : HookKind) (arguments : List Value) → hooked ≡ false → Ran form hooked given value_seen (λ p. hook_called (set p) (kind_seen kind) (values_seen p arguments)) w (Ok Value.Undefined) w
  ran_unanswered w kind arguments is =
      ran_gives form hooked given value_seen _ w Value.Undefined (λ p g past. outside (set p) p past)
    where
      outside : (here : Setting) (p : Program) (past : Past) → hook_called here (kind_seen kind) (values_seen p arguments) (state hooked p past w) ≡ Gives M.Undefined (state hooked p past w)
      outside here p past = rw is refl

-- ---- hook calls that are answered

module _ (form : Form) (hooked : Bool) (given : Program → Type 0) (set : Program → Setting) (w : World) (kind : HookKind) (arguments : List Value) (objects objects' : List Object) (told : List Told → Type 0)
    (calls : hooked ≡ true) (heap : (p : Program) → w.heap p ≡ heap_seen (captures_in p) objects) where
  abbrev answered_so : World
  answered_so = record w { heap = λ p. heap_seen (captures_in p) objects'; told = told }

  grown : (made : List Object) → objects' ≡ objects ++ made → (p : Program) → heap_seen (captures_in p) objects' ≡ w.heap p ++ map (object_seen (captures_in p)) made
  grown made stays p =
      ap (λ all. heap_seen (captures_in p) all) stays ∙ apart (captures_in p) objects ∙ ap (λ h. h ++ map (object_seen (captures_in p)) made) (sym (heap p))
    where
      apart : (captured : _) (objects : List Object) → map (object_seen captured) (objects ++ made) ≡ map (object_seen captured) objects ++ map (object_seen captured) made
      apart captured [] = refl
      apart captured (o ∷ rest) = ap (λ all. object_seen captured o ∷ all) (apart captured rest)

  -- what the answer says is done
  by_answer : (a : HookAnswer) (r : Result Value Stop) (v : World) → Answers w.told told kind arguments objects objects' (Ok a)
      → Ran form hooked given value_seen (λ p. given_so (set p) (answer_seen (captures_in p) a)) answered_so r v → Ran form hooked given value_seen (λ p. hook_called (set p) (kind_seen kind) (values_seen p arguments)) w r v
  by_answer a r v answers h =
      rw calls
      (ran_then form true given (λ p. answer_seen (captures_in p)) value_seen (λ p. answered_hook (kind_seen kind) (values_seen p arguments)) (λ p. given_so (set p)) w answered_so v a r
      (ran_hooked form given kind arguments answers.made w (λ p. heap_seen (captures_in p) objects') told (grown answers.made answers.stays) a answers.told) (rw calls at h))

  pub ran_hook_value : (a : HookAnswer) (v : Value) → a ≡ HookAnswer.Value v → Answers w.told told kind arguments objects objects' (Ok a)
      → Ran form hooked given value_seen (λ p. hook_called (set p) (kind_seen kind) (values_seen p arguments)) w (Ok v) answered_so
  ran_hook_value a v is answers =
      by_answer (HookAnswer.Value v) (Ok v) answered_so (subst (λ x. Answers w.told told kind arguments objects objects' (Ok x)) is answers) (ran_gives form hooked given value_seen _ answered_so v (λ p g past. refl))

  pub ran_hook_nothing : (a : HookAnswer) → a ≡ HookAnswer.Nothing → Answers w.told told kind arguments objects objects' (Ok a)
      → Ran form hooked given value_seen (λ p. hook_called (set p) (kind_seen kind) (values_seen p arguments)) w (Ok Value.Undefined) answered_so
  ran_hook_nothing a is answers =
      by_answer HookAnswer.Nothing (Ok Value.Undefined) answered_so (subst (λ x. Answers w.told told kind arguments objects objects' (Ok x)) is answers) (ran_gives form hooked given value_seen _ answered_so Value.Undefined (λ p g past. refl))

  pub ran_hook_task : (a : HookAnswer) (f : Fun) (r : Result Value Stop) (v : World) → a ≡ HookAnswer.RunTask f → Answers w.told told kind arguments objects objects' (Ok a)
      → Ran form hooked given value_seen (λ p. task_run (set p) (value_seen p (Function f))) answered_so r v → Ran form hooked given value_seen (λ p. hook_called (set p) (kind_seen kind) (values_seen p arguments)) w r v
  ran_hook_task a f r v is answers h =
      by_answer (HookAnswer.RunTask f) r v (subst (λ x. Answers w.told told kind arguments objects objects' (Ok x)) is answers)
      (ran_same form hooked given value_seen _ _ answered_so v r (λ p g past. ap (λ x. task_run (set p) x (state hooked p past answered_so)) (seen-Fun (captures_in p) f)) h)

  -- the host refuses, or memory runs out
  pub ran_hook_err : (r : Result Value Stop) (why : HeapStop) → r ≡ Err (stop_of why) → Answers w.told told kind arguments objects objects' (Err why)
      → Ran form hooked given value_seen (λ p. hook_called (set p) (kind_seen kind) (values_seen p arguments)) w r answered_so
  ran_hook_err r (HeapStop.Fault f) is answers =
      rw calls (ran_hook_refused form given kind arguments answers.made w (λ p. heap_seen (captures_in p) objects') told (grown answers.made answers.stays) value_seen set r f is answers.told)
  ran_hook_err r HeapStop.Memory is answers = ran_memory form hooked given value_seen _ w answered_so r is (extends_self _) refl (spent_self _)
