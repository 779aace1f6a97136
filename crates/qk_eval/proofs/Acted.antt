-- What an act is as a run.
use Rattle.std.proofs.Common.{◌≡◌, ◌∙◌, ◌++◌, ℕ, List, [], None, Result, Ok, Err, Bool, refl, ap, sym, subst, arith}
use Rattle.qk_ast.specs.declared.Form.{Form}
use Rattle.qk_meaning.specs.World.{Loc}
use Rattle.qk_meaning.specs.Program.{Program, captures_in}
use Rattle.qk_meaning.specs.Doing.{Outcome, Doing}
use Rattle.qk_meaning.specs.Running.{Running}
use Rattle.qk_meaning.specs.Setting.{Setting, captures}
use Rattle.qk_meaning.specs.Making.{made_function}
use Rattle.qk_value.specs.declared.value.Addr.{Addr}
use Rattle.qk_value.specs.declared.value.Value.{Value}
use Rattle.qk_environment.specs.declared.scope.Named.{Named}
use Rattle.qk_environment.specs.Scoping.{scope_seen}
use Rattle.qk_heap.specs.Told.{Told}
use Rattle.qk_heap.specs.declared.object.Object.{Object}
use Rattle.qk_heap.specs.Seen.{heap_seen}
use Rattle.qk_code.specs.declared.func.Func.{Func}
use Rattle.qk_code.specs.declared.mode.Mode.{Mode}
use Rattle.qk_code.specs.declared.stop.Stop.{Stop}
use Rattle.qk_code.specs.declared.stop.Stop.TheVariants.{Fault, Ended, Code, Memory}
use Rattle.qk_code.specs.Asked.{Goes_on}
use Rattle.qk_code.specs.declared.ask.Ask.{Ask}
use Rattle.qk_code.specs.declared.stop.CodeFault.TheVariants as C
use Rattle.qk_code.specs.Counts.{Counts, HasCause, in_vain}
use Rattle.qk_code.specs.Sources.{reading}
use Rattle.qk_code.specs.World.{World, Past, state, heard_in}
use Rattle.qk_code.specs.Ran.{Agrees, Unless_memory, Ran}
use Rattle.qk_code.specs.Standing.{Knows}
use Rattle.qk_code.proofs.Runs.{ran_telling, ran_quiet, extends_self, later_self, spent_self, goes_none, unless_memory}
use Rattle.qk_making.specs.Acting.{Comes_to, Leaves, Acts, ActsIn, MakesIn, seen_in}
use Rattle.qk_making.proofs.Acting.{comes_cause, acts_made}
use Rattle.qk_eval.specs.Placing.{setting_so}
use Rattle.qk_eval.specs.Seeing.{value_seen}

agrees_so : {A B : Type 0} (seen : A → B) (asks : List Ask) (outcome : Outcome Running B) (r : Result A Stop) (s : Running) → Comes_to seen outcome r s → Agrees seen asks outcome r s
agrees_so seen asks outcome (Ok a) s h = h
agrees_so seen asks outcome (Err (Fault f)) s h = record { locals = s.locals; hooking = s.hooking; is = h }
agrees_so seen asks outcome (Err Ended) s h = absurd h
agrees_so seen asks outcome (Err (Code why)) s h = absurd h
agrees_so seen asks outcome (Err Memory) s h = tt

-- an act asks for nothing in vain
none_in_vain : {A B : Type 0} (seen : A → B) (outcome : Outcome Running B) (counts : Counts) (r : Result A Stop) (s : Running) → Comes_to seen outcome r s → in_vain r counts ≡ []
none_in_vain seen outcome counts (Ok a) s h = refl
none_in_vain seen outcome counts (Err (Fault f)) s h = refl
none_in_vain seen outcome counts (Err Ended) s h = refl
none_in_vain seen outcome counts (Err (Code why)) s h = absurd h
none_in_vain seen outcome counts (Err Memory) s h = refl

abbrev none_counted : Counts
none_counted = record { faults = 0; refusals = 0; last = None }

-- what has a cause where no count rises asked for nothing in vain
never_in_vain : {A : Type 0} (counts : Counts) (r : Result A Stop) → ((counts : Counts) → HasCause counts counts r) → in_vain r counts ≡ []
never_in_vain counts (Ok a) h = refl
never_in_vain counts (Err (Fault f)) h = refl
never_in_vain counts (Err Ended) h = refl
never_in_vain counts (Err (Code (C.Missing file))) h = absurd (omega (arith, (h none_counted).because.rose))
never_in_vain counts (Err (Code (C.Bad file))) h = absurd (omega (arith, (h none_counted).because.rose))
never_in_vain counts (Err (Code C.Store)) h = absurd (omega (arith, (h none_counted).because.rose))
never_in_vain counts (Err (Code C.Memory)) h = absurd (h none_counted)
never_in_vain counts (Err Memory) h = refl

nothing_yet : Past
nothing_yet = record { log = []; lines = []; trace = []; kept = []; rest = [] }

module _ (form : Form) (hooked : Bool) (given : Program → Type 0) where
  -- an act in each program
  pub ran_acts : {A B : Type 0} (seen : Program → A → B) (meaning : Program → Doing Running B) (objects objects' : List Object) (w : World) (told : List Told → Type 0) (r : Result A Stop)
      → ((p : Program) → w.heap p ≡ heap_seen (captures_in p) objects)
      → ((p : Program) → Acts (seen p) (meaning p) (heap_seen (captures_in p) objects) w.told r (heap_seen (captures_in p) objects') told)
      → Ran form hooked given seen meaning w r (record w { heap = λ p. heap_seen (captures_in p) objects'; told = told })
  ran_acts {A} {B} seen meaning objects objects' w told r heap h =
      let v : World = record w { heap = λ p. heap_seen (captures_in p) objects'; told = told } in
      let p0 : Program = reading form w.sources in
      let none : in_vain r w.counts ≡ [] = none_in_vain (seen p0) _ w.counts r _ ((h p0).agrees (state hooked p0 nothing_yet w) (heap p0)) in
      ran_telling form hooked given seen meaning w v r (λ p log. (h p).happened log) (extends_self _) (later_self _)
      (comes_cause (seen p0) _ w.counts r _ ((h p0).agrees (state hooked p0 nothing_yet w) (heap p0))) (spent_self _)
      (λ p log. (h p).unanswered log) (heard r h) (unless_memory r (λ p log. subst (Goes_on w.asked w.asked) (sym (ap (λ l. l ++ in_vain r w.counts) ((h p).unasked log) ∙ none)) (goes_none _)))
      (λ files more g past. let p : Program = reading form files in agrees_so (seen p) _ _ r _ ((h p).agrees (state hooked p past w) (heap p)))
    where
      heard : (r : Result A Stop) (h : (p : Program) → Acts (seen p) (meaning p) (heap_seen (captures_in p) objects) w.told r (heap_seen (captures_in p) objects') told)
          → Unless_memory r ((p : Program) (log : List Loc) → Goes_on w.told told (heard_in ((h p).happened log)))
      heard (Ok a) h = λ p log. (h p).heard log
      heard (Err (Fault f)) h = λ p log. (h p).heard log
      heard (Err Ended) h = λ p log. (h p).heard log
      heard (Err (Code why)) h = λ p log. (h p).heard log
      heard (Err Memory) h = tt

  module _ (func : Func) (mode : Mode) (running : List Addr) (levels : ℕ) where
    abbrev set : Program → Setting
    set p = setting_so func mode running levels p

    -- one that is the same in whatever setting of the mode
    pub ran_acted : {A B : Type 0} (seen : Setting → A → B) (meaning : Setting → Doing Running B) (objects objects' : List Object) (w : World) (told : List Told → Type 0) (r : Result A Stop)
        → ((p : Program) → w.heap p ≡ heap_seen (captures_in p) objects) → ActsIn mode seen meaning objects w.told r objects' told
        → Ran form hooked given (λ p. seen (set p)) (λ p. meaning (set p)) w r (record w { heap = λ p. heap_seen (captures_in p) objects'; told = told })
    ran_acted seen meaning objects objects' w told r heap h = ran_acts (λ p. seen (set p)) (λ p. meaning (set p)) objects objects' w told r heap (λ p. h (set p) refl)

    pub ran_made : {A B : Type 0} (seen : Setting → A → B) (meaning : Setting → Doing Running B) (objects objects' : List Object) (w : World) (r : Result A Stop)
        → ((p : Program) → w.heap p ≡ heap_seen (captures_in p) objects) → MakesIn mode seen meaning objects r objects'
        → Ran form hooked given (λ p. seen (set p)) (λ p. meaning (set p)) w r (record w { heap = λ p. heap_seen (captures_in p) objects' })
    ran_made seen meaning objects objects' w r heap h = ran_acts (λ p. seen (set p)) (λ p. meaning (set p)) objects objects' w w.told r heap (λ p. acts_made _ _ _ _ w.told r (h (set p) refl))

    -- one that leaves everything as it is
    pub ran_left : {A B : Type 0} (seen : Setting → A → B) (meaning : Setting → Doing Running B) (w : World) (r : Result A Stop) → ((here : Setting) → Leaves (seen here) (meaning here) r) → Ran form hooked given (λ p. seen (set p)) (λ p. meaning (set p)) w r w
    ran_left seen meaning w r h =
        let p0 : Program = reading form w.sources in
        let none : in_vain r w.counts ≡ [] = none_in_vain (seen (set p0)) _ w.counts r _ (h (set p0) (state hooked p0 nothing_yet w)) in
        ran_quiet form hooked given (λ p. seen (set p)) (λ p. meaning (set p)) w w r (extends_self _) (later_self _) (comes_cause (seen (set p0)) _ w.counts r _ (h (set p0) (state hooked p0 nothing_yet w))) (spent_self _) (unless_memory r (goes_none _)) (unless_memory r (subst (Goes_on w.asked w.asked) (sym none) (goes_none _)))
        (λ files more g past. let p : Program = reading form files in agrees_so (seen (set p)) _ _ r _ (h (set p) (state hooked p past w)))

-- ---- functions

module _ (form : Form) (hooked : Bool) (func : Func) (mode : Mode) (running : List Addr) (levels : ℕ) where
  abbrev its_setting : Program → Setting
  its_setting p = setting_so func mode running levels p

  -- a function is made where the file of the arrow is known, and the names in scope stand for these
  pub ran_function : (w : World) (names : List Named) (place : ℕ) (r : Result Value Stop) → ((counts : Counts) → HasCause counts counts r) → ((p : Program) → w.scope p ≡ scope_seen (captures_in p) names)
      → ((here : Setting) (s : Running) → Knows here.program func → here.file ≡ func.file → s.locals ≡ scope_seen (captures here) names → Comes_to (seen_in here) (made_function here place s) r s)
      → Ran form hooked (λ p. Knows p func) value_seen (λ p. made_function (its_setting p) place) w r w
  ran_function w names place r cause scope h =
      ran_quiet form hooked (λ p. Knows p func) value_seen (λ p. made_function (its_setting p) place) w w r (extends_self _) (later_self _) (cause w.counts) (spent_self _) (unless_memory r (goes_none _)) (unless_memory r (subst (Goes_on w.asked w.asked) (sym (never_in_vain w.counts r cause)) (goes_none _)))
      (λ files more knows past. let p : Program = reading form files in agrees_so (value_seen p) _ _ r _ (h (its_setting p) (state hooked p past w) knows refl (scope p)))
