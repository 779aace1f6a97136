-- How acts are put together.
use Rattle.std.proofs.Common.{◌≡◌, ℕ, false, List, [], ◌∷◌, ◌++◌, length, set, Result, Ok, Err, refl, ap, ◌∙◌, sym, subst}
use Rattle.std.proofs.lemmas.List.{append_assoc, append-nil}
use Rattle.qk_meaning.specs.Value as M
use Rattle.qk_meaning.specs.Value.{Text}
use Rattle.qk_meaning.specs.World as W
use Rattle.qk_meaning.specs.World.{Loc}
use Rattle.qk_meaning.specs.Heap.{object_at}
use Rattle.qk_meaning.specs.Writing.{Becoming, Stays}
use Rattle.qk_meaning.specs.Changes.{changed_in, located}
use Rattle.qk_meaning.specs.Doing.{Outcome, Doing, Gives, Stops, Faults, after, give}
use Rattle.qk_meaning.specs.Happening.{Happening, Did_act, Did_print}
use Rattle.qk_meaning.specs.Readings.{captured_program_of}
use Rattle.qk_meaning.specs.Running as R
use Rattle.qk_meaning.specs.Running.{Running, printed, locations_read, reads_at, logs_told, becomes_so}
use Rattle.qk_meaning.specs.Setting.{Setting, captures}
use Rattle.qk_meaning.specs.References.{changed}
use Rattle.qk_meaning.specs.Trace.{logged_in, printed_in, answers_in}
use Rattle.qk_meaning.proofs.Traces.{logged_then, printed_then, answers_then}
use Rattle.qk_value.specs.declared.fault.Fault.{Fault as Fault'}
use Rattle.qk_value.specs.Faults.{fault_of}
use Rattle.qk_heap.specs.declared.fault.HeapStop.{HeapStop}
use Rattle.qk_heap.specs.declared.object.Object.{Object}
use Rattle.qk_heap.specs.Told.{Told, Was_read, Has_changed, Besides, all_read, all_changed}
use Rattle.qk_heap.specs.Seen.{heap_seen}
use Rattle.qk_heap.specs.Becoming.{HeapBecame, Refuses, AtFault}
use Rattle.qk_code.specs.declared.stop.Stop.{Stop}
use Rattle.qk_code.specs.declared.stop.Stop.TheVariants.{Fault, Ended, Code, Memory}
use Rattle.qk_code.specs.Stops.{stop_of}
use Rattle.qk_code.specs.Asked.{Goes_on, asks_in}
use Rattle.qk_code.specs.Counts.{Counts, HasCause}
use Rattle.qk_code.specs.World.{heard_in}
use Rattle.qk_code.specs.Ran.{Unless_memory}
use Rattle.qk_code.proofs.Runs.{goes_none, goes_all, heard_then, asks_then, unless_memory, unless_both}
use Rattle.qk_making.specs.Acting.{Comes_to, Makes, Acts}

-- ---- states

-- the state with these objects, behind what happened
abbrev behind : Running → List W.Object → List Happening → Running
behind s objects happened = record s { heap = objects; log = s.log ++ logged_in happened; lines = s.lines ++ printed_in happened; trace = s.trace ++ happened }

same_state : (s : Running) {objects objects' : List W.Object} {log log' : List Loc} {lines lines' : List Text} {trace trace' : List Happening} → objects ≡ objects' → log ≡ log' → lines ≡ lines' → trace ≡ trace'
    → let one : Running = record s { heap = objects; log = log; lines = lines; trace = trace } in let other : Running = record s { heap = objects'; log = log'; lines = lines'; trace = trace' } in one ≡ other
same_state s a b c d = rw (a, b, c, d) refl

behind_none : (s : Running) (objects : List W.Object) → record s { heap = objects } ≡ behind s objects []
behind_none s objects = same_state s refl (sym (append-nil s.log)) (sym (append-nil s.lines)) (sym (append-nil s.trace))

behind_nothing : (s : Running) (objects : List W.Object) → s.heap ≡ objects → s ≡ behind s objects []
behind_nothing s objects is = same_state s is (sym (append-nil s.log)) (sym (append-nil s.lines)) (sym (append-nil s.trace))

behind_both : (s : Running) (objects objects' : List W.Object) (one other : List Happening) → behind (behind s objects one) objects' other ≡ behind s objects' (one ++ other)
behind_both s objects objects' one other =
    same_state s refl
    (append_assoc s.log (logged_in one) (logged_in other) ∙ ap (λ l. s.log ++ l) (sym (logged_then one other)))
    (append_assoc s.lines (printed_in one) (printed_in other) ∙ ap (λ l. s.lines ++ l) (sym (printed_then one other)))
    (append_assoc s.trace one other)

-- ---- outcomes

comes_err : {A A' B B' : Type 0} (seen : A → B) (seen' : A' → B') (outcome : Outcome Running B) (next : B → Doing Running B') (e : Stop) (s : Running) → Comes_to seen outcome (Err e) s → Comes_to seen' (after outcome next) (Err e) s
comes_err seen seen' outcome next (Fault f) s h = ap (λ o. after o next) h
comes_err seen seen' outcome next Ended s h = h
comes_err seen seen' outcome next (Code why) s h = h
comes_err seen seen' outcome next Memory s h = tt

-- a setting and a state, for what holds whatever they are
pub some_setting : Setting
some_setting = record { program = captured_program_of []; enter = λ mode running f arguments. give M.Undefined; computed = λ a f. give M.Undefined; mode = R.Pure; running = []; file = []; tracks = false }

pub some_state : Running
some_state = record { heap = []; log = []; lines = []; turns = 0; trace = []; locals = M.end; hooking = R.Outside; kept = [] }

-- an act isn't stopped by the code
pub comes_cause : {A B : Type 0} (seen : A → B) (outcome : Outcome Running B) (counts : Counts) (r : Result A Stop) (s : Running) → Comes_to seen outcome r s → HasCause counts counts r
comes_cause seen outcome counts (Ok a) s h = refl
comes_cause seen outcome counts (Err (Fault f)) s h = refl
comes_cause seen outcome counts (Err Ended) s h = refl
comes_cause seen outcome counts (Err (Code why)) s h = absurd h
comes_cause seen outcome counts (Err Memory) s h = refl

-- the same of another result that is no result
unless_err : (A A' P : Type 0) (e : Stop) → Unless_memory {A = A} (Err e) P → Unless_memory {A = A'} (Err e) P
unless_err A A' P (Fault f) h = h
unless_err A A' P Ended h = h
unless_err A A' P (Code why) h = h
unless_err A A' P Memory h = h

-- ---- what is told

pub heard_reads : (at : ℕ) (all : List Loc) → heard_in (reads_at at all) ≡ all_read all
heard_reads at [] = refl
heard_reads at (x ∷ rest) = ap (λ more. Was_read x ∷ more) (heard_reads at rest)

pub asks_reads : (at : ℕ) (all : List Loc) → asks_in (reads_at at all) ≡ []
asks_reads at [] = refl
asks_reads at (x ∷ rest) = asks_reads at rest

pub logs_reads : (at : ℕ) (all : List Loc) → logged_in (reads_at at all) ≡ []
logs_reads at [] = refl
logs_reads at (x ∷ rest) = logs_reads at rest

pub prints_reads : (at : ℕ) (all : List Loc) → printed_in (reads_at at all) ≡ []
prints_reads at [] = refl
prints_reads at (x ∷ rest) = prints_reads at rest

pub answers_reads : (at : ℕ) (all : List Loc) → answers_in (reads_at at all) ≡ []
answers_reads at [] = refl
answers_reads at (x ∷ rest) = answers_reads at rest

heard_logs : (all : List Loc) → heard_in (logs_told all) ≡ all_changed all
heard_logs [] = refl
heard_logs (x ∷ rest) = ap (λ more. Has_changed x ∷ more) (heard_logs rest)

asks_logs : (all : List Loc) → asks_in (logs_told all) ≡ []
asks_logs [] = refl
asks_logs (x ∷ rest) = asks_logs rest

logs_logs : (all : List Loc) → logged_in (logs_told all) ≡ all
logs_logs [] = refl
logs_logs (x ∷ rest) = ap (λ more. x ∷ more) (logs_logs rest)

prints_logs : (all : List Loc) → printed_in (logs_told all) ≡ []
prints_logs [] = refl
prints_logs (x ∷ rest) = prints_logs rest

answers_logs : (all : List Loc) → answers_in (logs_told all) ≡ []
answers_logs [] = refl
answers_logs (x ∷ rest) = answers_logs rest

-- ---- one thing after another

-- an act that gave a result, and the act of what comes from it
pub acts_then : {A A' B B' : Type 0} (seen : A → B) (seen' : A' → B') (meaning : Doing Running B) (next : B → Doing Running B') (objects between objects' : List W.Object) (told amid told' : List Told → Type 0) (a : A) (r : Result A' Stop)
    → Acts seen meaning objects told (Ok a) between amid → Acts seen' (next (seen a)) between amid r objects' told' → Acts seen' (λ s. after (meaning s) next) objects told r objects' told'
acts_then seen seen' meaning next objects between objects' told amid told' a r h k =
    record {
      happened = λ log. h.happened log ++ k.happened (log ++ logged_in (h.happened log));
      unanswered = λ log. answers_then (h.happened log) _ ∙ (ap (λ xs. xs ++ answers_in (k.happened (log ++ logged_in (h.happened log)))) (h.unanswered log) ∙ k.unanswered _);
      unasked = λ log. asks_then (h.happened log) _ ∙ (ap (λ xs. xs ++ asks_in (k.happened (log ++ logged_in (h.happened log)))) (h.unasked log) ∙ k.unasked _);
      heard = unless_both r (λ later log. subst (Goes_on told told') (sym (heard_then (h.happened log) _)) (goes_all told amid told' _ _ (h.heard log) (later _))) k.heard;
      agrees = λ s is.
          let one : List Happening = h.happened s.log in
          let two : List Happening = k.happened (s.log ++ logged_in one) in
          let h' : meaning s ≡ Gives (seen a) (behind s between one) = h.agrees s is in
          let k' : Comes_to seen' (next (seen a) (behind s between one)) r (behind (behind s between one) objects' two) = k.agrees (behind s between one) refl in
          subst (λ t. Comes_to seen' (after (meaning s) next) r t) (behind_both s between objects' one two) (subst (λ o. Comes_to seen' (after o next) r (behind (behind s between one) objects' two)) (sym h') k');
    }

-- an act that stopped, where more would have come
pub acts_err : {A A' B B' : Type 0} (seen : A → B) (seen' : A' → B') (meaning : Doing Running B) (next : B → Doing Running B') (objects objects' : List W.Object) (told told' : List Told → Type 0) (r : Result A' Stop) (e : Stop)
    → r ≡ Err e → Acts seen meaning objects told (Err e) objects' told' → Acts seen' (λ s. after (meaning s) next) objects told r objects' told'
acts_err {A} {A'} seen seen' meaning next objects objects' told told' r e stopped h =
    rw stopped (record {
      happened = h.happened;
      unanswered = h.unanswered;
      unasked = h.unasked;
      heard = unless_err A A' _ e h.heard;
      agrees = λ s is. comes_err seen seen' (meaning s) next e _ (h.agrees s is);
    })

-- ---- the same act

-- its meaning by another name
pub acts_same : {A B : Type 0} (seen : A → B) (m n : Doing Running B) (objects objects' : List W.Object) (told told' : List Told → Type 0) (r : Result A Stop)
    → ((s : Running) → s.heap ≡ objects → m s ≡ n s) → Acts seen m objects told r objects' told' → Acts seen n objects told r objects' told'
acts_same seen m n objects objects' told told' r e h =
    record {
      happened = h.happened;
      unanswered = h.unanswered;
      unasked = h.unasked;
      heard = h.heard;
      agrees = λ s is. subst (λ o. Comes_to seen o r (behind s objects' (h.happened s.log))) (e s is) (h.agrees s is);
    }

-- a meaning that looks at the objects
pub acts_on : {A B : Type 0} (seen : A → B) (meaning : List W.Object → Doing Running B) (objects objects' : List W.Object) (told told' : List Told → Type 0) (r : Result A Stop)
    → Acts seen (meaning objects) objects told r objects' told' → Acts seen (λ s. meaning s.heap s) objects told r objects' told'
acts_on seen meaning objects objects' told told' r h = acts_same seen (meaning objects) (λ s. meaning s.heap s) objects objects' told told' r (λ s is. ap (λ o. meaning o s) (sym is)) h

-- the same result by its name
pub acts_as : {A B : Type 0} (seen : A → B) (meaning : Doing Running B) (objects objects' : List W.Object) (told told' : List Told → Type 0) (r r' : Result A Stop)
    → r ≡ r' → Acts seen meaning objects told r' objects' told' → Acts seen meaning objects told r objects' told'
acts_as seen meaning objects objects' told told' r r' is h = rw is h

-- ---- single steps

-- objects are made alone
pub acts_made : {A B : Type 0} (seen : A → B) (meaning : Doing Running B) (objects objects' : List W.Object) (told : List Told → Type 0) (r : Result A Stop)
    → Makes seen meaning objects r objects' → Acts seen meaning objects told r objects' told
acts_made seen meaning objects objects' told r h =
    record {
      happened = λ log. [];
      unanswered = λ log. refl;
      unasked = λ log. refl;
      heard = unless_memory r (λ log. goes_none told);
      agrees = λ s is. subst (Comes_to seen (meaning s) r) (behind_none s objects') (h s is);
    }

-- all is left as it is
pub acts_left : {A B : Type 0} (seen : A → B) (meaning : Doing Running B) (objects : List W.Object) (told : List Told → Type 0) (r : Result A Stop)
    → ((s : Running) → s.heap ≡ objects → Comes_to seen (meaning s) r s) → Acts seen meaning objects told r objects told
acts_left seen meaning objects told r h =
    record {
      happened = λ log. [];
      unanswered = λ log. refl;
      unasked = λ log. refl;
      heard = unless_memory r (λ log. goes_none told);
      agrees = λ s is. subst (Comes_to seen (meaning s) r) (behind_nothing s objects is) (h s is);
    }

-- a result is given
pub acts_gives : {A B : Type 0} (seen : A → B) (meaning : Doing Running B) (objects : List W.Object) (told : List Told → Type 0) (r : Result A Stop) (a : A)
    → r ≡ Ok a → ((s : Running) → s.heap ≡ objects → meaning s ≡ Gives (seen a) s) → Acts seen meaning objects told r objects told
acts_gives seen meaning objects told r a is h = rw is (acts_left seen meaning objects told (Ok a) h)

-- there is a fault
pub acts_faults : {A B : Type 0} (seen : A → B) (meaning : Doing Running B) (objects : List W.Object) (told : List Told → Type 0) (r : Result A Stop) (f : Fault')
    → r ≡ Err (Fault f) → ((s : Running) → s.heap ≡ objects → meaning s ≡ Stops (Faults (fault_of f)) s) → Acts seen meaning objects told r objects told
acts_faults seen meaning objects told r f is h = rw is (acts_left seen meaning objects told (Err (Fault f)) h)

-- want of memory, whatever objects there are then and whatever was told
pub acts_lost : {A B : Type 0} (seen : A → B) (meaning : Doing Running B) (objects objects' : List W.Object) (told told' : List Told → Type 0) (r : Result A Stop)
    → r ≡ Err Memory → Acts seen meaning objects told r objects' told'
acts_lost seen meaning objects objects' told told' r is =
    rw is (record {
      happened = λ log. [];
      unanswered = λ log. refl;
      unasked = λ log. refl;
      heard = tt;
      agrees = λ s is. tt;
    })

-- ---- the host is told

-- locations are read
pub acts_reads : (all : List Loc) (objects : List W.Object) (told told' : List Told → Type 0) → Goes_on told told' (all_read all) → Acts (λ (u : Unit {0}). u) (locations_read all) objects told (Ok tt) objects told'
acts_reads all objects told told' goes =
    record {
      happened = λ log. reads_at (length log) all;
      unanswered = λ log. answers_reads (length log) all;
      unasked = λ log. asks_reads (length log) all;
      heard = λ log. subst (Goes_on told told') (sym (heard_reads (length log) all)) goes;
      agrees = λ s is. ap (λ t. Gives tt t) (same_state s is
          (sym (append-nil s.log) ∙ ap (λ l. s.log ++ l) (sym (logs_reads (length s.log) all)))
          (sym (append-nil s.lines) ∙ ap (λ l. s.lines ++ l) (sym (prints_reads (length s.log) all))) refl);
    }

-- a console line is printed
pub acts_prints : (line : Text) (objects : List W.Object) (told told' : List Told → Type 0) → Goes_on told told' (Besides (Did_print line) ∷ []) → Acts (λ (u : Unit {0}). u) (printed line) objects told (Ok tt) objects told'
acts_prints line objects told told' goes =
    record {
      happened = λ log. Did_print line ∷ [];
      unanswered = λ log. refl;
      unasked = λ log. refl;
      heard = λ log. goes;
      agrees = λ s is. ap (λ t. Gives tt t) (same_state s is (sym (append-nil s.log)) refl refl);
    }

-- ---- changes of objects

module _ {X : Type 0} (stands_for : X → List Told → Type 0) (here : Setting) (a : ℕ) (change : W.Object → Becoming) (old : List Object) (before later : X) where
  abbrev seen_old : List W.Object
  seen_old = heap_seen (captures here) old

  -- the object at an address becomes what a change makes of it
  pub acts_changed : (new : List Object) → HeapBecame stands_for (captures here) a (change (object_at seen_old a)) old new before later
      → Acts (λ (u : Unit {0}). u) (changed here a change) seen_old (stands_for before) (Ok tt) (heap_seen (captures here) new) (stands_for later)
  acts_changed new h =
      let all : List Loc = located a (changed_in (captures here) (object_at seen_old a) h.object) in
      let happens : List Happening = Did_act a ∷ logs_told all in
      record {
        happened = λ log. happens;
        unanswered = λ log. answers_logs all;
        unasked = λ log. asks_logs all;
        heard = λ log. subst (Goes_on (stands_for before) (stands_for later)) (sym (heard_logs all)) h.told;
        agrees = λ s is.
            let noted_so : Running = record s { trace = s.trace ++ (Did_act a ∷ []) } in
            let differing : W.Object → W.Object → List Loc = λ o p. located a (changed_in (captures here) o p) in
            ap (λ x. becomes_so a differing (object_at x a) (change (object_at x a)) noted_so) is
            ∙ ap (λ b. becomes_so a differing (object_at seen_old a) b noted_so) h.becomes
            ∙ ap (λ t. Gives tt t) (same_state s (ap (λ x. set x a h.object) is ∙ sym h.heap)
            (ap (λ l. s.log ++ l) (sym (logs_logs all)))
            (sym (append-nil s.lines) ∙ ap (λ l. s.lines ++ l) (sym (prints_logs all)))
            (append_assoc s.trace (Did_act a ∷ []) (logs_told all)));
      }

  faulted : {A : Type 0} (seen : A → Unit {0}) (f : Fault') → change (object_at seen_old a) ≡ Stays (fault_of f) → Acts seen (changed here a change) seen_old (stands_for before) (Err (Fault f)) seen_old (stands_for before)
  faulted seen f is =
      record {
        happened = λ log. Did_act a ∷ [];
        unanswered = λ log. refl;
        unasked = λ log. refl;
        heard = λ log. goes_none (stands_for before);
        agrees = λ s heap.
            let noted_so : Running = record s { trace = s.trace ++ (Did_act a ∷ []) } in
            let differing : W.Object → W.Object → List Loc = λ o p. located a (changed_in (captures here) o p) in
            ap (λ x. becomes_so a differing (object_at x a) (change (object_at x a)) noted_so) heap
            ∙ ap (λ b. becomes_so a differing (object_at seen_old a) b noted_so) is
            ∙ ap (λ t. Stops (Faults (fault_of f)) t) (same_state s heap (sym (append-nil s.log)) (sym (append-nil s.lines)) refl);
      }

  -- the change is refused
  pub acts_refused : {A : Type 0} (seen : A → Unit {0}) (r : Result A Stop) (e : HeapStop) → r ≡ Err (stop_of e) → Refuses e (change (object_at seen_old a)) → AtFault e (later ≡ before)
      → Acts seen (changed here a change) seen_old (stands_for before) r seen_old (stands_for later)
  acts_refused {A} seen r e stopped refuses silent = by e stopped refuses silent
    where
      by : (e : HeapStop) → r ≡ Err (stop_of e) → Refuses e (change (object_at seen_old a)) → AtFault e (later ≡ before) → Acts seen (changed here a change) seen_old (stands_for before) r seen_old (stands_for later)
      by (HeapStop.Fault f) stopped refuses silent = rw (stopped, silent) (faulted seen f refuses)
      by HeapStop.Memory stopped refuses silent = acts_lost seen (changed here a change) seen_old seen_old (stands_for before) (stands_for later) r stopped
