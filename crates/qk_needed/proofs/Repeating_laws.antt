-- Relations between a first doing and a second one in another heap, that each primitive keeps; and what follows for the words put together of these.
use Rattle.std.specs.Prelude.{◌≡◌, ℕ, zero, suc, Bool, true, false, List, [], ◌∷◌, length, Option, Some, None}
use Rattle.qk_meaning.specs.Value.{Text, Value, Fields}
use Rattle.qk_meaning.specs.World.{Object, Loc}
use Rattle.qk_meaning.specs.Fault.{Fault, ComputedCycle}
use Rattle.qk_meaning.specs.Setting.{is_running}
use Rattle.qk_meaning.specs.Operators.{Answer, Is, Fails, is_true}
use Rattle.qk_meaning.specs.Parts.{without_first}
use Rattle.qk_meaning.specs.Doing.{Doing, ◌>>=◌, ◌>>◌, give, asked, chosen, each, ended, fault, Why, stopping}
use Rattle.qk_meaning.specs.Happening.{Entered, Used, Computing, Computed_so, Began, Left, Which, Part, Hook_kind, Hook_answer, Gives_value, Runs_task, Gives_nothing, Refuses}
use Rattle.qk_meaning.specs.Hooks.{answered_hook}
use Rattle.qk_meaning.specs.Running.{Running, Hooking, take_turn, locations_read, locals_become, hooking_becomes, answered, unless_fault, noted, heap_of}
use Rattle.qk_meaning.specs.Flow.{Flow, Onward, Broke, Continued, Returned, opened, scoped, within, then_next, unless_left, repeated, repeated_for}
use Rattle.qk_needed.specs.Deciding.{Makes_none}
use Rattle.qk_meaning.specs.Standing.{stands_at}

-- whether both see the same names and change them alike, or each leaves its own names as they were
pub data Names : Type 0 where
  Shared Own : Names

abbrev pub Relation : Type 1
Relation = Names → (A : Type 0) → Doing Running A → Doing Running A → Type 0

-- at all these locations stands the same
abbrev pub All_agree : List Object → List Object → List Loc → Type 0
All_agree G H [] = Unit {0}
All_agree G H (l ∷ rest) = (stands_at G l ≡ stands_at H l) × All_agree G H rest

-- what isn't under way in the first, nor one of the others, isn't under way in the second
abbrev pub Under : List ℕ → List ℕ → List ℕ → Type 0
Under outer running running' = (a : ℕ) → is_running a running ≡ false → is_running a outer ≡ false → is_running a running' ≡ false

-- an answer to a hook call that runs no task
abbrev pub Runs_none : Hook_answer → Type 0
Runs_none (Gives_value v) = Unit {0}
Runs_none (Runs_task f) = ⊥
Runs_none Gives_nothing = Unit {0}
Runs_none (Refuses f) = Unit {0}

pub record Laws (outer : List ℕ) (G H : List Object) (K : Relation) : Type 1 where
  pub gives : {L : Names} {A : Type 0} (a : A) → K L A (give a) (give a)
  pub stops : {L : Names} {A : Type 0} (why : Why) (m : Doing Running A) → K L A (stopping why) m
  pub ends : {L : Names} {A : Type 0} {m m' : Doing Running A} → K L A m m' → K L A m ended
  pub bind : {L : Names} {A B : Type 0} {m m' : Doing Running A} {f f' : A → Doing Running B} → K L A m m' → ((a : A) → K L B (f a) (f' a)) → K L B (◌>>=◌ m f) (◌>>=◌ m' f')
  pub turn : {L : Names} → K L (Unit {0}) take_turn take_turn
  pub enters : {L : Names} (which : Which) → K L (Unit {0}) (noted (Entered which)) (noted (Entered which))
  -- a computed's function runs in the first; in the second it is tried before whether it is under way, and it isn't where it is none of the others
  pub computes : {L : Names} {A : Type 0} {m m' : Doing Running A} (a : ℕ) (b : Bool) → (is_running a outer ≡ false → b ≡ false) → K L A m m'
      → K L A (◌>>◌ (noted (Computing a)) m) (chosen b (fault ComputedCycle) (◌>>◌ (noted (Computing a)) m'))
  pub computed : {L : Names} (a : ℕ) (v : Value) → K L (Unit {0}) (noted (Computed_so a v)) (noted (Computed_so a v))
  pub uses : {L : Names} (file name : Text) → K L (Unit {0}) (noted (Used file name)) (noted (Used file name))
  pub begins : {L : Names} (part : Part) → K L (Unit {0}) (noted (Began part)) (noted (Began part))
  pub leaves : {L : Names} (part : Part) → K L (Unit {0}) (noted (Left part)) (noted (Left part))
  -- the heap is looked at
  pub looks : {L : Names} {B : Type 0} (f f' : List Object → Doing Running B) → K L B (f G) (f' H) → K L B (◌>>=◌ (asked heap_of) f) (◌>>=◌ (asked heap_of) f')
  -- what is read is the same where the same stands at the locations that are read
  pub reads : {L : Names} {A : Type 0} (locs locs' : List Loc) (a a' : A) → (All_agree G H locs → (locs' ≡ locs) × (a' ≡ a))
      → K L A (◌>>◌ (locations_read locs) (give a)) (◌>>◌ (locations_read locs') (give a'))
  pub sees : {B : Type 0} {f f' : Fields → Doing Running B} → ((names : Fields) → K Shared B (f names) (f' names)) → K Shared B (◌>>=◌ (asked (λ s. s.locals)) f) (◌>>=◌ (asked (λ s. s.locals)) f')
  pub sets : (f : Fields → Fields) → K Shared (Unit {0}) (locals_become f) (locals_become f)
  pub withins : {L : Names} {A : Type 0} (names : Fields) {m m' : Doing Running A} → K Shared A m m' → K L A (within names m) (within names m')
  pub shared : {A : Type 0} {m m' : Doing Running A} → K Own A m m' → K Shared A m m'
  pub hooks : {L : Names} {B : Type 0} {f f' : Hooking → Doing Running B} → ((h : Hooking) → Makes_none h → K L B (f h) (f' h)) → K L B (◌>>=◌ (asked (λ s. s.hooking)) f) (◌>>=◌ (asked (λ s. s.hooking)) f')
  pub sets_hooks : {L : Names} (h : Hooking) → Makes_none h → K L (Unit {0}) (hooking_becomes (λ old. h)) (hooking_becomes (λ old. h))
  -- hook calls are answered alike, and no answer runs a task
  pub hook_answers : {L : Names} {B : Type 0} (kind : Hook_kind) (arguments : List Value) {f f' : Hook_answer → Doing Running B} → ((answer : Hook_answer) → Runs_none answer → K L B (f answer) (f' answer))
      → K L B (◌>>=◌ (answered_hook kind arguments) f) (◌>>=◌ (answered_hook kind arguments) f')
  pub by_turns : {L : Names} {A : Type 0} {f f' : ℕ → Doing Running A} → ((n n' : ℕ) → K L A (f n) (f' n')) → K L A (◌>>=◌ (asked (λ s. s.turns)) f) (◌>>=◌ (asked (λ s. s.turns)) f')

module _ (outer : List ℕ) (G H : List Object) (K : Relation) (laws : Laws outer G H K) where
  open laws use {gives, stops, ends, bind, turn, sees, sets, by_turns}

  pub faults : {L : Names} {A : Type 0} (f : Fault) (m : Doing Running A) → K L A (fault f) m
  faults f m = stops _ m

  pub choose : {L : Names} {A : Type 0} (b : Bool) {m m' n n' : Doing Running A} → K L A m m' → K L A n n' → K L A (chosen b m n) (chosen b m' n')
  choose true p q = p
  choose false p q = q

  pub answers : {L : Names} {A : Type 0} (a : Answer A) → K L A (answered a) (answered a)
  answers (Is a) = gives a
  answers (Fails f) = faults f (fault f)

  pub unless_faults : {L : Names} (o : Option Fault) → K L (Unit {0}) (unless_fault o) (unless_fault o)
  unless_faults None = gives tt
  unless_faults (Some f) = faults f (fault f)

  pub eaches : {L : Names} {A B : Type 0} {f f' : A → Doing Running B} → ((a : A) → K L B (f a) (f' a)) → (all : List A) → K L (List B) (each f all) (each f' all)
  eaches p [] = gives []
  eaches p (a ∷ rest) = bind (p a) (λ b. bind (eaches p rest) (λ bs. gives (b ∷ bs)))

  pub scopes : {A : Type 0} (names : List Text) {m m' : Doing Running A} → K Shared A m m' → K Shared A (scoped names m) (scoped names m')
  scopes names p = bind (sets (opened names)) (λ u. bind p (λ a. bind (sets (without_first (length names))) (λ v. gives a)))

  pub then_nexts : (flow : Flow) {next next' : Doing Running Flow} → K Shared Flow next next' → K Shared Flow (then_next flow next) (then_next flow next')
  then_nexts Onward p = p
  then_nexts Continued p = p
  then_nexts Broke p = gives Onward
  then_nexts (Returned v) p = gives (Returned v)

  pub unless_lefts : (flow : Flow) {next next' : Doing Running Flow} → K Shared Flow next next' → K Shared Flow (unless_left flow next) (unless_left flow next')
  unless_lefts Onward p = p
  unless_lefts Continued p = gives Continued
  unless_lefts Broke p = gives Broke
  unless_lefts (Returned v) p = gives (Returned v)

  pub repeated_fors : {f f' : Value → Doing Running Flow} → ((v : Value) → K Shared Flow (f v) (f' v)) → (all : List Value) → K Shared Flow (repeated_for f all) (repeated_for f' all)
  repeated_fors p [] = gives Onward
  repeated_fors p (v ∷ rest) = bind turn (λ u. bind (p v) (λ flow. then_nexts flow (repeated_fors p rest)))

  -- the turns of a `while`; where the second may begin no more, it ends
  turns_of : {c c' : Doing Running Value} {b b' : Doing Running Flow} → K Shared Value c c' → K Shared Flow b b' → (n n' : ℕ) → K Shared Flow (repeated n c b) (repeated n' c' b')
  turns_of p q zero zero = bind p (λ v. choose (is_true v) (stops _ _) (gives Onward))
  turns_of p q zero (suc n') = bind p (λ v. choose (is_true v) (stops _ _) (gives Onward))
  turns_of p q (suc n) zero = bind p (λ v. choose (is_true v) (ends (bind turn (λ u. bind q (λ flow. then_nexts flow (turns_of p q n zero))))) (gives Onward))
  turns_of p q (suc n) (suc n') = bind p (λ v. choose (is_true v) (bind turn (λ u. bind q (λ flow. then_nexts flow (turns_of p q n n')))) (gives Onward))

  pub repeats : {c c' : Doing Running Value} {b b' : Doing Running Flow} → K Shared Value c c' → K Shared Flow b b'
      → K Shared Flow (◌>>=◌ (asked (λ s. s.turns)) (λ n. repeated n c b)) (◌>>=◌ (asked (λ s. s.turns)) (λ n. repeated n c' b'))
  repeats p q = by_turns (λ n n'. turns_of p q n n')
