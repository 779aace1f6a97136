-- What a relation between doings must keep so that it holds between the meanings of code that stands for code.
use Rattle.std.specs.Prelude.{◌≡◌, ℕ, ◌+◌, true, List, length}
use Rattle.qk_meaning.specs.Value.{Text, Value, Fields}
use Rattle.qk_meaning.specs.World.{Object, Loc}
use Rattle.qk_meaning.specs.Parts.{has_field}
use Rattle.qk_meaning.specs.Doing.{Why, Doing, ◌>>=◌, give, asked, stopping}
use Rattle.qk_meaning.specs.Running.{Running, Mode, Hooking, take_turn, made_at, replaced_at, logged, printed, hooking_becomes, noted, locations_read, heap_of, scope_now, local_value, assigned}
use Rattle.qk_meaning.specs.Happening.{Happening}
use Rattle.qk_meaning.specs.Ties.{Ties, Paired, Stands, Pairwise, Object_stands, Loc_stands}
use Rattle.qk_meaning.specs.Alike.{Reach, deeper, is_reached, is_local, Locals_stand, Happenings_stand, Hookings_stand}
use Rattle.qk_meaning.specs.Worlds_stand.{Heaps_stand, Start, At}
use Rattle.qk_alike.specs.Meanings_stand.{Flows_stand}
use Rattle.qk_meaning.specs.Setting.{Entering, Computed_reading, Setting, captures}
use Rattle.qk_meaning.specs.Flow.{Flow, repeated, scoped, within}
use Rattle.qk_alike.proofs.Value_laws.{Facts}

abbrev pub Relation : Type 1
Relation = Reach → (A B : Type 0) → (A → B → Type 0) → Doing Running A → Doing Running B → Type 0

-- of what is given for its effect alone
pub data Done : Unit {0} → Unit {0} → Type 0 where
  done : {u v : Unit {0}} → Done u v

abbrev pub Same : {A : Type 0} → A → A → Type 0
Same a b = a ≡ b

-- how many objects there are: those to come will be pairs
pub record Sizes_stand (t : Ties) (n n' : ℕ) : Type 0 where
  pub ahead : (k : ℕ) → Paired t.pairing (n + k) (n' + k)

-- names within reach are locals where they should be
abbrev pub Fine : Reach → Fields → Type 0
Fine r f = (name : Text) → is_reached r name ≡ true → has_field name f ≡ is_local r name

pub record Laws (t : Ties) (b : Start) (K : Relation) : Type 1 where
  pub gives : {r : Reach} {A B : Type 0} {R : A → B → Type 0} {a : A} {b : B} → R a b → K r A B R (give a) (give b)
  pub stops : {r : Reach} {A B : Type 0} {R : A → B → Type 0} (why : Why) → K r A B R (stopping why) (stopping why)
  pub bind : {r : Reach} {A B C D : Type 0} {R : A → B → Type 0} {S : C → D → Type 0} {m : Doing Running A} {m' : Doing Running B} {f : A → Doing Running C} {f' : B → Doing Running D} →
      K r A B R m m' → ((a : A) (b : B) → R a b → K r C D S (f a) (f' b)) → K r C D S (◌>>=◌ m f) (◌>>=◌ m' f')
  pub turn : {r : Reach} → K r _ _ Done take_turn take_turn
  -- what a state says
  pub heaps : {r : Reach} → K r _ _ (Heaps_stand t) (asked heap_of) (asked heap_of)
  pub scope_names : {r : Reach} → K r _ _ (Locals_stand t r.free r.captured r.own) scope_now scope_now
  pub local_values : {r : Reach} (name : Text) → is_reached r name ≡ true → K r _ _ (Stands t) (local_value name) (local_value name)
  pub sizes : {r : Reach} → K r _ _ (Sizes_stand t) (asked (λ s. length s.heap)) (asked (λ s. length s.heap))
  pub log_lengths : {r : Reach} → K r _ _ (At b) (asked (λ s. length s.log)) (asked (λ s. length s.log))
  pub traces : {r : Reach} → K r _ _ (Pairwise (Happenings_stand t b)) (asked (λ s. s.trace)) (asked (λ s. s.trace))
  pub trace_lengths : {r : Reach} → K r _ _ Same (asked (λ s. length s.trace)) (asked (λ s. length s.trace))
  pub hookings : {r : Reach} → K r _ _ (Hookings_stand t b) (asked (λ s. s.hooking)) (asked (λ s. s.hooking))
  -- what is done to it
  pub reads : {r : Reach} {l m : List Loc} → Pairwise (Loc_stands t) l m → K r _ _ Done (locations_read l) (locations_read m)
  pub notes : {r : Reach} {h h' : Happening} → Happenings_stand t b h h' → K r _ _ Done (noted h) (noted h')
  pub makes : {r : Reach} {o o' : Object} → Object_stands t o o' → K r _ _ (Paired t.pairing) (made_at o) (made_at o')
  pub replaces : {r : Reach} {x y : ℕ} {o o' : Object} → Paired t.pairing x y → Object_stands t o o' → K r _ _ Done (replaced_at x o) (replaced_at y o')
  pub logs : {r : Reach} {l m : List Loc} → Pairwise (Loc_stands t) l m → K r _ _ Done (logged l) (logged m)
  pub prints : {r : Reach} (line : Text) → K r _ _ Done (printed line) (printed line)
  pub hooks : {r : Reach} (f f' : Hooking → Hooking) → ((h h' : Hooking) → Hookings_stand t b h h' → Hookings_stand t b (f h) (f' h')) → K r _ _ Done (hooking_becomes f) (hooking_becomes f')
  pub assigns : {r : Reach} (name : Text) {v w : Value} → Stands t v w → K r _ _ Done (assigned name v) (assigned name w)
  pub scopes : {r : Reach} (names : List Text) {A B : Type 0} {R : A → B → Type 0} {m : Doing Running A} {m' : Doing Running B} → K (deeper names r) A B R m m' → K r A B R (scoped names m) (scoped names m')
  pub withins : {r : Reach} (inner : Reach) {f g : Fields} {A B : Type 0} {R : A → B → Type 0} {m : Doing Running A} {m' : Doing Running B} →
      Locals_stand t inner.free inner.captured inner.own f g → K inner A B R m m' → K r A B R (within f m) (within g m')
  -- doings that come to others by looking at the names in scope alone
  pub peeks : {r : Reach} {A B : Type 0} {R : A → B → Type 0} {m : Doing Running A} {m' : Doing Running B} (k : Fields → Doing Running A) (k' : Fields → Doing Running B) →
      ((s : Running) → Fine r s.locals → m s ≡ k s.locals s) → ((s : Running) → Fine r s.locals → m' s ≡ k' s.locals s) →
      ((f g : Fields) → Locals_stand t r.free r.captured r.own f g → K r A B R (k f) (k' g)) → K r A B R m m'
  pub repeats : {r : Reach} {c c' : Doing Running Value} {d d' : Doing Running Flow} → K r _ _ (Stands t) c c' → K r _ _ (Flows_stand t) d d' →
      K r _ _ (Flows_stand t) (◌>>=◌ (asked (λ s. s.turns)) (λ n. repeated n c d)) (◌>>=◌ (asked (λ s. s.turns)) (λ n. repeated n c' d'))

-- functions are entered alike
pub record Enterings_stand (t : Ties) (K : Relation) (enter enter' : Entering) : Type 0 where
  pub enters : {r : Reach} (mode : Mode) {running running' : List ℕ} {f g : Value} {all all' : List Value} → Pairwise (Paired t.pairing) running running' → Stands t f g → Pairwise (Stands t) all all' →
      K r Value Value (Stands t) (enter mode running f all) (enter' mode running' g all')

-- where functions are entered alike, computeds are read alike
pub record Computings_stand (t : Ties) (K : Relation) (computed : Computed_reading) : Type 0 where
  pub reads : {enter enter' : Entering} → Enterings_stand t K enter enter' → {r : Reach} {running running' : List ℕ} {x y : ℕ} {f g : Value} → Pairwise (Paired t.pairing) running running' → Paired t.pairing x y → Stands t f g →
      K r Value Value (Stands t) (computed enter running x f) (computed enter' running' y g)

-- settings of code that stands for code
pub record Settings_stand (t : Ties) (b : Start) (K : Relation) (here here' : Setting) : Type 1 where
  pub laws : Laws t b K
  pub facts : Facts t (captures here) (captures here')
  pub entering : Enterings_stand t K here.enter here'.enter
  pub mode : here.mode ≡ here'.mode
  pub running : Pairwise (Paired t.pairing) here.running here'.running
  pub tracks : here.tracks ≡ here'.tracks
  pub computeds : {r : Reach} {x y : ℕ} {f g : Value} → Paired t.pairing x y → Stands t f g → K r Value Value (Stands t) (here.computed x f) (here'.computed y g)
