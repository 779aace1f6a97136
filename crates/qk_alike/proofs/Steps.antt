-- What follows of the laws for the words put together of the primitives.
use Rattle.std.specs.Prelude.{◌≡◌, refl, ℕ, Bool, true, false, List, drop, Option, Some, None}
use Rattle.std.proofs.Common.{subst}
use Rattle.qk_meaning.specs.Value.{Value}
use Rattle.qk_meaning.specs.World.{Object}
use Rattle.qk_meaning.specs.Fault.{Fault}
use Rattle.qk_meaning.specs.Operators.{Answer, Is, Fails}
use Rattle.qk_meaning.specs.Doing.{Faults, Doing, chosen, each, fault}
use Rattle.qk_meaning.specs.Running.{Running, Outside, answered, unless_fault, made_object, told_apart, made_apart, as_part, unhooked}
use Rattle.qk_meaning.specs.Happening.{Part, Happening}
use Rattle.qk_meaning.specs.Ties.{Ties, Apart, Stands, ref, Pairwise, no_more, one_more, Object_stands}
use Rattle.qk_meaning.specs.Alike.{Reach, Happenings_stand, both_began, both_left, both_outside}
use Rattle.qk_alike.specs.Meanings_stand.{Flows_stand, onward, broke, continued, returned, Both_answer, is, fails}
use Rattle.qk_meaning.specs.Worlds_stand.{Start}
use Rattle.qk_meaning.specs.Flow.{Flow, then_next, unless_left, repeated_for}
use Rattle.qk_alike.proofs.Doing_laws.{Relation, Done, done, Same, Laws}
use Rattle.qk_alike.proofs.Lists.{drops}
use Rattle.qk_alike.proofs.Heaps.{made_since}

-- what is given, and what happened in it
pub record Told_stand (t : Ties) (b : Start) {A B : Type 0} (R : A → B → Type 0) (x : A × List Happening) (y : B × List Happening) : Type 0 where
  pub given : R x.0 y.0
  pub happened : Pairwise (Happenings_stand t b) x.1 y.1

-- what is given, and the objects that were made for it
pub record Made_stand (t : Ties) {A B : Type 0} (R : A → B → Type 0) (x : A × List Object) (y : B × List Object) : Type 0 where
  pub given : R x.0 y.0
  pub made : Pairwise (Object_stands t) x.1 y.1

module _ {t : Ties} {b : Start} {K : Relation} (laws : Laws t b K) where
  open laws use {gives, stops, bind, turn, heaps, sizes, traces, trace_lengths, hookings, notes, makes, replaces, logs, hooks}

  pub faults : {r : Reach} {A B : Type 0} {R : A → B → Type 0} (f : Fault) → K r A B R (fault f) (fault f)
  faults f = stops (Faults f)

  choose_same : {r : Reach} {A B : Type 0} {R : A → B → Type 0} (c : Bool) {m n : Doing Running A} {m' n' : Doing Running B} → K r A B R m m' → K r A B R n n' → K r A B R (chosen c m n) (chosen c m' n')
  choose_same true p q = p
  choose_same false p q = q

  pub choose : {r : Reach} {A B : Type 0} {R : A → B → Type 0} {c c' : Bool} {m n : Doing Running A} {m' n' : Doing Running B} → c ≡ c' → K r A B R m m' → K r A B R n n' → K r A B R (chosen c m n) (chosen c' m' n')
  choose {r} {A} {B} {R} {c} {c'} {m} {n} {m'} {n'} e p q = subst (λ x. K r A B R (chosen c m n) (chosen x m' n')) e (choose_same c p q)

  pub answers : {r : Reach} {A B : Type 0} {R : A → B → Type 0} {x : Answer A} {x' : Answer B} → Both_answer R x x' → K r A B R (answered x) (answered x')
  answers (is h) = gives h
  answers fails = faults _

  answers_itself : {r : Reach} {A : Type 0} (x : Answer A) → K r A A Same (answered x) (answered x)
  answers_itself (Is a) = gives refl
  answers_itself (Fails f) = faults f

  pub answers_same : {r : Reach} {A : Type 0} {x x' : Answer A} → x ≡ x' → K r A A Same (answered x) (answered x')
  answers_same {r} {A} {x} {x'} e = subst (λ y. K r A A Same (answered x) (answered y)) e (answers_itself x)

  unless_itself : {r : Reach} (o : Option Fault) → K r _ _ Done (unless_fault o) (unless_fault o)
  unless_itself None = gives done
  unless_itself (Some f) = faults f

  pub unless_same : {r : Reach} {o o' : Option Fault} → o ≡ o' → K r _ _ Done (unless_fault o) (unless_fault o')
  unless_same {r} {o} {o'} e = subst (λ y. K r _ _ Done (unless_fault o) (unless_fault y)) e (unless_itself o)

  pub eaches : {r : Reach} {A B C D : Type 0} {R : A → B → Type 0} {S : C → D → Type 0} {f : A → Doing Running C} {f' : B → Doing Running D} → ((x : A) (y : B) → R x y → K r C D S (f x) (f' y)) →
      {all : List A} {all' : List B} → Pairwise R all all' → K r _ _ (Pairwise S) (each f all) (each f' all')
  eaches p no_more = gives no_more
  eaches p (one_more {a = x} {b = y} h rest) = bind (p x y h) (λ c d k. bind (eaches p rest) (λ cs ds ks. gives (one_more k ks)))

  pub then_nexts : {r : Reach} {x y : Flow} {next next' : Doing Running Flow} → Flows_stand t x y → K r _ _ (Flows_stand t) next next' → K r _ _ (Flows_stand t) (then_next x next) (then_next y next')
  then_nexts onward p = p
  then_nexts continued p = p
  then_nexts broke p = gives onward
  then_nexts (returned h) p = gives (returned h)

  pub unless_lefts : {r : Reach} {x y : Flow} {next next' : Doing Running Flow} → Flows_stand t x y → K r _ _ (Flows_stand t) next next' → K r _ _ (Flows_stand t) (unless_left x next) (unless_left y next')
  unless_lefts onward p = p
  unless_lefts continued p = gives continued
  unless_lefts broke p = gives broke
  unless_lefts (returned h) p = gives (returned h)

  pub repeated_fors : {r : Reach} {f f' : Value → Doing Running Flow} → ((v w : Value) → Stands t v w → K r _ _ (Flows_stand t) (f v) (f' w)) → {all all' : List Value} → Pairwise (Stands t) all all' →
      K r _ _ (Flows_stand t) (repeated_for f all) (repeated_for f' all')
  repeated_fors p no_more = gives onward
  repeated_fors p (one_more {a = v} {b = w} h rest) = bind turn (λ x y d. bind (p v w h) (λ x y k. then_nexts k (repeated_fors p rest)))

  pub made_objects : {r : Reach} {o o' : Object} → Object_stands t o o' → K r _ _ (Stands t) (made_object o) (made_object o')
  made_objects h = bind (makes h) (λ x y k. gives (ref k))

  pub as_parts : {r : Reach} {A B : Type 0} {R : A → B → Type 0} {m : Doing Running A} {m' : Doing Running B} (part : Part) → K r A B R m m' → K r A B R (as_part part m) (as_part part m')
  as_parts part p = bind (notes (both_began {part = part})) (λ x y d. bind p (λ x y h. bind (notes (both_left {part = part})) (λ x y d. gives h)))

  pub unhooks : {r : Reach} {A B : Type 0} {R : A → B → Type 0} {m : Doing Running A} {m' : Doing Running B} → K r A B R m m' → K r A B R (unhooked m) (unhooked m')
  unhooks p = bind hookings (λ old old' o. bind (hooks (λ x. Outside) (λ x. Outside) (λ x y k. both_outside)) (λ x y d. bind p (λ x y h. bind (hooks (λ x. old) (λ x. old') (λ x y k. o)) (λ x y d. gives h))))

  told_since : {n n' : ℕ} {all all' : List Happening} → n ≡ n' → Pairwise (Happenings_stand t b) all all' → Pairwise (Happenings_stand t b) (drop n all) (drop n' all')
  told_since {n} {n'} {all} {all'} e h = subst (λ k. Pairwise (Happenings_stand t b) (drop n all) (drop k all')) e (drops n h)

  pub tells_apart : {r : Reach} {A B : Type 0} {R : A → B → Type 0} {m : Doing Running A} {m' : Doing Running B} → K r A B R m m' → K r _ _ (Told_stand t b R) (told_apart m) (told_apart m')
  tells_apart p = bind trace_lengths (λ n n' e. bind p (λ x y h. bind traces (λ all all' k. gives (record { given = h; happened = told_since e k }))))

  pub makes_apart : Apart t → {r : Reach} {A B : Type 0} {R : A → B → Type 0} {m : Doing Running A} {m' : Doing Running B} → K r A B R m m' → K r _ _ (Made_stand t R) (made_apart m) (made_apart m')
  makes_apart apart p = bind sizes (λ n n' e. bind p (λ x y h. bind heaps (λ all all' k. gives (record { given = h; made = made_since t apart n n' e.ahead k }))))
