-- The answer to a hook call only makes objects, and changes how later hook calls are answered.
use Rattle.std.specs.Prelude.{◌≡◌, refl, Bool, true, false, List, [], ◌∷◌, ◌++◌, length, drop, Option, Some, None}
use Rattle.std.proofs.Common.{sym, ap, ◌∙◌}
use Rattle.std.proofs.lemmas.List.{append_assoc, append-nil}
use Rattle.std.proofs.Math.Seq.{drop-append_seam}
use Rattle.qk_meaning.specs.Value.{Value, Values, Fields, Ref, Items, Record, none, item, end, field}
use Rattle.qk_meaning.specs.World.{Object, Plain, Array, Signal, Computed, Step, Hook, Kept, Provided, Instance}
use Rattle.qk_meaning.specs.Parts.{nth}
use Rattle.qk_meaning.specs.Doing.{Outcome, Gives, Doing, ◌>>=◌, after, give, chosen}
use Rattle.qk_meaning.specs.Happening.{Hook_kind, Signal_hook, Store_hook, Computed_hook, Task_hook, Provider_hook, Context_hook, Hook_answer, Gives_value, Gives_nothing, Refuses, Runs_task, Hooked}
use Rattle.qk_meaning.specs.Running.{Running, Hooking, Outside, Mounting, Again, Told, is_outside, made_at, made_object, hooking_becomes}
use Rattle.qk_meaning.specs.Hooks.{thawed, thawed_items, thawed_fields, one_more, hook_made, kept_hook, words_of, context, context_found, answer_at_mount, gave, all_made, answer_to, answer_told, answered_hook}

-- the state with these objects more, and with hook calls answered so
abbrev pub making : Running → List Object → Hooking → Running
making s made h = record s { heap = s.heap ++ made; hooking = h }

-- it gives something, and only makes objects and changes how hook calls are answered
pub record Makes {A : Type 0} (s : Running) (o : Outcome Running A) : Type 0 where
  pub value : A
  pub made : List Object
  pub hooking : Hooking
  pub is : o ≡ Gives value (making s made hooking)
  pub stays : is_outside s.hooking ≡ false → is_outside hooking ≡ false

abbrev Only_makes : (A : Type 0) → Doing Running A → Type 0
Only_makes A m = (s : Running) → Makes s (m s)

binds : {A B : Type 0} (m : Doing Running A) (f : A → Doing Running B) → Only_makes A m → ((a : A) → Only_makes B (f a)) → Only_makes B (◌>>=◌ m f)
binds {A} {B} m f p q s =
    let one = p s in
    let two = q one.value (making s one.made one.hooking) in
    record {
      value = two.value;
      made = one.made ++ two.made;
      hooking = two.hooking;
      is = ap (λ o. after o f) one.is ∙ (two.is ∙ ap (λ heap. Gives two.value (record s { heap = heap; hooking = two.hooking })) (append_assoc s.heap one.made two.made));
      stays = λ h. two.stays (one.stays h);
    }

giving : {A : Type 0} (a : A) → Only_makes A (give a)
giving a s = record { value = a; made = []; hooking = s.hooking; is = ap (λ heap. Gives a (record s { heap = heap })) (sym (append-nil s.heap)); stays = λ h. h }

hooking_so : (f : Hooking → Hooking) → ((h : Hooking) → is_outside h ≡ false → is_outside (f h) ≡ false) → Only_makes (Unit {0}) (hooking_becomes f)
hooking_so f e s = record { value = tt; made = []; hooking = f s.hooking; is = ap (λ heap. Gives tt (record s { heap = heap; hooking = f s.hooking })) (sym (append-nil s.heap)); stays = e s.hooking }

objects : (o : Object) → Only_makes Value (made_object o)
objects o s = record { value = Ref (length s.heap); made = o ∷ []; hooking = s.hooking; is = refl; stays = λ h. h }

choosing : {A : Type 0} (b : Bool) (m n : Doing Running A) → Only_makes A m → Only_makes A n → Only_makes A (chosen b m n)
choosing true m n p q = p
choosing false m n p q = q

mutual
  thaws : (v : Value) → Only_makes Value (thawed v)
  thaws (Items all) = binds (thawed_items all) (λ vs. made_object (Array vs)) (thaws_items all) (λ vs. objects (Array vs))
  thaws (Record all) = binds (thawed_fields all) (λ vs. made_object (Plain vs)) (thaws_fields all) (λ vs. objects (Plain vs))
  thaws other = giving other

  thaws_items : (all : Values) → Only_makes Values (thawed_items all)
  thaws_items none = giving none
  thaws_items (item v rest) =
      binds (thawed v) (λ w. ◌>>=◌ (thawed_items rest) (λ ws. give (item w ws))) (thaws v) (λ w. binds (thawed_items rest) (λ ws. give (item w ws)) (thaws_items rest) (λ ws. giving (item w ws)))

  thaws_fields : (all : Fields) → Only_makes Fields (thawed_fields all)
  thaws_fields end = giving end
  thaws_fields (field name v rest) =
      binds (thawed v) (λ w. ◌>>=◌ (thawed_fields rest) (λ ws. give (field name w ws))) (thaws v) (λ w. binds (thawed_fields rest) (λ ws. give (field name w ws)) (thaws_fields rest) (λ ws. giving (field name w ws)))

more_stays : (hook : Hook) (h : Hooking) → is_outside h ≡ false → is_outside (one_more hook h) ≡ false
more_stays hook Outside e = e
more_stays hook (Mounting path before so_far) e = e
more_stays hook (Again rest) e = e
more_stays hook (Told rest) e = e

hooks : (hook : Hook) → Only_makes (Unit {0}) (hook_made hook)
hooks hook = hooking_so (one_more hook) (more_stays hook)

keeps : (v : Value) → Only_makes Hook_answer (kept_hook v)
keeps v = binds (hook_made (Kept v)) (λ u. give (Gives_value v)) (hooks (Kept v)) (λ u. giving (Gives_value v))

finds : (o : Option Value) → Only_makes Hook_answer (context_found o)
finds (Some v) = keeps v
finds None = giving _

at_mount : (kind : Hook_kind) (arguments : List Value) (path : List Step) (before : List Instance) → Only_makes Hook_answer (answer_at_mount kind arguments path before)
at_mount Signal_hook arguments path before =
    binds (thawed (nth arguments 0)) (λ v. ◌>>=◌ (made_object (Signal v)) kept_hook) (thaws (nth arguments 0)) (λ v. binds (made_object (Signal v)) kept_hook (objects (Signal v)) keeps)
at_mount Store_hook arguments path before = choosing _ (◌>>=◌ (thawed (nth arguments 0)) kept_hook) (give (Refuses _)) (binds (thawed (nth arguments 0)) kept_hook (thaws (nth arguments 0)) keeps) (giving (Refuses _))
at_mount Computed_hook arguments path before = binds (made_object (Computed (nth arguments 0))) kept_hook (objects (Computed (nth arguments 0))) keeps
at_mount Task_hook arguments path before = giving (Runs_task (nth arguments 0))
at_mount Provider_hook arguments path before =
    let hook = Provided (words_of (nth arguments 0)) (nth arguments 1) in
    binds (hook_made hook) (λ u. give Gives_nothing) (hooks hook) (λ u. giving Gives_nothing)
at_mount Context_hook arguments path before = finds (context (words_of (nth arguments 0)) path before)

all_makes : (all : List Object) → Only_makes (Unit {0}) (all_made all)
all_makes [] = giving tt
all_makes (o ∷ rest) =
    binds (made_at o) (λ a. all_made rest) (λ s. record { value = length s.heap; made = o ∷ []; hooking = s.hooking; is = refl; stays = λ h. h }) (λ a. all_makes rest)

pub answers : (kind : Hook_kind) (arguments : List Value) (hooking : Hooking) → Only_makes Hook_answer (answer_to kind arguments hooking)
answers kind arguments Outside = giving _
answers kind arguments (Mounting path before so_far) = at_mount kind arguments path before
answers kind arguments (Again []) = giving _
answers kind arguments (Again (hook ∷ rest)) = binds (hooking_becomes (λ h. Again rest)) (λ u. give (gave hook)) (hooking_so (λ h. Again rest) (λ h e. refl)) (λ u. giving (gave hook))
answers kind arguments (Told []) = giving _
answers kind arguments (Told (a ∷ rest)) =
    binds (hooking_becomes (λ h. Told rest)) (λ u. ◌>>=◌ (all_made a.made) (λ v. give a.answer)) (hooking_so (λ h. Told rest) (λ h e. refl)) (λ u. binds (all_made a.made) (λ v. give a.answer) (all_makes a.made) (λ v. giving a.answer))

-- these objects are made
pub all_made_is : (all : List Object) (s : Running) → all_made all s ≡ Gives tt (record s { heap = s.heap ++ all })
all_made_is [] s = ap (λ heap. Gives tt (record s { heap = heap })) (sym (append-nil s.heap))
all_made_is (o ∷ rest) s = all_made_is rest (record s { heap = s.heap ++ (o ∷ []) }) ∙ ap (λ heap. Gives tt (record s { heap = heap })) (append_assoc s.heap (o ∷ []) rest)

-- where hook calls are given nothing, a hook call changes nothing and tells nothing
pub outside_is : (kind : Hook_kind) (arguments : List Value) (s : Running) → is_outside s.hooking ≡ true → answered_hook kind arguments s ≡ Gives Gives_nothing s
outside_is kind arguments s o = ap (λ b. chosen b (give Gives_nothing) (answer_told kind arguments s.hooking) s) o

-- an answered hook call is told with its answer and the objects that were made
pub answered_is : (kind : Hook_kind) (arguments : List Value) (s : Running) (answer : Hook_answer) (made : List Object) (h : Hooking)
    → is_outside s.hooking ≡ false → answer_to kind arguments s.hooking s ≡ Gives answer (making s made h)
    → answered_hook kind arguments s ≡ Gives answer (record s { heap = s.heap ++ made; hooking = h; trace = s.trace ++ (Hooked kind arguments (record { answer = answer; made = made }) ∷ []) })
answered_is kind arguments s answer made h o e =
    ap (λ b. chosen b (give Gives_nothing) (answer_told kind arguments s.hooking) s) o
    ∙ (ap (λ o. after (after o apart) told) e ∙ ap (λ all. after (Gives (answer, all) (making s made h)) told) (drop-append_seam s.heap made))
  where
    apart : Hook_answer → Doing Running (Hook_answer × List Object)
    apart a u = Gives (a, drop (length s.heap) u.heap) u

    told : Hook_answer × List Object → Doing Running Hook_answer
    told r u = Gives r.0 (record u { trace = u.trace ++ (Hooked kind arguments (record { answer = r.0; made = r.1 }) ∷ []) })
