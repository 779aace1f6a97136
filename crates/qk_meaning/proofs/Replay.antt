-- Whoever answers hook calls with the answers that were told gets the same.
use Rattle.std.specs.Prelude.{◌≡◌, refl, ℕ, zero, suc, ⊤, Bool, true, false, List, [], ◌∷◌, ◌++◌, length, set}
use Rattle.std.proofs.Common.{sym, ap, subst, ◌∙◌, arith}
use Rattle.std.proofs.lemmas.Bool.{false≢true}
use Rattle.std.proofs.lemmas.List.{append_assoc, append-nil, append_cancel_left}
use Rattle.qk_meaning.specs.Writing.{Becoming, Becomes, Stays}
use Rattle.qk_meaning.specs.Heap.{object_at}
use Rattle.qk_meaning.specs.Value.{Value, Site, Text}
use Rattle.qk_meaning.specs.World.{Loc, Hook, Object}
use Rattle.qk_meaning.specs.Program.{Program, captures_in}
use Rattle.qk_meaning.specs.Doing.{Outcome, Gives, Stops, Doing, ◌>>=◌, after, state_left, asked, fault, Faults}
use Rattle.qk_meaning.specs.Happening.{Happening, Did_log, Did_print, Hooked, Began, Left, The_task, Computing, Computed_so, Hook_kind, Gives_nothing, Answered}
use Rattle.qk_meaning.specs.Running.{Running, Hooking, Outside, Mounting, Again, Told, is_outside, take_turn, turn_of, logs_told, as_part, unhooked, heap_of, replaced_at, logged, becomes_so, becomes_by}
use Rattle.qk_meaning.specs.Trace.{answers_in}
use Rattle.qk_meaning.specs.Setting.{as_computed, called_anew}
use Rattle.qk_meaning.specs.Hooks.{one_more, hook_made, answered_hook}
use Rattle.qk_meaning.specs.Evaluation.{entering}
use Rattle.qk_meaning.specs.Laws_of_code as Of_code
use Rattle.qk_meaning.specs.Laws_of_code.{Replays}
use Rattle.qk_meaning.proofs.Running_laws.{Relation, Laws, Trace_laws, finds_tracked, Hook_laws, all_tell_only}
use Rattle.qk_meaning.proofs.Meanings.{Enter_alike, enters_with, calls_anew}
use Rattle.qk_meaning.proofs.Traces.{answers_then}
use Rattle.qk_meaning.proofs.Answering.{answers, all_made_is, outside_is, answered_is}

-- ---- traces that answer nothing

abbrev Skips : List Happening → Type 0
Skips told = answers_in told ≡ []

skips_only : (all : List Happening) → all_tell_only all ≡ true → Skips all
skips_only [] q = refl
skips_only (Did_log l ∷ rest) q = absurd (false≢true q)
skips_only (Did_print line ∷ rest) q = absurd (false≢true q)
skips_only (Hooked kind arguments answered ∷ rest) q = absurd (false≢true q)
skips_only (Began The_task ∷ rest) q = absurd (false≢true q)
skips_only (Left The_task ∷ rest) q = absurd (false≢true q)
skips_only (Computing a ∷ rest) q = absurd (false≢true q)
skips_only (Computed_so a v ∷ rest) q = absurd (false≢true q)
skips_only (_ ∷ rest) q = skips_only rest q

skips_logs : (all : List Loc) → Skips (logs_told all)
skips_logs [] = refl
skips_logs (l ∷ rest) = skips_logs rest

skips_then : (one two : List Happening) → Skips one → Skips two → Skips (one ++ two)
skips_then one two p q = answers_then one two ∙ (ap (λ l. l ++ answers_in two) p ∙ q)

-- ---- what holds of a doing

-- if it gives, hook calls are given nothing behind it, or they are answered
abbrev Hooks_stay : {A : Type 0} → Outcome Running A → Bool → Type 0
Hooks_stay (Gives a u) outside = is_outside u.hooking ≡ outside
Hooks_stay (Stops why u) outside = ⊤

-- where hook calls are given nothing it tells no answer
pub record Inside {A : Type 0} (s : Running) (o : Outcome Running A) : Type 0 where
  pub told : List Happening
  pub trace : (state_left o).trace ≡ s.trace ++ told
  pub stays : Hooks_stay o true
  pub skips : Skips told

-- where hook calls are answered: with its answers given it comes to the same
pub record Replayed {A : Type 0} (s : Running) (o : Outcome Running A) (again : List Answered → Outcome Running A) : Type 0 where
  pub told : List Happening
  pub trace : (state_left o).trace ≡ s.trace ++ told
  pub stays : Hooks_stay o false
  pub replays : (rest : List Answered) → Replays rest o (again (answers_in told ++ rest))

-- of the first doing alone
pub record Follows (A : Type 0) (m m' : Doing Running A) : Type 0 where
  pub inside : (s : Running) → is_outside s.hooking ≡ true → Inside s (m s)
  pub replayed : (s : Running) → is_outside s.hooking ≡ false → Replayed s (m s) (λ answered. m (record s { hooking = Told answered }))

abbrev Following : Relation
Following A m m' = Follows A m m'

-- ---- one thing after another

onward : (xs ys zs one two : List Happening) → ys ≡ xs ++ one → zs ≡ ys ++ two → zs ≡ xs ++ (one ++ two)
onward xs ys zs one two e f = f ∙ (ap (λ l. l ++ two) e ∙ append_assoc xs one two)

inside_then : {A B : Type 0} (s u : Running) (a : A) → Inside s (Gives a u) → (o : Outcome Running B) → Inside u o → Inside s o
inside_then s u a p o q =
    record { told = p.told ++ q.told; trace = onward s.trace u.trace (state_left o).trace p.told q.told p.trace q.trace; stays = q.stays; skips = skips_then p.told q.told p.skips q.skips }

binds : {A B : Type 0} (m m' : Doing Running A) (f f' : A → Doing Running B) → Following A m m' → ((a : A) → Following B (f a) (f' a)) → Following B (◌>>=◌ m f) (◌>>=◌ m' f')
binds {A} {B} m m' f f' p q = record { inside = λ s h. within s (m s) (p.inside s h); replayed = λ s h. again s (m s) (p.replayed s h) }
  where
    within : (s : Running) (o : Outcome Running A) → Inside s o → Inside s (after o f)
    within s (Gives a u) r = inside_then s u a r (f a u) ((q a).inside u r.stays)
    within s (Stops why u) r = record { told = r.told; trace = r.trace; stays = tt; skips = r.skips }

    again : (s : Running) (o : Outcome Running A) → Replayed s o (λ answered. m (record s { hooking = Told answered })) → Replayed s (after o f) (λ answered. after (m (record s { hooking = Told answered })) f)
    again s (Gives a u) r =
        let next = (q a).replayed u r.stays in
        let ours = answers_in r.told in
        let theirs = answers_in next.told in
        record {
          told = r.told ++ next.told;
          trace = onward s.trace u.trace (state_left (f a u)).trace r.told next.told r.trace next.trace;
          stays = next.stays;
          replays = λ rest.
              let split : answers_in (r.told ++ next.told) ++ rest ≡ ours ++ (theirs ++ rest) = ap (λ l. l ++ rest) (answers_then r.told next.told) ∙ append_assoc ours theirs rest in
              let first : after (m (record s { hooking = Told (answers_in (r.told ++ next.told) ++ rest) })) f ≡ f a (record u { hooking = Told (theirs ++ rest) }) =
              ap (λ l. after (m (record s { hooking = Told l })) f) split ∙ ap (λ o. after o f) (r.replays (theirs ++ rest)) in
              subst (λ o. Replays rest (f a u) o) (sym first) (next.replays rest);
        }
    again s (Stops why u) r = record { told = r.told; trace = r.trace; stays = tt; replays = λ rest. let x = r.replays rest in (x.0, ap (λ o. after o f) x.1) }

-- ---- single steps

-- what gives something and tells nothing of answers
steps : {A : Type 0} (s u : Running) (told : List Happening) (a : A) (again : List Answered → Outcome Running A) → u.trace ≡ s.trace ++ told → Skips told → is_outside u.hooking ≡ false
    → ((rest : List Answered) → again rest ≡ Gives a (record u { hooking = Told rest })) → Replayed s (Gives a u) again
steps s u told a again t k h e =
    record {
      told = told;
      trace = t;
      stays = h;
      replays = λ rest. ap (λ l. again (l ++ rest)) k ∙ e rest;
    }

inside_steps : {A : Type 0} (s u : Running) (told : List Happening) (a : A) → u.trace ≡ s.trace ++ told → Skips told → is_outside u.hooking ≡ true → Inside s (Gives a u)
inside_steps s u told a t k h = record { told = told; trace = t; stays = h; skips = k }

-- what tells nothing, and gives the same however hook calls are answered
quiet : {A : Type 0} (m m' : Doing Running A) (value : Running → A) (becomes : Running → Running) → ((s : Running) → m s ≡ Gives (value s) (becomes s))
    → ((s : Running) → (becomes s).trace ≡ s.trace) → ((s : Running) → (becomes s).hooking ≡ s.hooking)
    → ((s : Running) (h : Hooking) → m (record s { hooking = h }) ≡ Gives (value s) (record (becomes s) { hooking = h })) → Following A m m'
quiet {A} m m' value becomes e t h again =
    record {
      inside = λ s o. subst (λ x. Inside s x) (sym (e s)) (inside_steps s (becomes s) [] (value s) (t s ∙ sym (append-nil s.trace)) refl (ap is_outside (h s) ∙ o));
      replayed = λ s o. subst (λ x. Replayed s x (λ answered. m (record s { hooking = Told answered }))) (sym (e s)) (steps s (becomes s) [] (value s) (λ answered. m (record s { hooking = Told answered })) (t s ∙ sym (append-nil s.trace)) refl (ap is_outside (h s) ∙ o) (λ rest. again s (Told rest)));
    }

-- what tells this, of which nothing is an answer
tells_so : (m m' : Doing Running (Unit {0})) (told : Running → List Happening) (becomes : Running → Running) → ((s : Running) → Skips (told s)) → ((s : Running) → m s ≡ Gives tt (becomes s))
    → ((s : Running) → (becomes s).trace ≡ s.trace ++ told s) → ((s : Running) → (becomes s).hooking ≡ s.hooking)
    → ((s : Running) (h : Hooking) → m (record s { hooking = h }) ≡ Gives tt (record (becomes s) { hooking = h })) → Following (Unit {0}) m m'
tells_so m m' told becomes k e t h again =
    record {
      inside = λ s o. subst (λ x. Inside s x) (sym (e s)) (inside_steps s (becomes s) (told s) tt (t s) (k s) (ap is_outside (h s) ∙ o));
      replayed = λ s o. subst (λ x. Replayed s x (λ answered. m (record s { hooking = Told answered }))) (sym (e s)) (steps s (becomes s) (told s) tt (λ answered. m (record s { hooking = Told answered })) (t s) (k s) (ap is_outside (h s) ∙ o) (λ rest. again s (Told rest)));
    }

stops : {A : Type 0} (m m' : Doing Running A) (why : _) → ((s : Running) → m s ≡ Stops why s) → Following A m m'
stops m m' why e =
    record {
      inside = λ s o. subst (λ x. Inside s x) (sym (e s)) (record { told = []; trace = sym (append-nil s.trace); stays = tt; skips = refl });
      replayed = λ s o. subst (λ x. Replayed s x (λ answered. m (record s { hooking = Told answered }))) (sym (e s))
          (record { told = []; trace = sym (append-nil s.trace); stays = tt; replays = λ rest. (Told rest, e (record s { hooking = Told rest })) });
    }

turns : Following (Unit {0}) take_turn take_turn
turns = record { inside = λ s o. within s s.turns o; replayed = λ s o. again s s.turns o }
  where
    within : (s : Running) (n : ℕ) → is_outside s.hooking ≡ true → Inside s (turn_of n s)
    within s zero o = record { told = []; trace = sym (append-nil s.trace); stays = tt; skips = refl }
    within s (suc n) o = inside_steps s (record s { turns = n }) [] tt (sym (append-nil s.trace)) refl o

    again : (s : Running) (n : ℕ) → is_outside s.hooking ≡ false → Replayed s (turn_of n s) (λ answered. turn_of n (record s { hooking = Told answered }))
    again s zero o = record { told = []; trace = sym (append-nil s.trace); stays = tt; replays = λ rest. (Told rest, refl) }
    again s (suc n) o = steps s (record s { turns = n }) [] tt (λ answered. turn_of (suc n) (record s { hooking = Told answered })) (sym (append-nil s.trace)) refl o (λ rest. refl)

asks_heap : Following (List Object) (asked heap_of) (asked heap_of)
asks_heap = quiet (asked heap_of) (asked heap_of) heap_of (λ s. s) (λ s. refl) (λ s. refl) (λ s. refl) (λ s h. refl)

logs_so : (all : List Loc) → Following (Unit {0}) (logged all) (logged all)
logs_so all = tells_so (logged all) (logged all) (λ s. logs_told all) (λ s. record s { log = s.log ++ all; trace = s.trace ++ logs_told all }) (λ s. skips_logs all) (λ s. refl) (λ s. refl) (λ s. refl) (λ s h. refl)

becoming : (a : ℕ) (differing : Object → Object → List Loc) (old : Object) (b : Becoming) → Following (Unit {0}) (becomes_so a differing old b) (becomes_so a differing old b)
becoming a differing old (Becomes new) =
    binds (replaced_at a new) (replaced_at a new) (λ u. logged (differing old new)) (λ u. logged (differing old new))
    (quiet (replaced_at a new) (replaced_at a new) (λ s. tt) (λ s. record s { heap = set s.heap a new }) (λ s. refl) (λ s. refl) (λ s. refl) (λ s h. refl)) (λ u. logs_so (differing old new))
becoming a differing old (Stays f) = stops (fault f) (fault f) (Faults f) (λ s. refl)

acts : (a : ℕ) (change : Object → Becoming) (differing : Object → Object → List Loc) → Following (Unit {0}) (becomes_by a change differing) (becomes_by a change differing)
acts a change differing =
    let next : List Object → Doing Running (Unit {0}) = λ heap. becomes_so a differing (object_at heap a) (change (object_at heap a)) in
    binds (asked heap_of) (asked heap_of) next next asks_heap (λ heap. becoming a differing (object_at heap a) (change (object_at heap a)))

trace_laws : Trace_laws Following
trace_laws =
    record {
      gives = λ {A} a. quiet (λ s. Gives a s) (λ s. Gives a s) (λ s. a) (λ s. s) (λ s. refl) (λ s. refl) (λ s. refl) (λ s h. refl);
      bind = λ {A} {B} {m} {m'} {f} {f'} p q. binds m m' f f' p q;
      asks_trace = λ {A} f. quiet _ _ (λ s. f s.trace) (λ s. s) (λ s. refl) (λ s. refl) (λ s. refl) (λ s h. refl);
    }

pub laws : (names : Site → List Text) → Laws Following
laws names =
    record {
      names = names;
      gives = λ {A} a. quiet (λ s. Gives a s) (λ s. Gives a s) (λ s. a) (λ s. s) (λ s. refl) (λ s. refl) (λ s. refl) (λ s h. refl);
      faults = λ {A} f. stops _ _ _ (λ s. refl);
      ends = λ {A} m. stops _ m _ (λ s. refl);
      bind = λ {A} {B} {m} {m'} {f} {f'} p q. binds m m' f f' p q;
      turn = turns;
      tracks = λ {A} {m} {m'} p. finds_tracked Following trace_laws {A = A} {m = m} {m' = m'} p;
      asks = λ {A} f e. quiet _ _ f (λ s. s) (λ s. refl) (λ s. refl) (λ s. refl) (λ s h. ap (λ a. Gives a (record s { hooking = h })) (e s s.turns h s.trace s.kept));
      tells = λ f e q. tells_so _ _ f (λ s. record s { trace = s.trace ++ f s }) (λ s. skips_only (f s) (q s)) (λ s. refl) (λ s. refl) (λ s. refl) (λ s h. ap (λ all. Gives tt (record s { hooking = h; trace = s.trace ++ all })) (e s s.turns h s.trace s.kept));
      makes = λ o. quiet _ _ (λ s. length s.heap) (λ s. record s { heap = s.heap ++ (o ∷ []) }) (λ s. refl) (λ s. refl) (λ s. refl) (λ s h. refl);
      acts = λ a change differing k q. acts a change differing;
      logs = logs_so;
      prints = λ line. tells_so _ _ (λ s. Did_print line ∷ []) (λ s. record s { lines = s.lines ++ (line ∷ []); trace = s.trace ++ (Did_print line ∷ []) }) (λ s. refl) (λ s. refl) (λ s. refl) (λ s. refl) (λ s h. refl);
      sets = λ f. quiet _ _ (λ s. tt) (λ s. record s { locals = f s.locals }) (λ s. refl) (λ s. refl) (λ s. refl) (λ s h. refl);
      by_turns = λ {A} {f} {f'} p. record { inside = λ s o. (p s.turns s.turns (omega arith)).inside s o; replayed = λ s o. (p s.turns s.turns (omega arith)).replayed s o };
    }

pub named : (names : Site → List Text) → (laws names).names ≡ names
unfolding laws
named names = refl

-- ---- hook calls

more_outside : (hook : Hook) (h : Hooking) → is_outside (one_more hook h) ≡ is_outside h
more_outside hook Outside = refl
more_outside hook (Mounting path before so_far) = refl
more_outside hook (Again rest) = refl
more_outside hook (Told rest) = refl

makes_hook : (hook : Hook) → Following (Unit {0}) (hook_made hook) (hook_made hook)
makes_hook hook =
    record {
      inside = λ s o. inside_steps s (record s { hooking = one_more hook s.hooking }) [] tt (sym (append-nil s.trace)) refl (more_outside hook s.hooking ∙ o);
      replayed = λ s o. steps s (record s { hooking = one_more hook s.hooking }) [] tt (λ answered. hook_made hook (record s { hooking = Told answered })) (sym (append-nil s.trace)) refl (more_outside hook s.hooking ∙ o) (λ rest. refl);
    }

module _ (kind : Hook_kind) (arguments : List Value) where
  -- where hook calls are given nothing
  nothing_given : (s : Running) → is_outside s.hooking ≡ true → Inside s (answered_hook kind arguments s)
  nothing_given s o = subst (λ x. Inside s x) (sym (outside_is kind arguments s o)) (inside_steps s s [] Gives_nothing (sym (append-nil s.trace)) refl o)

  -- where they are answered
  answer_replayed : (s : Running) → is_outside s.hooking ≡ false → Replayed s (answered_hook kind arguments s) (λ answered. answered_hook kind arguments (record s { hooking = Told answered }))
  answer_replayed s o =
      let r = answers kind arguments s.hooking s in
      let answered : Answered = record { answer = r.value; made = r.made } in
      let told : List Happening = Hooked kind arguments answered ∷ [] in
      let u : Running = record s { heap = s.heap ++ r.made; hooking = r.hooking; trace = s.trace ++ told } in
      subst (λ x. Replayed s x (λ all. answered_hook kind arguments (record s { hooking = Told all }))) (sym (answered_is kind arguments s r.value r.made r.hooking o r.is))
      (record {
        told = told;
        trace = refl;
        stays = r.stays o;
        replays = λ rest.
            let t : Running = record s { hooking = Told (answered ∷ rest) } in
            answered_is kind arguments t r.value r.made (Told rest) refl (ap (λ x. after x (λ v w. Gives r.value w)) (all_made_is r.made (record s { hooking = Told rest })));
      })

-- The function of a task or a computed runs where hook calls are given nothing, however they are answered around it;
-- `opening` is told before it, and `closing` behind what it gives.
module _ {A : Type 0} (m m' : Doing Running A) (p : Following A m m') (opening : Happening) (closing : A → Happening)
    (opens : Skips (opening ∷ [])) (closes : (a : A) → Skips (closing a ∷ [])) where
  -- the state in which the function runs
  abbrev begun : Running → Running
  begun s = record s { hooking = Outside; trace = s.trace ++ (opening ∷ []) }

  -- what comes behind it
  abbrev closed : Hooking → Outcome Running A → Outcome Running A
  closed h o = after (after o (λ a u. Gives a (record u { trace = u.trace ++ (closing a ∷ []) }))) (λ a u. Gives a (record u { hooking = h }))

  -- all that is told
  abbrev around : A → List Happening → List Happening
  around a told = opening ∷ (told ++ (closing a ∷ []))

  around_skips : (a : A) (told : List Happening) → Skips told → Skips (around a told)
  around_skips a told k = skips_then (opening ∷ []) (told ++ (closing a ∷ [])) opens (skips_then told (closing a ∷ []) k (closes a))

  around_trace : (a : A) (s u : Running) (told : List Happening) → u.trace ≡ (s.trace ++ (opening ∷ [])) ++ told → u.trace ++ (closing a ∷ []) ≡ s.trace ++ around a told
  around_trace a s u told e = ap (λ l. l ++ (closing a ∷ [])) e ∙ (append_assoc (s.trace ++ (opening ∷ [])) told (closing a ∷ []) ∙ append_assoc s.trace (opening ∷ []) (told ++ (closing a ∷ [])))

  part_inside : (s : Running) (o : Outcome Running A) → Inside (begun s) o → is_outside s.hooking ≡ true → Inside s (closed s.hooking o)
  part_inside s (Gives a u) r h = inside_steps s (record u { trace = u.trace ++ (closing a ∷ []); hooking = s.hooking }) (around a r.told) a (around_trace a s u r.told r.trace) (around_skips a r.told r.skips) h
  part_inside s (Stops why u) r h = record { told = opening ∷ r.told; trace = r.trace ∙ append_assoc s.trace (opening ∷ []) r.told; stays = tt; skips = skips_then (opening ∷ []) r.told opens r.skips }

  part_replayed : (s : Running) (o : Outcome Running A) → Inside (begun s) o → is_outside s.hooking ≡ false → Replayed s (closed s.hooking o) (λ answered. closed (Told answered) o)
  part_replayed s (Gives a u) r h =
      steps s (record u { trace = u.trace ++ (closing a ∷ []); hooking = s.hooking }) (around a r.told) a (λ answered. closed (Told answered) (Gives a u)) (around_trace a s u r.told r.trace) (around_skips a r.told r.skips) h (λ rest. refl)
  part_replayed s (Stops why u) r h =
      record { told = opening ∷ r.told; trace = r.trace ∙ append_assoc s.trace (opening ∷ []) r.told; stays = tt; replays = λ rest. (u.hooking, refl) }

  runs_part : (doing doing' : Doing Running A) → ((s : Running) → doing s ≡ closed s.hooking (m (begun s))) → Following A doing doing'
  runs_part doing doing' e =
      record {
        inside = λ s h. subst (λ o. Inside s o) (sym (e s)) (part_inside s (m (begun s)) (p.inside (begun s) refl) h);
        replayed = λ s h.
            let r : Replayed s (closed s.hooking (m (begun s))) (λ answered. closed (Told answered) (m (begun s))) = part_replayed s (m (begun s)) (p.inside (begun s) refl) h in
            let t : Replayed s (doing s) (λ answered. closed (Told answered) (m (begun s))) = subst (λ o. Replayed s o (λ answered. closed (Told answered) (m (begun s)))) (sym (e s)) r in
            record { told = t.told; trace = t.trace; stays = t.stays; replays = λ rest. subst (λ o. Replays rest (doing s) o) (sym (e (record s { hooking = Told (answers_in t.told ++ rest) }))) (t.replays rest) };
      }

-- what is told behind a computed's function may be told before or after hook calls are answered as before
told_last : (a : ℕ) (h : Hooking) (o : Outcome Running Value)
    → after (after o (λ v u. Gives v (record u { hooking = h }))) (λ v u. Gives v (record u { trace = u.trace ++ (Computed_so a v ∷ []) }))
    ≡ after (after o (λ v u. Gives v (record u { trace = u.trace ++ (Computed_so a v ∷ []) }))) (λ v u. Gives v (record u { hooking = h }))
told_last a h (Gives v u) = refl
told_last a h (Stops why u) = refl

hook_laws : Hook_laws Following
hook_laws =
    record {
      answers = λ kind arguments. record { inside = λ s o. nothing_given kind arguments s o; replayed = λ s o. answer_replayed kind arguments s o };
      makes_hook = makes_hook;
      runs_task = λ {A} {m} {m'} p. runs_part m m' p (Began The_task) (λ a. Left The_task) refl (λ a. refl) (unhooked (as_part The_task m)) (unhooked (as_part The_task m')) (λ s. refl);
      runs_computed = λ a {m} {m'} p. runs_part m m' p (Computing a) (λ v. Computed_so a v) refl (λ v. refl) (as_computed a (unhooked m)) (as_computed a (unhooked m')) (λ s. told_last a s.hooking (m (record s { hooking = Outside; trace = s.trace ++ (Computing a ∷ []) })));
    }

following : (program : Program) (d : ℕ) → Enter_alike Following (entering program called_anew d) (entering program called_anew d)
following program zero mode running f arguments = (laws (captures_in program)).ends _
following program (suc d) mode running f arguments =
    enters_with Following (laws (captures_in program)) hook_laws program (named (captures_in program)) called_anew (calls_anew Following hook_laws) (entering program called_anew d) (entering program called_anew d) (following program d) mode running f arguments

pub hooks_replay : Of_code.HooksReplay
hooks_replay program levels mode under_way f arguments s told rest o t =
    let r = (following program levels mode under_way f arguments).replayed s o in
    let same : told ≡ r.told = append_cancel_left s.trace told r.told (sym t ∙ r.trace) in
    subst (λ l. Replays rest (entering program called_anew levels mode under_way f arguments s) (entering program called_anew levels mode under_way f arguments (record s { hooking = Told (answers_in l ++ rest) }))) (sym same) (r.replays rest)
