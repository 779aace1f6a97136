-- Doings that stand for one another keep the laws.
use Rattle.std.specs.Prelude.{◌≡◌, refl, ℕ, zero, suc, ◌+◌, Bool, true, false, List, [], ◌∷◌, ◌++◌, length}
use Rattle.std.proofs.Common.{sym, ◌∙◌, ap, subst}
use Rattle.std.proofs.lemmas.List.{append_assoc, length-append}
use Rattle.qk_ast.specs.Texts.{Text}
use Rattle.qk_meaning.specs.Value.{Value, Fields}
use Rattle.qk_meaning.specs.World.{Loc}
use Rattle.qk_meaning.specs.Operators.{is_true}
use Rattle.qk_meaning.specs.Doing.{Outcome, Gives, Stops, Doing, ◌>>=◌, after, give, chosen, ended}
use Rattle.qk_meaning.specs.Running.{Running, Pure, noted, logs_told, reads_at, turn_of, take_turn, Hooking, Outside, unhooked}
use Rattle.qk_meaning.specs.Happening.{Happening, Computing, Computed_so}
use Rattle.qk_meaning.specs.Ties.{Ties, Apart, Paired, Stands, Loc_stands, Pairwise, no_more, one_more}
use Rattle.qk_meaning.specs.Alike.{Reach, deeper, Locals_stand, Happenings_stand, both_read, both_log, both_print, both_computing, both_computed, Running_stands, Agree, both_give, both_stop, Doings_stand, Hookings_stand, both_outside}
use Rattle.qk_meaning.specs.Worlds_stand.{Start, At, Logs_stand}
use Rattle.qk_alike.specs.Meanings_stand.{Flows_stand, onward, broke, continued, returned}
use Rattle.qk_meaning.specs.Setting.{Entering, called_anew}
use Rattle.qk_alike.specs.Computed_alike.{Entered_alike}
use Rattle.qk_meaning.specs.Flow.{Flow, Onward, then_next, repeated, opened, scoped, within}
use Rattle.qk_alike.proofs.Scopes.{opens, closes, reached, held, there_alike, found_values, assigned_alike}
use Rattle.qk_alike.proofs.Lists.{appends, lengths}
use Rattle.qk_alike.proofs.Heaps.{heaps_set, heaps_grow, newest}
use Rattle.qk_alike.proofs.Doing_laws.{Done, done, Laws}

module _ (t : Ties) (b : Start) where
  -- ---- logs

  logs_grow : {log log' more more' : List Loc} → Logs_stand t b log log' → Pairwise (Loc_stands t) more more' → Logs_stand t b (log ++ more) (log' ++ more')
  logs_grow {log} {log'} {more} {more'} l h = record {
    logged = l.logged ++ more;
    logged' = l.logged' ++ more';
    left = ap (λ x. x ++ more) l.left ∙ append_assoc b.log l.logged more;
    right = ap (λ x. x ++ more') l.right ∙ append_assoc b.log' l.logged' more';
    match = appends l.match h;
  }

  at_now : {log log' : List Loc} → Logs_stand t b log log' → At b (length log) (length log')
  at_now l = record {
    since = length l.logged;
    left = ap length l.left ∙ length-append b.log l.logged;
    right = ap length l.right ∙ (length-append b.log' l.logged' ∙ ap (λ n. length b.log' + n) (sym (lengths l.match)));
  }

  reads_stand : {n n' : ℕ} {all all' : List Loc} → At b n n' → Pairwise (Loc_stands t) all all' → Pairwise (Happenings_stand t b) (reads_at n all) (reads_at n' all')
  reads_stand at no_more = no_more
  reads_stand at (one_more h rest) = one_more (both_read h at) (reads_stand at rest)

  logs_stand : {all all' : List Loc} → Pairwise (Loc_stands t) all all' → Pairwise (Happenings_stand t b) (logs_told all) (logs_told all')
  logs_stand no_more = no_more
  logs_stand (one_more h rest) = one_more (both_log h) (logs_stand rest)

  -- ---- states

  tells : {r : Reach} {s s' : Running} {more more' : List Happening} → Running_stands t b r s s' → Pairwise (Happenings_stand t b) more more' → Running_stands t b r (record s { trace = s.trace ++ more }) (record s' { trace = s'.trace ++ more' })
  tells k h = record { left = record { heap = k.left.heap; log = k.left.log; lines = k.left.lines; turns = k.left.turns; trace = appends k.left.trace h }; locals = k.locals; hooking = k.hooking }

  names_become : {r : Reach} (q : Reach) {s s' : Running} {f g : Fields} → Running_stands t b r s s' → Locals_stand t q.free q.captured q.own f g → Running_stands t b q (record s { locals = f }) (record s' { locals = g })
  names_become q k h = record { left = record { heap = k.left.heap; log = k.left.log; lines = k.left.lines; turns = k.left.turns; trace = k.left.trace }; locals = h; hooking = k.hooking }

  gave : {r : Reach} {s s' : Running} → Running_stands t b r s s' → Agree t b r Done (Gives tt s) (Gives tt s')
  gave k = both_give done k

  -- ---- one thing after another

  afters : {r q : Reach} {A B C D : Type 0} {R : A → B → Type 0} {S : C → D → Type 0} {f : A → Doing Running C} {f' : B → Doing Running D} (o : Outcome Running A) (o' : Outcome Running B) → Agree t b r R o o' →
      ((x : A) (x' : B) → R x x' → (s s' : Running) → Running_stands t b r s s' → Agree t b q S (f x s) (f' x' s')) → Agree t b q S (after o f) (after o' f')
  afters (Gives x s) (Gives x' s') (both_give h k) p = p x x' h s s' k
  afters (Stops why s) (Stops why' s') (both_stop k) p = both_stop k
  afters (Gives x s) (Stops why s') h p = elim h [ ]
  afters (Stops why s) (Gives x s') h p = elim h [ ]

  pub binds : {r q : Reach} {A B C D : Type 0} {R : A → B → Type 0} {S : C → D → Type 0} (m : Doing Running A) (m' : Doing Running B) (f : A → Doing Running C) (f' : B → Doing Running D) → Doings_stand t b r A B R m m' →
      ((x : A) (y : B) → R x y → (s s' : Running) → Running_stands t b r s s' → Agree t b q S (f x s) (f' y s')) → (s s' : Running) → Running_stands t b r s s' → Agree t b q S (◌>>=◌ m f s) (◌>>=◌ m' f' s')
  binds m m' f f' p q s s' k = afters (m s) (m' s') (p s s' k) q

  -- hook calls answered so
  hooked : {r : Reach} {s s' : Running} {h h' : Hooking} → Hookings_stand t b h h' → Running_stands t b r s s' → Running_stands t b r (record s { hooking = h }) (record s' { hooking = h' })
  hooked q k = record { left = record { heap = k.left.heap; log = k.left.log; lines = k.left.lines; turns = k.left.turns; trace = k.left.trace }; locals = k.locals; hooking = q }

  unhooking : {r : Reach} {A B : Type 0} {R : A → B → Type 0} (m : Doing Running A) (m' : Doing Running B) → Doings_stand t b r A B R m m' → Doings_stand t b r A B R (unhooked m) (unhooked m')
  unhooking m m' p s s' k =
      afters (m (record s { hooking = Outside })) (m' (record s' { hooking = Outside })) (p _ _ (hooked both_outside k)) (λ x y h u u' l. both_give h (hooked k.hooking l))

  -- each read of a computed calls its function, in which no hooks are answered
  pub anew : (enter enter' : Entering) → Entered_alike t b enter enter' → (r : Reach) (running running' : List ℕ) (x y : ℕ) (f g : Value) → Pairwise (Paired t.pairing) running running' → Paired t.pairing x y → Stands t f g →
      Doings_stand t b r Value Value (Stands t) (called_anew enter running x f) (called_anew enter' running' y g)
  anew enter enter' E r running running' x y f g rr xy h =
      let one : Doing Running Value = unhooked (enter Pure (x ∷ running) f []) in
      let other : Doing Running Value = unhooked (enter' Pure (y ∷ running') g []) in
      binds (noted (Computing x)) (noted (Computing y)) (λ u. ◌>>=◌ one (λ v. ◌>>=◌ (noted (Computed_so x v)) (λ u. give v))) (λ u. ◌>>=◌ other (λ v. ◌>>=◌ (noted (Computed_so y v)) (λ u. give v)))
      (λ s s' k. gave (tells k (one_more (both_computing xy) no_more)))
      (λ u u' d. binds one other (λ v. ◌>>=◌ (noted (Computed_so x v)) (λ u. give v)) (λ v. ◌>>=◌ (noted (Computed_so y v)) (λ u. give v))
      (unhooking (enter Pure (x ∷ running) f []) (enter' Pure (y ∷ running') g []) (E r Pure (x ∷ running) (y ∷ running') f g [] [] (one_more xy rr) h no_more))
      (λ v v' i. binds (noted (Computed_so x v)) (noted (Computed_so y v')) (λ u. give v) (λ u. give v') (λ s s' k. gave (tells k (one_more (both_computed xy i) no_more))) (λ u u' d s s' k. both_give i k)))

  turns : {r : Reach} → Doings_stand t b r _ _ Done take_turn take_turn
  turns {r} s s' k = subst (λ n. Agree t b r Done (turn_of s.turns s) (turn_of n s')) k.left.turns (go s.turns)
    where
      go : (n : ℕ) → Agree t b r Done (turn_of n s) (turn_of n s')
      go zero = both_stop k.left
      go (suc n) = gave (record { left = record { heap = k.left.heap; log = k.left.log; lines = k.left.lines; turns = refl; trace = k.left.trace }; locals = k.locals; hooking = k.hooking })

  choosing : {r : Reach} {A B : Type 0} {R : A → B → Type 0} (x : Bool) (m : Doing Running A) (m' : Doing Running B) (n : Doing Running A) (n' : Doing Running B) → Doings_stand t b r A B R m m' → Doings_stand t b r A B R n n' → Doings_stand t b r A B R (chosen x m n) (chosen x m' n')
  choosing true m m' n n' p q = p
  choosing false m m' n n' p q = q

  nexts : {r : Reach} {x y : Flow} {m m' : Doing Running Flow} → Flows_stand t x y → Doings_stand t b r _ _ (Flows_stand t) m m' → Doings_stand t b r _ _ (Flows_stand t) (then_next x m) (then_next y m')
  nexts onward p = p
  nexts continued p = p
  nexts broke p = λ s s' k. both_give onward k
  nexts (returned h) p = λ s s' k. both_give (returned h) k

  module _ (apart : Apart t) (truths : (v w : Value) → Stands t v w → is_true v ≡ is_true w) where
    loops : {r : Reach} (c c' : Doing Running Value) (d d' : Doing Running Flow) → Doings_stand t b r _ _ (Stands t) c c' → Doings_stand t b r _ _ (Flows_stand t) d d' → (n : ℕ) → Doings_stand t b r _ _ (Flows_stand t) (repeated n c d) (repeated n c' d')
    loops {r} c c' d d' p q zero =
        binds c c' (λ v. chosen (is_true v) ended (give Onward)) (λ v. chosen (is_true v) ended (give Onward)) p
        (λ v w h. subst (λ x. Doings_stand t b r _ _ (Flows_stand t) (chosen (is_true v) ended (give Onward)) (chosen x ended (give Onward))) (truths v w h)
        (choosing (is_true v) ended ended (give Onward) (give Onward) (λ s s' k. both_stop k.left) (λ s s' k. both_give onward k)))
    loops {r} c c' d d' p q (suc n) =
        let again = loops c c' d d' p q n in
        let next : Flow → Doing Running Flow = λ flow. then_next flow (repeated n c d) in
        let next' : Flow → Doing Running Flow = λ flow. then_next flow (repeated n c' d') in
        let turn : Doing Running Flow = ◌>>=◌ take_turn (λ u. ◌>>=◌ d next) in
        let turn' : Doing Running Flow = ◌>>=◌ take_turn (λ u. ◌>>=◌ d' next') in
        binds c c' (λ v. chosen (is_true v) turn (give Onward)) (λ v. chosen (is_true v) turn' (give Onward)) p
        (λ v w h. subst (λ x. Doings_stand t b r _ _ (Flows_stand t) (chosen (is_true v) turn (give Onward)) (chosen x turn' (give Onward))) (truths v w h)
        (choosing (is_true v) turn turn' (give Onward) (give Onward)
        (binds take_turn take_turn (λ u. ◌>>=◌ d next) (λ u. ◌>>=◌ d' next') turns (λ u u' e. binds d d' next next' q (λ x y f. nexts f again)))
        (λ s s' k. both_give onward k)))

    pub keeps : Laws t b (Doings_stand t b)
    keeps = record {
      gives = λ h s s' k. both_give h k;
      stops = λ why s s' k. both_stop k.left;
      bind = λ {r} {A} {B} {C} {D} {R} {S} {m} {m'} {f} {f'} p q. binds m m' f f' p q;
      turn = turns;
      heaps = λ s s' k. both_give k.left.heap k;
      scope_names = λ s s' k. both_give k.locals k;
      local_values = λ name h s s' k. both_give (found_values (reached name k.locals h)) k;
      sizes = λ s s' k. both_give (record { ahead = k.left.heap.ahead }) k;
      log_lengths = λ s s' k. both_give (at_now k.left.log) k;
      traces = λ s s' k. both_give k.left.trace k;
      trace_lengths = λ s s' k. both_give (lengths k.left.trace) k;
      hookings = λ s s' k. both_give k.hooking k;
      reads = λ h s s' k. gave (tells k (reads_stand (at_now k.left.log) h));
      notes = λ h s s' k. gave (tells k (one_more h no_more));
      makes = λ o s s' k. both_give (newest t apart k.left.heap) (record { left = record { heap = heaps_grow t apart k.left.heap o; log = k.left.log; lines = k.left.lines; turns = k.left.turns; trace = k.left.trace }; locals = k.locals; hooking = k.hooking });
      replaces = λ {r} {x} {y} xy o s s' k. gave (record { left = record { heap = heaps_set t apart x y k.left.heap xy o; log = k.left.log; lines = k.left.lines; turns = k.left.turns; trace = k.left.trace }; locals = k.locals; hooking = k.hooking });
      logs = λ l s s' k. gave (record { left = record { heap = k.left.heap; log = logs_grow k.left.log l; lines = k.left.lines; turns = k.left.turns; trace = appends k.left.trace (logs_stand l) }; locals = k.locals; hooking = k.hooking });
      prints = λ line s s' k. gave (record { left = record { heap = k.left.heap; log = k.left.log; lines = ap (λ l. l ++ line ∷ []) k.left.lines; turns = k.left.turns; trace = appends k.left.trace (one_more both_print no_more) }; locals = k.locals; hooking = k.hooking });
      hooks = λ f f' p s s' k. gave (record { left = record { heap = k.left.heap; log = k.left.log; lines = k.left.lines; turns = k.left.turns; trace = k.left.trace }; locals = k.locals; hooking = p s.hooking s'.hooking k.hooking });
      assigns = λ {r} name h s s' k. gave (names_become r k (assigned_alike name h k.locals));
      scopes = λ {r} names {A} {B} {R} {m} {m'} p s s' k. in_scope r names m m' p s s' k;
      withins = λ {r} inner {f} {g} {A} {B} {R} {m} {m'} h p s s' k. inside r inner f g m m' h p s s' k;
      peeks = λ {r} {A} {B} {R} {m} {m'} f f' p p' q s s' k. subst (λ o. Agree t b r R o (m' s')) (sym (p s (λ name e. held name k.locals e)))
          (subst (λ o. Agree t b r R (f s.locals s) o) (sym (p' s' (λ name e. sym (there_alike name s.locals s'.locals (reached name k.locals e)) ∙ held name k.locals e))) (q s.locals s'.locals k.locals s s' k));
      repeats = λ {r} {c} {c'} {d} {d'} p q s s' k. subst (λ n. Agree t b r (Flows_stand t) (repeated s.turns c d s) (repeated n c' d' s')) k.left.turns (loops c c' d d' p q s.turns s s' k);
    }
      where
        in_scope : (r : Reach) (names : List Text) {A B : Type 0} {R : A → B → Type 0} (m : Doing Running A) (m' : Doing Running B) → Doings_stand t b (deeper names r) A B R m m' → Doings_stand t b r A B R (scoped names m) (scoped names m')
        in_scope r names m m' p s s' k =
            afters (m (record s { locals = opened names s.locals })) (m' (record s' { locals = opened names s'.locals })) (p _ _ (names_become (deeper names r) k (opens names k.locals)))
            (λ x y h u u' l. both_give h (names_become r l (closes names l.locals)))

        inside : (r inner : Reach) (f g : Fields) {A B : Type 0} {R : A → B → Type 0} (m : Doing Running A) (m' : Doing Running B) → Locals_stand t inner.free inner.captured inner.own f g → Doings_stand t b inner A B R m m' → Doings_stand t b r A B R (within f m) (within g m')
        inside r inner f g m m' h p s s' k =
            afters (m (record s { locals = f })) (m' (record s' { locals = g })) (p _ _ (names_become inner k h)) (λ x y e u u' l. both_give e (names_become r l k.locals))
