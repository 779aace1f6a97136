-- The relation of a doing to its repetition: where the first gives, the second gives the same or ends, if the same stands in its heap at all that the first reads.
use Rattle.std.specs.Prelude.{◌≡◌, refl, ℕ, zero, suc, Bool, true, false, List, [], ◌∷◌, ◌++◌, length, ⊤}
use Rattle.std.proofs.Common.{sym, ap, subst, ◌∙◌}
use Rattle.std.proofs.lemmas.List.{append_assoc, append-nil, append_cancel_left}
use Rattle.std.proofs.lemmas.Bool.{true≢false, false≢true}
use Rattle.qk_meaning.specs.Fault.{ComputedCycle}
use Rattle.qk_meaning.specs.Setting.{is_running}
use Rattle.qk_meaning.specs.Doing.{chosen, fault, Doing, Outcome, Gives, Stops, Faults, Ends, ◌>>=◌, ◌>>◌, after, give, asked, ended}
use Rattle.qk_meaning.specs.Value.{Value, Fields}
use Rattle.qk_meaning.specs.World.{Object, Loc, Hook}
use Rattle.qk_meaning.specs.Happening.{Happening, Did_read, Entered, Used, Computing, Computed_so, Began, Left, Hooked, Hook_kind, Hook_answer, Gives_nothing}
use Rattle.qk_meaning.specs.Hooks.{gave, answer_to, answered_hook}
use Rattle.qk_meaning.proofs.Answering.{making, outside_is, answered_is}
use Rattle.qk_meaning.specs.Running.{Running, Outside, Mounting, Again, Told, Hooking, is_outside, take_turn, turn_of, noted, reads_at, locations_read, locals_become, hooking_becomes, heap_of}
use Rattle.qk_meaning.specs.Flow.{within}
use Rattle.qk_needed.specs.Deciding.{Agree_on, Same_news, no_news, both_read, both_enter, both_use, both_begin_computed, both_end_computed, both_call_hook, both_begin, both_leave, Makes_none}
use Rattle.qk_needed.proofs.Repeating_laws.{Names, Shared, Own, Relation, All_agree, Laws, Runs_none}

module _ (outer : List ℕ) (G H : List Object) (log' : List Loc) where
  -- a state of the first, and one of the second beside it
  pub record First (s : Running) : Type 0 where
    pub heap : s.heap ≡ G
    pub no_hooks : Makes_none s.hooking

  pub record Second (s t : Running) : Type 0 where
    pub heap : t.heap ≡ H
    pub log : t.log ≡ log'
    pub hooking : t.hooking ≡ s.hooking

  -- what is known of the names before, and behind
  abbrev pub Before : Names → Running → Running → Type 0
  Before Shared s t = t.locals ≡ s.locals
  Before Own s t = ⊤

  pub record Both_left (s s' t t' : Running) : Type 0 where
    pub first : s'.locals ≡ s.locals
    pub second : t'.locals ≡ t.locals

  abbrev pub Behind : Names → Running → Running → Running → Running → Type 0
  Behind Shared s s' t t' = t'.locals ≡ s'.locals
  Behind Own s s' t t' = Both_left s s' t t'

  pub record Same_again (L : Names) (A : Type 0) (s t : Running) (a b : A) (s' t' : Running) (news : List Happening) : Type 0 where
    pub value : b ≡ a
    pub second : Second s' t'
    pub names : Behind L s s' t t'
    pub more : List Happening
    pub told : t'.trace ≡ t.trace ++ more
    pub alike : Same_news news more

  abbrev pub Again_or_ends : (L : Names) {A : Type 0} → Running → Running → A → Running → List Happening → Outcome Running A → Type 0
  Again_or_ends L s t a s' news (Stops (Faults f) t') = ⊥
  Again_or_ends L s t a s' news (Stops Ends t') = ⊤
  Again_or_ends L {A} s t a s' news (Gives b t') = Same_again L A s t a b s' t' news

  pub record Goes (L : Names) (A : Type 0) (s : Running) (a : A) (s' : Running) (m' : Doing Running A) : Type 0 where
    pub news : List Happening
    pub told : s'.trace ≡ s.trace ++ news
    pub first : First s'
    pub again : (t : Running) → Second s t → Before L s t → Agree_on outer G H news → Again_or_ends L s t a s' news (m' t)

  abbrev pub Gone : (L : Names) {A : Type 0} → Running → Outcome Running A → Doing Running A → Type 0
  Gone L s (Stops why u) m' = ⊤
  Gone L {A} s (Gives a s') m' = Goes L A s a s' m'

  abbrev pub Repeated : Relation
  Repeated L A m m' = (s : Running) → First s → Gone L s (m s) m'

  -- ---- what happens one after another

  front : (news more : List Happening) → Agree_on outer G H (news ++ more) → Agree_on outer G H news
  front [] more h = tt
  front (Did_read r ∷ rest) more h = (h.0, front rest more h.1)
  front (Computing a ∷ rest) more h = (h.0, front rest more h.1)
  front (_ ∷ rest) more h = front rest more h

  back : (news more : List Happening) → Agree_on outer G H (news ++ more) → Agree_on outer G H more
  back [] more h = h
  back (Did_read r ∷ rest) more h = back rest more h.1
  back (Computing a ∷ rest) more h = back rest more h.1
  back (_ ∷ rest) more h = back rest more h

  both_news : {a b c d : List Happening} → Same_news a b → Same_news c d → Same_news (a ++ c) (b ++ d)
  both_news no_news q = q
  both_news (both_read p) q = both_read (both_news p q)
  both_news (both_enter p) q = both_enter (both_news p q)
  both_news (both_use p) q = both_use (both_news p q)
  both_news (both_begin_computed p) q = both_begin_computed (both_news p q)
  both_news (both_end_computed p) q = both_end_computed (both_news p q)
  both_news (both_call_hook p) q = both_call_hook (both_news p q)
  both_news (both_begin p) q = both_begin (both_news p q)
  both_news (both_leave p) q = both_leave (both_news p q)

  told_both : (a b c news more : List Happening) → b ≡ a ++ news → c ≡ b ++ more → c ≡ a ++ (news ++ more)
  told_both a b c news more p q = q ∙ (ap (λ x. x ++ more) p ∙ append_assoc a news more)

  next_before : (L : Names) (s s' t t' : Running) → Before L s t → Behind L s s' t t' → Before L s' t'
  next_before Shared s s' t t' p q = q
  next_before Own s s' t t' p q = tt

  behind_both : (L : Names) (s s1 s2 t t1 t2 : Running) → Behind L s s1 t t1 → Behind L s1 s2 t1 t2 → Behind L s s2 t t2
  behind_both Shared s s1 s2 t t1 t2 p q = q
  behind_both Own s s1 s2 t t1 t2 p q = record { first = q.first ∙ p.first; second = q.second ∙ p.second }

  pub binds : (L : Names) {A B : Type 0} (m m' : Doing Running A) (f f' : A → Doing Running B) → Repeated L A m m' → ((a : A) → Repeated L B (f a) (f' a)) → Repeated L B (◌>>=◌ m f) (◌>>=◌ m' f')
  binds L {A} {B} m m' f f' p q s i = go (m s) (p s i)
    where
      go : (o : Outcome Running A) → Gone L s o m' → Gone L s (after o f) (◌>>=◌ m' f')
      go (Stops why u) g = tt
      go (Gives a s1) g = go_on (f a s1) (q a s1 g.first)
        where
          go_on : (o : Outcome Running B) → Gone L s1 o (f' a) → Gone L s o (◌>>=◌ m' f')
          go_on (Stops why u) h = tt
          go_on (Gives b s2) h =
              record {
                news = g.news ++ h.news;
                told = told_both s.trace s1.trace s2.trace g.news h.news g.told h.told;
                first = h.first;
                again = λ t r n agree. second t n (back g.news h.news agree) (m' t) (g.again t r n (front g.news h.news agree));
              }
            where
              second : (t : Running) → Before L s t → Agree_on outer G H h.news → (o : Outcome Running A) → Again_or_ends L s t a s1 g.news o → Again_or_ends L s t b s2 (g.news ++ h.news) (after o f')
              second t n agree (Stops (Faults k) u) x = x
              second t n agree (Stops Ends u) x = tt
              second t n agree (Gives a' t1) x =
                  subst (λ y. Again_or_ends L s t b s2 (g.news ++ h.news) (f' y t1)) (sym x.value)
                  (third (f' a t1) (h.again t1 x.second (next_before L s s1 t t1 n x.names) agree))
                where
                  third : (o : Outcome Running B) → Again_or_ends L s1 t1 b s2 h.news o → Again_or_ends L s t b s2 (g.news ++ h.news) o
                  third (Stops (Faults k) u) y = y
                  third (Stops Ends u) y = tt
                  third (Gives b' t2) y =
                      record {
                        value = y.value;
                        second = y.second;
                        names = behind_both L s s1 s2 t t1 t2 x.names y.names;
                        more = x.more ++ y.more;
                        told = told_both t.trace t1.trace t2.trace x.more y.more x.told y.told;
                        alike = both_news x.alike y.alike;
                      }

  -- ---- the primitives

  append_none : (all : List Happening) → all ≡ all ++ []
  append_none all = sym (append-nil all)

  append_none_of : (all : List Object) → all ≡ all ++ []
  append_none_of all = sym (append-nil all)

  stays_behind : (L : Names) (s t : Running) → Before L s t → Behind L s s t t
  stays_behind Shared s t n = n
  stays_behind Own s t n = record { first = refl; second = refl }

  giving : (L : Names) {A : Type 0} (a : A) → Repeated L A (give a) (give a)
  giving L a s i =
      record {
        news = [];
        told = append_none s.trace;
        first = i;
        again = λ t r n agree. record { value = refl; second = r; names = stays_behind L s t n; more = []; told = append_none t.trace; alike = no_news };
      }

  ending : (L : Names) {A : Type 0} (m m' : Doing Running A) → Repeated L A m m' → Repeated L A m ended
  ending L {A} m m' p s i = go (m s) (p s i)
    where
      go : (o : Outcome Running A) → Gone L s o m' → Gone L s o ended
      go (Stops why u) g = tt
      go (Gives a s') g = record { news = g.news; told = g.told; first = g.first; again = λ t r n agree. tt }

  turns_behind : (L : Names) (s t : Running) (k j : ℕ) → Before L s t → Behind L s (record s { turns = k }) t (record t { turns = j })
  turns_behind Shared s t k j n = n
  turns_behind Own s t k j n = record { first = refl; second = refl }

  turning : (L : Names) → Repeated L (Unit {0}) take_turn take_turn
  turning L s i = go s.turns
    where
      go : (k : ℕ) → Gone L s (turn_of k s) take_turn
      go zero = tt
      go (suc k) = record { news = []; told = append_none s.trace; first = record { heap = i.heap; no_hooks = i.no_hooks }; again = λ t r n agree. second t r n t.turns }
        where
          second : (t : Running) → Second s t → Before L s t → (j : ℕ) → Again_or_ends L s t tt (record s { turns = k }) [] (turn_of j t)
          second t r n zero = tt
          second t r n (suc j) = record { value = refl; second = record { heap = r.heap; log = r.log; hooking = r.hooking }; names = turns_behind L s t k j n; more = []; told = append_none t.trace; alike = no_news }

  trace_behind : (L : Names) (s t : Running) (x y : List Happening) → Before L s t → Behind L s (record s { trace = x }) t (record t { trace = y })
  trace_behind Shared s t x y n = n
  trace_behind Own s t x y n = record { first = refl; second = refl }

  noting : (L : Names) (h : Happening) → Same_news (h ∷ []) (h ∷ []) → Repeated L (Unit {0}) (noted h) (noted h)
  noting L h same s i =
      record {
        news = h ∷ [];
        told = refl;
        first = record { heap = i.heap; no_hooks = i.no_hooks };
        again = λ t r n agree. record { value = refl; second = record { heap = r.heap; log = r.log; hooking = r.hooking }; names = trace_behind L s t _ _ n; more = h ∷ []; told = refl; alike = same };
      }

  looking : (L : Names) {B : Type 0} (f f' : List Object → Doing Running B) → Repeated L B (f G) (f' H) → Repeated L B (◌>>=◌ (asked heap_of) f) (◌>>=◌ (asked heap_of) f')
  looking L {B} f f' p s i = subst (λ h. Gone L s (f h s) (◌>>=◌ (asked heap_of) f')) (sym i.heap) (go (f G s) (p s i))
    where
      go : (o : Outcome Running B) → Gone L s o (f' H) → Gone L s o (◌>>=◌ (asked heap_of) f')
      go (Stops why u) g = tt
      go (Gives b s') g = record { news = g.news; told = g.told; first = g.first; again = λ t r n agree. subst (λ h. Again_or_ends L s t b s' g.news (f' h t)) (sym r.heap) (g.again t r n agree) }

  locs_agree : (at : ℕ) (locs : List Loc) → Agree_on outer G H (reads_at at locs) → All_agree G H locs
  locs_agree at [] h = tt
  locs_agree at (l ∷ rest) h = (h.0, locs_agree at rest h.1)

  same_reads : (at at' : ℕ) (locs : List Loc) → Same_news (reads_at at locs) (reads_at at' locs)
  same_reads at at' [] = no_news
  same_reads at at' (l ∷ rest) = both_read (same_reads at at' rest)

  reading : (L : Names) {A : Type 0} (locs locs' : List Loc) (a a' : A) → (All_agree G H locs → (locs' ≡ locs) × (a' ≡ a))
      → Repeated L A (◌>>◌ (locations_read locs) (give a)) (◌>>◌ (locations_read locs') (give a'))
  reading L {A} locs locs' a a' p s i =
      record {
        news = reads_at (length s.log) locs;
        told = refl;
        first = record { heap = i.heap; no_hooks = i.no_hooks };
        again = λ t r n agree. let same = p (locs_agree (length s.log) locs agree) in
            record {
              value = same.1;
              second = record { heap = r.heap; log = r.log; hooking = r.hooking };
              names = trace_behind L s t _ _ n;
              more = reads_at (length t.log) locs';
              told = refl;
              alike = subst (λ x. Same_news (reads_at (length s.log) locs) (reads_at (length t.log) x)) (sym same.0) (same_reads (length s.log) (length t.log) locs);
            };
      }

  seeing : {B : Type 0} (f f' : Fields → Doing Running B) → ((names : Fields) → Repeated Shared B (f names) (f' names)) → Repeated Shared B (◌>>=◌ (asked (λ s. s.locals)) f) (◌>>=◌ (asked (λ s. s.locals)) f')
  seeing {B} f f' p s i = go (f s.locals s) (p s.locals s i)
    where
      go : (o : Outcome Running B) → Gone Shared s o (f' s.locals) → Gone Shared s o (◌>>=◌ (asked (λ t. t.locals)) f')
      go (Stops why u) g = tt
      go (Gives b s') g = record { news = g.news; told = g.told; first = g.first; again = λ t r n agree. subst (λ names. Again_or_ends Shared s t b s' g.news (f' names t)) (sym n) (g.again t r n agree) }

  setting : (f : Fields → Fields) → Repeated Shared (Unit {0}) (locals_become f) (locals_become f)
  setting f s i =
      record {
        news = [];
        told = append_none s.trace;
        first = record { heap = i.heap; no_hooks = i.no_hooks };
        again = λ t r n agree. record { value = refl; second = record { heap = r.heap; log = r.log; hooking = r.hooking }; names = ap f n; more = []; told = append_none t.trace; alike = no_news };
      }

  names_behind : (L : Names) (s s1 t t1 : Running) → Before L s t → Behind L s (record s1 { locals = s.locals }) t (record t1 { locals = t.locals })
  names_behind Shared s s1 t t1 n = n
  names_behind Own s s1 t t1 n = record { first = refl; second = refl }

  standing_within : (L : Names) {A : Type 0} (names : Fields) (m m' : Doing Running A) → Repeated Shared A m m' → Repeated L A (within names m) (within names m')
  standing_within L {A} names m m' p s i = go (m s0) (p s0 (record { heap = i.heap; no_hooks = i.no_hooks }))
    where
      s0 : Running
      s0 = record s { locals = names }

      go : (o : Outcome Running A) → Gone Shared (record s { locals = names }) o m'
          → Gone L s (after o (λ a. ◌>>=◌ (locals_become (λ old. s.locals)) (λ u. give a))) (within names m')
      go (Stops why u) g = tt
      go (Gives a s1) g =
          record {
            news = g.news;
            told = g.told;
            first = record { heap = g.first.heap; no_hooks = g.first.no_hooks };
            again = λ t r n agree. second t n (m' (record t { locals = names })) (g.again (record t { locals = names }) (record { heap = r.heap; log = r.log; hooking = r.hooking }) refl agree);
          }
        where
          second : (t : Running) → Before L s t → (o : Outcome Running A) → Again_or_ends Shared (record s { locals = names }) (record t { locals = names }) a s1 g.news o
              → Again_or_ends L s t a (record s1 { locals = s.locals }) g.news (after o (λ b. ◌>>=◌ (locals_become (λ old. t.locals)) (λ u. give b)))
          second t n (Stops (Faults f) u) x = x
          second t n (Stops Ends u) x = tt
          second t n (Gives b t1) x = record { value = x.value; second = record { heap = x.second.heap; log = x.second.log; hooking = x.second.hooking }; names = names_behind L s s1 t t1 n; more = x.more; told = x.told; alike = x.alike }

  sharing : {A : Type 0} (m m' : Doing Running A) → Repeated Own A m m' → Repeated Shared A m m'
  sharing {A} m m' p s i = go (m s) (p s i)
    where
      go : (o : Outcome Running A) → Gone Own s o m' → Gone Shared s o m'
      go (Stops why u) g = tt
      go (Gives a s') g = record { news = g.news; told = g.told; first = g.first; again = λ t r n agree. second t n (m' t) (g.again t r tt agree) }
        where
          second : (t : Running) → t.locals ≡ s.locals → (o : Outcome Running A) → Again_or_ends Own s t a s' g.news o → Again_or_ends Shared s t a s' g.news o
          second t n (Stops (Faults f) u) x = x
          second t n (Stops Ends u) x = tt
          second t n (Gives b t') x = record { value = x.value; second = x.second; names = x.names.second ∙ (n ∙ sym x.names.first); more = x.more; told = x.told; alike = x.alike }

  hooking_asked : (L : Names) {B : Type 0} (f f' : Hooking → Doing Running B) → ((h : Hooking) → Makes_none h → Repeated L B (f h) (f' h)) → Repeated L B (◌>>=◌ (asked (λ s. s.hooking)) f) (◌>>=◌ (asked (λ s. s.hooking)) f')
  hooking_asked L {B} f f' p s i = go (f s.hooking s) (p s.hooking i.no_hooks s i)
    where
      go : (o : Outcome Running B) → Gone L s o (f' s.hooking) → Gone L s o (◌>>=◌ (asked (λ t. t.hooking)) f')
      go (Stops why u) g = tt
      go (Gives b s') g = record { news = g.news; told = g.told; first = g.first; again = λ t r n agree. subst (λ h. Again_or_ends L s t b s' g.news (f' h t)) (sym r.hooking) (g.again t r n agree) }

  hooking_behind : (L : Names) (s t : Running) (h : Hooking) → Before L s t → Behind L s (record s { hooking = h }) t (record t { hooking = h })
  hooking_behind Shared s t h n = n
  hooking_behind Own s t h n = record { first = refl; second = refl }

  hooking_set : (L : Names) (h : Hooking) → Makes_none h → Repeated L (Unit {0}) (hooking_becomes (λ old. h)) (hooking_becomes (λ old. h))
  hooking_set L h q s i =
      record {
        news = [];
        told = append_none s.trace;
        first = record { heap = i.heap; no_hooks = q };
        again = λ t r n agree. record { value = refl; second = record { heap = r.heap; log = r.log; hooking = refl }; names = hooking_behind L s t h n; more = []; told = append_none t.trace; alike = no_news };
      }

  by_the_turns : (L : Names) {A : Type 0} (f f' : ℕ → Doing Running A) → ((n n' : ℕ) → Repeated L A (f n) (f' n')) → Repeated L A (◌>>=◌ (asked (λ s. s.turns)) f) (◌>>=◌ (asked (λ s. s.turns)) f')
  by_the_turns L {A} f f' p s i = go (f s.turns s) (λ k. p s.turns k s i)
    where
      go : (o : Outcome Running A) → ((k : ℕ) → Gone L s o (f' k)) → Gone L s o (◌>>=◌ (asked (λ t. t.turns)) f')
      go (Stops why u) g = tt
      go (Gives a s') g =
          record {
            news = (g 0).news;
            told = (g 0).told;
            first = (g 0).first;
            again = λ t r n agree.
                let one : (g 0).news ≡ (g t.turns).news = append_cancel_left s.trace (g 0).news (g t.turns).news (sym (g 0).told ∙ (g t.turns).told) in
                subst (λ x. Again_or_ends L s t a s' x (f' t.turns t)) (sym one) ((g t.turns).again t r n (subst (λ x. Agree_on outer G H x) one agree));
          }

  computing : (L : Names) {A : Type 0} (m m' : Doing Running A) (a : ℕ) (b : Bool) → (is_running a outer ≡ false → b ≡ false) → Repeated L A m m'
      → Repeated L A (◌>>◌ (noted (Computing a)) m) (chosen b (fault ComputedCycle) (◌>>◌ (noted (Computing a)) m'))
  computing L {A} m m' a b test p s i = go (m s0) (p s0 (record { heap = i.heap; no_hooks = i.no_hooks }))
    where
      s0 : Running
      s0 = record s { trace = s.trace ++ Computing a ∷ [] }

      go : (o : Outcome Running A) → Gone L (record s { trace = s.trace ++ Computing a ∷ [] }) o m' → Gone L s o (chosen b (fault ComputedCycle) (◌>>◌ (noted (Computing a)) m'))
      go (Stops why u) g = tt
      go (Gives v s1) g =
          record {
            news = Computing a ∷ g.news;
            told = g.told ∙ append_assoc s.trace (Computing a ∷ []) g.news;
            first = g.first;
            again = λ t r n agree. tested t r n agree b (test agree.0);
          }
        where
          before : (l : Names) (t : Running) → Before l s t → Before l (record s { trace = s.trace ++ Computing a ∷ [] }) (record t { trace = t.trace ++ Computing a ∷ [] })
          before Shared t n = n
          before Own t n = tt

          behind : (l : Names) (t t1 : Running) → Behind l (record s { trace = s.trace ++ Computing a ∷ [] }) s1 (record t { trace = t.trace ++ Computing a ∷ [] }) t1 → Behind l s s1 t t1
          behind Shared t t1 n = n
          behind Own t t1 n = record { first = n.first; second = n.second }

          ended_so : (t : Running) (o : Outcome Running A) → Again_or_ends L (record s { trace = s.trace ++ Computing a ∷ [] }) (record t { trace = t.trace ++ Computing a ∷ [] }) v s1 g.news o → Again_or_ends L s t v s1 (Computing a ∷ g.news) o
          ended_so t (Stops (Faults f) u) x = x
          ended_so t (Stops Ends u) x = tt
          ended_so t (Gives w t1) x =
              record { value = x.value; second = x.second; names = behind L t t1 x.names; more = Computing a ∷ x.more; told = x.told ∙ append_assoc t.trace (Computing a ∷ []) x.more; alike = both_begin_computed x.alike }

          tested : (t : Running) → Second s t → Before L s t → Agree_on outer G H (Computing a ∷ g.news) → (c : Bool) → c ≡ false → Again_or_ends L s t v s1 (Computing a ∷ g.news) (chosen c (fault ComputedCycle) (◌>>◌ (noted (Computing a)) m') t)
          tested t r n agree true e = absurd (true≢false e)
          tested t r n agree false e =
              let t0 : Running = record t { trace = t.trace ++ Computing a ∷ [] } in
              ended_so t (m' t0) (g.again t0 (record { heap = r.heap; log = r.log; hooking = r.hooking }) (before L t n) agree.1)

  -- ---- hook calls

  -- what a hook call is answered where no hooks are made, and how later ones are answered
  abbrev pub answer_so : Hooking → Hook_answer
  answer_so (Again (hook ∷ rest)) = gave hook
  answer_so _ = Gives_nothing

  abbrev pub left_so : Hooking → Hooking
  left_so (Again (hook ∷ rest)) = Again rest
  left_so h = h

  gave_none : (hook : Hook) → Runs_none (gave hook)
  gave_none (Hook.Kept v) = tt
  gave_none (Hook.Provided id v) = tt
  gave_none (Hook.Tasked task) = tt

  pub runs_none : (h : Hooking) → Runs_none (answer_so h)
  runs_none Outside = tt
  runs_none (Mounting path before so_far) = tt
  runs_none (Again []) = tt
  runs_none (Again (hook ∷ rest)) = gave_none hook
  runs_none (Told answers) = tt

  pub left_none : (h : Hooking) → Makes_none h → Makes_none (left_so h)
  left_none Outside q = q
  left_none (Mounting path before so_far) q = q
  left_none (Again []) q = q
  left_none (Again (hook ∷ rest)) q = tt
  left_none (Told answers) q = q

  module _ (kind : Hook_kind) (arguments : List Value) where
    abbrev pub told_hook : Hooking → Happening
    told_hook h = Hooked kind arguments (record { answer = answer_so h; made = [] })

    abbrev pub behind_hook : Hooking → Running → Running
    behind_hook h s = record s { heap = s.heap ++ []; hooking = left_so h; trace = s.trace ++ told_hook h ∷ [] }

    answers_so : (h : Hooking) → Makes_none h → is_outside h ≡ false → (s : Running) → s.hooking ≡ h → answer_to kind arguments h s ≡ Gives (answer_so h) (making s [] (left_so h))
    answers_so Outside q o s e = absurd (false≢true (sym o))
    answers_so (Mounting path before so_far) q o s e = absurd q
    answers_so (Again []) q o s e = ap (λ x. Gives Gives_nothing (record s { hooking = x })) e ∙ ap (λ heap. Gives Gives_nothing (record s { heap = heap; hooking = Again [] })) (append_none_of s.heap)
    answers_so (Again (hook ∷ rest)) q o s e = ap (λ heap. Gives (gave hook) (record s { heap = heap; hooking = Again rest })) (append_none_of s.heap)
    answers_so (Told answers) q o s e = absurd q

    pub answered_so : (h : Hooking) → Makes_none h → is_outside h ≡ false → (s : Running) → s.hooking ≡ h → answered_hook kind arguments s ≡ Gives (answer_so h) (behind_hook h s)
    answered_so h q o s e = answered_is kind arguments s (answer_so h) [] (left_so h) (ap is_outside e ∙ o) (ap (λ x. answer_to kind arguments x s) e ∙ answers_so h q o s e)

    -- where hook calls are given nothing
    given_nothing : (L : Names) {B : Type 0} (f f' : Hook_answer → Doing Running B) → ((answer : Hook_answer) → Runs_none answer → Repeated L B (f answer) (f' answer))
        → (s : Running) → First s → is_outside s.hooking ≡ true → Gone L s (◌>>=◌ (answered_hook kind arguments) f s) (◌>>=◌ (answered_hook kind arguments) f')
    given_nothing L {B} f f' p s i o = subst (λ x. Gone L s (after x f) (◌>>=◌ (answered_hook kind arguments) f')) (sym (outside_is kind arguments s o)) (go (f Gives_nothing s) (p Gives_nothing tt s i))
      where
        go : (x : Outcome Running B) → Gone L s x (f' Gives_nothing) → Gone L s x (◌>>=◌ (answered_hook kind arguments) f')
        go (Stops why u) g = tt
        go (Gives b s1) g =
            record {
              news = g.news;
              told = g.told;
              first = g.first;
              again = λ t r n agree. subst (λ x. Again_or_ends L s t b s1 g.news (after x f')) (sym (outside_is kind arguments t (ap is_outside r.hooking ∙ o))) (g.again t r n agree);
            }

    -- where they are answered
    given_so : (L : Names) {B : Type 0} (f f' : Hook_answer → Doing Running B) → ((answer : Hook_answer) → Runs_none answer → Repeated L B (f answer) (f' answer))
        → (s : Running) → First s → is_outside s.hooking ≡ false → Gone L s (◌>>=◌ (answered_hook kind arguments) f s) (◌>>=◌ (answered_hook kind arguments) f')
    given_so L {B} f f' p s i o =
        subst (λ x. Gone L s (after x f) (◌>>=◌ (answered_hook kind arguments) f')) (sym (answered_so s.hooking i.no_hooks o s refl))
        (go (f (answer_so s.hooking) (behind_hook s.hooking s)) (p (answer_so s.hooking) (runs_none s.hooking) (behind_hook s.hooking s) (record { heap = append-nil s.heap ∙ i.heap; no_hooks = left_none s.hooking i.no_hooks })))
      where
        behind : (l : Names) (s1 t t1 : Running) → Behind l (behind_hook s.hooking s) s1 (behind_hook s.hooking t) t1 → Behind l s s1 t t1
        behind Shared s1 t t1 n = n
        behind Own s1 t t1 n = record { first = n.first; second = n.second }

        before : (l : Names) (t : Running) → Before l s t → Before l (behind_hook s.hooking s) (behind_hook s.hooking t)
        before Shared t n = n
        before Own t n = tt

        go : (x : Outcome Running B) → Gone L (behind_hook s.hooking s) x (f' (answer_so s.hooking)) → Gone L s x (◌>>=◌ (answered_hook kind arguments) f')
        go (Stops why u) g = tt
        go (Gives b s1) g =
            record {
              news = told_hook s.hooking ∷ g.news;
              told = g.told ∙ append_assoc s.trace (told_hook s.hooking ∷ []) g.news;
              first = g.first;
              again = λ t r n agree.
                  subst (λ x. Again_or_ends L s t b s1 (told_hook s.hooking ∷ g.news) (after x f')) (sym (answered_so s.hooking i.no_hooks o t r.hooking))
                  (second t (f' (answer_so s.hooking) (behind_hook s.hooking t))
                  (g.again (behind_hook s.hooking t) (record { heap = append-nil t.heap ∙ r.heap; log = r.log; hooking = refl }) (before L t n) agree));
            }
          where
            second : (t : Running) (o : Outcome Running B) → Again_or_ends L (behind_hook s.hooking s) (behind_hook s.hooking t) b s1 g.news o → Again_or_ends L s t b s1 (told_hook s.hooking ∷ g.news) o
            second t (Stops (Faults k) u) x = x
            second t (Stops Ends u) x = tt
            second t (Gives w t1) x =
                record { value = x.value; second = x.second; names = behind L s1 t t1 x.names; more = told_hook s.hooking ∷ x.more; told = x.told ∙ append_assoc t.trace (told_hook s.hooking ∷ []) x.more; alike = both_call_hook x.alike }

    answering : (L : Names) {B : Type 0} (f f' : Hook_answer → Doing Running B) → ((answer : Hook_answer) → Runs_none answer → Repeated L B (f answer) (f' answer))
        → Repeated L B (◌>>=◌ (answered_hook kind arguments) f) (◌>>=◌ (answered_hook kind arguments) f')
    answering L {B} f f' p s i = by_outside (is_outside s.hooking) refl
      where
        by_outside : (b : Bool) → is_outside s.hooking ≡ b → Gone L s (◌>>=◌ (answered_hook kind arguments) f s) (◌>>=◌ (answered_hook kind arguments) f')
        by_outside true o = given_nothing L f f' p s i o
        by_outside false o = given_so L f f' p s i o

  pub laws : Laws outer G H Repeated
  laws =
      record {
        gives = λ {L} {A} a. giving L {A = A} a;
        stops = λ {L} {A} why m s i. tt;
        ends = λ {L} {A} {m} {m'} p. ending L {A = A} m m' p;
        bind = λ {L} {A} {B} {m} {m'} {f} {f'} p q. binds L m m' f f' p q;
        turn = λ {L}. turning L;
        enters = λ {L} which. noting L (Entered which) (both_enter no_news);
        computes = λ {L} {A} {m} {m'} a b test p. computing L {A = A} m m' a b test p;
        computed = λ {L} a v. noting L (Computed_so a v) (both_end_computed no_news);
        uses = λ {L} file name. noting L (Used file name) (both_use no_news);
        hook_answers = λ {L} {B} kind arguments {f} {f'} p. answering kind arguments L {B = B} f f' p;
        begins = λ {L} part. noting L (Began part) (both_begin no_news);
        leaves = λ {L} part. noting L (Left part) (both_leave no_news);
        looks = λ {L} {B} f f' p. looking L {B = B} f f' p;
        reads = λ {L} {A} locs locs' a a' p. reading L {A = A} locs locs' a a' p;
        sees = λ {B} {f} {f'} p. seeing {B = B} f f' p;
        sets = setting;
        withins = λ {L} {A} names {m} {m'} p. standing_within L {A = A} names m m' p;
        shared = λ {A} {m} {m'} p. sharing {A = A} m m' p;
        hooks = λ {L} {B} {f} {f'} p. hooking_asked L {B = B} f f' p;
        sets_hooks = λ {L} h q. hooking_set L h q;
        by_turns = λ {L} {A} {f} {f'} p. by_the_turns L {A = A} f f' p;
      }
