-- Doings of sessions that stand for one another keep what passes and items are put together of.
use Rattle.std.specs.Prelude.{◌≡◌, refl, ℕ, zero, suc, ◌+◌, Bool, true, false, not, ◌&&◌, ◌||◌, List, [], ◌∷◌, ◌++◌, length, drop, ◌==◌, Option, Some, None, is_some}
use Rattle.std.specs.List.{list_any}
use Rattle.std.proofs.Common.{sym, ◌∙◌, ap, subst, arith}
use mathlib.Core.Path.{ap₂}
use Rattle.std.proofs.lemmas.List.{length-append}
use Rattle.qk_meaning.specs.World.{Loc, Task, Hook, Instance, World}
use Rattle.qk_meaning.specs.Places.{same_location}
use Rattle.qk_meaning.specs.Doing.{Outcome, Gives, Stops, Doing, after, asked, becomes, put_back}
use Rattle.qk_meaning.specs.Running.{Running}
use Rattle.qk_meaning.specs.Session.{Session, world_of, runs}
use Rattle.qk_meaning.specs.Settling.{is_due, Spot, due_hook, due_from, first_due, put_hook, put_task, is_quiet}
use Rattle.qk_meaning.proofs.Due.{due_over_more}
use Rattle.qk_meaning.specs.Ties.{Ties, Pairwise, no_more, one_more, Loc_stands, located_alike}
use Rattle.qk_meaning.specs.Worlds_stand.{Start, At, Logs_stand, Locs_alike, Began_alike, since_start, before_start, Tasks_stand, Hooks_stand, both_kept, both_provided, both_tasks, Instances_stand}
use Rattle.qk_meaning.specs.Alike.{Agree, both_give as gave_both, both_stop as stopped_both, Doings_stand}
use Rattle.qk_alike.proofs.Doing_laws.{Done, done, Same}
use Rattle.qk_alike.proofs.Lists.{appends, lengths, drops}
use Rattle.qk_alike.proofs.Sames.{addresses}
use Rattle.qk_session_alike.specs.Sessions_stand.{nowhere, Sessions_stand, Sessions_agree, both_give, both_stop, Session_doings}
use Rattle.qk_session_alike.proofs.Expanded.{Steps}

-- ---- which task is due

dropped_behind : {A : Type 0} (xs ys : List A) (n : ℕ) → drop (length xs + n) (xs ++ ys) ≡ drop n ys
dropped_behind [] ys n = ap (λ k. drop k ys) (none_more n)
  where
    none_more : (k : ℕ) → 0 + k ≡ k
    none_more k = omega arith
dropped_behind (x ∷ xs) ys n = ap (λ k. drop k (x ∷ (xs ++ ys))) (one_less (length xs) n) ∙ dropped_behind xs ys n
  where
    one_less : (k m : ℕ) → suc k + m ≡ suc (k + m)
    one_less k m = omega arith

any_alike : {t : Ties} (tracked tracked' : List Loc) {all all' : List Loc} → Locs_alike t tracked tracked' → Pairwise (Loc_stands t) all all' → list_any (λ l. list_any (same_location l) tracked) all ≡ list_any (λ l. list_any (same_location l) tracked') all'
any_alike tracked tracked' h no_more = refl
any_alike tracked tracked' h (one_more (located_alike {a = x} {b = y} {k = k} xy) rest) = ap₂ (λ c d. c || d) (h x y k xy) (any_alike tracked tracked' h rest)

module _ {t : Ties} {b : Start} where
  due_since : (logged logged' : List Loc) (x y : Task) → Pairwise (Loc_stands t) logged logged' → Tasks_stand t b x y → is_due (b.log ++ logged) x ≡ is_due (b.log' ++ logged') y
  due_since logged logged' x y l h = go h.began
    where
      go : Began_alike b x y → is_due (b.log ++ logged) x ≡ is_due (b.log' ++ logged') y
      go (since_start at) =
          ap (λ n. list_any (λ i. list_any (same_location i) x.tracked) (drop n (b.log ++ logged))) at.left
          ∙ (ap (λ all. list_any (λ i. list_any (same_location i) x.tracked) all) (dropped_behind b.log logged at.since)
          ∙ (any_alike x.tracked y.tracked h.tracked (drops at.since l)
          ∙ (sym (ap (λ all. list_any (λ i. list_any (same_location i) y.tracked) all) (dropped_behind b.log' logged' at.since))
          ∙ sym (ap (λ n. list_any (λ i. list_any (same_location i) y.tracked) (drop n (b.log' ++ logged'))) at.right))))
      go (before_start p q e) = due_over_more b.log logged x p ∙ (ap₂ (λ c d. c || d) e (any_alike x.tracked y.tracked h.tracked l) ∙ sym (due_over_more b.log' logged' y q))

  pub due_alike : {log log' : List Loc} (x y : Task) → Logs_stand t b log log' → Tasks_stand t b x y → is_due log x ≡ is_due log' y
  due_alike x y l h = ap (λ z. is_due z x) l.left ∙ (due_since l.logged l.logged' x y l.match h ∙ sym (ap (λ z. is_due z y) l.right))

-- a due task at one place
pub data Dues_stand (t : Ties) (b : Start) : Option Spot → Option Spot → Type 0 where
  none_due : Dues_stand t b None None
  both_due : {i h : ℕ} {x y : Task} → Tasks_stand t b x y → Dues_stand t b (Some (record { instance = i; hook = h; task = x })) (Some (record { instance = i; hook = h; task = y }))

module _ {t : Ties} {b : Start} {log log' : List Loc} (l : Logs_stand t b log log') where
  chosen_due : (c : Bool) (i h : ℕ) {x y : Task} {o o' : Option Spot} → Tasks_stand t b x y → Dues_stand t b o o' →
      Dues_stand t b (elim c as (λ z. Option Spot) [ true ↦ Some (record { instance = i; hook = h; task = x }) | false ↦ o ]) (elim c as (λ z. Option Spot) [ true ↦ Some (record { instance = i; hook = h; task = y }) | false ↦ o' ])
  chosen_due true i h k m = both_due k
  chosen_due false i h k m = m

  due_hooks : (i h : ℕ) {hooks hooks' : List Hook} → Pairwise (Hooks_stand t b) hooks hooks' → Dues_stand t b (due_hook log i h hooks) (due_hook log' i h hooks')
  due_hooks i h no_more = none_due
  due_hooks i h (one_more (both_kept k) rest) = due_hooks i (suc h) rest
  due_hooks i h (one_more (both_provided k) rest) = due_hooks i (suc h) rest
  due_hooks i h (one_more {rest = hs} {more = hs'} (both_tasks {x = x} {y = y} k) rest) =
      subst (λ c. Dues_stand t b (elim (is_due log x) as (λ z. Option Spot) [ true ↦ Some (record { instance = i; hook = h; task = x }) | false ↦ due_hook log i (suc h) hs ]) (elim c as (λ z. Option Spot) [ true ↦ Some (record { instance = i; hook = h; task = y }) | false ↦ due_hook log' i (suc h) hs' ])) (due_alike x y l k)
      (chosen_due (is_due log x) i h k (due_hooks i (suc h) rest))

  either_due : {o o' u u' : Option Spot} → Dues_stand t b o o' → Dues_stand t b u u' → Dues_stand t b (elim o as (λ z. Option Spot) [ Some spot ↦ Some spot | None ↦ u ]) (elim o' as (λ z. Option Spot) [ Some spot ↦ Some spot | None ↦ u' ])
  either_due none_due k = k
  either_due (both_due h) k = both_due h

  pub dues : (i : ℕ) {all all' : List Instance} → Pairwise (Instances_stand t b) all all' → Dues_stand t b (due_from log i all) (due_from log' i all')
  dues i no_more = none_due
  dues i (one_more h rest) = either_due (due_hooks i 0 h.hooks) (dues (suc i) rest)

some_alike : {t : Ties} {b : Start} {o o' : Option Spot} → Dues_stand t b o o' → is_some o ≡ is_some o'
some_alike none_due = refl
some_alike (both_due h) = refl

-- ---- tasks that were run again

module _ {t : Ties} {b : Start} where
  hooks_put : (n : ℕ) {x y : Hook} {hooks hooks' : List Hook} → Hooks_stand t b x y → Pairwise (Hooks_stand t b) hooks hooks' → Pairwise (Hooks_stand t b) (put_hook n x hooks) (put_hook n y hooks')
  hooks_put n h no_more = no_more
  hooks_put zero h (one_more k rest) = one_more h rest
  hooks_put (suc n) h (one_more k rest) = one_more k (hooks_put n h rest)

  pub tasks_put : (n m : ℕ) {x y : Task} {all all' : List Instance} → Tasks_stand t b x y → Pairwise (Instances_stand t b) all all' → Pairwise (Instances_stand t b) (put_task n m x all) (put_task n m y all')
  tasks_put n m h no_more = no_more
  tasks_put zero m h (one_more k rest) = one_more (record { path = k.path; component = k.component; props = k.props; hooks = hooks_put m (both_tasks h) k.hooks; view = k.view; reads = k.reads }) rest
  tasks_put (suc n) m h (one_more k rest) = one_more k (tasks_put n m h rest)

-- ---- what passes and items are put together of

-- what an item looks at of a world
pub record Seen_stand (t : Ties) (b : Start) (w v : World) : Type 0 where
  pub lines : w.lines ≡ v.lines
  pub instances : Pairwise (Instances_stand t b) w.instances v.instances

abbrev pub Session_relation : Type 1
Session_relation = (A B : Type 0) → (A → B → Type 0) → Doing Session A → Doing Session B → Type 0

pub record Session_laws (t : Ties) (b : Start) (K : Session_relation) : Type 1 where
  pub steps : Steps K
  pub ran : {A B : Type 0} {R : A → B → Type 0} {m : Doing Running A} {m' : Doing Running B} → Doings_stand t b nowhere A B R m m' → K A B R (runs m) (runs m')
  pub log_lengths : K ℕ ℕ (At b) (asked (λ w. length w.running.log)) (asked (λ w. length w.running.log))
  pub turns_now : K ℕ ℕ Same (asked (λ w. w.running.turns)) (asked (λ w. w.running.turns))
  pub executed_now : K (List Instance) (List Instance) (Pairwise (Instances_stand t b)) (asked (λ w. w.executed)) (asked (λ w. w.executed))
  pub instances_now : K (List Instance) (List Instance) (Pairwise (Instances_stand t b)) (asked (λ w. w.instances)) (asked (λ w. w.instances))
  pub world_now : K World World (Seen_stand t b) (asked world_of) (asked world_of)
  pub due_now : K (Option Spot) (Option Spot) (Dues_stand t b) (asked (λ w. first_due (world_of w))) (asked (λ w. first_due (world_of w)))
  pub quiet_now : {n n' : ℕ} → At b n n' → K Bool Bool Same (asked (is_quiet n)) (asked (is_quiet n'))
  pub adds : (mounted : Bool) {i j : Instance} → Instances_stand t b i j → K (Unit {0}) (Unit {0}) Done (becomes (λ w. record w { executed = w.executed ++ i ∷ []; mounted = w.mounted || mounted })) (becomes (λ w. record w { executed = w.executed ++ j ∷ []; mounted = w.mounted || mounted }))
  pub begins : K (Unit {0}) (Unit {0}) Done (becomes (λ w. record w { executed = []; mounted = false })) (becomes (λ w. record w { executed = []; mounted = false }))
  pub passes : K (Unit {0}) (Unit {0}) Done (becomes (λ w. record w { instances = w.executed; executed = [] })) (becomes (λ w. record w { instances = w.executed; executed = [] }))
  pub puts : (n m : ℕ) {x y : Task} → Tasks_stand t b x y → K (Unit {0}) (Unit {0}) Done (becomes (λ w. record w { instances = put_task n m x w.instances })) (becomes (λ w. record w { instances = put_task n m y w.instances }))

module _ (t : Ties) (b : Start) where
  afters : {A B C D : Type 0} {R : A → B → Type 0} {Q : C → D → Type 0} {f : A → Doing Session C} {f' : B → Doing Session D} (o : Outcome Session A) (o' : Outcome Session B) → Sessions_agree t b R o o' →
      ((x : A) (y : B) → R x y → Session_doings t b C D Q (f x) (f' y)) → Sessions_agree t b Q (after o f) (after o' f')
  afters (Gives x w) (Gives y v) (both_give h k) p = p x y h w v k
  afters (Stops why w) (Stops why' v) (both_stop k) p = both_stop k
  afters (Gives x w) (Stops why v) h p = elim h [ ]
  afters (Stops why w) (Gives x v) h p = elim h [ ]

  putting : {A B : Type 0} {R : A → B → Type 0} (w v : Session) → Sessions_stand t b w v → (o : Outcome Running A) (o' : Outcome Running B) → Agree t b nowhere R o o' →
      Sessions_agree t b R (put_back (λ s. record w { running = s }) o) (put_back (λ s. record v { running = s }) o')
  putting w v k (Gives x s) (Gives y s') (gave_both h l) = both_give h (record { running = l; instances = k.instances; executed = k.executed; mounted = k.mounted })
  putting w v k (Stops why s) (Stops why' s') (stopped_both l) = both_stop l
  putting w v k (Gives x s) (Stops why s') h = elim h [ ]
  putting w v k (Stops why s) (Gives x s') h = elim h [ ]

  at_now : {log log' : List Loc} → Logs_stand t b log log' → At b (length log) (length log')
  at_now l = record {
    since = length l.logged;
    left = ap length l.left ∙ length-append b.log l.logged;
    right = ap length l.right ∙ (length-append b.log' l.logged' ∙ ap (λ n. length b.log' + n) (sym (lengths l.match)));
  }

  same_since : {n n' m m' : ℕ} → At b n n' → At b m m' → (n == m) ≡ (n' == m')
  same_since {n} {n'} {m} {m'} k l = addresses n m n' m' (forth n n' m m' (length b.log) (length b.log') k.since l.since k.left k.right l.left l.right) (back n n' m m' (length b.log) (length b.log') k.since l.since k.left k.right l.left l.right)
    where
      forth : (n n' m m' p q i j : ℕ) → n ≡ p + i → n' ≡ q + i → m ≡ p + j → m' ≡ q + j → n ≡ m → n' ≡ m'
      forth n n' m m' p q i j e f g h k = omega (arith, e, f, g, h, k)

      back : (n n' m m' p q i j : ℕ) → n ≡ p + i → n' ≡ q + i → m ≡ p + j → m' ≡ q + j → n' ≡ m' → n ≡ m
      back n n' m m' p q i j e f g h k = omega (arith, e, f, g, h, k)

  pub keeps_sessions : Session_laws t b (Session_doings t b)
  keeps_sessions = record {
    steps = record {
      gives = λ h w v k. both_give h k;
      stops = λ why w v k. both_stop k.running.left;
      bind = λ {A} {B} {C} {D} {R} {Q} {m} {m'} {f} {f'} p q w v k. afters (m w) (m' v) (p w v k) q;
    };
    ran = λ {A} {B} {R} {m} {m'} p w v k. putting w v k (m w.running) (m' v.running) (p w.running v.running k.running);
    log_lengths = λ w v k. both_give (at_now k.running.left.log) k;
    turns_now = λ w v k. both_give k.running.left.turns k;
    executed_now = λ w v k. both_give k.executed k;
    instances_now = λ w v k. both_give k.instances k;
    world_now = λ w v k. both_give (record { lines = k.running.left.lines; instances = k.instances }) k;
    due_now = λ w v k. both_give (dues k.running.left.log 0 k.instances) k;
    quiet_now = λ at w v k. both_give (λ i. not (k.mounted i) && (same_since (at_now k.running.left.log) at i && not (some_alike (dues k.running.left.log 0 k.instances) i))) k;
    adds = λ mounted h w v k. both_give done (record { running = k.running; instances = k.instances; executed = appends k.executed (one_more h no_more); mounted = ap (λ c. c || mounted) k.mounted });
    begins = λ w v k. both_give done (record { running = k.running; instances = k.instances; executed = no_more; mounted = refl });
    passes = λ w v k. both_give done (record { running = k.running; instances = k.executed; executed = no_more; mounted = k.mounted });
    puts = λ n m h w v k. both_give done (record { running = k.running; instances = tasks_put n m h k.instances; executed = k.executed; mounted = k.mounted });
  }
