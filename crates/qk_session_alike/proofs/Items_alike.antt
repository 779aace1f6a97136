-- Items agree: their blocks are the same, and the worlds behind them stand for one another.
use Rattle.std.specs.Prelude.{◌≡◌, refl, ℕ, zero, suc, ◌+◌, ◌≤◌, ◌⊎◌, Bool, true, false, List, [], length, nat_le, Option, Some, None}
use Rattle.std.proofs.Common.{sym, ◌∙◌, ap, subst, arith, inl, inr}
use Rattle.std.proofs.lemmas.List.{append-nil, length-append}
use Rattle.qk_meaning.specs.Value.{Text, Shown, Value}
use Rattle.qk_meaning.specs.World.{Loc, Task, Hook, Instance, World}
use Rattle.qk_meaning.specs.Same.{same}
use Rattle.qk_meaning.specs.Program.{Program, captures_in}
use Rattle.qk_meaning.specs.Doing.{Why, Outcome, Gives, Stops, Doing, after}
use Rattle.qk_meaning.specs.Running.{Effect, Hooking}
use Rattle.qk_meaning.specs.Setting.{called_anew}
use Rattle.qk_meaning.specs.Evaluation.{entering}
use Rattle.qk_meaning.specs.Expansion.{Nodes, Met, expand_app}
use Rattle.qk_meaning.specs.Session.{Session, session_in, nothing_yet}
use Rattle.qk_meaning.specs.Execution.{made_hooks}
use Rattle.qk_meaning.specs.Manner.{whole}
use Rattle.qk_meaning.specs.Settling.{settled}
use Rattle.qk_meaning.specs.Tree.{view_of, view_at, nodes_given, tree}
use Rattle.qk_meaning.specs.Item.{Event, Block, text_or_undefined, records_of, html_within_limits, block, first_render, heard, event, first_item, event_item}
use Rattle.qk_meaning.specs.Ties.{Ties, Apart, Shown_as, Stands, undefined, words, fields, end_stands, field_stands, Found_stands, both_none, both_some, Pairwise, no_more, one_more}
use Rattle.qk_meaning.specs.Worlds_stand.{Start, At, Logs_stand, Began_alike, since_start, before_start, Tasks_stand, Hooks_stand, both_kept, both_provided, both_tasks, Instances_stand, Worlds_stand}
use Rattle.qk_meaning.specs.Alike.{outer_names, Hookings_stand, both_outside, both_mounting, both_again, both_told, both_give as gave_both, Doings_stand}
use Rattle.qk_meaning.specs.Readings_agree.{Items_agree, both_give as played_both, both_stop as cut_both}
use Rattle.qk_alike.specs.Code_stands.{Programs_stand}
use Rattle.qk_alike.proofs.Sames.{not_both, sames}
use Rattle.qk_alike.proofs.Lists.{lengths}
use Rattle.qk_alike.proofs.Doing_laws.{Done, Same, Laws, Enterings_stand}
use Rattle.qk_alike.proofs.Steps as S
use Rattle.qk_alike.proofs.Keeping.{keeps}
use Rattle.qk_alike.proofs.Agree.{facts, enters_alike, called_anew_alike}
use Rattle.qk_session_alike.specs.Trees_stand.{Nodes_stand, no_nodes_stand, Met_stand, met_alike, Named_alike}
use Rattle.qk_session_alike.specs.Sessions_stand.{nowhere, Sessions_stand, Sessions_agree, both_give, both_stop, Session_doings}
use Rattle.qk_session_alike.specs.Laws.{EventsAgree, FirstRendersAgree}
use Rattle.qk_session_alike.proofs.Expanded.{Steps, Visits_stand, apps_expand}
use Rattle.qk_session_alike.proofs.Shown.{html_alike, counts_alike, heard_alike}
use Rattle.qk_session_alike.proofs.Props_set.{Sames_agree}
use Rattle.qk_session_alike.proofs.Executed.{Asks_more}
use Rattle.qk_session_alike.proofs.Sessions_kept.{Session_relation, Session_laws, due_alike, keeps_sessions}
use Rattle.qk_session_alike.proofs.Played.{Instance_found, none_found, both_found, found_alike, settled_lem}

-- ---- the tree of a world

data Trees_agree {A B : Type 0} (R : A → B → Type 0) : Outcome (Unit {0}) A → Outcome (Unit {0}) B → Type 0 where
  trees_given : {x : A} {y : B} {u v : Unit {0}} → R x y → Trees_agree R (Gives x u) (Gives y v)
  trees_stopped : {why : Why} {u v : Unit {0}} → Trees_agree R (Stops why u) (Stops why v)

abbrev Tree_doings : (A B : Type 0) → (A → B → Type 0) → Doing (Unit {0}) A → Doing (Unit {0}) B → Type 0
Tree_doings A B R m m' = (u v : Unit {0}) → Trees_agree R (m u) (m' v)

trees_after : {A B C D : Type 0} {R : A → B → Type 0} {Q : C → D → Type 0} {f : A → Doing (Unit {0}) C} {f' : B → Doing (Unit {0}) D} (o : Outcome (Unit {0}) A) (o' : Outcome (Unit {0}) B) → Trees_agree R o o' →
    ((x : A) (y : B) → R x y → Tree_doings C D Q (f x) (f' y)) → Trees_agree Q (after o f) (after o' f')
trees_after (Gives x u) (Gives y v) (trees_given h) p = p x y h u v
trees_after (Stops why u) (Stops why' v) trees_stopped p = trees_stopped
trees_after (Gives x u) (Stops why v) h p = elim h [ ]
trees_after (Stops why u) (Gives x v) h p = elim h [ ]

tree_steps : Steps Tree_doings
tree_steps = record {
  gives = λ h u v. trees_given h;
  stops = λ why u v. trees_stopped;
  bind = λ {A} {B} {C} {D} {R} {Q} {m} {m'} {f} {f'} p q u v. trees_after (m u) (m' v) (p u v) q;
}

nodes_stand : {t : Ties} (o o' : Outcome (Unit {0}) Nodes) → Trees_agree (Nodes_stand t) o o' → Nodes_stand t (nodes_given o) (nodes_given o')
nodes_stand (Gives x u) (Gives y v) (trees_given h) = h
nodes_stand (Stops why u) (Stops why' v) trees_stopped = no_nodes_stand
nodes_stand (Gives x u) (Stops why v) h = elim h [ ]
nodes_stand (Stops why u) (Gives x v) h = elim h [ ]

views_stand : {t : Ties} {b : Start} {all all' : List Instance} → Pairwise (Instances_stand t b) all all' → Visits_stand t Tree_doings (view_at all) (view_at all')
views_stand {t} {b} {all} {all'} i = record { visits = λ k. by k }
  where
    view : {o o' : Option Instance} → Instance_found t b o o' → Tree_doings Value Value (Stands t) (view_of o) (view_of o')
    view none_found u v = trees_stopped
    view (both_found h) u v = trees_given h.view

    by : {m m' : Met} → Met_stand t m m' → Tree_doings Value Value (Stands t) (view_at all m) (view_at all' m')
    by (met_alike {path = path} s f) = view (found_alike path i)

pub trees_stand : {t : Ties} → Named_alike t.sites → {b : Start} {x y : Shown} (w v : World) → Shown_as t.sites x y → Pairwise (Instances_stand t b) w.instances v.instances → Nodes_stand t (tree x w) (tree y v)
trees_stand named {x = x} {y = y} w v s i = nodes_stand (expand_app (view_at w.instances) x tt) (expand_app (view_at v.instances) y tt) (apps_expand named tree_steps (views_stand i) s tt tt)

-- ---- worlds behind an item

up_to : (n m : ℕ) → (n ≤ m) ⊎ ((k : ℕ) × (n ≡ m + k))
up_to n zero = inr (n, omega arith)
up_to zero (suc m) = inl (omega arith)
up_to (suc n) (suc m) = go (up_to n m)
  where
    go : (n ≤ m) ⊎ ((k : ℕ) × (n ≡ m + k)) → (suc n ≤ suc m) ⊎ ((k : ℕ) × (suc n ≡ suc m + k))
    go (inl h) = inl (omega (arith, h))
    go (inr h) = let e = h.1 in inr (h.0, omega (arith, e))

module _ {t : Ties} {b : Start} {log log' : List Loc} (l : Logs_stand t b log log') where
  abbrev next : Start
  next = record { log = log; log' = log' }

  left_length : length log ≡ length b.log + length l.logged
  left_length = ap length l.left ∙ length-append b.log l.logged

  right_length : length log' ≡ length b.log' + length l.logged
  right_length = ap length l.right ∙ (length-append b.log' l.logged' ∙ ap (λ n. length b.log' + n) (sym (lengths l.match)))

  task_next : {x y : Task} → Tasks_stand t b x y → Tasks_stand t next x y
  task_next {x} {y} h = record { run = h.run; tracked = h.tracked; began = go h.began }
    where
      within : (n p i j q : ℕ) → n ≡ p + i → i ≤ j → q ≡ p + j → n ≤ q
      within n p i j q e f g = omega (arith, e, f, g)

      beyond : (n p i j k q : ℕ) → n ≡ p + i → i ≡ j + k → q ≡ p + j → n ≡ q + k
      beyond n p i j k q e f g = omega (arith, e, f, g)

      before : (n p j q : ℕ) → n ≤ p → q ≡ p + j → n ≤ q
      before n p j q e f = omega (arith, e, f)

      since : At b x.began y.began → ℕ
      since at = at.since

      go : Began_alike b x y → Began_alike next x y
      go (before_start p q e) = before_start (before x.began (length b.log) (length l.logged) (length log) p left_length) (before y.began (length b.log') (length l.logged) (length log') q right_length) (due_alike x y l h)
      go (since_start at) = by (up_to at.since (length l.logged))
        where
          by : (at.since ≤ length l.logged) ⊎ ((k : ℕ) × (at.since ≡ length l.logged + k)) → Began_alike next x y
          by (inl m) = before_start (within x.began (length b.log) at.since (length l.logged) (length log) at.left m left_length) (within y.began (length b.log') at.since (length l.logged) (length log') at.right m right_length) (due_alike x y l h)
          by (inr m) = since_start (record { since = m.0; left = beyond x.began (length b.log) at.since (length l.logged) m.0 (length log) at.left m.1 left_length; right = beyond y.began (length b.log') at.since (length l.logged) m.0 (length log') at.right m.1 right_length })

  hooks_next : {hooks hooks' : List Hook} → Pairwise (Hooks_stand t b) hooks hooks' → Pairwise (Hooks_stand t next) hooks hooks'
  hooks_next no_more = no_more
  hooks_next (one_more (both_kept h) rest) = one_more (both_kept h) (hooks_next rest)
  hooks_next (one_more (both_provided h) rest) = one_more (both_provided h) (hooks_next rest)
  hooks_next (one_more (both_tasks h) rest) = one_more (both_tasks (task_next h)) (hooks_next rest)

  instances_next : {all all' : List Instance} → Pairwise (Instances_stand t b) all all' → Pairwise (Instances_stand t next) all all'
  instances_next no_more = no_more
  instances_next (one_more h rest) = one_more (record { path = h.path; component = h.component; props = h.props; hooks = hooks_next h.hooks; view = h.view; reads = h.reads }) (instances_next rest)

played : {t : Ties} {b : Start} (o o' : Outcome Session Block) → Sessions_agree t b Same o o' → Items_agree t o o'
played {t} (Gives x w) (Gives y v) (both_give e k) = subst (λ z. Items_agree t (Gives x w) (Gives z v)) e (played_both (record { heap = k.running.left.heap; instances = instances_next k.running.left.log k.instances }))
played (Stops why w) (Stops why' v) (both_stop k) = cut_both k.lines
played (Gives x w) (Stops why v) h = elim h [ ]
played (Stops why w) (Gives x v) h = elim h [ ]

-- ---- an item begins

begins : {t : Ties} (w v : World) (turns : ℕ) → Worlds_stand t w v → Sessions_stand t (record { log = w.log; log' = v.log }) (session_in w turns) (session_in v turns)
begins w v turns k = record {
  running = record {
    left = record { heap = k.heap; log = record { logged = []; logged' = []; left = sym (append-nil w.log); right = sym (append-nil v.log); match = no_more }; lines = refl; turns = refl; trace = no_more };
    locals = outer_names (record { alike = λ name e. absurd (not_both (sym e)); held = λ name e. absurd (not_both (sym e)) });
    hooking = both_outside;
  };
  instances = k.instances;
  executed = no_more;
  mounted = refl;
}

hooks_made : {t : Ties} {b : Start} {h h' : Hooking} → Hookings_stand t b h h' → Pairwise (Hooks_stand t b) (made_hooks h) (made_hooks h')
hooks_made both_outside = no_more
hooks_made (both_mounting i h) = h
hooks_made (both_again h) = no_more
hooks_made (both_told h) = no_more

asks : (t : Ties) (b : Start) → Asks_more t b (Doings_stand t b)
asks t b = record {
  made_hooks_now = λ s s' k. gave_both (hooks_made k.hooking) k;
}

given_text : {t : Ties} (o : Option Text) → Stands t (text_or_undefined o) (text_or_undefined o)
given_text None = undefined
given_text (Some w) = words

records_stand : {t : Ties} (e : Event) → Pairwise (Stands t) (records_of e) (records_of e)
records_stand e = one_more (fields (field_stands words (field_stands (given_text e.value) end_stands))) (one_more (fields (field_stands words (field_stands (given_text e.value) end_stands))) no_more)

module _ (t : Ties) (P Q : Program) (apart : Apart t) (programs : Programs_stand P Q t.sites) (named : Named_alike t.sites) (app : Shown_as t.sites P.app Q.app) (levels : ℕ) (b : Start) where
  agreeing : Sames_agree t (same (captures_in P)) (same (captures_in Q))
  agreeing = subst (λ c. Sames_agree t (same c) (same (captures_in Q))) (λ i site. sym (programs.captures site) i) (record { agree = λ h k. sames t apart (captures_in Q) programs.other_captures h k })

  laws : Laws t b (Doings_stand t b)
  laws = keeps t b apart (λ v w k. (facts t b called_anew P Q apart programs (called_anew_alike t b)).truths k)

  E : Enterings_stand t (Doings_stand t b) (entering P called_anew levels) (entering Q called_anew levels)
  E = enters_alike t b called_anew P Q apart programs (called_anew_alike t b) levels

  session : Session_laws t b (Session_doings t b)
  session = keeps_sessions t b

  module _ {K : Session_relation} (kept : Session_laws t b K) where
    open kept use {ran, world_now}
    open kept.steps use {gives, bind}

    settles : K (Unit {0}) (Unit {0}) Done (settled (whole P levels)) (settled (whole Q levels))
    settles = settled_lem apart named laws (asks t b) P Q called_anew levels E agreeing kept app

    html_lem : {v w : Nodes} → Nodes_stand t v w → Doings_stand t b nowhere Text Text Same (html_within_limits v) (html_within_limits w)
    html_lem h = S.choose laws (ap (λ n. nat_le n 65536) (counts_alike h)) (S.choose laws (ap (λ x. nat_le (length x) 16777216) (html_alike h)) (laws.gives (html_alike h)) (S.faults laws _)) (S.faults laws _)

    block_lem : (c : Bool) → K Block Block Same (block (whole P levels) c) (block (whole Q levels) c)
    block_lem c = bind world_now (λ w v h. bind (ran (html_lem (trees_stand named w v app h.instances))) (λ x y e. gives (λ i. record { none = c; lines = h.lines i; html = e i })))

    first_lem : K Block Block Same (first_render (whole P levels)) (first_render (whole Q levels))
    first_lem = bind settles (λ x y d. block_lem false)

    heard_lem : (e : Event) {o o' : Option Value} → Found_stands t o o' → K Block Block Same (heard (whole P levels) e o) (heard (whole Q levels) e o')
    heard_lem e both_none = block_lem true
    heard_lem e (both_some h) = bind (ran (E.enters Effect no_more h (records_stand e))) (λ v w k. bind settles (λ x y d. block_lem false))

    event_lem : (e : Event) → K Block Block Same (event (whole P levels) e) (event (whole Q levels) e)
    event_lem e = bind world_now (λ w v h. heard_lem e (heard_alike e.kind e.id (trees_stand named w v app h.instances)))

pub events_agree : EventsAgree
events_agree t P Q apart programs named app limits w v e k =
    let b : Start = record { log = w.log; log' = v.log } in
    played (event_item P limits w e) (event_item Q limits v e) (event_lem t P Q apart programs named app limits.levels b (keeps_sessions t b) e (session_in w limits.turns) (session_in v limits.turns) (begins w v limits.turns k))

pub first_renders_agree : FirstRendersAgree
first_renders_agree t P Q apart programs named app heaps limits =
    let b : Start = record { log = []; log' = [] } in
    played (first_item P limits) (first_item Q limits) (first_lem t P Q apart programs named app limits.levels b (keeps_sessions t b) (session_in nothing_yet limits.turns) (session_in nothing_yet limits.turns) (begins nothing_yet nothing_yet limits.turns (record { heap = heaps; instances = no_more })))
