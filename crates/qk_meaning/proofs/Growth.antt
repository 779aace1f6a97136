-- Running code only adds, and its trace tells what it logs and prints.
use Rattle.std.specs.Prelude.{◌≡◌, refl, ℕ, zero, suc, ◌≤◌, true, List, [], ◌∷◌, ◌++◌, length, ◌<◌, ◌==◌, Bool, false, set, slice_get, get_or, unwrap_or, Option, Some, None}
use Rattle.std.proofs.Common.{sym, ap, subst, ◌∙◌, arith}
use Rattle.std.proofs.Math.Dec.{T, eqb→eq}
use Rattle.std.proofs.lemmas.Option.{unwrap_or-slice_get}
use Rattle.std.proofs.lemmas.Grind.{get_or-set_at}
use Rattle.std.proofs.lemmas.Bool.{false≢true, eq-eqb}
use Rattle.std.proofs.lemmas.List.{append_assoc, append-nil, length-set, length-append, get_or-set_other, get_or_append_left}
use Rattle.qk_meaning.specs.Writing.{Becoming, Becomes, Stays}
use Rattle.qk_meaning.specs.Heap.{object_or_empty, object_at, object_kind}
use Rattle.qk_meaning.specs.Value.{Text, Value, end, Site, Fields}
use Rattle.qk_meaning.specs.World.{Loc, Object, Plain}
use Rattle.qk_meaning.specs.Program.{Program, captures_in}
use Rattle.qk_meaning.specs.Doing.{Outcome, Gives, Stops, Doing, ◌>>=◌, after, put_back, state_left}
use Rattle.qk_meaning.specs.Happening.{Happening, Did_log, Did_print, Hooked, Began, Left, The_task, Computing, Computed_so}
use Rattle.qk_meaning.specs.Running.{Running, take_turn, turn_of, logs_told, becomes_so, becomes_by}
use Rattle.qk_meaning.specs.Trace.{logged_in, printed_in}
use Rattle.qk_meaning.specs.Setting.{called_anew}
use Rattle.qk_meaning.specs.Evaluation.{entering}
use Rattle.qk_meaning.specs.Expansion.{Met}
use Rattle.qk_meaning.specs.Session.{Session, session_in, nothing_yet, runs}
use Rattle.qk_meaning.specs.Execution.{props_become, take_or_mount}
use Rattle.qk_meaning.specs.Manner.{whole}
use Rattle.qk_meaning.specs.Item.{Event, Block, first_render, event, first_item, event_item}
use Rattle.qk_meaning.specs.Laws as Laws
use Rattle.qk_meaning.specs.Laws.{The_render, The_event}
use Rattle.qk_meaning.specs.Laws_of_code as Of_code
use Rattle.qk_meaning.specs.Laws_of_code.{Adds}
use Rattle.qk_meaning.proofs.Traces.{logged_then, printed_then}
use Rattle.qk_meaning.proofs.Running_laws.{Relation, Laws, Trace_laws, finds_reads, finds_tracked, Hooking_laws, hook_laws, all_tell_only, Kind_kept}
use Rattle.qk_meaning.proofs.Meanings.{Enter_alike, enters_with, calls_anew}
use Rattle.qk_meaning.specs.Same.{same}
use Rattle.qk_meaning.specs.Laws_of_changes.{Logs_all, log_of_props}
use Rattle.qk_meaning.proofs.Unlogged.{props_unlogged}
use Rattle.qk_meaning.proofs.Session_laws.{props_kept, Session_relation, Session_laws, visits, first_renders, events}

-- ---- what a trace tells

logs_logged : (all : List Loc) → logged_in (logs_told all) ≡ all
logs_logged [] = refl
logs_logged (l ∷ rest) = ap (λ more. l ∷ more) (logs_logged rest)

logs_print_nothing : (all : List Loc) → printed_in (logs_told all) ≡ []
logs_print_nothing [] = refl
logs_print_nothing (l ∷ rest) = logs_print_nothing rest

logs_nothing : (all : List Happening) → all_tell_only all ≡ true → logged_in all ≡ []
logs_nothing [] q = refl
logs_nothing (Did_log l ∷ rest) q = absurd (false≢true q)
logs_nothing (Did_print line ∷ rest) q = absurd (false≢true q)
logs_nothing (Hooked kind arguments answered ∷ rest) q = absurd (false≢true q)
logs_nothing (Began The_task ∷ rest) q = absurd (false≢true q)
logs_nothing (Left The_task ∷ rest) q = absurd (false≢true q)
logs_nothing (Computing a ∷ rest) q = absurd (false≢true q)
logs_nothing (Computed_so a v ∷ rest) q = absurd (false≢true q)
logs_nothing (_ ∷ rest) q = logs_nothing rest q

prints_nothing : (all : List Happening) → all_tell_only all ≡ true → printed_in all ≡ []
prints_nothing [] q = refl
prints_nothing (Did_log l ∷ rest) q = absurd (false≢true q)
prints_nothing (Did_print line ∷ rest) q = absurd (false≢true q)
prints_nothing (Hooked kind arguments answered ∷ rest) q = absurd (false≢true q)
prints_nothing (Began The_task ∷ rest) q = absurd (false≢true q)
prints_nothing (Left The_task ∷ rest) q = absurd (false≢true q)
prints_nothing (Computing a ∷ rest) q = absurd (false≢true q)
prints_nothing (Computed_so a v ∷ rest) q = absurd (false≢true q)
prints_nothing (_ ∷ rest) q = prints_nothing rest q

-- ---- adding

-- a list with what another adds to it
onward : {A : Type 0} (xs ys zs one two both : List A) → ys ≡ xs ++ one → zs ≡ ys ++ two → both ≡ one ++ two → zs ≡ xs ++ both
onward xs ys zs one two both e f g = f ∙ (ap (λ l. l ++ two) e ∙ (append_assoc xs one two ∙ ap (λ l. xs ++ l) (sym g)))

-- the objects that stood are of their kinds
abbrev Kinds : List Object → List Object → Type 0
Kinds old new = (a : ℕ) → a < length old → object_kind (object_at old a) ≡ object_kind (object_at new a)

pub adds_nothing : (s u : Running) → u.trace ≡ s.trace → u.log ≡ s.log → u.lines ≡ s.lines → length s.heap ≤ length u.heap → Kinds s.heap u.heap → Adds s u
adds_nothing s u t l p h k =
    record { told = []; trace = t ∙ sym (append-nil s.trace); log = l ∙ sym (append-nil s.log); lines = p ∙ sym (append-nil s.lines); made = h; kinds = k }

-- ---- heaps

as_get : (heap : List Object) (a : ℕ) → object_at heap a ≡ get_or heap a (Plain end)
as_get heap a = go (slice_get heap a) ∙ unwrap_or-slice_get heap a (Plain end)
  where
    go : (o : Option Object) → object_or_empty o ≡ unwrap_or o (Plain end)
    go (Some o) = refl
    go None = refl

made_behind : (heap more : List Object) → Kinds heap (heap ++ more)
made_behind heap more a h = ap object_kind (as_get heap a ∙ (sym (get_or_append_left heap more (Plain end) a h) ∙ sym (as_get (heap ++ more) a)))

set_kinds : (heap : List Object) (a : ℕ) (new : Object) → object_kind (object_at heap a) ≡ object_kind new → Kinds heap (set heap a new)
set_kinds heap a new k b h = go (b == a) refl
  where
    go : (t : Bool) → (b == a) ≡ t → object_kind (object_at heap b) ≡ object_kind (object_at (set heap a new) b)
    go true e =
        let i : b ≡ a = eqb→eq b a (subst T (sym e) tt) in
        ap (λ x. object_kind (object_at heap x)) i ∙ (k ∙ ap object_kind (sym (get_or-set_at heap a b new (Plain end) i (subst (λ x. x < length heap) i h)) ∙ sym (as_get (set heap a new) b)))
    go false e = ap object_kind (as_get heap b ∙ (sym (get_or-set_other heap a b new (Plain end) (λ i. false≢true (sym e ∙ eq-eqb b a i))) ∙ sym (as_get (set heap a new) b)))

pub adds_then : (s u v : Running) → Adds s u → Adds u v → Adds s v
adds_then s u v p q =
    record {
      told = p.told ++ q.told;
      trace = onward s.trace u.trace v.trace p.told q.told (p.told ++ q.told) p.trace q.trace refl;
      log = onward s.log u.log v.log (logged_in p.told) (logged_in q.told) (logged_in (p.told ++ q.told)) p.log q.log (logged_then p.told q.told);
      lines = onward s.lines u.lines v.lines (printed_in p.told) (printed_in q.told) (printed_in (p.told ++ q.told)) p.lines q.lines (printed_then p.told q.told);
      made = omega (arith, p.made, q.made);
      kinds = λ a h. p.kinds a h ∙ q.kinds a (omega (arith, h, p.made));
    }

-- of the first doing alone
abbrev pub Adding : Relation
Adding A m m' = (s : Running) → Adds s (state_left (m s))

binds : {A B : Type 0} (m m' : Doing Running A) (f f' : A → Doing Running B) → Adding A m m' → ((a : A) → Adding B (f a) (f' a)) → Adding B (◌>>=◌ m f) (◌>>=◌ m' f')
binds {A} {B} m m' f f' p q s = go (m s) (p s)
  where
    go : (o : Outcome Running A) → Adds s (state_left o) → Adds s (state_left (after o f))
    go (Gives a u) r = adds_then s u (state_left (f a u)) r (q a u)
    go (Stops why u) r = r

stays : (s : Running) → Adds s s
stays s = adds_nothing s s refl refl refl (omega arith) (λ a h. refl)

turns : Adding (Unit {0}) take_turn take_turn
turns s = go s.turns
  where
    go : (n : ℕ) → Adds s (state_left (turn_of n s))
    go zero = stays s
    go (suc n) = adds_nothing s (record s { turns = n }) refl refl refl (omega arith) (λ a h. refl)

tells_quietly : (s : Running) (all : List Happening) → all_tell_only all ≡ true → Adds s (record s { trace = s.trace ++ all })
tells_quietly s all q =
    record { told = all; trace = refl; log = sym (append-nil s.log) ∙ ap (λ l. s.log ++ l) (sym (logs_nothing all q)); lines = sym (append-nil s.lines) ∙ ap (λ l. s.lines ++ l) (sym (prints_nothing all q)); made = omega arith; kinds = λ a h. refl }

logs_so : (s : Running) (all : List Loc) → Adds s (record s { log = s.log ++ all; trace = s.trace ++ logs_told all })
logs_so s all =
    record { told = logs_told all; trace = refl; log = ap (λ l. s.log ++ l) (sym (logs_logged all)); lines = sym (append-nil s.lines) ∙ ap (λ l. s.lines ++ l) (sym (logs_print_nothing all)); made = omega arith; kinds = λ a h. refl }

prints_so : (s : Running) (line : Text) → Adds s (record s { lines = s.lines ++ (line ∷ []); trace = s.trace ++ (Did_print line ∷ []) })
prints_so s line = record { told = Did_print line ∷ []; trace = refl; log = sym (append-nil s.log); lines = refl; made = omega arith; kinds = λ a h. refl }

-- an object is acted on
acted : (s : Running) (a : ℕ) (differing : Object → Object → List Loc) (b : Becoming) → Kind_kept (object_at s.heap a) b → Adds s (state_left (becomes_so a differing (object_at s.heap a) b s))
acted s a differing (Becomes new) k =
    let set_so : Running = record s { heap = set s.heap a new } in
    adds_then s set_so (record set_so { log = s.log ++ differing (object_at s.heap a) new; trace = s.trace ++ logs_told (differing (object_at s.heap a) new) })
    (adds_nothing s set_so refl refl refl (omega (arith, length-set s.heap a new)) (set_kinds s.heap a new k)) (logs_so set_so (differing (object_at s.heap a) new))
acted s a differing (Stays f) k = stays s

pub trace_laws : Trace_laws Adding
trace_laws = record { gives = λ a. stays; bind = λ {A} {B} {m} {m'} {f} {f'} p q. binds m m' f f' p q; asks_trace = λ f. stays }

pub laws : (names : Site → List Text) → Laws Adding
laws names =
    record {
      names = names;
      gives = λ a. stays;
      faults = λ f. stays;
      ends = λ m. stays;
      bind = λ {A} {B} {m} {m'} {f} {f'} p q. binds m m' f f' p q;
      turn = turns;
      tracks = λ {A} {m} {m'} p. finds_tracked Adding trace_laws {A = A} {m = m} {m' = m'} p;
      asks = λ f e. stays;
      tells = λ f e q s. tells_quietly s (f s) (q s);
      makes = λ o s. adds_nothing s (record s { heap = s.heap ++ (o ∷ []) }) refl refl refl (omega (arith, length-append s.heap (o ∷ []))) (made_behind s.heap (o ∷ []));
      acts = λ a change differing k q s. acted s a differing (change (object_at s.heap a)) (k (object_at s.heap a));
      logs = λ all s. logs_so s all;
      prints = λ line s. prints_so s line;
      sets = λ f s. adds_nothing s (record s { locals = f s.locals }) refl refl refl (omega arith) (λ a h. refl);
      by_turns = λ {A} {f} {f'} p s. p s.turns s.turns (omega arith) s;
    }

pub named : (names : Site → List Text) → (laws names).names ≡ names
unfolding laws
named names = refl

-- the setting of props only adds
pub props_add : (program : Program) (a : ℕ) (given : Fields) (s : Running) → Adds s (state_left (becomes_by a (props_become (same (captures_in program)) given) (log_of_props (captures_in program) a given) s))
props_add program a given s =
    let names : Site → List Text = captures_in program in
    (laws names).acts a (props_become (same names) given) (log_of_props names a given) (props_kept (same names) given)
    (subst (λ others. Logs_all others a (props_become (same names) given) (log_of_props names a given)) (sym (named names)) (props_unlogged names a given)) s

-- what is told here is neither logged nor printed
tells_one : (s : Running) (h : Happening) → logged_in (h ∷ []) ≡ [] → printed_in (h ∷ []) ≡ [] → Adds s (record s { trace = s.trace ++ (h ∷ []) })
tells_one s h l p =
    record { told = h ∷ []; trace = refl; log = sym (append-nil s.log) ∙ ap (λ all. s.log ++ all) (sym l); lines = sym (append-nil s.lines) ∙ ap (λ all. s.lines ++ all) (sym p); made = omega arith; kinds = λ a h. refl }

pub hooking_laws : Hooking_laws Adding
hooking_laws =
    record {
      asks_hooking = stays;
      sets_hooking = λ f s. adds_nothing s (record s { hooking = f s.hooking }) refl refl refl (omega arith) (λ a h. refl);
      tells_hook = λ kind arguments answered s. tells_one s (Hooked kind arguments answered) refl refl;
      begins_task = λ s. tells_one s (Began The_task) refl refl;
      leaves_task = λ s. tells_one s (Left The_task) refl refl;
      begins_computed = λ a s. tells_one s (Computing a) refl refl;
      ends_computed = λ a v s. tells_one s (Computed_so a v) refl refl;
    }

pub adding : (program : Program) (d : ℕ) → Enter_alike Adding (entering program called_anew d) (entering program called_anew d)
adding program zero mode running f arguments = stays
adding program (suc d) mode running f arguments =
    enters_with Adding (laws (captures_in program)) (hook_laws Adding (laws (captures_in program)) hooking_laws) program (named (captures_in program)) called_anew (calls_anew Adding (hook_laws Adding (laws (captures_in program)) hooking_laws)) (entering program called_anew d) (entering program called_anew d) (adding program d) mode running f arguments

pub calls_add : Of_code.CallsAdd
calls_add program levels mode under_way f arguments s = adding program levels mode under_way f arguments s

-- ---- sessions

abbrev pub Adding_there : Session_relation
Adding_there A m m' = (w : Session) → Adds w.running (state_left (m w)).running

binds_there : {A B : Type 0} (m m' : Doing Session A) (f f' : A → Doing Session B) → Adding_there A m m' → ((a : A) → Adding_there B (f a) (f' a)) → Adding_there B (◌>>=◌ m f) (◌>>=◌ m' f')
binds_there {A} {B} m m' f f' p q w = go (m w) (p w)
  where
    go : (o : Outcome Session A) → Adds w.running (state_left o).running → Adds w.running (state_left (after o f)).running
    go (Gives a v) r = adds_then w.running v.running (state_left (f a v)).running r (q a v)
    go (Stops why v) r = r

stays_there : (w : Session) → Adds w.running w.running
stays_there w = stays w.running

runs_there : {A : Type 0} (m : Doing Running A) → Adding A m m → Adding_there A (runs m) (runs m)
runs_there {A} m p w = go (m w.running) (p w.running)
  where
    go : (o : Outcome Running A) → Adds w.running (state_left o) → Adds w.running (state_left (put_back (λ s. record w { running = s }) o)).running
    go (Gives a u) r = r
    go (Stops why u) r = r

pub session_laws : Session_laws Adding Adding_there
session_laws =
    record {
      finds = λ {A} {m} {m'} p. finds_reads Adding trace_laws {A = A} {m = m} {m' = m'} p;
      gives = λ a. stays_there;
      ends = λ m. stays_there;
      bind = λ {A} {B} {m} {m'} {f} {f'} p q. binds_there m m' f f' p q;
      asks = λ f e. stays_there;
      becomes_so = λ f k e w. subst (λ s. Adds w.running s) (sym (k w)) (stays w.running);
      refuses = λ f. stays_there;
      runs_so = λ {A} {m} {m'} p. runs_there m p;
      by_turns = λ {A} {f} {f'} p w. p w.running.turns w.running.turns (omega arith) w;
    }

-- what begins without a trace and without lines tells all
tells_all : (log : List Loc) (s u : Running) → s.trace ≡ [] → s.lines ≡ [] → s.log ≡ log → Adds s u → Laws.Tells_all log u
tells_all log s u t l g a =
    let all : u.trace ≡ a.told = a.trace ∙ ap (λ x. x ++ a.told) t in
    record { log_told = a.log ∙ (ap (λ x. x ++ logged_in a.told) g ∙ ap (λ x. log ++ logged_in x) (sym all)); lines_told = a.lines ∙ (ap (λ x. x ++ printed_in a.told) l ∙ ap printed_in (sym all)) }

module _ (program : Program) (levels : ℕ) where
  enter : Enter_alike Adding (entering program called_anew levels) (entering program called_anew levels)
  enter = adding program levels

  visit : (met : Met) → Adding_there Value (take_or_mount program called_anew levels met) (take_or_mount program called_anew levels met)
  visit = visits Adding (laws (captures_in program)) hooking_laws Adding_there session_laws program (named (captures_in program)) called_anew levels levels enter

  event_adds : (e : Event) → Adding_there Block (event (whole program levels) e) (event (whole program levels) e)
  event_adds = events Adding (laws (captures_in program)) hooking_laws Adding_there session_laws program called_anew levels levels enter (take_or_mount program called_anew levels) (take_or_mount program called_anew levels) visit

  render_adds : Adding_there Block (first_render (whole program levels)) (first_render (whole program levels))
  render_adds = first_renders Adding (laws (captures_in program)) hooking_laws Adding_there session_laws program called_anew levels levels enter (take_or_mount program called_anew levels) (take_or_mount program called_anew levels) visit

pub items_tell : Laws.ItemsTell
items_tell program limits The_render =
    let begun = session_in nothing_yet limits.turns in
    tells_all [] begun.running (state_left (first_item program limits)).running refl refl refl (render_adds program limits.levels begun)
items_tell program limits (The_event w e) =
    let begun = session_in w limits.turns in
    tells_all w.log begun.running (state_left (event_item program limits w e)).running refl refl refl (event_adds program limits.levels e begun)
