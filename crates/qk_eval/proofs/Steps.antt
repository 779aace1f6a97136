-- What a run of each form is, from the runs of its parts.
use Rattle.std.proofs.Common.{◌≡◌, ℕ, List, [], ◌∷◌, length, Bool, true, false, cond, Option, Some, None, Result, Ok, Err, refl, ap, ◌∙◌, sym, subst}
use Rattle.std.proofs.lemmas.List.{append-nil}
use Rattle.std.proofs.lemmas.Bool.{false≢true}
use denote.Hole.Carrier.{hidden}
use Rattle.qk_ast.specs.declared.Form.{Form}
use Rattle.qk_ast.specs.declared.Body.TheBlock.{hidden-the_row-Expr-0}
use Rattle.qk_ast.specs.declared.Body.{Body}
use Rattle.qk_ast.specs.declared.Body.TheVariants as b
use Rattle.qk_ast.specs.declared.Expr.{Expr}
use Rattle.qk_ast.specs.declared.Expr.TheVariants as e
use Rattle.qk_ast.specs.declared.Link.{Link}
use Rattle.qk_ast.specs.declared.Link.TheVariants as l
use Rattle.qk_ast.specs.declared.Stmt.{Stmt}
use Rattle.qk_ast.specs.declared.Stmt.TheVariants as st
use Rattle.qk_ast.specs.declared.Pattern.{Pattern}
use Rattle.qk_ast.specs.declared.Pattern.TheVariants as pt
use Rattle.qk_ast.specs.Texts.{Text}
use Rattle.qk_meaning.specs.Value as M
use Rattle.qk_meaning.specs.Value.{Fields}
use Rattle.qk_meaning.specs.World.{Loc as Loc'}
use Rattle.qk_meaning.specs.Heap.{Member_read, Found, read_member}
use Rattle.qk_meaning.specs.Parts.{value_at, has_field, replaced}
use Rattle.qk_meaning.specs.Program.{Program, captures_in}
use Rattle.qk_meaning.specs.Operators.{is_function, is_true}
use Rattle.qk_meaning.specs.Doing.{Outcome, Gives, Stops, Faults, Doing, after, chosen, give, ◌>>◌, ◌>>=◌}
use Rattle.qk_meaning.specs.Happening.{Happening, Computing, Computed_so}
use Rattle.qk_meaning.specs.Running as R
use Rattle.qk_meaning.specs.Running.{Running, assigned, noted, locations_read, reads_at}
use Rattle.qk_meaning.specs.Setting.{Setting, called_anew, is_running}
use Rattle.qk_meaning.specs.References as Refs
use Rattle.qk_meaning.specs.References.{value_of, read, computed_value, member_value, outer_named, valued}
use Rattle.qk_meaning.specs.Calls.{A_value, callee, called}
use Rattle.qk_meaning.specs.Flow as F
use Rattle.qk_meaning.specs.Flow.{flow_value, unless_left}
use Rattle.qk_meaning.specs.Fault as Faulting
use Rattle.qk_meaning.specs.Evaluation.{entering, refer, ran, body_value}
use Rattle.qk_meaning.specs.In_order.{value_in, link_followed, links_followed, statements_ran, block_ran}
use Rattle.qk_meaning.specs.Trace as T
use Rattle.qk_meaning.specs.Trace.{answers_in}
use Rattle.qk_meaning.proofs.Growth.{hooking_laws}
use Rattle.qk_value.specs.declared.fault.Fault.TheVariants.{NotCallable, ComputedCycle}
use Rattle.qk_value.specs.declared.value.Value.{Value, Fun as Function}
use Rattle.qk_value.specs.declared.value.Fun.{Fun}
use Rattle.qk_value.specs.declared.value.FunCode.{FunCode}
use Rattle.qk_value.specs.declared.value.FunCode.TheVariants.{Symbol, Plain}
use Rattle.qk_value.specs.declared.value.Addr.{Addr}
use Rattle.qk_value.specs.View.{seen, function, fits, plain_of, plain_site}
use Rattle.qk_value.proofs.Viewing.{seen-Fun}
use Rattle.qk_heap.specs.declared.location.Loc.{Loc}
use Rattle.qk_heap.specs.Told.{Told, Besides, all_read}
use Rattle.qk_heap.specs.declared.object.Object.{Object}
use Rattle.qk_heap.specs.Seen.{heap_seen}
use Rattle.qk_code.specs.declared.func.Func.{Func}
use Rattle.qk_code.specs.declared.mode.Mode.{Mode}
use Rattle.qk_code.specs.declared.stop.Stop.{Stop}
use Rattle.qk_code.specs.declared.stop.Stop.TheVariants.{Fault, Ended, Code, Memory}
use Rattle.qk_code.specs.Modes.{mode_seen}
use Rattle.qk_code.specs.declared.ask.Ask.{Ask}
use Rattle.qk_code.specs.Asked.{Goes_on, asks_in}
use Rattle.qk_code.specs.World.{World, Spent, state, heard_in}
use Rattle.qk_code.specs.Sources.{Extends, reading}
use Rattle.qk_code.specs.Ran.{Agrees, Ran}
use Rattle.qk_code.proofs.Runs.{ran_then, ran_err, ran_same, ran_known, ran_gives, ran_faults, ran_lost, ran_memory, ran_told, ran_moved, ran_unhooked}
use Rattle.qk_eval.specs.declared.reference.Reference.{Reference}
use Rattle.qk_eval.specs.declared.flow.Flow.{Flow}
use Rattle.qk_eval.specs.declared.callee.Callee.{Callee as Callee'}
use Rattle.qk_acts.specs.Looking.{locations_of, LooksUp}
use Rattle.qk_making.proofs.Acting.{heard_reads, asks_reads, logs_reads, prints_reads, answers_reads}
use Rattle.qk_eval.specs.Placing.{setting_so, addresses}
use Rattle.qk_eval.specs.Seeing.{value_seen, values_seen, reference_seen, flow_seen, callee_seen, nothing}
use Rattle.qk_eval.specs.Lists.{call_made}
use Rattle.qk_eval.proofs.Forms.{post_is, link_call_is, block_body_is, value_body_is, if_is, block_is}
use Rattle.qk_eval.proofs.Growing.{gives, bind}

pub function_is_one : (p : Program) (f : Fun) → is_function (value_seen p (Function f)) ≡ true
function_is_one p f = ap is_function (seen-Fun (captures_in p) f) ∙ by f.code _ f.hidden
  where
    by : (code : FunCode) (captured : M.Values) (mark : Bool) → is_function (function (captures_in p) code captured mark) ≡ true
    by (Symbol s) captured mark = refl
    by (Plain file number) captured mark = plain (fits (captures_in p (plain_site file number)) captured)
      where
        plain : (b : Bool) → is_function (plain_of b (captures_in p (plain_site file number)) file number captured mark) ≡ true
        plain true = refl
        plain false = refl

abbrev is_some : {A : Type 0} → Option A → Bool
is_some None = false
is_some (Some a) = true

-- what is none is not something
pub none_there : {A : Type 0} (o : Option A) (a : A) → o ≡ None → o ≡ Some a → ⊥
none_there {A} o a p q = false≢true (ap (λ (x : Option A). is_some x) (sym p ∙ q))

-- what heard nothing goes on from where it stood
pub heard_nothing : {X : Type 0} (before between behind : List X → Type 0) (more : List X) → Goes_on before between [] → Goes_on between behind more → Goes_on before behind more
heard_nothing before between behind more h k = λ list b. k list (subst between (append-nil list) (h list b))

module _ (form : Form) (hooked : Bool) (given : Program → Type 0) where
  -- locations are read, and the host is told
  pub ran_reads : (all : List Loc') (w : World) (told : List Told → Type 0) → Goes_on w.told told (all_read all) → Ran form hooked given nothing (λ p. locations_read all) w (Ok tt) (record w { told = told })
  ran_reads all w told goes =
      ran_told form hooked given (λ p log. reads_at (length log) all) w told (λ p log. subst (Goes_on w.told told) (sym (heard_reads (length log) all)) goes)
      (λ p log. asks_reads (length log) all) (λ p log. logs_reads (length log) all) (λ p log. prints_reads (length log) all) (λ p log. answers_reads (length log) all)

  module _ (set : Program → Setting) (w v : World) where
    -- ---- forms by their parts

    pub to_post : (r : Result Reference Stop) (head : Expr) (links : List Link) → Ran form hooked given reference_seen (λ p s. after (refer head (set p) s) (links_followed (set p) links)) w r v → Ran form hooked given reference_seen (λ p. refer (e.Post head links) (set p)) w r v
    to_post r head links = ran_same form hooked given reference_seen _ _ w v r (λ p g past. post_is (set p) head links (state hooked p past w))

    pub to_call : (r : Result Reference Stop) (f : Reference) (all : List Expr) → Ran form hooked given reference_seen (λ p s. after (callee (set p) (reference_seen p f) s) (λ c u. after (call_made (set p) c all u) (λ x. give (Refs.Of x)))) w r v
        → Ran form hooked given reference_seen (λ p. link_followed (set p) (l.Call all) (reference_seen p f)) w r v
    to_call r f all = ran_same form hooked given reference_seen _ _ w v r (λ p g past. link_call_is (set p) all (reference_seen p f) (state hooked p past w))

    pub callee_local : (r : Result Callee' Stop) (f : Reference) (name : Text) → f ≡ Reference.Local name → Ran form hooked given callee_seen (λ p s. after (value_of (set p) (reference_seen p f) s) (λ x. give (A_value x))) w r v
        → Ran form hooked given callee_seen (λ p. callee (set p) (reference_seen p f)) w r v
    callee_local r f name is h = rw is (rw is at h)

    pub to_block : (r : Result Value Stop) (body : Body) (all all' : List Stmt) → body ≡ b.Block all → all' ≡ all → Ran form hooked given value_seen (λ p s. after (statements_ran (set p) all' s) (λ flow. give (flow_value flow))) w r v → Ran form hooked given value_seen (λ p. body_value body (set p)) w r v
    to_block r body all all' is same h = rw is (ran_same form hooked given value_seen _ _ w v r (λ p g past. ap (λ x. after (statements_ran (set p) x (state hooked p past w)) (λ flow. give (flow_value flow))) same ∙ block_body_is (set p) all (state hooked p past w)) h)

    pub to_value : (r : Result Value Stop) (body : Body) (x x' : Expr) → body ≡ b.Value x → x' ≡ x → Ran form hooked given value_seen (λ p. value_in (set p) x') w r v → Ran form hooked given value_seen (λ p. body_value body (set p)) w r v
    to_value r body x x' is same h = rw is (ran_same form hooked given value_seen _ _ w v r (λ p g past. ap (λ y. value_in (set p) y (state hooked p past w)) same ∙ value_body_is (set p) x (state hooked p past w)) h)

    pub ran_chosen : (r : Result Value Stop) (x : Value) (t o : Expr) (q : Bool) → ((captured : _) → q ≡ is_true (seen captured x)) → Ran form hooked given value_seen (λ p. value_in (set p) (cond q t o)) w r v
        → Ran form hooked given value_seen (λ p. valued (set p) (chosen (is_true (value_seen p x)) (refer t (set p)) (refer o (set p)))) w r v
    ran_chosen r x t o q is = ran_same form hooked given value_seen _ _ w v r (λ p g past. sym (ap (λ q. valued (set p) (chosen q (refer t (set p)) (refer o (set p))) (state hooked p past w)) (sym (is (captures_in p))) ∙ picked q p (state hooked p past w)))
      where
        picked : (q : Bool) (p : Program) (s : Running) → valued (set p) (chosen q (refer t (set p)) (refer o (set p))) s ≡ value_in (set p) (cond q t o) s
        picked true p s = refl
        picked false p s = refl

    pub to_if : (r : Result Flow Stop) (c : Expr) (t o : List Stmt) → Ran form hooked given flow_seen (λ p s. after (value_in (set p) c s) (λ x. chosen (is_true x) (block_ran (set p) t) (block_ran (set p) o))) w r v → Ran form hooked given flow_seen (λ p. ran (st.If c t o) (set p)) w r v
    to_if r c t o = ran_same form hooked given flow_seen _ _ w v r (λ p g past. if_is (set p) c t o (state hooked p past w))

    pub ran_branch : (r : Result Flow Stop) (x : Value) (t o : List Stmt) (q : Bool) → ((captured : _) → q ≡ is_true (seen captured x)) → Ran form hooked given flow_seen (λ p. block_ran (set p) (cond q t o)) w r v
        → Ran form hooked given flow_seen (λ p. chosen (is_true (value_seen p x)) (block_ran (set p) t) (block_ran (set p) o)) w r v
    ran_branch r x t o q is = ran_same form hooked given flow_seen _ _ w v r (λ p g past. sym (ap (λ q. chosen q (block_ran (set p) t) (block_ran (set p) o) (state hooked p past w)) (sym (is (captures_in p))) ∙ picked q p (state hooked p past w)))
      where
        picked : (q : Bool) (p : Program) (s : Running) → chosen q (block_ran (set p) t) (block_ran (set p) o) s ≡ block_ran (set p) (cond q t o) s
        picked true p s = refl
        picked false p s = refl

    pub to_block_statement : (r : Result Flow Stop) (all : List Stmt) → Ran form hooked given flow_seen (λ p. block_ran (set p) all) w r v → Ran form hooked given flow_seen (λ p. ran (st.Block all) (set p)) w r v
    to_block_statement r all = ran_same form hooked given flow_seen _ _ w v r (λ p g past. block_is (set p) all (state hooked p past w))

    pub ran_return : (r : Result Flow Stop) (x : Expr) → Ran form hooked given flow_seen (λ p s. after (value_in (set p) x s) (λ y. give (F.Returned y))) w r v → Ran form hooked given flow_seen (λ p. ran (st.Return (Some x)) (set p)) w r v
    unfolding hidden-the_row-Expr-0 hidden
    ran_return r x h = h

    -- what stands at a key, as it was looked up
    pub ran_read : (r : Result Value Stop) (object key : Value) (look : Program → Member_read) → ((p : Program) → read_member (w.heap p) (value_seen p object) (value_seen p key) ≡ look p) → Ran form hooked given value_seen (λ p. member_value (set p) (look p)) w r v
        → Ran form hooked given value_seen (λ p. read (set p) (value_seen p object) (value_seen p key)) w r v
    ran_read r object key look looks = ran_same form hooked given value_seen _ _ w v r (λ p g past. ap (λ m. member_value (set p) m (state hooked p past w)) (sym (looks p)))

  pub ran_return_none : (set : Program → Setting) (w : World) → Ran form hooked given flow_seen (λ p. ran (st.Return None) (set p)) w (Ok (Flow.Returned Value.Undefined)) w
  unfolding hidden-the_row-Expr-0 hidden
  ran_return_none set w = ran_gives form hooked given flow_seen _ w _ (λ p g past. refl)

  -- a value that is found, where its location was told
  pub ran_found : (set : Program → Setting) (w : World) (told : List Told → Type 0) (found : Value) (location : Option Loc) → Goes_on w.told told (all_read (locations_of location))
      → Ran form hooked given value_seen (λ p. member_value (set p) (Found (value_seen p found) (locations_of location))) w (Ok found) (record w { told = told })
  ran_found set w told found location h =
      ran_then form hooked given nothing value_seen (λ p. locations_read (locations_of location)) (λ p u. give (value_seen p found)) w (record w { told = told }) (record w { told = told }) tt (Ok found) (ran_reads (locations_of location) w told h)
      (ran_gives form hooked given value_seen (λ p. give (value_seen p found)) (record w { told = told }) found (λ p g past. refl))

  -- the meaning's fault, or want of memory, where it was looked up
  pub ran_not_found : (set : Program → Setting) (w : World) (objects : List Object) (object key : Value) (r : Result Value Stop) (why : Stop) → r ≡ Err why → ((p : Program) → w.heap p ≡ heap_seen (captures_in p) objects) → LooksUp objects object key (Err why)
      → Ran form hooked given value_seen (λ p. read (set p) (value_seen p object) (value_seen p key)) w r w
  ran_not_found set w objects object key r (Fault f) is heap looks =
      ran_faults form hooked given value_seen _ w r f is (λ p g past. ap (λ h. member_value (set p) (read_member h (value_seen p object) (value_seen p key)) (state hooked p past w)) (heap p) ∙ ap (λ m. member_value (set p) m (state hooked p past w)) (looks (captures_in p)))
  ran_not_found set w objects object key r Ended is heap looks = absurd looks
  ran_not_found set w objects object key r (Code why) is heap looks = absurd looks
  ran_not_found set w objects object key r Memory is heap looks = ran_lost form hooked given value_seen _ w r is

  -- ---- names

  named_is : (here : Setting) (name : Text) (s : Running) → has_field name s.locals ≡ true → refer (e.Name name) here s ≡ Gives (Refs.Local name) s
  named_is here name s is = ap (λ b. chosen b (give (Refs.Local name)) (outer_named here name) s) is

  pub ran_named : (set : Program → Setting) (w : World) (name name' : Text) → name' ≡ name → ((p : Program) → has_field name (w.scope p) ≡ true) → Ran form hooked given reference_seen (λ p. refer (e.Name name) (set p)) w (Ok (Reference.Local name')) w
  ran_named set w name name' same has = rw same (ran_gives form hooked given reference_seen _ w _ (λ p g past. named_is (set p) name (state hooked p past w) (has p)))

  pub ran_assigned : (name : Text) (x : Value) (w : World) (scope : Program → Fields) → ((p : Program) → scope p ≡ replaced name (value_seen p x) (w.scope p))
      → Ran form hooked given flow_seen (λ p s. after (assigned name (value_seen p x) s) (λ u. give F.Onward)) w (Ok Flow.Onward) (record w { scope = scope })
  ran_assigned name x w scope is =
      ran_moved form hooked given flow_seen (λ p. give F.Onward) _ w (record w { scope = scope }) scope _ (λ p g past. ap {A = Fields} (λ l. Gives F.Onward (record (state hooked p past w) { locals = l })) (is p))
      (ran_gives form hooked given flow_seen (λ p. give F.Onward) (record w { scope = scope }) Flow.Onward (λ p g past. refl))

  pub ran_scope_is : (set : Program → Setting) (w : World) (pattern : Pattern) (x : Expr) (names : List Text) → pattern ≡ pt.Scope names → Ran form hooked given flow_seen (λ p. ran (st.Const pattern x) (set p)) w (Ok Flow.Onward) w
  ran_scope_is set w pattern x names is = rw is (ran_gives form hooked given flow_seen _ w _ (λ p g past. refl))

  pub ran_local : (set : Program → Setting) (w : World) (name : Text) (v : Value) → ((p : Program) → value_at name (w.scope p) ≡ value_seen p v) → Ran form hooked given value_seen (λ p. value_of (set p) (Refs.Local name)) w (Ok v) w
  ran_local set w name v h = ran_gives form hooked given value_seen _ w v (λ p g past. ap (λ x. Gives x (state hooked p past w)) (h p))

  pub ran_flow_value : (w : World) (flow : Flow) (v : Value) → ((p : Program) → flow_value (flow_seen p flow) ≡ value_seen p v) → Ran form hooked given value_seen (λ p. give (flow_value (flow_seen p flow))) w (Ok v) w
  ran_flow_value w flow v h = ran_gives form hooked given value_seen _ w v (λ p g past. ap (λ x. Gives x (state hooked p past w)) (h p))

  -- ---- calls

  uncallable : (here : Setting) (x : M.Value) (arguments : List M.Value) (s : Running) → is_function x ≡ false → called here x arguments s ≡ Stops (Faults Faulting.NotCallable) s
  uncallable here x arguments s is = rw is refl

  pub ran_uncallable : (set : Program → Setting) (w : World) (f : Value) (arguments : List Value) (r : Result Value Stop) → r ≡ Err (Fault NotCallable) → ((p : Program) → is_function (value_seen p f) ≡ false) → Ran form hooked given value_seen (λ p. called (set p) (value_seen p f) (values_seen p arguments)) w r w
  ran_uncallable set w f arguments r rs is = ran_faults form hooked given value_seen _ w r NotCallable rs (λ p g past. uncallable (set p) (value_seen p f) (values_seen p arguments) (state hooked p past w) (is p))

  callable_is : (here : Setting) (x : M.Value) (arguments : List M.Value) (s : Running) → is_function x ≡ true → here.enter here.mode here.running x arguments s ≡ called here x arguments s
  callable_is here x arguments s is = rw is refl

  pub ran_callable : (func : Func) (mode : Mode) (running : List Addr) (levels : ℕ) (w v : World) (r : Result Value Stop) (f : Value) (g : Fun) (arguments : List Value) → f ≡ Function g
      → Ran form hooked (λ p. Unit {0}) value_seen (λ p. entering p called_anew levels (mode_seen mode) (addresses running) (value_seen p (Function g)) (values_seen p arguments)) w r v
      → Ran form hooked given value_seen (λ p. called (setting_so func mode running levels p) (value_seen p f) (values_seen p arguments)) w r v
  ran_callable func mode running levels w v r f g arguments is h =
      rw is (ran_same form hooked given value_seen _ _ w v r (λ p k past. callable_is (setting_so func mode running levels p) (value_seen p (Function g)) (values_seen p arguments) (state hooked p past w) (function_is_one p g))
      (ran_known form hooked given (λ p. Unit {0}) value_seen _ w v r (λ files more k. tt) h))

  -- ---- computeds

  cycle_is : (here : Setting) (a : ℕ) (f : M.Value) (s : Running) → is_running a here.running ≡ true → computed_value here a f s ≡ Stops (Faults Faulting.ComputedCycle) s
  cycle_is here a f s is = rw is refl

  pub ran_cycle : (func : Func) (mode : Mode) (running : List Addr) (levels : ℕ) (w : World) (a : Addr) (f : Fun) (r : Result Value Stop) → r ≡ Err (Fault ComputedCycle) → is_running a.0 (addresses running) ≡ true
      → Ran form hooked given value_seen (λ p. computed_value (setting_so func mode running levels p) a.0 (value_seen p (Function f))) w r w
  ran_cycle func mode running levels w a f r rs is = ran_faults form hooked given value_seen _ w r ComputedCycle rs (λ p g past. cycle_is (setting_so func mode running levels p) a.0 (value_seen p (Function f)) (state hooked p past w) is)

  computed_is : (here : Setting) (a : ℕ) (f : M.Value) (s : Running) → is_running a here.running ≡ false → here.computed a f s ≡ computed_value here a f s
  computed_is here a f s is = rw is refl

  pub ran_said : (h : Program → Happening) (w : World) (told : List Told → Type 0) → ((p : Program) → Goes_on w.told told (heard_in (h p ∷ []))) → ((p : Program) → asks_in (h p ∷ []) ≡ [])
      → ((p : Program) → T.logged_in (h p ∷ []) ≡ []) → ((p : Program) → T.printed_in (h p ∷ []) ≡ []) → ((p : Program) → answers_in (h p ∷ []) ≡ [])
      → Ran form hooked given nothing (λ p. noted (h p)) w (Ok tt) (record w { told = told })
  ran_said h w told goes asks logs prints answers = ran_told form hooked given (λ p log. h p ∷ []) w told (λ p log. goes p) (λ p log. asks p) (λ p log. logs p) (λ p log. prints p) (λ p log. answers p)

  module _ (func : Func) (mode : Mode) (running running' : List Addr) (levels : ℕ) (w v : World) (told : List Told → Type 0) (a : Addr) (f : Fun) (none : List Value)
      (not : is_running a.0 (addresses running) ≡ false) (next : running' ≡ a ∷ running) (empty : none ≡ []) (begins : Goes_on w.told told (Besides (Computing a.0) ∷ [])) where
    abbrev inner : Program → Doing Running M.Value
    inner p = entering p called_anew levels R.Pure (addresses (a ∷ running)) (value_seen p (Function f)) []

    abbrev behind : M.Value → Doing Running M.Value
    behind x = ◌>>◌ (noted (Computed_so a.0 x)) (give x)

    from_begin : (u : World) (r : Result Value Stop) → Ran form hooked given value_seen (λ p. ◌>>=◌ (R.unhooked (inner p)) behind) (record w { told = told }) r u
        → Ran form hooked given value_seen (λ p. computed_value (setting_so func mode running levels p) a.0 (value_seen p (Function f))) w r u
    from_begin u r h =
        ran_same form hooked given value_seen _ _ w u r (λ p g past. computed_is (setting_so func mode running levels p) a.0 (value_seen p (Function f)) (state hooked p past w) not)
        (ran_then form hooked given nothing value_seen (λ p. noted (Computing a.0)) (λ p u. ◌>>=◌ (R.unhooked (inner p)) behind) w (record w { told = told }) u tt r
        (ran_said (λ p. Computing a.0) w told (λ p. begins) (λ p. refl) (λ p. refl) (λ p. refl) (λ p. refl)) h)

    unhooked_so : (r : Result Value Stop) → Ran form false (λ p. Unit {0}) value_seen (λ p. entering p called_anew levels R.Pure (addresses running') (value_seen p (Function f)) (values_seen p none)) (record w { told = told }) r v
        → Ran form hooked given value_seen (λ p. R.unhooked (inner p)) (record w { told = told }) r v
    unhooked_so r h =
        ran_known form hooked given (λ p. Unit {0}) value_seen _ (record w { told = told }) v r (λ files more g. tt) (ran_unhooked form hooked (λ p. Unit {0}) value_seen inner (record w { told = told }) v r (rw (next, empty) at h))

    pub ran_computed : (x : Value) (told' : List Told → Type 0) → ((captured : _) → Goes_on v.told told' (Besides (Computed_so a.0 (seen captured x)) ∷ []))
        → Ran form false (λ p. Unit {0}) value_seen (λ p. entering p called_anew levels R.Pure (addresses running') (value_seen p (Function f)) (values_seen p none)) (record w { told = told }) (Ok x) v
        → Ran form hooked given value_seen (λ p. computed_value (setting_so func mode running levels p) a.0 (value_seen p (Function f))) w (Ok x) (record v { told = told' })
    ran_computed x told' ends h =
        from_begin (record v { told = told' }) (Ok x)
        (ran_then form hooked given value_seen value_seen (λ p. R.unhooked (inner p)) (λ p. behind) (record w { told = told }) v (record v { told = told' }) x (Ok x) (unhooked_so (Ok x) h)
        (ran_then form hooked given nothing value_seen (λ p. noted (Computed_so a.0 (value_seen p x))) (λ p u. give (value_seen p x)) v (record v { told = told' }) (record v { told = told' }) tt (Ok x)
        (ran_said (λ p. Computed_so a.0 (value_seen p x)) v told' (λ p. ends (captures_in p)) (λ p. refl) (λ p. refl) (λ p. refl) (λ p. refl))
        (ran_gives form hooked given value_seen (λ p. give (value_seen p x)) (record v { told = told' }) x (λ p g past. refl))))

    pub ran_computed_err : (r : Result Value Stop) (why : Stop) → r ≡ Err why
        → Ran form false (λ p. Unit {0}) value_seen (λ p. entering p called_anew levels R.Pure (addresses running') (value_seen p (Function f)) (values_seen p none)) (record w { told = told }) (Err why) v
        → Ran form hooked given value_seen (λ p. computed_value (setting_so func mode running levels p) a.0 (value_seen p (Function f))) w r v
    ran_computed_err r why is h =
        from_begin v r
        (ran_err form hooked given value_seen value_seen (λ p. R.unhooked (inner p)) (λ p. behind) (record w { told = told }) v r why is
        (λ p x. bind {A = Unit {0}} (noted (Computed_so a.0 x)) (λ u. give x) (hooking_laws.ends_computed a.0 x) (λ u. gives x)) (unhooked_so (Err why) h))

  -- want of memory behind what was done
  pub ran_want : {A A' B B' : Type 0} (hooked' : Bool) (given' : Program → Type 0) (seen' : Program → A' → B') (meaning' : Program → Doing Running B') (seen : Program → A → B) (meaning : Program → Doing Running B) (w w' v : World) (a : A') (scope : Program → Fields) (told : List Told → Type 0) (r : Result A Stop)
      → r ≡ Err Memory → w'.sources ≡ w.sources → w'.counts ≡ w.counts → w'.left ≡ w.left → Ran form hooked' given' seen' meaning' w' (Ok a) v → Ran form hooked given seen meaning w r (record v { scope = scope; told = told })
  ran_want hooked' given' seen' meaning' seen meaning w w' v a scope told r is e1 e2 e3 h =
      ran_memory form hooked given seen meaning w (record v { scope = scope; told = told }) r is (subst (λ x. Extends x v.sources) e1 h.grows) (h.cause ∙ e2) (subst (λ x. Spent x v.left) e3 h.spent)

  -- where there is no result, the names in scope count for nothing
  pub ran_any_scope : {A B : Type 0} (seen : Program → A → B) (m : Program → Doing Running B) (w v : World) (scope : Program → Fields) (r : Result A Stop) (why : Stop) → r ≡ Err why → Ran form hooked given seen m w r v → Ran form hooked given seen m w r (record v { scope = scope })
  ran_any_scope {A} {B} seen m w v scope r why is h =
      rw is (by (rw is at h))
    where
      agree : (seen : A → B) (why : Stop) (outcome : Outcome Running B) (s : Running) (locals : Fields) (asks : List Ask) → Agrees seen asks outcome (Err why) s → Agrees seen asks outcome (Err why) (record s { locals = locals })
      agree seen (Fault f) outcome s locals asks a = record { locals = a.locals; hooking = a.hooking; is = a.is }
      agree seen Ended outcome s locals asks a = record { locals = a.locals; hooking = a.hooking; is = a.is }
      agree seen (Code why) outcome s locals asks a =
          record { ask = a.ask; only = a.only; next = a.next; asked = a.asked; adds = record { told = a.adds.told; trace = a.adds.trace; log = a.adds.log; lines = a.adds.lines; made = a.adds.made; kinds = a.adds.kinds } }
      agree seen Memory outcome s locals asks a = tt

      by : Ran form hooked given seen m w (Err why) v → Ran form hooked given seen m w (Err why) (record v { scope = scope })
      by h =
          record {
            grows = h.grows;
            later = h.later;
            cause = h.cause;
            spent = h.spent;
            happened = h.happened;
            unanswered = h.unanswered;
            heard = h.heard;
            asked = h.asked;
            agrees = λ files more g past. agree (seen (reading form files)) why _ _ (scope (reading form files)) _ (h.agrees files more g past);
          }

  -- the same result by its name
  pub ran_as : {A B : Type 0} (seen : Program → A → B) (m : Program → Doing Running B) (w v : World) (r r' : Result A Stop) → r ≡ r' → Ran form hooked given seen m w r' v → Ran form hooked given seen m w r v
  ran_as seen m w v r r' is h = rw is h
