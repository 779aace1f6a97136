-- What a run of each form of expression and statement is, from the runs of its parts.
use Rattle.std.proofs.Common.{◌≡◌, List, Bool, true, false, Result, Ok, Err, refl, ap}
use Rattle.qk_ast.specs.declared.Form.{Form}
use Rattle.qk_ast.specs.declared.Expr.{Expr}
use Rattle.qk_ast.specs.declared.Expr.TheVariants as e
use Rattle.qk_ast.specs.declared.Stmt.{Stmt}
use Rattle.qk_ast.specs.declared.Stmt.TheVariants as st
use Rattle.qk_ast.specs.declared.Pattern.{Pattern}
use Rattle.qk_ast.specs.declared.Pattern.TheVariants as pt
use Rattle.qk_ast.specs.Texts.{Text}
use Rattle.qk_meaning.specs.Value as M
use Rattle.qk_meaning.specs.Value.{Fields}
use Rattle.qk_meaning.specs.Program.{Program}
use Rattle.qk_meaning.specs.Doing.{Gives, Doing, after, give, chosen, ◌>>◌, ◌>>=◌}
use Rattle.qk_meaning.specs.Running.{Running}
use Rattle.qk_meaning.specs.Setting.{Setting}
use Rattle.qk_meaning.specs.References as Refs
use Rattle.qk_meaning.specs.References.{value_of, read, computed_value, member_value, outer_named, valued}
use Rattle.qk_meaning.specs.Calls.{Callee, call}
use Rattle.qk_meaning.specs.Flow as F
use Rattle.qk_meaning.specs.Flow.{flow_value, unless_left}
use Rattle.qk_meaning.specs.Evaluation.{refer, ran}
use Rattle.qk_meaning.specs.In_order.{value_in, values_in, block_ran}
use Rattle.qk_value.specs.declared.value.Value.{Value}
use Rattle.qk_code.specs.declared.stop.Stop.{Stop}
use Rattle.qk_code.specs.World.{World, state}
use Rattle.qk_code.specs.Ran.{Ran}
use Rattle.qk_code.proofs.Runs.{ran_same, ran_gives, ran_faults, ran_lost}
use Rattle.qk_eval.specs.declared.reference.Reference.{Reference}
use Rattle.qk_eval.specs.declared.flow.Flow.{Flow}
use Rattle.qk_eval.specs.declared.callee.Callee.{Callee as Callee'}
use Rattle.qk_eval.specs.Seeing.{value_seen, reference_seen, flow_seen, callee_seen}
use Rattle.qk_eval.specs.Lists.{call_made}
use Rattle.qk_ast.specs.declared.Field.{Field}
use Rattle.qk_ast.specs.declared.Operand.{Operand}
use Rattle.qk_meaning.specs.Doing.{each}
use Rattle.qk_meaning.specs.References.{bound, fields_bound, all_bound}
use Rattle.qk_meaning.specs.Flow.{looped, repeated, repeated_for, one_turn, then_next}
use Rattle.qk_meaning.specs.In_order.{fields_in, operand_chained, operands_chained}
use Rattle.qk_eval.proofs.Forms.{list_is, record_is, template_is, unary_is, chain_is, cond_is, settled, assign_is, step_is, known_is, arrow_is, markup_parts, jsx_is, while_is, for_is}
use Rattle.qk_ast.specs.declared.Un.{Un}
use Rattle.qk_ast.specs.declared.AssignOp.{AssignOp}
use Rattle.qk_ast.specs.declared.Known.{Known}
use Rattle.qk_ast.specs.declared.Arrow.{Arrow}
use Rattle.qk_ast.specs.declared.Jsx.{Jsx, out-Jsx}
use Rattle.qk_ast.specs.declared.Link.{Link}
use Rattle.qk_ast.specs.declared.Operand.{Operand}
use Rattle.qk_meaning.specs.Operators.{Answer, Is, is_true, unary, stepped, short_text, decides, binary}
use Rattle.qk_meaning.specs.Making.{made_list, made_record, made_function, filled}
use Rattle.qk_meaning.specs.Methods.{all_items}
use Rattle.qk_meaning.specs.References.{old_value, combined, stored, removed}
use Rattle.qk_meaning.specs.Calls.{known_called, is_qrl}
use Rattle.qk_meaning.specs.Running.{answered}
use Rattle.qk_meaning.specs.In_order.{hole_text}
use Rattle.qk_eval.specs.Lists.{each_ran}
use Rattle.qk_ops.specs.declared.stop.OpStop.{OpStop}
use Rattle.qk_ops.specs.Answering.{Gave}
use Rattle.qk_code.specs.Stops.{stop_on}

module _ (form : Form) (hooked : Bool) (given : Program → Type 0) where
  module _ (set : Program → Setting) (w v : World) (r : Result Value Stop) where
    pub to_list : (items : List Expr) → Ran form hooked given value_seen (λ p s. after (values_in (set p) items s) (made_list (set p))) w r v → Ran form hooked given value_seen (λ p. value_in (set p) (e.List items)) w r v
    to_list items = ran_same form hooked given value_seen _ _ w v r (λ p g past. list_is (set p) items (state hooked p past w))

    pub to_record : (fields : List Field) → Ran form hooked given value_seen (λ p s. after (fields_in (set p) fields s) (made_record (set p))) w r v → Ran form hooked given value_seen (λ p. value_in (set p) (e.Record fields)) w r v
    to_record fields = ran_same form hooked given value_seen _ _ w v r (λ p g past. record_is (set p) fields (state hooked p past w))

    pub to_template : (parts : List Text) (holes : List Expr) → Ran form hooked given value_seen (λ p s. after (each (hole_text (set p)) holes s) (λ ts. answered (short_text (filled parts ts)))) w r v → Ran form hooked given value_seen (λ p. value_in (set p) (e.Template parts holes)) w r v
    to_template parts holes = ran_same form hooked given value_seen _ _ w v r (λ p g past. template_is (set p) parts holes (state hooked p past w))

    pub to_unary : (operator : Un) (x : Expr) → Ran form hooked given value_seen (λ p s. after (value_in (set p) x s) (λ y. answered (unary operator y))) w r v → Ran form hooked given value_seen (λ p. value_in (set p) (e.Unary operator x)) w r v
    to_unary operator x = ran_same form hooked given value_seen _ _ w v r (λ p g past. unary_is (set p) operator x (state hooked p past w))

    pub to_chain : (first : Expr) (rest : List Operand) → Ran form hooked given value_seen (λ p s. after (value_in (set p) first s) (operands_chained (set p) rest)) w r v → Ran form hooked given value_seen (λ p. value_in (set p) (e.Chain first rest)) w r v
    to_chain first rest = ran_same form hooked given value_seen _ _ w v r (λ p g past. chain_is (set p) first rest (state hooked p past w))

    pub to_cond : (c t o : Expr) → Ran form hooked given value_seen (λ p s. after (value_in (set p) c s) (λ x. valued (set p) (chosen (is_true x) (refer t (set p)) (refer o (set p))))) w r v → Ran form hooked given value_seen (λ p. value_in (set p) (e.Cond c t o)) w r v
    to_cond c t o = ran_same form hooked given value_seen _ _ w v r (λ p g past. cond_is (set p) c t o (state hooked p past w))

    pub to_assign : (operator : AssignOp) (target x : Expr) → Ran form hooked given value_seen (λ p s. after (refer target (set p) s) (λ a. ◌>>=◌ (old_value operator (value_of (set p) a)) (λ old. ◌>>=◌ (value_in (set p) x) (λ y. ◌>>=◌ (answered (combined operator old y)) (λ new. ◌>>◌ (stored (set p) a new) (give new)))))) w r v → Ran form hooked given value_seen (λ p. value_in (set p) (e.Assign operator target x)) w r v
    to_assign operator target x = ran_same form hooked given value_seen _ _ w v r (λ p g past. assign_is (set p) operator target x (state hooked p past w))

    pub to_step : (up : Bool) (target : Expr) → Ran form hooked given value_seen (λ p s. after (refer target (set p) s) (λ a. ◌>>=◌ (value_of (set p) a) (λ old. ◌>>=◌ (answered (stepped up old)) (λ new. ◌>>◌ (stored (set p) a new) (give old))))) w r v → Ran form hooked given value_seen (λ p. value_in (set p) (e.Step up target)) w r v
    to_step up target = ran_same form hooked given value_seen _ _ w v r (λ p g past. step_is (set p) up target (state hooked p past w))

    pub to_known : (known : Known) (arguments : List Expr) → Ran form hooked given value_seen (λ p s. after (values_in (set p) arguments s) (known_called (set p) known)) w r v → Ran form hooked given value_seen (λ p. value_in (set p) (e.Known known arguments)) w r v
    to_known known arguments = ran_same form hooked given value_seen _ _ w v r (λ p g past. known_is (set p) known arguments (state hooked p past w))

    pub to_arrow : (arrow : Arrow) → Ran form hooked given value_seen (λ p. made_function (set p) arrow.place) w r v → Ran form hooked given value_seen (λ p. value_in (set p) (e.Arrow arrow)) w r v
    to_arrow arrow = ran_same form hooked given value_seen _ _ w v r (λ p g past. arrow_is (set p) arrow (state hooked p past w))

    pub to_jsx : (jsx : Jsx) → Ran form hooked given value_seen (λ p. markup_parts (set p) (out-Jsx jsx).tag (out-Jsx jsx).attrs (out-Jsx jsx).children) w r v → Ran form hooked given value_seen (λ p. value_in (set p) (e.Jsx jsx)) w r v
    to_jsx jsx = ran_same form hooked given value_seen _ _ w v r (λ p g past. jsx_is (set p) jsx (state hooked p past w))

  -- what is no name and no chain of postfix forms stands for its value
  pub to_settled : (set : Program → Setting) (w v : World) (r : Result Reference Stop) (x : Expr) → ((name : Text) → x ≡ e.Name name → ⊥) → ((head : Expr) (links : List Link) → x ≡ e.Post head links → ⊥)
      → Ran form hooked given reference_seen (λ p s. after (value_in (set p) x s) (λ y. give (Refs.Of y))) w r v → Ran form hooked given reference_seen (λ p. refer x (set p)) w r v
  to_settled set w v r x name post = ran_same form hooked given reference_seen _ _ w v r (λ p g past. settled (set p) x (state hooked p past w) name post)

  module _ (set : Program → Setting) (w v : World) (r : Result Flow Stop) where
    pub to_for : (name : Text) (x : Expr) (statements : List Stmt) → Ran form hooked given flow_seen (λ p s. after (value_in (set p) x s) (λ y. ◌>>=◌ (all_items y) (each_ran (set p) name statements))) w r v → Ran form hooked given flow_seen (λ p. ran (st.ForOf name x statements) (set p)) w r v
    to_for name x statements = ran_same form hooked given flow_seen _ _ w v r (λ p g past. for_is (set p) name x statements (state hooked p past w))

    const_is : (here : Setting) (pattern : Pattern) (x : Expr) (s : Running) → ((names : List Text) → pattern ≡ pt.Scope names → ⊥) → after (value_in here x s) (λ y. ◌>>◌ (bound here pattern y) (give F.Onward)) ≡ ran (st.Const pattern x) here s
    const_is here (Pattern.Name name) x s not = refl
    const_is here (Pattern.Fields names) x s not = refl
    const_is here (Pattern.Scope names) x s not = absurd (not names refl)

    pub to_const : (pattern : Pattern) (x : Expr) → ((names : List Text) → pattern ≡ pt.Scope names → ⊥) → Ran form hooked given flow_seen (λ p s. after (value_in (set p) x s) (λ y. ◌>>◌ (bound (set p) pattern y) (give F.Onward))) w r v
        → Ran form hooked given flow_seen (λ p. ran (st.Const pattern x) (set p)) w r v
    to_const pattern x not = ran_same form hooked given flow_seen _ _ w v r (λ p g past. const_is (set p) pattern x (state hooked p past w) not)

    -- a `while` has as many turns as the budget
    pub to_while : (condition : Expr) (statements : List Stmt) → Ran form hooked given flow_seen (λ p. repeated w.left.turns (value_in (set p) condition) (block_ran (set p) statements)) w r v → Ran form hooked given flow_seen (λ p. ran (st.While condition statements) (set p)) w r v
    to_while condition statements = ran_same form hooked given flow_seen _ _ w v r (λ p g past. while_is (set p) condition statements (state hooked p past w))

  -- ---- answers of operators

  -- an operator gave what the meaning answers
  pub ran_answer : {A B : Type 0} (seen' : Program → A → B) (answer : Program → Answer B) (w : World) (a : A) → ((p : Program) → answer p ≡ Is (seen' p a)) → Ran form hooked given seen' (λ p. answered (answer p)) w (Ok a) w
  ran_answer seen' answer w a is = ran_gives form hooked given seen' (λ p. answered (answer p)) w a (λ p g past. ap (λ x. answered x (state hooked p past w)) (is p))

  -- or its fault, or memory ran out; more would have come
  pub ran_no_answer : {A A' B B' : Type 0} (seen' : Program → A' → B') (view : Program → A → B) (answer : Program → Answer B) (next : Program → B → Doing Running B') (w : World) (r : Result A' Stop) (why : OpStop)
      → r ≡ Err (stop_on why) → ((p : Program) → Gave (view p) (answer p) (Err why)) → Ran form hooked given seen' (λ p s. after (answered (answer p) s) (next p)) w r w
  ran_no_answer {A} {A'} {B} {B'} seen' view answer next w r (OpStop.Fault f) is h =
      ran_faults form hooked given seen' (λ p s. after (answered (answer p) s) (next p)) w r f is (λ p g past. ap (λ x. after (answered x (state hooked p past w)) (next p)) (h p))
  ran_no_answer seen' view answer next w r OpStop.Memory is h = ran_lost form hooked given seen' (λ p s. after (answered (answer p) s) (next p)) w r is

  -- an answer that is none, with nothing behind it
  pub ran_answer_err : {A B : Type 0} (seen' : Program → A → B) (answer : Program → Answer B) (w : World) (r : Result A Stop) (why : OpStop) → r ≡ Err (stop_on why) → ((p : Program) → Gave (seen' p) (answer p) (Err why)) → Ran form hooked given seen' (λ p. answered (answer p)) w r w
  ran_answer_err seen' answer w r (OpStop.Fault f) is h = ran_faults form hooked given seen' (λ p. answered (answer p)) w r f is (λ p g past. ap (λ x. answered x (state hooked p past w)) (h p))
  ran_answer_err seen' answer w r OpStop.Memory is h = ran_lost form hooked given seen' (λ p. answered (answer p)) w r is

  -- ---- an operand

  module _ (set : Program → Setting) (o : Operand) (x : Value) (w : World) where
    decided_is : (here : Setting) (y : M.Value) (s : Running) → decides o.op y ≡ true → operand_chained here o y s ≡ Gives y s
    decided_is here y s is = rw is refl

    pub ran_decided : (r : Value) → ((p : Program) → decides o.op (value_seen p x) ≡ true) → r ≡ x → Ran form hooked given value_seen (λ p. operand_chained (set p) o (value_seen p x)) w (Ok r) w
    ran_decided r is same = rw same (ran_gives form hooked given value_seen (λ p. operand_chained (set p) o (value_seen p x)) w x (λ p g past. decided_is (set p) (value_seen p x) (state hooked p past w) (is p)))

    operand_is : (here : Setting) (y : M.Value) (s : Running) → decides o.op y ≡ false → after (value_in here o.value s) (λ u. answered (binary o.op y u)) ≡ operand_chained here o y s
    operand_is here y s is = rw is refl

    pub to_operand : (v : World) (r : Result Value Stop) → ((p : Program) → decides o.op (value_seen p x) ≡ false) → Ran form hooked given value_seen (λ p s. after (value_in (set p) o.value s) (λ u. answered (binary o.op (value_seen p x) u))) w r v
        → Ran form hooked given value_seen (λ p. operand_chained (set p) o (value_seen p x)) w r v
    to_operand v r is = ran_same form hooked given value_seen (λ p s. after (value_in (set p) o.value s) (λ u. answered (binary o.op (value_seen p x) u))) (λ p. operand_chained (set p) o (value_seen p x)) w v r (λ p g past. operand_is (set p) (value_seen p x) (state hooked p past w) (is p))

  -- a call of anything but `qrl`
  called_is : (here : Setting) (c : Callee) (arguments : List Expr) (s : Running) → is_qrl c ≡ false → after (values_in here arguments s) (call here c) ≡ call_made here c arguments s
  called_is here c arguments s is = rw is refl

  no_qrl : (p : Program) (c : Callee') → (c ≡ Callee'.Qrl → ⊥) → is_qrl (callee_seen p c) ≡ false
  no_qrl p (Callee'.Value v) not = refl
  no_qrl p (Callee'.Method m v) not = refl
  no_qrl p Callee'.Tracker not = refl
  no_qrl p Callee'.Dollar not = refl
  no_qrl p Callee'.Mark not = refl
  no_qrl p Callee'.Qrl not = absurd (not refl)
  no_qrl p (Callee'.Hook kind) not = refl

  pub call_made_so : (set : Program → Setting) (w v : World) (r : Result Value Stop) (c : Callee') (arguments : List Expr) → (c ≡ Callee'.Qrl → ⊥) → Ran form hooked given value_seen (λ p s. after (values_in (set p) arguments s) (call (set p) (callee_seen p c))) w r v
      → Ran form hooked given value_seen (λ p. call_made (set p) (callee_seen p c) arguments) w r v
  call_made_so set w v r c arguments not = ran_same form hooked given value_seen _ _ w v r (λ p g past. called_is (set p) (callee_seen p c) arguments (state hooked p past w) (no_qrl p c not))
