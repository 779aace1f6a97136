-- Methods that call back, functions of `qrl`, names that are bound, and turns of a `for`.
use Rattle.std.specs.Prelude.{map}
use Rattle.std.proofs.Common.{◌≡◌, List, [], ◌∷◌, Bool, true, false, Result, Ok, Err, refl, ap, ◌∙◌, sym, subst}
use denote.Hole.Carrier.{hidden, roll}
use Rattle.qk_ast.specs.declared.Form.{Form}
use Rattle.qk_ast.specs.declared.Arrow.{Arrow}
use Rattle.qk_ast.specs.declared.Body.{Body}
use Rattle.qk_ast.specs.declared.Body.TheBlock.{hidden-the_row-Expr-2, shape-the_row-Expr-0, hidden-the_row-Expr-0, shape-the_row-Arrow-6, hidden-the_row-Arrow-6, shape-the_row-Jsx-7, hidden-the_row-Jsx-7}
use Rattle.qk_ast.specs.declared.Body.TheOpen.{Expr-F}
use Rattle.qk_ast.specs.declared.Expr.{Expr, out-Expr, roll-Expr, roll-out-Expr}
use Rattle.qk_ast.specs.declared.Expr.TheVariants as e
use Rattle.qk_ast.specs.declared.Field.{Field}
use Rattle.qk_ast.specs.declared.Jsx.{Jsx}
use Rattle.qk_ast.specs.declared.Link.{Link}
use Rattle.qk_ast.specs.declared.Operand.{Operand}
use Rattle.qk_ast.specs.declared.Pattern.{Pattern}
use Rattle.qk_ast.specs.declared.Pattern.TheVariants as pt
use Rattle.qk_ast.specs.declared.Stmt.{Stmt}
use Rattle.qk_ast.specs.Texts.{Text}
use Rattle.qk_meaning.specs.Value as M
use Rattle.qk_meaning.specs.Value.{Fields}
use Rattle.qk_meaning.specs.Fault as Faulting
use Rattle.qk_meaning.specs.Parts.{packed, replaced, without_first}
use Rattle.qk_meaning.specs.Program.{Program, captures_in}
use Rattle.qk_meaning.specs.Operators.{is_function}
use Rattle.qk_meaning.specs.Doing.{Gives, Stops, Faults, after, chosen, give, ◌>>◌, ◌>>=◌}
use Rattle.qk_meaning.specs.Running.{Running, assigned}
use Rattle.qk_meaning.specs.Setting.{Setting}
use Rattle.qk_meaning.specs.Making.{made, made_list}
use Rattle.qk_meaning.specs.Methods.{looked_up, Map, Filter, all_items, called_on_each, kept, mapped, filtered, method_called}
use Rattle.qk_meaning.specs.References.{bound, all_bound}
use Rattle.qk_meaning.specs.In_order.{values_in, block_ran}
use Rattle.qk_meaning.proofs.Rows.{values_row}
use Rattle.qk_value.specs.declared.fault.Fault.TheVariants.{TypeMismatch}
use Rattle.qk_value.specs.declared.value.Value.{Value, Fun as Function}
use Rattle.qk_value.specs.declared.value.Fun.{Fun}
use Rattle.qk_value.specs.View.{seen}
use Rattle.qk_value.proofs.Named.{same_itself}
use Rattle.qk_code.specs.declared.stop.Stop.{Stop}
use Rattle.qk_code.specs.declared.stop.Stop.TheVariants.{Fault}
use Rattle.qk_code.specs.World.{World, state}
use Rattle.qk_code.specs.Ran.{Ran}
use Rattle.qk_code.proofs.Runs.{ran_same, ran_gives, ran_faults, ran_moved, ran_scoped}
use Rattle.qk_meaning.specs.Calls as C
use Rattle.qk_meaning.specs.Calls.{callee, framework_callee, framework_callees}
use Rattle.qk_meaning.specs.References as Refs
use Rattle.qk_eval.specs.declared.callee.Callee.{Callee as Callee'}
use Rattle.qk_eval.specs.declared.flow.Flow.{Flow}
use Rattle.qk_eval.specs.Seeing.{value_seen, values_seen, callee_seen, flow_seen, nothing}
use Rattle.qk_eval.specs.Lists.{lifted_of, turn_ran}
use Rattle.qk_eval.proofs.No_function.{no_function}
use Rattle.qk_eval.proofs.Steps.{function_is_one}

-- ---- `map` and `filter`

module _ (here : Setting) (p : Program) (v : M.Value) where
  -- with one function as the argument
  mapped_so : (x : M.Value) (s : Running) → is_function x ≡ true → mapped here v x s ≡ method_called here Map v (x ∷ []) s
  mapped_so x s is = rw is refl

  filtered_so : (x : M.Value) (s : Running) → is_function x ≡ true → filtered here v x s ≡ method_called here Filter v (x ∷ []) s
  filtered_so x s is = rw is refl

  unmapped_one : (x : M.Value) (s : Running) → is_function x ≡ false → method_called here Map v (x ∷ []) s ≡ Stops (Faults Faulting.TypeMismatch) s
  unmapped_one x s is = rw is refl

  unfiltered_one : (x : M.Value) (s : Running) → is_function x ≡ false → method_called here Filter v (x ∷ []) s ≡ Stops (Faults Faulting.TypeMismatch) s
  unfiltered_one x s is = rw is refl

  -- with anything else
  unmapped : (given : List Value) (s : Running) → ((f : Fun) → given ≡ Function f ∷ [] → ⊥) → method_called here Map v (values_seen p given) s ≡ Stops (Faults Faulting.TypeMismatch) s
  unmapped [] s not = refl
  unmapped (x ∷ []) s not = unmapped_one (value_seen p x) s (no_function (captures_in p) x (λ f is. not f (ap {A = Value} (λ y. y ∷ []) is)))
  unmapped (x ∷ (y ∷ rest)) s not = refl

  unfiltered : (given : List Value) (s : Running) → ((f : Fun) → given ≡ Function f ∷ [] → ⊥) → method_called here Filter v (values_seen p given) s ≡ Stops (Faults Faulting.TypeMismatch) s
  unfiltered [] s not = refl
  unfiltered (x ∷ []) s not = unfiltered_one (value_seen p x) s (no_function (captures_in p) x (λ f is. not f (ap {A = Value} (λ y. y ∷ []) is)))
  unfiltered (x ∷ (y ∷ rest)) s not = refl

-- ---- `qrl`

module _ (here : Setting) (s : Running) where
  lifted_is : (symbol : Text) (names rest : List Expr) → after (values_in here names s) (λ vs. made here (M.Lifted symbol (packed vs) false)) ≡ lifted_of here (e.Text symbol ∷ (e.List names ∷ rest)) s
  unfolding hidden-the_row-Expr-2 hidden
  lifted_is symbol names rest = ap (λ o. after o (λ vs. made here (M.Lifted symbol (packed vs) false))) (sym (values_row here names s))

  abbrev Unlifted : List Expr → Type 0
  Unlifted arguments = lifted_of here arguments s ≡ Stops (Faults Faulting.TypeMismatch) s

  second_other : (symbol : Text) (o : Expr-F Body Expr Link Stmt Arrow Field Jsx Operand) (rest : List Expr) → ((names : List Expr) → roll-Expr o ≡ e.List names → ⊥) → Unlifted (e.Text symbol ∷ (roll-Expr o ∷ rest))
  unfolding roll-Expr roll shape-the_row-Expr-0 hidden-the_row-Expr-0 shape-the_row-Arrow-6 hidden-the_row-Arrow-6 shape-the_row-Jsx-7 hidden-the_row-Jsx-7 hidden-the_row-Expr-2 hidden
  second_other symbol (Expr-F.List xs) rest not = absurd (not xs (sym (e.rolls-List xs)))
  second_other symbol _ rest not = refl

  text_alone : (symbol : Text) → Unlifted (e.Text symbol ∷ [])
  unfolding hidden-the_row-Expr-2 hidden
  text_alone symbol = refl

  nothing_given : Unlifted []
  unfolding hidden-the_row-Expr-2 hidden
  nothing_given = refl

  behind_text : (symbol : Text) (rest : List Expr) → ((names more : List Expr) → rest ≡ e.List names ∷ more → ⊥) → Unlifted (e.Text symbol ∷ rest)
  behind_text symbol [] not = text_alone symbol
  behind_text symbol (x ∷ rest) not =
      subst (λ y. Unlifted (e.Text symbol ∷ (y ∷ rest))) (roll-out-Expr x) (second_other symbol (out-Expr x) rest (λ names is. not names rest (ap {A = Expr} (λ y. y ∷ rest) (sym (roll-out-Expr x) ∙ is))))

  by_first : (o : Expr-F Body Expr Link Stmt Arrow Field Jsx Operand) (rest : List Expr) → ((symbol : Text) (names more : List Expr) → roll-Expr o ∷ rest ≡ e.Text symbol ∷ (e.List names ∷ more) → ⊥) → Unlifted (roll-Expr o ∷ rest)
  unfolding roll-Expr roll shape-the_row-Expr-0 hidden-the_row-Expr-0 shape-the_row-Arrow-6 hidden-the_row-Arrow-6 shape-the_row-Jsx-7 hidden-the_row-Jsx-7 hidden-the_row-Expr-2 hidden
  by_first (Expr-F.Text t) rest not =
      subst (λ y. Unlifted (y ∷ rest)) (e.rolls-Text t) (behind_text t rest (λ names more is. not t names more (ap {A = Expr} (λ y. y ∷ rest) (sym (e.rolls-Text t)) ∙ ap (λ ys. e.Text t ∷ ys) is)))
  by_first _ rest not = refl

  unlifted : (arguments : List Expr) → ((symbol : Text) (names rest : List Expr) → arguments ≡ e.Text symbol ∷ (e.List names ∷ rest) → ⊥) → Unlifted arguments
  unlifted [] not = nothing_given
  unlifted (x ∷ rest) not = subst (λ y. Unlifted (y ∷ rest)) (roll-out-Expr x) (by_first (out-Expr x) rest (λ symbol names more is. not symbol names more (ap {A = Expr} (λ y. y ∷ rest) (sym (roll-out-Expr x)) ∙ is)))

module _ (form : Form) (hooked : Bool) (given : Program → Type 0) (set : Program → Setting) where
  -- ---- methods that call back

  module _ (w u : World) (v : Value) (arguments : List Value) (r : Result Value Stop) where
    pub to_map : (f : Fun) → arguments ≡ Function f ∷ []
        → Ran form hooked given value_seen (λ p s. after (all_items (value_seen p v) s) (λ all. ◌>>=◌ (called_on_each (set p) (value_seen p (Function f)) all) (λ results. made_list (set p) results))) w r u
        → Ran form hooked given value_seen (λ p. method_called (set p) Map (value_seen p v) (values_seen p arguments)) w r u
    to_map f is h = rw is (ran_same form hooked given value_seen _ _ w u r (λ p g past. mapped_so (set p) p (value_seen p v) (value_seen p (Function f)) (state hooked p past w) (function_is_one p f)) h)

    pub to_filter : (f : Fun) → arguments ≡ Function f ∷ []
        → Ran form hooked given value_seen (λ p s. after (all_items (value_seen p v) s) (λ all. ◌>>=◌ (called_on_each (set p) (value_seen p (Function f)) all) (λ results. made_list (set p) (kept all results)))) w r u
        → Ran form hooked given value_seen (λ p. method_called (set p) Filter (value_seen p v) (values_seen p arguments)) w r u
    to_filter f is h = rw is (ran_same form hooked given value_seen _ _ w u r (λ p g past. filtered_so (set p) p (value_seen p v) (value_seen p (Function f)) (state hooked p past w) (function_is_one p f)) h)

  pub ran_unmapped : (w : World) (v : Value) (arguments : List Value) (r : Result Value Stop) → r ≡ Err (Fault TypeMismatch) → ((f : Fun) → arguments ≡ Function f ∷ [] → ⊥) → Ran form hooked given value_seen (λ p. method_called (set p) Map (value_seen p v) (values_seen p arguments)) w r w
  ran_unmapped w v arguments r rs not = ran_faults form hooked given value_seen _ w r TypeMismatch rs (λ p g past. unmapped (set p) p (value_seen p v) arguments (state hooked p past w) not)

  pub ran_unfiltered : (w : World) (v : Value) (arguments : List Value) (r : Result Value Stop) → r ≡ Err (Fault TypeMismatch) → ((f : Fun) → arguments ≡ Function f ∷ [] → ⊥) → Ran form hooked given value_seen (λ p. method_called (set p) Filter (value_seen p v) (values_seen p arguments)) w r w
  ran_unfiltered w v arguments r rs not = ran_faults form hooked given value_seen _ w r TypeMismatch rs (λ p g past. unfiltered (set p) p (value_seen p v) arguments (state hooked p past w) not)

  -- a list of what was kept
  pub ran_kept : (w u : World) (r : Result Value Stop) (left all all' flags flags' : List Value) → all' ≡ all → flags' ≡ flags → ((names : _) → map (seen names) left ≡ kept (map (seen names) all') (map (seen names) flags'))
      → Ran form hooked given value_seen (λ p. made_list (set p) (values_seen p left)) w r u → Ran form hooked given value_seen (λ p. made_list (set p) (kept (values_seen p all) (values_seen p flags))) w r u
  ran_kept w u r left all all' flags flags' a b is =
      ran_same form hooked given value_seen _ _ w u r
      (λ p g past. ap {A = List M.Value} (λ vs. made_list (set p) vs (state hooked p past w)) (is (captures_in p) ∙ ap {A = List Value} (λ xs. kept (values_seen p xs) (values_seen p flags')) a ∙ ap {A = List Value} (λ xs. kept (values_seen p all) (values_seen p xs)) b))

  -- ---- `qrl`

  pub to_lifted : (w u : World) (arguments : List Expr) (r : Result Value Stop) (symbol : Text) (names rest : List Expr) → arguments ≡ e.Text symbol ∷ (e.List names ∷ rest)
      → Ran form hooked given value_seen (λ p s. after (values_in (set p) names s) (λ vs. made (set p) (M.Lifted symbol (packed vs) false))) w r u → Ran form hooked given value_seen (λ p. lifted_of (set p) arguments) w r u
  to_lifted w u arguments r symbol names rest is h = rw is (ran_same form hooked given value_seen _ _ w u r (λ p g past. lifted_is (set p) (state hooked p past w) symbol names rest) h)

  pub ran_unlifted : (w : World) (arguments : List Expr) (r : Result Value Stop) → r ≡ Err (Fault TypeMismatch) → ((symbol : Text) (names rest : List Expr) → arguments ≡ e.Text symbol ∷ (e.List names ∷ rest) → ⊥) → Ran form hooked given value_seen (λ p. lifted_of (set p) arguments) w r w
  ran_unlifted w arguments r rs not = ran_faults form hooked given value_seen _ w r TypeMismatch rs (λ p g past. unlifted (set p) (state hooked p past w) arguments not)

  -- ---- a name of the framework is called

  pub ran_framework_callee : (w : World) (name : Text) (c : Callee') → ((p : Program) → callee_seen p c ≡ framework_callee (looked_up name framework_callees)) → Ran form hooked given callee_seen (λ p. callee (set p) (Refs.Framework_name name)) w (Ok c) w
  ran_framework_callee w name c is = ran_gives form hooked given callee_seen _ w c (λ p g past. ap {A = C.Callee} (λ x. Gives x (state hooked p past w)) (sym (is p)))

  -- ---- names that are bound

  pub ran_bound_name : (w : World) (name : Text) (x : Value) (scope : Program → Fields) → ((p : Program) → scope p ≡ replaced name (value_seen p x) (w.scope p)) → Ran form hooked given nothing (λ p. bound (set p) (pt.Name name) (value_seen p x)) w (Ok tt) (record w { scope = scope })
  ran_bound_name w name x scope is =
      ran_moved form hooked given nothing (λ p. give tt) _ w (record w { scope = scope }) scope _ (λ p g past. ap {A = Fields} (λ l. Gives tt (record (state hooked p past w) { locals = l })) (is p))
      (ran_gives form hooked given nothing (λ p. give tt) (record w { scope = scope }) tt (λ p g past. refl))

  -- the parameters of an arrow, but for that of a task
  pub ran_no_parameters : (w : World) (patterns : List Pattern) (arguments : List Value) → ((p : Program) → (set p).tracks ≡ true) → Ran form hooked given nothing (λ p. chosen (set p).tracks (give tt) (all_bound (set p) patterns (values_seen p arguments))) w (Ok tt) w
  ran_no_parameters w patterns arguments is =
      ran_gives form hooked given nothing _ w tt (λ p g past. ap (λ t. chosen t (give {S = Running} tt) (all_bound (set p) patterns (values_seen p arguments)) (state hooked p past w)) (is p))

  pub to_parameters : (w u : World) (r : Result (Unit {0}) Stop) (patterns : List Pattern) (arguments : List Value) → ((p : Program) → (set p).tracks ≡ false)
      → Ran form hooked given nothing (λ p. all_bound (set p) patterns (values_seen p arguments)) w r u → Ran form hooked given nothing (λ p. chosen (set p).tracks (give tt) (all_bound (set p) patterns (values_seen p arguments))) w r u
  to_parameters w u r patterns arguments not =
      ran_same form hooked given nothing _ _ w u r (λ p g past. sym (ap (λ t. chosen t (give {S = Running} tt) (all_bound (set p) patterns (values_seen p arguments)) (state hooked p past w)) (not p)))

  -- ---- a turn of a `for`

  first_replaced : (name : Text) (v : M.Value) (rest : Fields) → replaced name v (M.field name M.Undefined rest) ≡ M.field name v rest
  first_replaced name v rest = ap (λ b. elim b [ true ↦ M.field name v rest | false ↦ M.field name M.Undefined (replaced name v rest) ]) (same_itself name)

  pub ran_turn_of : (name : Text) (statements : List Stmt) (item : Value) (w u : World) (pushed outer : Program → Fields) (r : Result Flow Stop)
      → ((p : Program) → pushed p ≡ M.field name (value_seen p item) (w.scope p)) → ((p : Program) → outer p ≡ without_first 1 (u.scope p))
      → Ran form hooked given flow_seen (λ p. block_ran (set p) statements) (record w { scope = pushed }) r u
      → Ran form hooked given flow_seen (λ p. turn_ran (set p) name statements (value_seen p item)) w r (record u { scope = outer })
  ran_turn_of name statements item w u pushed outer r pushes closes h =
      ran_scoped form hooked given flow_seen (name ∷ []) (λ p. ◌>>◌ (assigned name (value_seen p item)) (block_ran (set p) statements)) w u (λ p. M.field name M.Undefined (w.scope p)) outer r (λ p. refl) closes
      (ran_moved form hooked given flow_seen (λ p. block_ran (set p) statements) (λ p. ◌>>◌ (assigned name (value_seen p item)) (block_ran (set p) statements)) (record w { scope = λ p. M.field name M.Undefined (w.scope p) }) u pushed r
      (λ p g past. ap {A = Fields} (λ l. block_ran (set p) statements (record (state hooked p past w) { locals = l })) (pushes p ∙ sym (first_replaced name (value_seen p item) (w.scope p)))) h)
