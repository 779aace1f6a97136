-- The meaning of each form, by the meanings of its parts.
use Rattle.std.proofs.Common.{◌≡◌, ℕ, zero, suc, length, List, [], ◌∷◌, ◌++◌, Bool, true, false, refl, ap, ◌∙◌, sym, subst, append_assoc}
use Rattle.std.specs.Prelude.{map}
use denote.Hole.Carrier.{hidden, roll}
use Rattle.qk_ast.specs.declared.Body.TheBlock.{shape-the_row-Expr-0, hidden-the_row-Expr-0, hidden-the_row-Stmt-1, hidden-the_row-Expr-2, hidden-the_row-Field-3, hidden-the_row-Operand-4, shape-the_row-Arrow-6, hidden-the_row-Arrow-6, shape-the_row-Jsx-7, hidden-the_row-Jsx-7}
use Rattle.qk_ast.specs.Texts.{Text}
use Rattle.qk_ast.specs.Names.{declared_in}
use Rattle.qk_ast.specs.declared.Body.{Body}
use Rattle.qk_ast.specs.declared.Body.TheOpen.{Expr-F}
use Rattle.qk_ast.specs.declared.Expr.{Expr, out-Expr, roll-Expr, roll-out-Expr}
use Rattle.qk_ast.specs.declared.Expr.TheVariants as e
use Rattle.qk_ast.specs.declared.Field.{Field}
use Rattle.qk_ast.specs.declared.Operand.{Operand}
use Rattle.qk_ast.specs.declared.Arrow.{Arrow}
use Rattle.qk_ast.specs.declared.Jsx.{Jsx, roll-Jsx, out-Jsx, roll-out-Jsx}
use Rattle.qk_ast.specs.declared.Tag.{Tag}
use Rattle.qk_ast.specs.declared.Un.{Un}
use Rattle.qk_ast.specs.declared.AssignOp.{AssignOp}
use Rattle.qk_ast.specs.declared.Known.{Known}
use Rattle.qk_ast.specs.declared.Link.{Link}
use Rattle.qk_ast.specs.declared.Link.TheVariants as l
use Rattle.qk_ast.specs.declared.Stmt.{Stmt}
use Rattle.qk_ast.specs.declared.Stmt.TheVariants as st
use Rattle.qk_ast.specs.declared.Body.TheVariants as b
use Rattle.qk_meaning.specs.Value.{Value, Fields}
use Rattle.qk_meaning.specs.Parts.{listed, packed, replaced, without_first}
use Rattle.qk_meaning.specs.Operators.{is_true, unary, stepped, short_text}
use Rattle.qk_meaning.specs.Doing.{Outcome, Gives, Stops, Doing, ◌>>=◌, ◌>>◌, after, give, chosen, each}
use Rattle.qk_meaning.specs.Running.{Running, answered, assigned, take_turn, locals_become}
use Rattle.qk_meaning.specs.Setting.{Setting}
use Rattle.qk_meaning.specs.Making.{made_list, made_record, made_function, tag_told, shown_of, made_markup, filled}
use Rattle.qk_meaning.specs.Methods.{all_items}
use Rattle.qk_meaning.specs.References.{Reference, Of, value_of, valued, old_value, combined, stored, removed}
use Rattle.qk_meaning.specs.Calls.{Callee, callee, call, is_qrl, known_called}
use Rattle.qk_meaning.specs.Flow.{Flow, Onward, Broke, Continued, Returned, flow_value, looped, repeated, repeated_for, one_turn, then_next, opened, scoped}
use Rattle.qk_meaning.specs.Evaluation.{refer, lifted_value, values, hole_texts, field_values, chained, markup, ran, all_ran, body_value}
use Rattle.qk_meaning.specs.In_order.{value_in, values_in, hole_text, fields_in, operands_chained, link_followed, links_followed, statements_ran, block_ran}
use Rattle.qk_meaning.proofs.Rows.{after_same, after_after, after_give, values_row, holes_row, fields_row, operands_row, links_row, statements_row, block_row}
use Rattle.qk_making.specs.Marking.{markup_made}
use Rattle.qk_value.specs.declared.value.Value.{Value as Held}
use Rattle.qk_value.specs.View.{seen, seen_all}
use Rattle.qk_environment.specs.Scoping.{Captures}
use Rattle.qk_eval.specs.Lists.{each_after, tag_shown, call_made, turn_ran, each_ran}

pub list_seen : (captured : Captures) (vs : List Held) → listed (seen_all captured vs) ≡ map (seen captured) vs
list_seen captured [] = refl
list_seen captured (v ∷ rest) = ap (λ all. seen captured v ∷ all) (list_seen captured rest)

-- what is given of each, one after another
pub each_first : {A B : Type 0} (f : A → Doing Running B) (all : List A) (s : Running) → each_after f [] all s ≡ each f all s
each_first f all s = after_give (each f all s)

pub each_next : {A B : Type 0} (f : A → Doing Running B) (so_far : List B) (a : A) (rest : List A) (s : Running) → after (f a s) (λ b. each_after f (so_far ++ b ∷ []) rest) ≡ each_after f so_far (a ∷ rest) s
each_next f so_far a rest s =
    after_same (f a s) _ _ (λ b u. after_same (each f rest u) _ _ (λ bs t. ap (λ all. Gives all t) (append_assoc so_far (b ∷ []) bs)) ∙ sym (after_after (each f rest u) _ _))
    ∙ sym (after_after (f a s) _ _)

module _ (here : Setting) where
  pub post_is : (head : Expr) (links : List Link) (s : Running) → after (refer head here s) (links_followed here links) ≡ refer (e.Post head links) here s
  unfolding hidden-the_row-Expr-0 hidden
  post_is head links s = sym (after_same (refer head here s) _ _ (λ r u. links_row here links r u))

  made_is : (all : List Expr) (c : Callee) (q : Bool) (u : Running)
      → chosen q (lifted_value (hidden-the_row-Expr-2 all) here) (◌>>=◌ (values_in here all) (call here c)) u ≡ chosen q (lifted_value (hidden-the_row-Expr-2 all) here) (◌>>=◌ (values (hidden-the_row-Expr-2 all) here) (call here c)) u
  made_is all c true u = refl
  made_is all c false u = ap (λ o. after o (call here c)) (sym (values_row here all u))

  pub link_call_is : (all : List Expr) (r : Reference) (s : Running) → after (callee here r s) (λ c u. after (call_made here c all u) (λ v. give (Of v))) ≡ link_followed here (l.Call all) r s
  unfolding hidden-the_row-Expr-2 hidden
  link_call_is all r s = after_same (callee here r s) _ _ (λ c u. ap (λ o. after o (λ v. give (Of v))) (made_is all c (is_qrl c) u))

  pub block_body_is : (all : List Stmt) (s : Running) → after (statements_ran here all s) (λ flow. give (flow_value flow)) ≡ body_value (b.Block all) here s
  unfolding hidden-the_row-Stmt-1 hidden
  block_body_is all s = ap (λ o. after o (λ flow. give (flow_value flow))) (sym (statements_row here all s))

  pub value_body_is : (x : Expr) (s : Running) → value_in here x s ≡ body_value (b.Value x) here s
  unfolding hidden-the_row-Expr-0 hidden
  value_body_is x s = refl

  pub block_is : (all : List Stmt) (s : Running) → block_ran here all s ≡ ran (st.Block all) here s
  unfolding hidden-the_row-Stmt-1 hidden
  block_is all s = sym (block_row here all s)

  branch_is : (then otherwise : List Stmt) (q : Bool) (s : Running) → chosen q (block_ran here then) (block_ran here otherwise) s ≡ chosen q (ran (st.Block then) here) (ran (st.Block otherwise) here) s
  branch_is then otherwise true s = block_is then s
  branch_is then otherwise false s = block_is otherwise s

  pub if_is : (c : Expr) (then otherwise : List Stmt) (s : Running) → after (value_in here c s) (λ v. chosen (is_true v) (block_ran here then) (block_ran here otherwise)) ≡ ran (st.If c then otherwise) here s
  unfolding hidden-the_row-Stmt-1 hidden
  if_is c then otherwise s = after_same (value_in here c s) _ _ (λ v u. branch_is then otherwise (is_true v) u)

  -- ---- expressions

  of_given : (o : Outcome Running Value) → o ≡ after (after o (λ v. give (Of v))) (value_of here)
  of_given (Gives v s) = refl
  of_given (Stops why s) = refl

  -- what is given and stands for itself is the value
  of_value : (x : Expr) (o : Outcome Running Value) (s : Running) → after o (λ v. give (Of v)) ≡ refer x here s → o ≡ value_in here x s
  of_value x o s is = of_given o ∙ ap (λ o. after o (value_of here)) is

  pub list_is : (items : List Expr) (s : Running) → after (values_in here items s) (made_list here) ≡ value_in here (e.List items) s
  unfolding hidden-the_row-Expr-2 hidden
  list_is items s =
      of_value (e.List items) (after (values_in here items s) (made_list here)) s
      (after_after (values_in here items s) (made_list here) (λ v. give (Of v)) ∙ ap (λ o. after o (λ vs. ◌>>=◌ (made_list here vs) (λ v. give (Of v)))) (sym (values_row here items s)))

  pub record_is : (fields : List Field) (s : Running) → after (fields_in here fields s) (made_record here) ≡ value_in here (e.Record fields) s
  unfolding hidden-the_row-Field-3 hidden
  record_is fields s =
      of_value (e.Record fields) (after (fields_in here fields s) (made_record here)) s
      (after_after (fields_in here fields s) (made_record here) (λ v. give (Of v)) ∙ ap (λ o. after o (λ all. ◌>>=◌ (made_record here all) (λ v. give (Of v)))) (sym (fields_row here fields s)))

  pub template_is : (parts : List Text) (holes : List Expr) (s : Running) → after (each (hole_text here) holes s) (λ ts. answered (short_text (filled parts ts))) ≡ value_in here (e.Template parts holes) s
  unfolding hidden-the_row-Expr-2 hidden
  template_is parts holes s =
      of_value (e.Template parts holes) (after (each (hole_text here) holes s) (λ ts. answered (short_text (filled parts ts)))) s
      (after_after (each (hole_text here) holes s) (λ ts. answered (short_text (filled parts ts))) (λ v. give (Of v)) ∙ ap (λ o. after o (λ ts. ◌>>=◌ (answered (short_text (filled parts ts))) (λ v. give (Of v)))) (sym (holes_row here holes s)))

  pub unary_is : (operator : Un) (x : Expr) (s : Running) → after (value_in here x s) (λ v. answered (unary operator v)) ≡ value_in here (e.Unary operator x) s
  unfolding shape-the_row-Expr-0 hidden-the_row-Expr-0 hidden
  unary_is operator x s = of_value (e.Unary operator x) (after (value_in here x s) (λ v. answered (unary operator v))) s (after_after (value_in here x s) (λ v. answered (unary operator v)) (λ v. give (Of v)))

  pub chain_is : (first : Expr) (rest : List Operand) (s : Running) → after (value_in here first s) (operands_chained here rest) ≡ value_in here (e.Chain first rest) s
  unfolding shape-the_row-Expr-0 hidden-the_row-Expr-0 hidden-the_row-Operand-4 hidden
  chain_is first rest s =
      of_value (e.Chain first rest) (after (value_in here first s) (operands_chained here rest)) s
      (after_after (value_in here first s) (operands_chained here rest) (λ v. give (Of v)) ∙ after_same (value_in here first s) _ _ (λ v u. ap (λ o. after o (λ w. give (Of w))) (sym (operands_row here rest v u))))

  pub cond_is : (c t o : Expr) (s : Running) → after (value_in here c s) (λ v. valued here (chosen (is_true v) (refer t here) (refer o here))) ≡ value_in here (e.Cond c t o) s
  unfolding hidden-the_row-Expr-0 hidden
  cond_is c t o s =
      of_value (e.Cond c t o) (after (value_in here c s) (λ v. valued here (chosen (is_true v) (refer t here) (refer o here)))) s
      (after_after (value_in here c s) (λ v. valued here (chosen (is_true v) (refer t here) (refer o here))) (λ v. give (Of v)))

  -- the same behind the first thing
  into : {A B C : Type 0} (o : Outcome Running A) (f : A → Doing Running B) (g : B → Doing Running C) (h : A → Doing Running C) → ((a : A) (s : Running) → after (f a s) g ≡ h a s) → after (after o f) g ≡ after o h
  into (Gives a s) f g h is = is a s
  into (Stops why s) f g h is = refl

  pub assign_is : (operator : AssignOp) (target x : Expr) (s : Running)
      → after (refer target here s) (λ r. ◌>>=◌ (old_value operator (value_of here r)) (λ old. ◌>>=◌ (value_in here x) (λ v. ◌>>=◌ (answered (combined operator old v)) (λ new. ◌>>◌ (stored here r new) (give new))))) ≡ value_in here (e.Assign operator target x) s
  unfolding shape-the_row-Expr-0 hidden-the_row-Expr-0 hidden
  assign_is operator target x s =
      of_value (e.Assign operator target x) (after (refer target here s) (λ r. ◌>>=◌ (old_value operator (value_of here r)) (λ old. ◌>>=◌ (value_in here x) (λ v. ◌>>=◌ (answered (combined operator old v)) (λ new. ◌>>◌ (stored here r new) (give new)))))) s
      (into (refer target here s) _ _ _ (λ r t. into (old_value operator (value_of here r) t) _ _ _ (λ old t. into (value_in here x t) _ _ _ (λ v t. into (answered (combined operator old v) t) _ _ _ (λ new t. into (stored here r new t) (λ u. give new) (λ v. give (Of v)) (λ u. give (Of new)) (λ u t. refl))))))

  pub step_is : (up : Bool) (target : Expr) (s : Running)
      → after (refer target here s) (λ r. ◌>>=◌ (value_of here r) (λ old. ◌>>=◌ (answered (stepped up old)) (λ new. ◌>>◌ (stored here r new) (give old)))) ≡ value_in here (e.Step up target) s
  unfolding shape-the_row-Expr-0 hidden-the_row-Expr-0 hidden
  step_is up target s =
      of_value (e.Step up target) (after (refer target here s) (λ r. ◌>>=◌ (value_of here r) (λ old. ◌>>=◌ (answered (stepped up old)) (λ new. ◌>>◌ (stored here r new) (give old))))) s
      (into (refer target here s) _ _ _ (λ r t. into (value_of here r t) _ _ _ (λ old t. into (answered (stepped up old) t) _ _ _ (λ new t. into (stored here r new t) (λ u. give old) (λ v. give (Of v)) (λ u. give (Of old)) (λ u t. refl)))))

  pub known_is : (known : Known) (arguments : List Expr) (s : Running) → after (values_in here arguments s) (known_called here known) ≡ value_in here (e.Known known arguments) s
  unfolding hidden-the_row-Expr-2 hidden
  known_is known arguments s =
      of_value (e.Known known arguments) (after (values_in here arguments s) (known_called here known)) s
      (after_after (values_in here arguments s) (known_called here known) (λ v. give (Of v)) ∙ ap (λ o. after o (λ vs. ◌>>=◌ (known_called here known vs) (λ v. give (Of v)))) (sym (values_row here arguments s)))

  pub arrow_is : (arrow : Arrow) (s : Running) → made_function here arrow.place s ≡ value_in here (e.Arrow arrow) s
  unfolding shape-the_row-Arrow-6 hidden-the_row-Arrow-6 hidden
  arrow_is arrow s = of_value (e.Arrow arrow) (made_function here arrow.place s) s refl

  -- a JSX value: its tag, then its attributes, then its children
  abbrev pub markup_parts : Tag → List Field → List Expr → Doing Running Value
  markup_parts tag fs xs = ◌>>=◌ (tag_shown here tag) (λ shown. ◌>>=◌ (fields_in here fs) (λ fields. ◌>>=◌ (values_in here xs) (λ vs. markup_made here shown fields (packed vs))))

  element_is : (tag : Tag) (fs : List Field) (xs : List Expr) (s : Running) → markup_parts tag fs xs s ≡ value_in here (e.Jsx (roll-Jsx (record { tag = tag; attrs = fs; children = xs }))) s
  unfolding shape-the_row-Jsx-7 hidden-the_row-Jsx-7 hidden-the_row-Field-3 hidden-the_row-Expr-2 roll-Jsx hidden roll
  element_is tag fs xs s =
      let shown = shown_of here tag in
      let all = hidden-the_row-Field-3 fs in
      let children = hidden-the_row-Expr-2 xs in
      let made : Fields → Doing Running Value = λ fields. ◌>>=◌ (values_in here xs) (λ vs. markup_made here shown fields (packed vs)) in
      let inner : (t : Running) → after (fields_in here fs t) made ≡ after (field_values all here t) (λ fields. ◌>>=◌ (values children here) (made_markup here tag fields)) = λ t.
      ap (λ o. after o made) (sym (fields_row here fs t))
      ∙ after_same (field_values all here t) _ _ (λ fields u. ap (λ o. after o (λ vs. markup_made here shown fields (packed vs))) (sym (values_row here xs u))) in
      after_after (tag_told here tag s) (λ u. give shown) (λ shown. ◌>>=◌ (fields_in here fs) (λ fields. ◌>>=◌ (values_in here xs) (λ vs. markup_made here shown fields (packed vs))))
      ∙ (after_same (tag_told here tag s) _ _ (λ u t. inner t)
      ∙ of_value (e.Jsx (roll-Jsx (record { tag = tag; attrs = fs; children = xs }))) (after (tag_told here tag s) (λ u. ◌>>=◌ (field_values all here) (λ fields. ◌>>=◌ (values children here) (made_markup here tag fields)))) s refl)

  pub jsx_is : (jsx : Jsx) (s : Running) → markup_parts (out-Jsx jsx).tag (out-Jsx jsx).attrs (out-Jsx jsx).children s ≡ value_in here (e.Jsx jsx) s
  jsx_is jsx s = let j = out-Jsx jsx in element_is j.tag j.attrs j.children s ∙ ap (λ x. value_in here (e.Jsx x) s) (roll-out-Jsx jsx)

  -- ---- what stands for its value

  abbrev Settled : Outcome Running Reference → Type 0
  Settled o = after (after o (value_of here)) (λ v. give (Of v)) ≡ o

  behind : {A : Type 0} (o : Outcome Running A) (f : A → Doing Running Reference) → ((a : A) (s : Running) → Settled (f a s)) → Settled (after o f)
  behind (Gives a s) f is = is a s
  behind (Stops why s) f is = refl

  open_settled : (o : Expr-F Body Expr Link Stmt Arrow Field Jsx Operand) (s : Running) → ((name : Text) → roll-Expr o ≡ e.Name name → ⊥) → ((head : Expr) (links : List Link) → roll-Expr o ≡ e.Post head links → ⊥) → Settled (refer (roll-Expr o) here s)
  unfolding roll-Expr roll shape-the_row-Expr-0 hidden-the_row-Expr-0 shape-the_row-Arrow-6 hidden-the_row-Arrow-6 shape-the_row-Jsx-7 hidden-the_row-Jsx-7 hidden-the_row-Expr-2 hidden-the_row-Field-3 hidden-the_row-Operand-4 hidden
  open_settled Expr-F.Undefined s name post = refl
  open_settled Expr-F.Null s name post = refl
  open_settled (Expr-F.Bool b) s name post = refl
  open_settled (Expr-F.Int n) s name post = refl
  open_settled (Expr-F.Text t) s name post = refl
  open_settled (Expr-F.Name n) s name post = absurd (name n (sym (e.rolls-Name n)))
  open_settled (Expr-F.List xs) s name post = behind (values (hidden-the_row-Expr-2 xs) here s) _ (λ vs t. behind (made_list here vs t) _ (λ v u. refl))
  open_settled (Expr-F.Record fs) s name post = behind (field_values (hidden-the_row-Field-3 fs) here s) _ (λ all t. behind (made_record here all t) _ (λ v u. refl))
  open_settled (Expr-F.Template parts xs) s name post = behind (hole_texts (hidden-the_row-Expr-2 xs) here s) _ (λ ts t. behind (answered (short_text (filled parts ts)) t) _ (λ v u. refl))
  open_settled (Expr-F.Unary operator x) s name post = behind (value_in here x s) _ (λ v t. behind (answered (unary operator v) t) _ (λ w u. refl))
  open_settled (Expr-F.Chain x os) s name post = behind (value_in here x s) _ (λ v t. behind (chained (hidden-the_row-Operand-4 os) here v t) _ (λ w u. refl))
  open_settled (Expr-F.Cond c t o) s name post = behind (value_in here c s) _ (λ v r. behind (valued here (chosen (is_true v) (refer t here) (refer o here)) r) _ (λ w u. refl))
  open_settled (Expr-F.Post x ls) s name post = absurd (post x ls (sym (e.rolls-Post x ls)))
  open_settled (Expr-F.Assign operator target x) s name post =
      behind (refer target here s) _ (λ r t. behind (old_value operator (value_of here r) t) _ (λ old t. behind (value_in here x t) _ (λ v t. behind (answered (combined operator old v) t) _ (λ new t. behind (stored here r new t) _ (λ w u. refl)))))
  open_settled (Expr-F.Step up target) s name post = behind (refer target here s) _ (λ r t. behind (value_of here r t) _ (λ old t. behind (answered (stepped up old) t) _ (λ new t. behind (stored here r new t) _ (λ w u. refl))))
  open_settled (Expr-F.Known known xs) s name post = behind (values (hidden-the_row-Expr-2 xs) here s) _ (λ vs t. behind (known_called here known vs t) _ (λ v u. refl))
  open_settled (Expr-F.Arrow arrow) s name post = behind (made_function here arrow.place s) _ (λ v u. refl)
  open_settled (Expr-F.Jsx jsx) s name post = behind (markup jsx here s) _ (λ v u. refl)

  -- what is no name and no chain of postfix forms stands for its value
  pub settled : (x : Expr) (s : Running) → ((name : Text) → x ≡ e.Name name → ⊥) → ((head : Expr) (links : List Link) → x ≡ e.Post head links → ⊥) → after (value_in here x s) (λ v. give (Of v)) ≡ refer x here s
  settled x s name post =
      subst (λ y. Settled (refer y here s)) (roll-out-Expr x) (open_settled (out-Expr x) s (λ n is. name n (sym (roll-out-Expr x) ∙ is)) (λ head links is. post head links (sym (roll-out-Expr x) ∙ is)))

  -- ---- statements

  then_same : (flow : Flow) (one other : Doing Running Flow) → ((t : Running) → one t ≡ other t) → (u : Running) → then_next flow one u ≡ then_next flow other u
  then_same Onward one other is u = is u
  then_same Continued one other is u = is u
  then_same Broke one other is u = refl
  then_same (Returned v) one other is u = refl

  turn_same : (turn turn' next next' : Doing Running Flow) → ((t : Running) → turn t ≡ turn' t) → ((t : Running) → next t ≡ next' t) → (s : Running) → one_turn turn next s ≡ one_turn turn' next' s
  turn_same turn turn' next next' same follows s =
      after_same (take_turn s) _ _ (λ u t. ap (λ o. after o (λ flow. then_next flow next)) (same t) ∙ after_same (turn' t) _ _ (λ flow v. then_same flow next next' follows v))

  branches_same : (q : Bool) (one other : Doing Running Flow) (s : Running) → ((t : Running) → one t ≡ other t) → chosen q one (give Onward) s ≡ chosen q other (give Onward) s
  branches_same true one other s is = is s
  branches_same false one other s is = refl

  repeated_same : (n : ℕ) (condition : Doing Running Value) (turn turn' : Doing Running Flow) → ((t : Running) → turn t ≡ turn' t) → (s : Running) → repeated n condition turn s ≡ repeated n condition turn' s
  repeated_same zero condition turn turn' same s = refl
  repeated_same (suc n) condition turn turn' same s =
      after_same (condition s) _ _ (λ v u. branches_same (is_true v) (one_turn turn (repeated n condition turn)) (one_turn turn' (repeated n condition turn')) u (turn_same turn turn' (repeated n condition turn) (repeated n condition turn') same (repeated_same n condition turn turn' same)))

  scoped_same : (names : List Text) (one other : Doing Running Flow) → ((t : Running) → one t ≡ other t) → (s : Running) → scoped names one s ≡ scoped names other s
  scoped_same names one other is s = ap (λ o. after o (λ a. ◌>>=◌ (locals_become (without_first (length names))) (λ u. give a))) (is (record s { locals = opened names s.locals }))

  each_same : (f g : Value → Doing Running Flow) → ((v : Value) (t : Running) → f v t ≡ g v t) → (all : List Value) (s : Running) → repeated_for f all s ≡ repeated_for g all s
  each_same f g same [] s = refl
  each_same f g same (v ∷ rest) s = turn_same (f v) (g v) (repeated_for f rest) (repeated_for g rest) (same v) (each_same f g same rest) s

  pub while_is : (condition : Expr) (statements : List Stmt) (s : Running) → looped (value_in here condition) (block_ran here statements) s ≡ ran (st.While condition statements) here s
  unfolding hidden-the_row-Stmt-1 hidden
  while_is condition statements s =
      repeated_same s.turns (value_in here condition) (block_ran here statements) (scoped (declared_in (hidden-the_row-Stmt-1 statements)) (all_ran (hidden-the_row-Stmt-1 statements) here)) (λ t. sym (block_row here statements t)) s

  pub for_is : (name : Text) (x : Expr) (statements : List Stmt) (s : Running) → after (value_in here x s) (λ v. ◌>>=◌ (all_items v) (each_ran here name statements)) ≡ ran (st.ForOf name x statements) here s
  unfolding hidden-the_row-Stmt-1 hidden
  for_is name x statements s =
      let block : Doing Running Flow = scoped (declared_in (hidden-the_row-Stmt-1 statements)) (all_ran (hidden-the_row-Stmt-1 statements) here) in
      let turn : Value → Doing Running Flow = λ item. scoped (name ∷ []) (◌>>◌ (assigned name item) block) in
      after_same (value_in here x s) _ _ (λ v t. after_same (all_items v t) _ _ (λ items u. each_same (turn_ran here name statements) turn (λ item w. scoped_same (name ∷ []) _ _ (λ y. sym (block_row here statements (record y { locals = replaced name item y.locals }))) w) items u))

  pub delete_is : (target : Expr) (s : Running) → after (refer target here s) (λ r. ◌>>◌ (removed here r) (give Onward)) ≡ ran (st.Delete target) here s
  delete_is target s = refl
