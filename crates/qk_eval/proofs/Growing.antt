-- Code only adds, wherever it stands.
use Rattle.std.proofs.Common.{pos, ℕ, Bool, true, false, List, [], ◌∷◌, ◌++◌}
use Rattle.qk_ast.specs.declared.Expr.{Expr, end_of-Link, more_of-Link}
use Rattle.qk_ast.specs.declared.Link.{Link}
use Rattle.qk_ast.specs.declared.Stmt.{Stmt}
use Rattle.qk_ast.specs.declared.Pattern.{Pattern}
use Rattle.qk_ast.specs.declared.Body.{Body}
use Rattle.qk_ast.specs.declared.Body.TheBlock.{hidden-the_row-Expr-2}
use Rattle.qk_ast.specs.Texts.{Text}
use Rattle.qk_meaning.specs.Value.{Value, Values, Fields, Shown, Undefined, Int, end, field}
use Rattle.qk_meaning.specs.Running as R
use Rattle.qk_meaning.specs.Program.{Program, Code, captures_in}
use Rattle.qk_meaning.specs.Doing.{Doing, ◌>>=◌, ◌>>◌, give, chosen, each}
use Rattle.qk_meaning.specs.Running.{Running, Pure, answered, assigned, unless_fault}
use Rattle.qk_meaning.specs.Laws_of_code.{Adds}
use Rattle.qk_meaning.specs.Setting.{Setting, setting_of, called_anew}
use Rattle.qk_meaning.specs.References.{Reference, value_of, valued, old_value, combined, bound, fields_bound, all_bound, stored, removed}
use Rattle.qk_meaning.specs.Calls.{Callee, callee, call, is_qrl, known_called}
use Rattle.qk_meaning.specs.Operators.{Answer, text_of, binary, decides, stepped}
use Rattle.qk_meaning.specs.Making.{made, made_list, made_record, made_markup}
use Rattle.qk_meaning.specs.Markup.{markup_fault, element}
use Rattle.qk_meaning.specs.Parts.{packed}
use Rattle.qk_making.specs.Marking.{markup_made}
use Rattle.qk_meaning.specs.Methods.{Method, method_called, called_on_each, all_items, kept}
use Rattle.qk_meaning.specs.Hooks.{given_so}
use Rattle.qk_meaning.specs.Happening.{Hook_answer}
use Rattle.qk_ast.specs.declared.AssignOp.{AssignOp}
use Rattle.qk_ast.specs.declared.Known.{Known}
use Rattle.qk_ast.specs.declared.Field.{Field}
use Rattle.qk_ast.specs.declared.Operand.{Operand}
use Rattle.qk_ast.specs.declared.Tag.{Tag}
use Rattle.qk_meaning.specs.Flow.{Flow, Onward, unless_left, then_next}
use Rattle.qk_meaning.specs.Evaluation.{refer, ran, body_value, entering, inside}
use Rattle.qk_meaning.specs.In_order.{value_in, values_in, hole_text, fields_in, operand_chained, operands_chained, link_followed, links_followed, statements_ran, declared_of, block_ran}
use Rattle.qk_meaning.proofs.Running_laws as L
use Rattle.qk_meaning.proofs.Running_laws.{Hook_laws, hook_laws}
use Rattle.qk_meaning.proofs.Meanings as M
use Rattle.qk_meaning.proofs.Meanings.{Enter_alike, calls_anew}
use Rattle.qk_meaning.proofs.Growth.{Adding, laws, named, hooking_laws, adding}
use Rattle.qk_code.specs.declared.func.Func.{Func}
use Rattle.qk_code.specs.declared.mode.Mode.{Mode}
use Rattle.qk_value.specs.declared.value.Addr.{Addr}
use Rattle.qk_eval.specs.Placing.{setting_so, addresses}
use Rattle.qk_eval.specs.Lists.{each_after, lifted_of, call_made, turn_ran, each_ran}

any_laws : L.Laws Adding
any_laws = laws (λ site. [])

pub quiet : (s : Running) → Adds s s
quiet = any_laws.gives {A = ℕ} 0

pub gives : {A : Type 0} (a : A) → Adding A (give a) (give a)
gives a = any_laws.gives a

pub bind : {A B : Type 0} (m : Doing Running A) (f : A → Doing Running B) → Adding A m m → ((a : A) → Adding B (f a) (f a)) → Adding B (◌>>=◌ m f) (◌>>=◌ m f)
bind {A} {B} m f p q = any_laws.bind {A = A} {B = B} {m = m} {m' = m} {f = f} {f' = f} p q

module _ (func : Func) (mode : Mode) (running : List Addr) (levels : ℕ) (p : Program) where
  abbrev here : Setting
  here = setting_so func mode running levels p

  enters : Enter_alike Adding (entering p called_anew levels) (entering p called_anew levels)
  enters = adding p levels

  computeds : (a : ℕ) (f : Value) → Adding Value (here.computed a f) (here.computed a f)
  computeds a f = calls_anew Adding (hook_laws Adding (laws (captures_in p)) hooking_laws) (entering p called_anew levels) (entering p called_anew levels) enters (addresses running) a f

  abbrev sayings : Hook_laws Adding
  sayings = hook_laws Adding (laws (captures_in p)) hooking_laws

  pub refers_add : (e : Expr) → Adding Reference (refer e here) (refer e here)
  refers_add e = M.refers Adding (laws (captures_in p)) sayings here (named (captures_in p)) here.enter here.computed enters computeds e

  pub value_adds : (e : Expr) → Adding Value (value_in here e) (value_in here e)
  value_adds e = M.valued_lem Adding (laws (captures_in p)) sayings here (named (captures_in p)) here.enter here.computed enters computeds {m = refer e here} {m' = refer e here} (refers_add e)

  pub reference_adds : (r : Reference) → Adding Value (value_of here r) (value_of here r)
  reference_adds r = M.value_of_lem Adding (laws (captures_in p)) sayings here (named (captures_in p)) here.enter here.computed enters computeds r

  pub link_adds : (l : Link) (r : Reference) → Adding Reference (link_followed here l r) (link_followed here l r)
  link_adds l r = M.all_links Adding (laws (captures_in p)) sayings here (named (captures_in p)) here.enter here.computed enters computeds (more_of-Link l end_of-Link) r

  pub links_add : (links : List Link) (r : Reference) → Adding Reference (links_followed here links r) (links_followed here links r)
  links_add [] r = gives r
  links_add (l ∷ rest) r = bind (link_followed here l r) (links_followed here rest) (link_adds l r) (λ next. links_add rest next)

  -- each of a list, behind what was given so far
  pub each_adds : {A B : Type 0} (f : A → Doing Running B) → ((a : A) → Adding B (f a) (f a)) → (so_far : List B) (all : List A) → Adding (List B) (each_after f so_far all) (each_after f so_far all)
  each_adds {A} {B} f adds so_far all = bind (each f all) (λ bs. give (so_far ++ bs)) (L.eaches Adding (laws (captures_in p)) {f = f} {f' = f} adds all) (λ bs. gives (so_far ++ bs))

  pub values_add : (all : List Expr) → Adding (List Value) (values_in here all) (values_in here all)
  values_add all = L.eaches Adding (laws (captures_in p)) {f = value_in here} {f' = value_in here} value_adds all

  pub hole_adds : (e : Expr) → Adding Text (hole_text here e) (hole_text here e)
  hole_adds e = bind (value_in here e) (λ v. answered (text_of v)) (value_adds e) (λ v. L.answers Adding (laws (captures_in p)) (text_of v))

  pub fields_add : (all : List Field) → Adding Fields (fields_in here all) (fields_in here all)
  fields_add [] = gives end
  fields_add (f ∷ rest) = bind (value_in here f.value) (λ v. ◌>>=◌ (fields_in here rest) (λ fields. give (field f.key v fields))) (value_adds f.value) (λ v. bind (fields_in here rest) (λ fields. give (field f.key v fields)) (fields_add rest) (λ fields. gives (field f.key v fields)))

  pub operand_adds : (o : Operand) (v : Value) → Adding Value (operand_chained here o v) (operand_chained here o v)
  operand_adds o v =
      L.choose Adding (laws (captures_in p)) (decides o.op v) {m = give v} {m' = give v} {n = ◌>>=◌ (value_in here o.value) (λ u. answered (binary o.op v u))} {n' = ◌>>=◌ (value_in here o.value) (λ u. answered (binary o.op v u))} (gives v)
      (bind (value_in here o.value) (λ u. answered (binary o.op v u)) (value_adds o.value) (λ u. L.answers Adding (laws (captures_in p)) (binary o.op v u)))

  pub operands_add : (all : List Operand) (v : Value) → Adding Value (operands_chained here all v) (operands_chained here all v)
  operands_add [] v = gives v
  operands_add (o ∷ rest) v = bind (operand_chained here o v) (operands_chained here rest) (operand_adds o v) (λ w. operands_add rest w)

  pub answer_adds : {A : Type 0} (a : Answer A) → Adding A (answered a) (answered a)
  answer_adds a = L.answers Adding (laws (captures_in p)) a

  pub made_list_adds : (all : List Value) → Adding Value (made_list here all) (made_list here all)
  made_list_adds all = M.made_list_lem Adding (laws (captures_in p)) sayings here (named (captures_in p)) here.enter here.computed enters computeds all

  pub made_record_adds : (fields : Fields) → Adding Value (made_record here fields) (made_record here fields)
  made_record_adds fields = M.made_record_lem Adding (laws (captures_in p)) sayings here (named (captures_in p)) here.enter here.computed enters computeds fields

  pub made_markup_adds : (tag : Tag) (fields : Fields) (children : List Value) → Adding Value (made_markup here tag fields children) (made_markup here tag fields children)
  made_markup_adds tag fields children = M.made_markup_lem Adding (laws (captures_in p)) sayings here (named (captures_in p)) here.enter here.computed enters computeds tag fields children

  pub made_adds : (v : Value) → Adding Value (made here v) (made here v)
  made_adds v = M.made_lem Adding (laws (captures_in p)) sayings here (named (captures_in p)) here.enter here.computed enters computeds v

  pub known_adds : (k : Known) (arguments : List Value) → Adding Value (known_called here k arguments) (known_called here k arguments)
  known_adds k arguments = M.known_called_lem Adding (laws (captures_in p)) sayings here (named (captures_in p)) here.enter here.computed enters computeds k arguments

  pub method_adds : (k : Method) (v : Value) (arguments : List Value) → Adding Value (method_called here k v arguments) (method_called here k v arguments)
  method_adds k v arguments = M.method_called_lem Adding (laws (captures_in p)) sayings here (named (captures_in p)) here.enter here.computed enters computeds k v arguments

  pub each_called_adds : (f : Value) (all : List Value) → Adding (List Value) (called_on_each here f all) (called_on_each here f all)
  each_called_adds f all = M.called_on_each_lem Adding (laws (captures_in p)) sayings here (named (captures_in p)) here.enter here.computed enters computeds f all

  pub map_adds : (f : Value) (all : List Value) → Adding Value (◌>>=◌ (called_on_each here f all) (made_list here)) (◌>>=◌ (called_on_each here f all) (made_list here))
  map_adds f all = bind (called_on_each here f all) (made_list here) (each_called_adds f all) (λ results. made_list_adds results)

  pub filter_adds : (f : Value) (all : List Value) → Adding Value (◌>>=◌ (called_on_each here f all) (λ results. made_list here (kept all results))) (◌>>=◌ (called_on_each here f all) (λ results. made_list here (kept all results)))
  filter_adds f all = bind (called_on_each here f all) (λ results. made_list here (kept all results)) (each_called_adds f all) (λ results. made_list_adds (kept all results))

  pub item_adds : (f : Value) (e : ℕ × Value) → Adding Value (here.enter here.mode here.running f (e.1 ∷ Int (pos e.0) ∷ [])) (here.enter here.mode here.running f (e.1 ∷ Int (pos e.0) ∷ []))
  item_adds f e = enters here.mode here.running f (e.1 ∷ Int (pos e.0) ∷ [])

  pub old_adds : (op : AssignOp) (r : Reference) → Adding Value (old_value op (value_of here r)) (old_value op (value_of here r))
  old_adds AssignOp.Set r = gives Undefined
  old_adds AssignOp.Add r = reference_adds r
  old_adds AssignOp.Sub r = reference_adds r
  old_adds AssignOp.Mul r = reference_adds r

  pub stored_adds : (r : Reference) (v : Value) → Adding (Unit {0}) (stored here r v) (stored here r v)
  stored_adds r v = M.stored_lem Adding (laws (captures_in p)) sayings here (named (captures_in p)) here.enter here.computed enters computeds r v

  pub removed_adds : (r : Reference) → Adding (Unit {0}) (removed here r) (removed here r)
  removed_adds r = M.removed_lem Adding (laws (captures_in p)) sayings here (named (captures_in p)) here.enter here.computed enters computeds r

  pub call_adds : (c : Callee) (arguments : List Value) → Adding Value (call here c arguments) (call here c arguments)
  call_adds c arguments = M.call_lem Adding (laws (captures_in p)) sayings here (named (captures_in p)) here.enter here.computed enters computeds c arguments

  pub callee_adds : (r : Reference) → Adding Callee (callee here r) (callee here r)
  callee_adds r = M.callee_lem Adding (laws (captures_in p)) sayings here (named (captures_in p)) here.enter here.computed enters computeds r

  pub lifted_adds : (arguments : List Expr) → Adding Value (lifted_of here arguments) (lifted_of here arguments)
  lifted_adds arguments = M.qrls Adding (laws (captures_in p)) sayings here (named (captures_in p)) here.enter here.computed enters computeds (hidden-the_row-Expr-2 arguments)

  pub call_made_adds : (c : Callee) (arguments : List Expr) → Adding Value (call_made here c arguments) (call_made here c arguments)
  call_made_adds c arguments =
      L.choose Adding (laws (captures_in p)) (is_qrl c) {m = lifted_of here arguments} {m' = lifted_of here arguments} {n = ◌>>=◌ (values_in here arguments) (call here c)} {n' = ◌>>=◌ (values_in here arguments) (call here c)} (lifted_adds arguments)
      (bind (values_in here arguments) (call here c) (values_add arguments) (call_adds c))

  pub answer_so_adds : (answer : Hook_answer) → Adding Value (given_so here answer) (given_so here answer)
  answer_so_adds answer = M.given_so_lem Adding (laws (captures_in p)) sayings here (named (captures_in p)) here.enter here.computed enters computeds answer

  -- the making of a JSX value, and what comes before it
  pub markup_adds : (shown : Shown) (fields : Fields) (children : Values) → Adding Value (markup_made here shown fields children) (markup_made here shown fields children)
  markup_adds shown fields children =
      bind (unless_fault (markup_fault shown fields children)) (λ u. made here (element shown fields children)) (L.unless_faults Adding (laws (captures_in p)) (markup_fault shown fields children)) (λ u. made_adds (element shown fields children))

  abbrev pub behind_attributes : Shown → List Expr → Fields → Doing Running Value
  behind_attributes shown xs fields = ◌>>=◌ (values_in here xs) (λ vs. markup_made here shown fields (packed vs))

  pub children_add : (shown : Shown) (fields : Fields) (xs : List Expr) → Adding Value (behind_attributes shown xs fields) (behind_attributes shown xs fields)
  children_add shown fields xs = bind (values_in here xs) (λ vs. markup_made here shown fields (packed vs)) (values_add xs) (λ vs. markup_adds shown fields (packed vs))

  pub jsx_adds : (fs : List Field) (shown : Shown) (xs : List Expr) → Adding Value (◌>>=◌ (fields_in here fs) (behind_attributes shown xs)) (◌>>=◌ (fields_in here fs) (behind_attributes shown xs))
  jsx_adds fs shown xs = bind (fields_in here fs) (behind_attributes shown xs) (fields_add fs) (λ fields. children_add shown fields xs)

  -- what comes behind the target of an assignment, and behind the old value
  abbrev pub behind_old : AssignOp → Expr → Reference → Value → Doing Running Value
  behind_old op x r old = ◌>>=◌ (value_in here x) (λ v. ◌>>=◌ (answered (combined op old v)) (λ new. ◌>>◌ (stored here r new) (give new)))

  abbrev pub behind_target : AssignOp → Expr → Reference → Doing Running Value
  behind_target op x r = ◌>>=◌ (old_value op (value_of here r)) (behind_old op x r)

  pub store_adds : (r : Reference) (v w : Value) → Adding Value (◌>>◌ (stored here r v) (give w)) (◌>>◌ (stored here r v) (give w))
  store_adds r v w = bind (stored here r v) (λ u. give w) (stored_adds r v) (λ u. gives w)

  pub combined_adds : (op : AssignOp) (r : Reference) (old v : Value) → Adding Value (◌>>=◌ (answered (combined op old v)) (λ new. ◌>>◌ (stored here r new) (give new))) (◌>>=◌ (answered (combined op old v)) (λ new. ◌>>◌ (stored here r new) (give new)))
  combined_adds op r old v = bind (answered (combined op old v)) (λ new. ◌>>◌ (stored here r new) (give new)) (answer_adds (combined op old v)) (λ new. store_adds r new new)

  pub behind_old_adds : (op : AssignOp) (x : Expr) (r : Reference) (old : Value) → Adding Value (behind_old op x r old) (behind_old op x r old)
  behind_old_adds op x r old = bind (value_in here x) (λ v. ◌>>=◌ (answered (combined op old v)) (λ new. ◌>>◌ (stored here r new) (give new))) (value_adds x) (λ v. combined_adds op r old v)

  pub behind_target_adds : (op : AssignOp) (x : Expr) (r : Reference) → Adding Value (behind_target op x r) (behind_target op x r)
  behind_target_adds op x r = bind (old_value op (value_of here r)) (behind_old op x r) (old_adds op r) (λ old. behind_old_adds op x r old)

  -- what comes behind the target of a step
  abbrev pub stepped_from : Bool → Reference → Value → Doing Running Value
  stepped_from up r old = ◌>>=◌ (answered (stepped up old)) (λ new. ◌>>◌ (stored here r new) (give old))

  pub stepped_adds : (up : Bool) (r : Reference) (old : Value) → Adding Value (stepped_from up r old) (stepped_from up r old)
  stepped_adds up r old = bind (answered (stepped up old)) (λ new. ◌>>◌ (stored here r new) (give old)) (answer_adds (stepped up old)) (λ new. store_adds r new old)

  pub step_adds : (up : Bool) (r : Reference) → Adding Value (◌>>=◌ (value_of here r) (stepped_from up r)) (◌>>=◌ (value_of here r) (stepped_from up r))
  step_adds up r = bind (value_of here r) (stepped_from up r) (reference_adds r) (λ old. stepped_adds up r old)

  pub statement_adds : (s : Stmt) → Adding Flow (ran s here) (ran s here)
  statement_adds s = M.runs Adding (laws (captures_in p)) sayings here (named (captures_in p)) here.enter here.computed enters computeds s

  pub statements_add : (all : List Stmt) → Adding Flow (statements_ran here all) (statements_ran here all)
  statements_add [] = gives Onward
  statements_add (s ∷ rest) = bind (ran s here) (λ flow. unless_left flow (statements_ran here rest)) (statement_adds s) (λ flow. L.unless_lefts Adding (laws (captures_in p)) flow {next = statements_ran here rest} {next' = statements_ran here rest} (statements_add rest))

  pub block_adds : (all : List Stmt) → Adding Flow (block_ran here all) (block_ran here all)
  block_adds all = L.scopes Adding (laws (captures_in p)) (declared_of all) {m = statements_ran here all} {m' = statements_ran here all} (statements_add all)

  pub assigned_adds : (name : Text) (v : Value) → Adding (Unit {0}) (assigned name v) (assigned name v)
  assigned_adds name v = M.assigned_lem Adding (laws (captures_in p)) sayings here (named (captures_in p)) here.enter here.computed enters computeds name v

  pub turn_adds : (name : Text) (statements : List Stmt) (item : Value) → Adding Flow (turn_ran here name statements item) (turn_ran here name statements item)
  turn_adds name statements item =
      let inner : Doing Running Flow = ◌>>◌ (assigned name item) (block_ran here statements) in
      L.scopes Adding (laws (captures_in p)) (name ∷ []) {m = inner} {m' = inner} (bind (assigned name item) (λ u. block_ran here statements) (assigned_adds name item) (λ u. block_adds statements))

  pub turns_add : (name : Text) (statements : List Stmt) (items : List Value) → Adding Flow (each_ran here name statements items) (each_ran here name statements items)
  turns_add name statements items = L.repeated_fors Adding (laws (captures_in p)) {f = turn_ran here name statements} {f' = turn_ran here name statements} (λ v. turn_adds name statements v) items

  pub each_ran_adds : (name : Text) (statements : List Stmt) (v : Value) → Adding Flow (◌>>=◌ (all_items v) (each_ran here name statements)) (◌>>=◌ (all_items v) (each_ran here name statements))
  each_ran_adds name statements v = bind (all_items v) (each_ran here name statements) (M.all_items_lem Adding (laws (captures_in p)) sayings here (named (captures_in p)) here.enter here.computed enters computeds v) (λ items. turns_add name statements items)

  pub next_adds : (flow : Flow) (next : Doing Running Flow) → Adding Flow next next → Adding Flow (then_next flow next) (then_next flow next)
  next_adds flow next adds = L.then_nexts Adding (laws (captures_in p)) flow {next = next} {next' = next} adds

  pub body_adds : (b : Body) → Adding Value (body_value b here) (body_value b here)
  body_adds b = M.bodies Adding (laws (captures_in p)) sayings here (named (captures_in p)) here.enter here.computed enters computeds b

  pub chosen_adds : (q : Bool) (t o : Expr) → Adding Value (valued here (chosen q (refer t here) (refer o here))) (valued here (chosen q (refer t here) (refer o here)))
  chosen_adds true t o = value_adds t
  chosen_adds false t o = value_adds o

  pub branch_adds : (q : Bool) (t o : List Stmt) → Adding Flow (chosen q (block_ran here t) (block_ran here o)) (chosen q (block_ran here t) (block_ran here o))
  branch_adds true t o = block_adds t
  branch_adds false t o = block_adds o

  pub bound_adds : (pattern : Pattern) (v : Value) → Adding (Unit {0}) (bound here pattern v) (bound here pattern v)
  bound_adds pattern v = M.bound_lem Adding (laws (captures_in p)) sayings here (named (captures_in p)) here.enter here.computed enters computeds pattern v

  pub fields_bound_add : (names : List Text) (v : Value) → Adding (Unit {0}) (fields_bound here names v) (fields_bound here names v)
  fields_bound_add names v = M.fields_bound_lem Adding (laws (captures_in p)) sayings here (named (captures_in p)) here.enter here.computed enters computeds names v

  pub all_bound_add : (patterns : List Pattern) (vs : List Value) → Adding (Unit {0}) (all_bound here patterns vs) (all_bound here patterns vs)
  all_bound_add patterns vs = M.all_bound_lem Adding (laws (captures_in p)) sayings here (named (captures_in p)) here.enter here.computed enters computeds patterns vs

  pub parameters_add : (q : Bool) (patterns : List Pattern) (vs : List Value) → Adding (Unit {0}) (chosen q (give tt) (all_bound here patterns vs)) (chosen q (give tt) (all_bound here patterns vs))
  parameters_add true patterns vs = gives {A = Unit {0}} tt
  parameters_add false patterns vs = all_bound_add patterns vs

-- so does what stands inside an arrow that is entered
pub code_adds : (p : Program) (levels : ℕ) (mode : R.Mode) (running : List ℕ) (code : Code) (scope : Fields) (arguments : List Value)
    → let place : Setting = setting_of p called_anew (entering p called_anew levels) mode running code in Adding Value (inside code place scope arguments) (inside code place scope arguments)
code_adds p levels mode running code scope arguments =
    let place : Setting = setting_of p called_anew (entering p called_anew levels) mode running code in
    M.insides Adding (laws (captures_in p)) (hook_laws Adding (laws (captures_in p)) hooking_laws) place (named (captures_in p)) place.enter place.computed (adding p levels) (λ a f. calls_anew Adding (hook_laws Adding (laws (captures_in p)) hooking_laws) (entering p called_anew levels) (entering p called_anew levels) (adding p levels) running a f) code scope arguments
