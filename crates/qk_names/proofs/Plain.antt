-- Trees without a statement of the lexical scope, as sources have them.
use Rattle.std.proofs.Common.{subst}
use Rattle.std.proofs.lemmas.Bool.{false≢true}
use Rattle.std.specs.Prelude.{ℕ, ◌+◌, Bool, true, false, List, [], ◌∷◌, ⊤}
use denote.Hole.Carrier.{hidden, roll}
use Rattle.qk_ast.specs.declared.Body.TheBlock.{shape-the_row-Expr-0, hidden-the_row-Expr-0, hidden-the_row-Expr-2, hidden-the_row-Stmt-1, hidden-the_row-Field-3, hidden-the_row-Operand-4, hidden-the_row-Link-5, shape-the_row-Arrow-6, hidden-the_row-Arrow-6, shape-the_row-Jsx-7, hidden-the_row-Jsx-7}
use Rattle.qk_ast.specs.declared.Form.TheVariants.{Source}
use Rattle.qk_ast.specs.declared.Module.{Module}
use Rattle.qk_ast.specs.declared.Pattern.{Pattern}
use Rattle.qk_ast.specs.declared.Expr.{Expr, Row_of-Expr, end_of-Expr, more_of-Expr, Row_of-Field, end_of-Field, more_of-Field, Row_of-Operand, end_of-Operand, more_of-Operand, Row_of-Link, end_of-Link, more_of-Link, more_of-Arrow, more_of-Jsx}
use Rattle.qk_ast.specs.declared.Stmt.{Stmt, Block' as Statement_block', Row_of-Stmt, end_of-Stmt, more_of-Stmt, None', Some'}
use Rattle.qk_ast.specs.declared.Link.{Link as Tree_link}
use Rattle.qk_ast.specs.declared.Jsx.{Jsx, Jsx', roll-Jsx}
use Rattle.qk_ast.specs.declared.Body.{Body as Tree_body, Block' as Body_block'}
use Rattle.qk_ast.specs.Characters.{Characters}
use Rattle.qk_ast.specs.JsxText.{jsx_text}
use Rattle.qk_ast.specs.Grammar.{Binding, Plain as Plain_binding, Fields_of, Expression, Undefined, Null, Truth, Number, Quoted, Named, Whole, Holed, Bracketed, Listed, Recorded, Markup, Log, Keys, Str, Trunc, Postfix, Prefix, Chain, Choice, Function, Operands, No_operand, Operand, Holes, Last_part, Part_hole, Link, Dot, Index, Call, Links, No_link, Next_link, Arguments, No_argument, Only, Comma, Field, Key, Quoted_key, Short, Fields, No_field, Only_field, Field_comma, Element, Closed, Open, Fragment, Attributes, No_attribute, Set, Set_text, Set_value, Children, No_child, Text_child, Empty_child, Value_child, Element_child, Body, Block_body, Step_body, Step, Plain_step, Assign, Bump, Statement, Const, Scope, Let, Return, Return_step, If, If_else, While, For_of, Break, Continue, Delete, Block, Do, Statements, No_statement, Then, Part, Block_part, Statement_part, Item_line, Level}
use Rattle.qk_ast.specs.Tree.{tree, operands_tree, holes_tree, link_tree, links_tree, arguments_tree, field_tree, fields_tree, element_tree, attributes_tree, children_tree, body_tree, step_tree, statement_tree, statements_tree, part_tree, binding_tree, before_children, items_tree}
use Rattle.qk_ast.specs.Rules.{keeps, operands_keep, holes_keep, link_keeps, links_keep, arguments_keep, field_keeps, fields_keep, element_keeps, attributes_keep, children_keep, body_keeps, step_keeps, statement_keeps, statements_keep, part_keeps, items_keep}
use Rattle.qk_ast.specs.Derives.{Derives}
use Rattle.qk_names.proofs.Each.{Each, none, ◌∷'◌}

abbrev pub Is_binding : Pattern → Type 0
Is_binding (Pattern.Scope names) = ⊥
Is_binding _ = ⊤

abbrev mutual
  pub Plain : Expr → Type 0
  Plain (Expr.Arrow' _ (more_of-Arrow place params x _)) = Plain_body x
  Plain (Expr.List' _ xs) = Plain_all xs
  Plain (Expr.Record' _ xs) = Plain_fields xs
  Plain (Expr.Template' parts _ xs) = Plain_all xs
  Plain (Expr.Unary' operator _ xs) = Plain_all xs
  Plain (Expr.Chain' _ first _ rest) = Plain_all first × Plain_operands rest
  Plain (Expr.Cond' _ x _ y _ z) = Plain_all x × (Plain_all y × Plain_all z)
  Plain (Expr.Post' _ x _ xs) = Plain_all x × Plain_links xs
  Plain (Expr.Assign' operator _ target _ x) = Plain_all target × Plain_all x
  Plain (Expr.Step' up _ target) = Plain_all target
  Plain (Expr.Known' known _ xs) = Plain_all xs
  Plain (Expr.Jsx' _ (more_of-Jsx x _)) = Plain_jsx x
  Plain _ = ⊤

  pub Plain_all : {m : _} → Row_of-Expr m → Type 0
  Plain_all end_of-Expr = ⊤
  Plain_all (more_of-Expr x rest) = Plain x × Plain_all rest

  pub Plain_fields : {m : _} → Row_of-Field m → Type 0
  Plain_fields end_of-Field = ⊤
  Plain_fields (more_of-Field key x rest) = Plain x × Plain_fields rest

  pub Plain_operands : {m : _} → Row_of-Operand m → Type 0
  Plain_operands end_of-Operand = ⊤
  Plain_operands (more_of-Operand operator x rest) = Plain x × Plain_operands rest

  pub Plain_link : Tree_link → Type 0
  Plain_link (Tree_link.Prop name) = ⊤
  Plain_link (Tree_link.Index x) = Plain x
  Plain_link (Tree_link.Call' _ xs) = Plain_all xs

  pub Plain_links : {m : _} → Row_of-Link m → Type 0
  Plain_links end_of-Link = ⊤
  Plain_links (more_of-Link x rest) = Plain_link x × Plain_links rest

  pub Plain_jsx : Jsx → Type 0
  Plain_jsx (Jsx' tag _ xs _ children) = Plain_fields xs × Plain_all children

  pub Plain_statement : Stmt → Type 0
  Plain_statement (Stmt.Const pattern x) = Is_binding pattern × Plain x
  Plain_statement (Stmt.Let name x) = Plain x
  Plain_statement (Stmt.Do x) = Plain x
  Plain_statement (Stmt.Delete x) = Plain x
  Plain_statement (Stmt.Return' None') = ⊤
  Plain_statement (Stmt.Return' (Some' x)) = Plain x
  Plain_statement (Stmt.If' x _ then _ otherwise) = Plain x × (Plain_block then × Plain_block otherwise)
  Plain_statement (Stmt.While' x _ xs) = Plain x × Plain_block xs
  Plain_statement (Stmt.ForOf' name x _ xs) = Plain x × Plain_block xs
  Plain_statement Stmt.Break = ⊤
  Plain_statement Stmt.Continue = ⊤
  Plain_statement (Statement_block' _ xs) = Plain_block xs

  pub Plain_block : {m : _} → Row_of-Stmt m → Type 0
  Plain_block end_of-Stmt = ⊤
  Plain_block (more_of-Stmt x rest) = Plain_statement x × Plain_block rest

  pub Plain_body : Tree_body → Type 0
  Plain_body (Tree_body.Value' _ xs) = Plain_all xs
  Plain_body (Body_block' _ xs) = Plain_block xs

-- ---- what a source writes

bound : (x : Binding) → Is_binding (binding_tree x)
bound (Plain_binding a) = tt
bound (Fields_of names) = tt

after_text : (cs : Characters) (rest : List Expr) → Plain_all (hidden-the_row-Expr-2 rest) → Plain_all (hidden-the_row-Expr-2 (before_children cs rest))
unfolding hidden-the_row-Expr-2 hidden
after_text [] rest h = h
after_text (c ∷ cs) rest h = (tt, h)

mutual
  unfolding shape-the_row-Expr-0 hidden-the_row-Expr-0 hidden-the_row-Expr-2 hidden-the_row-Stmt-1 hidden-the_row-Field-3 hidden-the_row-Operand-4 hidden-the_row-Link-5 shape-the_row-Arrow-6 hidden-the_row-Arrow-6 shape-the_row-Jsx-7 hidden-the_row-Jsx-7 hidden roll-Jsx roll

  expression : (x : Expression) (n : ℕ) → keeps Source x → Plain (tree n x)
  expression (Holed pieces x more) n (h, g) = (expression x n h, holes more _ g)
  expression (Bracketed x) n h = expression x n h
  expression (Listed xs) n h = all xs n h
  expression (Recorded xs) n h = fields xs n [] h
  expression (Markup x) n h = element x n h
  expression (Log x) n h = (expression x n h, tt)
  expression (Keys x) n h = (expression x n h, tt)
  expression (Str x) n h = (expression x n h, tt)
  expression (Trunc x y) n (b, c, h, g) = (expression x n h, (expression y _ g, tt))
  expression (Postfix head x more) n (b, c, h, g, k) = ((expression head n h, tt), (link x _ g, links more _ k))
  expression (Prefix op x) n (b, h) = (expression x n h, tt)
  expression (Chain first op second more) n (b, h, c, g, k) = ((expression first n h, tt), (expression second _ g, operands more _ _ k))
  expression (Choice test yes' no') n (b, h, g, k) = ((expression test n h, tt), ((expression yes' _ g, tt), (expression no' _ k, tt)))
  expression (Function parameters x) n h = body x (n + 1) h
  expression Undefined n h = tt
  expression Null n h = tt
  expression (Truth b) n h = tt
  expression (Number digits) n h = tt
  expression (Quoted quote pieces) n h = tt
  expression (Named a) n h = tt
  expression (Whole pieces) n h = tt

  operands : (x : Operands) (level : Level) (n : ℕ) → operands_keep Source level x → Plain_operands (hidden-the_row-Operand-4 (operands_tree n x))
  operands No_operand level n h = tt
  operands (Operand op x more) level n (b, c, h, g) = (expression x n h, operands more level _ g)

  holes : (x : Holes) (n : ℕ) → holes_keep Source x → Plain_all (hidden-the_row-Expr-2 (holes_tree n x))
  holes (Last_part pieces) n h = tt
  holes (Part_hole pieces x more) n (h, g) = (expression x n h, holes more _ g)

  link : (x : Link) (n : ℕ) → link_keeps Source x → Plain_link (link_tree n x)
  link (Dot w) n h = tt
  link (Index x) n h = expression x n h
  link (Call xs) n h = all xs n h

  links : (x : Links) (n : ℕ) → links_keep Source x → Plain_links (hidden-the_row-Link-5 (links_tree n x))
  links No_link n h = tt
  links (Next_link x more) n (h, g) = (link x n h, links more _ g)

  all : (x : Arguments) (n : ℕ) → arguments_keep Source x → Plain_all (hidden-the_row-Expr-2 (arguments_tree n x))
  all No_argument n h = tt
  all (Only x) n h = (expression x n h, tt)
  all (Comma x more) n (h, g) = (expression x n h, all more _ g)

  field : (x : Field) (n : ℕ) → field_keeps Source x → Plain (field_tree n x).value
  field (Key w x) n h = expression x n h
  field (Quoted_key quote pieces x) n h = expression x n h
  field (Short a) n h = tt

  fields : (x : Fields) (n : ℕ) (before : List (List ℕ)) → fields_keep Source before x → Plain_fields (hidden-the_row-Field-3 (fields_tree n x))
  fields No_field n before h = tt
  fields (Only_field x) n before (b, h) = (field x n h, tt)
  fields (Field_comma x more) n before (b, h, g) = (field x n h, fields more _ _ g)

  element : (x : Element) (n : ℕ) → element_keeps Source x → Plain_jsx (element_tree n x)
  element (Closed tag xs) n (b, h) = (attributes xs n h, tt)
  element (Open tag xs x end) n (b, c, h, g) = (attributes xs n h, children x _ g)
  element (Fragment x) n h = (tt, children x n h)

  attributes : (x : Attributes) (n : ℕ) → attributes_keep Source x → Plain_fields (hidden-the_row-Field-3 (attributes_tree n x))
  attributes No_attribute n h = tt
  attributes (Set a more) n h = (tt, attributes more n h)
  attributes (Set_text a quote text more) n h = (tt, attributes more n h)
  attributes (Set_value a x more) n (h, g) = (expression x n h, attributes more _ g)

  children : (x : Children) (n : ℕ) → children_keep Source x → Plain_all (hidden-the_row-Expr-2 (children_tree n x))
  children No_child n h = tt
  children (Text_child text more) n h = after_text (jsx_text text) (children_tree n more) (children more n h)
  children (Empty_child more) n h = children more n h
  children (Value_child x more) n (h, g) = (expression x n h, children more _ g)
  children (Element_child x more) n (h, g) = (element x n h, children more _ g)

  body : (x : Body) (n : ℕ) → body_keeps Source x → Plain_body (body_tree n x)
  body (Block_body x) n h = statements x n false true h
  body (Step_body x) n (b, h) = (step x n h, tt)

  step : (x : Step) (n : ℕ) → step_keeps Source x → Plain (step_tree n x)
  step (Plain_step x) n h = expression x n h
  step (Assign target op x) n (b, h, g) = ((expression target n h, tt), (expression x _ g, tt))
  step (Bump target up) n (b, h) = (expression target n h, tt)

  statement : (x : Statement) (n : ℕ) (looped first : Bool) → statement_keeps Source looped first x → Plain_statement (statement_tree n x)
  statement (Const binding x) n looped first h = (bound binding, expression x n h)
  statement (Scope a more) n looped first (b, h) = absurd (false≢true h)
  statement (Let a x) n looped first h = expression x n h
  statement Return n looped first h = tt
  statement (Return_step x) n looped first h = step x n h
  statement (If test yes') n looped first (h, g) = (expression test n h, (part yes' _ looped g, tt))
  statement (If_else test yes' no') n looped first (h, b, g, k) = (expression test n h, (part yes' _ looped g, part no' _ looped k))
  statement (While test x) n looped first (h, g) = (expression test n h, part x _ true g)
  statement (For_of a test x) n looped first (h, g) = (expression test n h, part x _ true g)
  statement Break n looped first h = tt
  statement Continue n looped first h = tt
  statement (Delete x) n looped first (b, h) = expression x n h
  statement (Block x) n looped first h = statements x n looped true h
  statement (Do x) n looped first (b, h) = step x n h

  statements : (x : Statements) (n : ℕ) (looped first : Bool) → statements_keep Source looped first x → Plain_block (hidden-the_row-Stmt-1 (statements_tree n x))
  statements No_statement n looped first h = tt
  statements (Then x more) n looped first (h, g) = (statement x n looped first h, statements more _ looped false g)

  part : (x : Part) (n : ℕ) (looped : Bool) → part_keeps Source looped x → Plain_block (hidden-the_row-Stmt-1 (part_tree n x))
  part (Block_part x) n looped h = statements x n looped true h
  part (Statement_part x) n looped (b, h) = (statement x n looped false h, tt)

items : (xs : List Item_line) (n : ℕ) → items_keep Source xs → Each (λ i. Plain i.init) (items_tree n xs)
items [] n h = none
items (i ∷ more) n (h, g) = expression i.value n h ∷' items more _ g

pub sources_are_plain : (bytes : List ℕ) (m : Module) → Derives Source bytes m → Each (λ i. Plain i.init) m.items
sources_are_plain bytes m d = subst (λ m. Each (λ i. Plain i.init) m.items) d.parse.means (items d.parse.text.items 0 d.parse.keeps)
