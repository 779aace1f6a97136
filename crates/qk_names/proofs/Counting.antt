-- The arrows of what is written are numbered from the number at its begin on.
use Rattle.std.proofs.Common.{◌≡◌, refl, subst, arith}
use Rattle.std.specs.Prelude.{ℕ, ◌+◌, Bool, true, false, List, [], ◌∷◌, codes}
use denote.Hole.Carrier.{hidden, roll}
use Rattle.qk_ast.specs.declared.Body.TheBlock.{shape-the_row-Expr-0, hidden-the_row-Expr-0, hidden-the_row-Expr-2, hidden-the_row-Stmt-1, hidden-the_row-Field-3, hidden-the_row-Operand-4, hidden-the_row-Link-5, shape-the_row-Arrow-6, hidden-the_row-Arrow-6, shape-the_row-Jsx-7, hidden-the_row-Jsx-7}
use Rattle.qk_ast.specs.declared.Expr.{Expr}
use Rattle.qk_ast.specs.declared.Form.{Form}
use Rattle.qk_ast.specs.declared.Module.{Module}
use Rattle.qk_ast.specs.Derives.{Derives}
use Rattle.qk_ast.specs.declared.Jsx.{roll-Jsx}
use Rattle.qk_ast.specs.declared.Link.{Link as Tree_link}
use Rattle.qk_ast.specs.declared.Un.TheVariants as un
use Rattle.qk_ast.specs.declared.Un.{Un}
use Rattle.qk_ast.specs.declared.AssignOp.{AssignOp}
use Rattle.qk_ast.specs.declared.AssignOp.TheVariants as assign
use Rattle.qk_ast.specs.Characters.{Characters}
use Rattle.qk_ast.specs.Tokens.{Token}
use Rattle.qk_ast.specs.JsxText.{jsx_text}
use Rattle.qk_ast.specs.Texts.{Text}
use Rattle.qk_ast.specs.Grammar.{Word, Free, Taken, Expression, Undefined, Null, Truth, Number, Quoted, Named, Whole, Holed, Bracketed, Listed, Recorded, Markup, Log, Keys, Str, Trunc, Postfix, Prefix, Chain, Choice, Function, Operands, No_operand, Operand, Holes, Last_part, Part_hole, Link, Dot, Index, Call, Links, No_link, Next_link, Arguments, No_argument, Only, Comma, Field, Key, Quoted_key, Short, Fields, No_field, Only_field, Field_comma, Element, Closed, Open, Fragment, Attributes, No_attribute, Set, Set_text, Set_value, Children, No_child, Text_child, Empty_child, Value_child, Element_child, Body, Block_body, Step_body, Step, Plain_step, Assign, Bump, Statement, Const, Scope, Let, Return, Return_step, If, If_else, While, For_of, Break, Continue, Delete, Block, Do, Statements, No_statement, Then, Part, Block_part, Statement_part, Item_line}
use Rattle.qk_ast.specs.Spelling.{◌⨾◌, tokens, arguments_tokens, assign_sign, attributes_tokens, body_tokens, bump_sign, children_tokens, element_tokens, field_tokens, fields_tokens, holes_tokens, link_tokens, links_tokens, operands_tokens, part_tokens, un_sign, bin_sign, scope_tokens, statement_tokens, statements_tokens, step_tokens, truth_word, word_tokens}
use Rattle.qk_ast.specs.Tree.{arrow_signs, arrows as signs, tree, operands_tree, holes_tree, link_tree, links_tree, arguments_tree, field_tree, fields_tree, element_tree, attributes_tree, children_tree, body_tree, parameters_tree, step_tree, statement_tree, statements_tree, part_tree, before_children, items_tree}
use Rattle.qk_ast.specs.Arrows.{Mark, Unmarked, arrows, all_arrows, field_arrows, attribute_arrows, operand_arrows, link_arrows, jsx_arrows, statement_arrows, block_arrows, body_arrows, item_arrows, call_mark, inner_scope}
use Rattle.qk_reading.proofs.Framed.{framed, link_framed, arguments_framed, field_framed, fields_framed, element_framed, attributes_framed, children_framed, step_framed, statement_framed, statements_framed, part_framed}
use Rattle.qk_reading.proofs.Counted.{counted, sign_uncounted}
use Rattle.qk_reading.proofs.Patterns.{binding_uncounted, parameters_uncounted}
use Rattle.qk_names.proofs.Numbered.{Numbered, ◌▹◌, no_arrows, alone, begins, moved}

-- ---- signs and words without arrows

un_uncounted : (op : Un) (ts : List Token) → arrow_signs (un_sign op ts) ≡ arrow_signs ts
un_uncounted un.Not ts = refl
un_uncounted un.Neg ts = refl

assign_uncounted : (op : AssignOp) (ts : List Token) → arrow_signs (assign_sign op ts) ≡ arrow_signs ts
assign_uncounted assign.Set ts = refl
assign_uncounted assign.Add ts = refl
assign_uncounted assign.Sub ts = refl
assign_uncounted assign.Mul ts = refl

bump_uncounted : (up : Bool) (ts : List Token) → arrow_signs (bump_sign up ts) ≡ arrow_signs ts
bump_uncounted true ts = refl
bump_uncounted false ts = refl

word_uncounted : (w : Word) (ts : List Token) → arrow_signs (word_tokens w ts) ≡ arrow_signs ts
word_uncounted (Free a) ts = refl
word_uncounted (Taken a) ts = refl

truth_uncounted : (b : Bool) (ts : List Token) → arrow_signs (truth_word b ts) ≡ arrow_signs ts
truth_uncounted true ts = refl
truth_uncounted false ts = refl

scope_uncounted : (names : List Characters) (ts : List Token) → arrow_signs (scope_tokens names ts) ≡ arrow_signs ts
scope_uncounted [] ts = refl
scope_uncounted (a ∷ more) ts = scope_uncounted more ts

-- a text between tags has none
after_text : (cs : Characters) (rest : List Expr) (scope : List Text) (n m : ℕ) → Numbered (all_arrows (hidden-the_row-Expr-2 rest) Unmarked scope) n m
    → Numbered (all_arrows (hidden-the_row-Expr-2 (before_children cs rest)) Unmarked scope) n m
unfolding hidden-the_row-Expr-2 hidden
after_text [] rest scope n m h = h
after_text (c ∷ cs) rest scope n m h = h

-- ---- what is written

mutual
  unfolding shape-the_row-Expr-0 hidden-the_row-Expr-0 hidden-the_row-Expr-2 hidden-the_row-Stmt-1 hidden-the_row-Field-3 hidden-the_row-Operand-4 hidden-the_row-Link-5 shape-the_row-Arrow-6 hidden-the_row-Arrow-6 shape-the_row-Jsx-7 hidden-the_row-Jsx-7 hidden roll-Jsx roll

  pub expression : (x : Expression) (n m : ℕ) → m ≡ n + signs (tokens x) → (mark : Mark) (scope : List Text) → Numbered (arrows (tree n x) mark scope) n m
  expression Undefined n m e mark scope = no_arrows (omega (arith, e))
  expression Null n m e mark scope = no_arrows (omega (arith, e))
  expression (Truth b) n m e mark scope = let c = truth_uncounted b [] in no_arrows (omega (arith, e, c))
  expression (Number digits) n m e mark scope = no_arrows (omega (arith, e))
  expression (Quoted quote pieces) n m e mark scope = no_arrows (omega (arith, e))
  expression (Named a) n m e mark scope = no_arrows (omega (arith, e))
  expression (Whole pieces) n m e mark scope = no_arrows (omega (arith, e))
  expression (Holed pieces x more) n m e mark scope =
      let c = counted (framed x) (holes_tokens more []) in
      expression x n (n + signs (tokens x)) refl Unmarked scope ▹ holes more (n + signs (tokens x)) m (omega (arith, e, c)) scope
  expression (Bracketed x) n m e mark scope = let c = counted (framed x) (Token.Punct (codes ")") ∷ []) in expression x n m (omega (arith, e, c)) mark scope
  expression (Listed arguments) n m e mark scope = let c = counted (arguments_framed arguments) (Token.Punct (codes "]") ∷ []) in all arguments n m (omega (arith, e, c)) Unmarked scope
  expression (Recorded fs) n m e mark scope = let c = counted (fields_framed fs) (Token.Punct (codes "}") ∷ []) in fields fs n m (omega (arith, e, c)) scope
  expression (Markup x) n m e mark scope = element x n m e scope
  expression (Log x) n m e mark scope = let c = counted (framed x) (Token.Punct (codes ")") ∷ []) in alone (expression x n m (omega (arith, e, c)) Unmarked scope)
  expression (Keys x) n m e mark scope = let c = counted (framed x) (Token.Punct (codes ")") ∷ []) in alone (expression x n m (omega (arith, e, c)) Unmarked scope)
  expression (Str x) n m e mark scope = let c = counted (framed x) (Token.Punct (codes ")") ∷ []) in alone (expression x n m (omega (arith, e, c)) Unmarked scope)
  expression (Trunc x y) n m e mark scope =
      let c = counted (framed x) (Token.Punct (codes "/") ∷ tokens y (Token.Punct (codes ")") ∷ [])) in
      let d = counted (framed y) (Token.Punct (codes ")") ∷ []) in
      expression x n (n + signs (tokens x)) refl Unmarked scope ▹ alone (expression y (n + signs (tokens x)) m (omega (arith, e, c, d)) Unmarked scope)
  expression (Postfix head x more) n m e mark scope =
      let n1 = n + signs (tokens head) in
      let n2 = n + signs (tokens head ⨾ link_tokens x) in
      let c = counted (framed head) (link_tokens x []) in
      let d = counted (framed head) (link_tokens x (links_tokens more [])) in
      let f = counted (link_framed x) (links_tokens more []) in
      expression head n n1 refl Unmarked scope ▹ link x n1 n2 (omega (arith, c)) (call_mark (tree n head)) scope (links_tree n2 more) m (links more n2 m (omega (arith, e, c, d, f)) Unmarked scope)
  expression (Prefix op x) n m e mark scope = let c = un_uncounted op (tokens x []) in alone (expression x n m (omega (arith, e, c)) Unmarked scope)
  expression (Chain first op second more) n m e mark scope =
      let n1 = n + signs (tokens first) in
      let n2 = n + signs (tokens first ⨾ tokens second) in
      let c = counted (framed first) (tokens second []) in
      let d = counted (framed first) (bin_sign op (tokens second (operands_tokens more []))) in
      let f = sign_uncounted op (tokens second (operands_tokens more [])) in
      let g = counted (framed second) (operands_tokens more []) in
      alone (expression first n n1 refl Unmarked scope) ▹ expression second n1 n2 (omega (arith, c)) Unmarked scope ▹ operands more n2 m (omega (arith, e, c, d, f, g)) scope
  expression (Choice test yes' no') n m e mark scope =
      let n1 = n + signs (tokens test) in
      let n2 = n + signs (tokens test ⨾ tokens yes') in
      let c = counted (framed test) (tokens yes' []) in
      let d = counted (framed test) (Token.Punct (codes "?") ∷ tokens yes' (Token.Punct (codes ":") ∷ tokens no' [])) in
      let f = counted (framed yes') (Token.Punct (codes ":") ∷ tokens no' []) in
      alone (expression test n n1 refl Unmarked scope) ▹ alone (expression yes' n1 n2 (omega (arith, c)) Unmarked scope) ▹ alone (expression no' n2 m (omega (arith, e, c, d, f)) Unmarked scope)
  expression (Function parameters x) n m e mark scope =
      let c = parameters_uncounted parameters (Token.Punct (codes "=>") ∷ body_tokens x []) in
      begins refl (body x (n + 1) m (omega (arith, e, c)) (inner_scope mark (parameters_tree parameters) scope))

  pub operands : (x : Operands) (n m : ℕ) → m ≡ n + signs (operands_tokens x) → (scope : List Text) → Numbered (operand_arrows (hidden-the_row-Operand-4 (operands_tree n x)) scope) n m
  operands No_operand n m e scope = no_arrows (omega (arith, e))
  operands (Operand op x more) n m e scope =
      let c = sign_uncounted op (tokens x (operands_tokens more [])) in
      let d = counted (framed x) (operands_tokens more []) in
      expression x n (n + signs (tokens x)) refl Unmarked scope ▹ operands more (n + signs (tokens x)) m (omega (arith, e, c, d)) scope

  pub holes : (x : Holes) (n m : ℕ) → m ≡ n + signs (holes_tokens x) → (scope : List Text) → Numbered (all_arrows (hidden-the_row-Expr-2 (holes_tree n x)) Unmarked scope) n m
  holes (Last_part pieces) n m e scope = no_arrows (omega (arith, e))
  holes (Part_hole pieces x more) n m e scope =
      let c = counted (framed x) (holes_tokens more []) in
      expression x n (n + signs (tokens x)) refl Unmarked scope ▹ holes more (n + signs (tokens x)) m (omega (arith, e, c)) scope

  -- a link in front of others
  pub link : (x : Link) (n m : ℕ) → m ≡ n + signs (link_tokens x) → (mark : Mark) (scope : List Text) (rest : List Tree_link) (k : ℕ)
      → Numbered (link_arrows (hidden-the_row-Link-5 rest) Unmarked scope) m k → Numbered (link_arrows (hidden-the_row-Link-5 (link_tree n x ∷ rest)) mark scope) n k
  link (Dot w) n m e mark scope rest k h = let c = word_uncounted w [] in moved (omega (arith, e, c)) h
  link (Index x) n m e mark scope rest k h = let c = counted (framed x) (Token.Punct (codes "]") ∷ []) in expression x n m (omega (arith, e, c)) Unmarked scope ▹ h
  link (Call arguments) n m e mark scope rest k h = let c = counted (arguments_framed arguments) (Token.Punct (codes ")") ∷ []) in all arguments n m (omega (arith, e, c)) mark scope ▹ h

  pub links : (x : Links) (n m : ℕ) → m ≡ n + signs (links_tokens x) → (mark : Mark) (scope : List Text) → Numbered (link_arrows (hidden-the_row-Link-5 (links_tree n x)) mark scope) n m
  links No_link n m e mark scope = no_arrows (omega (arith, e))
  links (Next_link x more) n m e mark scope =
      let c = counted (link_framed x) (links_tokens more []) in
      let n1 = n + signs (link_tokens x) in
      link x n n1 refl mark scope (links_tree n1 more) m (links more n1 m (omega (arith, e, c)) Unmarked scope)

  pub all : (x : Arguments) (n m : ℕ) → m ≡ n + signs (arguments_tokens x) → (mark : Mark) (scope : List Text) → Numbered (all_arrows (hidden-the_row-Expr-2 (arguments_tree n x)) mark scope) n m
  all No_argument n m e mark scope = no_arrows (omega (arith, e))
  all (Only x) n m e mark scope = alone (expression x n m e mark scope)
  all (Comma x more) n m e mark scope =
      let c = counted (framed x) (Token.Punct (codes ",") ∷ arguments_tokens more []) in
      expression x n (n + signs (tokens x)) refl mark scope ▹ all more (n + signs (tokens x)) m (omega (arith, e, c)) mark scope

  -- a field in front of others
  pub field : (x : Field) (n m : ℕ) → m ≡ n + signs (field_tokens x) → (scope : List Text) → Numbered (arrows (field_tree n x).value Unmarked scope) n m
  field (Key w x) n m e scope = let c = word_uncounted w (Token.Punct (codes ":") ∷ tokens x []) in expression x n m (omega (arith, e, c)) Unmarked scope
  field (Quoted_key quote pieces x) n m e scope = expression x n m e Unmarked scope
  field (Short a) n m e scope = no_arrows (omega (arith, e))

  pub fields : (x : Fields) (n m : ℕ) → m ≡ n + signs (fields_tokens x) → (scope : List Text) → Numbered (field_arrows (hidden-the_row-Field-3 (fields_tree n x)) scope) n m
  fields No_field n m e scope = no_arrows (omega (arith, e))
  fields (Only_field f) n m e scope = alone (field f n m e scope)
  fields (Field_comma f more) n m e scope =
      let c = counted (field_framed f) (Token.Punct (codes ",") ∷ fields_tokens more []) in
      field f n (n + signs (field_tokens f)) refl scope ▹ fields more (n + signs (field_tokens f)) m (omega (arith, e, c)) scope

  pub element : (x : Element) (n m : ℕ) → m ≡ n + signs (element_tokens x) → (scope : List Text) → Numbered (jsx_arrows (element_tree n x) scope) n m
  element (Closed tag xs) n m e scope = let c = counted (attributes_framed xs) (Token.Punct (codes "/>") ∷ []) in alone (attributes xs n m (omega (arith, e, c)) scope)
  element (Open tag xs x end) n m e scope =
      let after : List Token = Token.Punct (codes "</") ∷ Token.Name end ∷ Token.Punct (codes ">") ∷ [] in
      let c = counted (attributes_framed xs) (Token.Punct (codes ">") ∷ children_tokens x after) in
      let d = counted (children_framed x) after in
      let n1 = n + signs (attributes_tokens xs) in
      attributes xs n n1 refl scope ▹ children x n1 m (omega (arith, e, c, d)) scope
  element (Fragment x) n m e scope = let c = counted (children_framed x) (Token.Punct (codes "</>") ∷ []) in children x n m (omega (arith, e, c)) scope

  pub attributes : (x : Attributes) (n m : ℕ) → m ≡ n + signs (attributes_tokens x) → (scope : List Text) → Numbered (attribute_arrows (hidden-the_row-Field-3 (attributes_tree n x)) scope) n m
  attributes No_attribute n m e scope = no_arrows (omega (arith, e))
  attributes (Set a more) n m e scope = attributes more n m e scope
  attributes (Set_text a quote text more) n m e scope = attributes more n m e scope
  attributes (Set_value a x more) n m e scope =
      let c = counted (framed x) (Token.Punct (codes "}") ∷ attributes_tokens more []) in
      expression x n (n + signs (tokens x)) refl _ scope ▹ attributes more (n + signs (tokens x)) m (omega (arith, e, c)) scope

  pub children : (x : Children) (n m : ℕ) → m ≡ n + signs (children_tokens x) → (scope : List Text) → Numbered (all_arrows (hidden-the_row-Expr-2 (children_tree n x)) Unmarked scope) n m
  children No_child n m e scope = no_arrows (omega (arith, e))
  children (Text_child text more) n m e scope = after_text (jsx_text text) (children_tree n more) scope n m (children more n m e scope)
  children (Empty_child more) n m e scope = children more n m e scope
  children (Value_child x more) n m e scope =
      let c = counted (framed x) (Token.Punct (codes "}") ∷ children_tokens more []) in
      expression x n (n + signs (tokens x)) refl Unmarked scope ▹ children more (n + signs (tokens x)) m (omega (arith, e, c)) scope
  children (Element_child x more) n m e scope =
      let c = counted (element_framed x) (children_tokens more []) in
      element x n (n + signs (element_tokens x)) refl scope ▹ children more (n + signs (element_tokens x)) m (omega (arith, e, c)) scope

  pub body : (x : Body) (n m : ℕ) → m ≡ n + signs (body_tokens x) → (scope : List Text) → Numbered (body_arrows (body_tree n x) scope) n m
  body (Block_body x) n m e scope = let c = counted (statements_framed x) (Token.Punct (codes "}") ∷ []) in statements x n m (omega (arith, e, c)) _
  body (Step_body x) n m e scope = alone (step x n m e scope)

  pub step : (x : Step) (n m : ℕ) → m ≡ n + signs (step_tokens x) → (scope : List Text) → Numbered (arrows (step_tree n x) Unmarked scope) n m
  step (Plain_step x) n m e scope = expression x n m e Unmarked scope
  step (Assign target op x) n m e scope =
      let c = counted (framed target) (assign_sign op (tokens x [])) in
      let d = assign_uncounted op (tokens x []) in
      alone (expression target n (n + signs (tokens target)) refl Unmarked scope) ▹ alone (expression x (n + signs (tokens target)) m (omega (arith, e, c, d)) Unmarked scope)
  step (Bump target up) n m e scope =
      let c = counted (framed target) (bump_sign up []) in
      let d = bump_uncounted up [] in
      alone (expression target n m (omega (arith, e, c, d)) Unmarked scope)

  pub statement : (x : Statement) (n m : ℕ) → m ≡ n + signs (statement_tokens x) → (scope : List Text) → Numbered (statement_arrows (statement_tree n x) scope) n m
  statement (Const binding x) n m e scope =
      let c = binding_uncounted binding (Token.Punct (codes "=") ∷ tokens x (Token.Punct (codes ";") ∷ [])) in
      let d = counted (framed x) (Token.Punct (codes ";") ∷ []) in
      expression x n m (omega (arith, e, c, d)) Unmarked scope
  statement (Scope a more) n m e scope = let c = scope_uncounted more (Token.Punct (codes "]") ∷ Token.Punct (codes "=") ∷ Token.Name (codes "useLexicalScope") ∷ Token.Punct (codes "(") ∷ Token.Punct (codes ")") ∷ Token.Punct (codes ";") ∷ []) in no_arrows (omega (arith, e, c))
  statement (Let a x) n m e scope = let d = counted (framed x) (Token.Punct (codes ";") ∷ []) in expression x n m (omega (arith, e, d)) Unmarked scope
  statement Return n m e scope = no_arrows (omega (arith, e))
  statement (Return_step x) n m e scope = let d = counted (step_framed x) (Token.Punct (codes ";") ∷ []) in step x n m (omega (arith, e, d)) scope
  statement (If test yes') n m e scope =
      let c = counted (framed test) (Token.Punct (codes ")") ∷ part_tokens yes' []) in
      expression test n (n + signs (tokens test)) refl Unmarked scope ▹ alone (part yes' (n + signs (tokens test)) m (omega (arith, e, c)) _)
  statement (If_else test yes' no') n m e scope =
      let n1 = n + signs (tokens test) in
      let n2 = n + signs (tokens test ⨾ part_tokens yes') in
      let c = counted (framed test) (part_tokens yes' []) in
      let d = counted (framed test) (Token.Punct (codes ")") ∷ part_tokens yes' (Token.Reserved (codes "else") ∷ part_tokens no' [])) in
      let f = counted (part_framed yes') (Token.Reserved (codes "else") ∷ part_tokens no' []) in
      expression test n n1 refl Unmarked scope ▹ part yes' n1 n2 (omega (arith, c)) _ ▹ part no' n2 m (omega (arith, e, c, d, f)) _
  statement (While test x) n m e scope =
      let c = counted (framed test) (Token.Punct (codes ")") ∷ part_tokens x []) in
      expression test n (n + signs (tokens test)) refl Unmarked scope ▹ part x (n + signs (tokens test)) m (omega (arith, e, c)) _
  statement (For_of a test x) n m e scope =
      let c = counted (framed test) (Token.Punct (codes ")") ∷ part_tokens x []) in
      expression test n (n + signs (tokens test)) refl Unmarked scope ▹ part x (n + signs (tokens test)) m (omega (arith, e, c)) _
  statement Break n m e scope = no_arrows (omega (arith, e))
  statement Continue n m e scope = no_arrows (omega (arith, e))
  statement (Delete x) n m e scope = let d = counted (framed x) (Token.Punct (codes ";") ∷ []) in expression x n m (omega (arith, e, d)) Unmarked scope
  statement (Block x) n m e scope = let c = counted (statements_framed x) (Token.Punct (codes "}") ∷ []) in statements x n m (omega (arith, e, c)) _
  statement (Do x) n m e scope = let d = counted (step_framed x) (Token.Punct (codes ";") ∷ []) in step x n m (omega (arith, e, d)) scope

  pub statements : (x : Statements) (n m : ℕ) → m ≡ n + signs (statements_tokens x) → (scope : List Text) → Numbered (block_arrows (hidden-the_row-Stmt-1 (statements_tree n x)) scope) n m
  statements No_statement n m e scope = no_arrows (omega (arith, e))
  statements (Then x more) n m e scope =
      let c = counted (statement_framed x) (statements_tokens more []) in
      statement x n (n + signs (statement_tokens x)) refl scope ▹ statements more (n + signs (statement_tokens x)) m (omega (arith, e, c)) scope

  pub part : (x : Part) (n m : ℕ) → m ≡ n + signs (part_tokens x) → (scope : List Text) → Numbered (block_arrows (hidden-the_row-Stmt-1 (part_tree n x)) scope) n m
  part (Block_part x) n m e scope = let c = counted (statements_framed x) (Token.Punct (codes "}") ∷ []) in statements x n m (omega (arith, e, c)) scope
  part (Statement_part x) n m e scope = alone (statement x n m e scope)

-- ---- the items of a module

-- how many arrows the items have
abbrev pub items_signs : List Item_line → ℕ
items_signs [] = 0
items_signs (i ∷ more) = signs (tokens i.value) + items_signs more

pub items : (xs : List Item_line) (n m : ℕ) → m ≡ n + items_signs xs → Numbered (item_arrows (items_tree n xs)) n m
items [] n m e = no_arrows (omega (arith, e))
items (i ∷ more) n m e = expression i.value n (n + signs (tokens i.value)) refl Unmarked [] ▹ items more (n + signs (tokens i.value)) m (omega (arith, e))

pub numbered : (form : Form) (bytes : List ℕ) (m : Module) (d : Derives form bytes m) → Numbered (item_arrows m.items) 0 (items_signs d.parse.text.items)
numbered form bytes m d = subst (λ m. Numbered (item_arrows m.items) 0 (items_signs d.parse.text.items)) d.parse.means (items d.parse.text.items 0 (items_signs d.parse.text.items) (omega arith))
