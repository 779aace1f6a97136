-- What is inside a node is its children, each with what is inside it.
use Rattle.std.specs.Prelude.{◌≡◌, refl, List, [], ◌∷◌, ◌++◌, map, Some, None}
use Rattle.std.proofs.Common.{sym, ◌∙◌, ap}
use denote.Hole.Carrier.{hidden, roll}
use Rattle.qk_ast.specs.declared.Body.{Body, out-Body, roll-Body, roll-out-Body}
use Rattle.qk_ast.specs.declared.Body.TheOpen.{Body-F, Expr-F, Link-F, Stmt-F}
use Rattle.qk_ast.specs.declared.Body.TheBlock.{shape-the_row-Expr-0, hidden-the_row-Expr-0, hidden-the_row-Expr-2, hidden-the_row-Stmt-1, hidden-the_row-Field-3, hidden-the_row-Operand-4, hidden-the_row-Link-5, shape-the_row-Arrow-6, hidden-the_row-Arrow-6, shape-the_row-Jsx-7, hidden-the_row-Jsx-7, items-the_row-Stmt, items_hidden-the_row-Stmt-1}
use Rattle.qk_ast.specs.declared.Expr.{Expr, out-Expr, roll-Expr, roll-out-Expr}
use Rattle.qk_ast.specs.declared.Field.{Field}
use Rattle.qk_ast.specs.declared.Jsx.{Jsx, out-Jsx, roll-Jsx, roll-out-Jsx}
use Rattle.qk_ast.specs.declared.Link.{Link, out-Link, roll-Link, roll-out-Link}
use Rattle.qk_ast.specs.declared.Operand.{Operand}
use Rattle.qk_ast.specs.declared.Stmt.{Stmt, out-Stmt, roll-Stmt, roll-out-Stmt}
use Rattle.qk_ast.specs.declared.Tag.{Tag}
use Rattle.qk_ast.specs.Arrows.{Mark, Unmarked, call_mark, attribute_mark}
use Rattle.qk_node.specs.Nodes.{Node, Value, Step, Statement, Block, For_block, plain, Expr_form, Link_form, Stmt_form, Body_form, values, fields, attributes, operands, links, statements, of_body, of_expr, of_link, of_stmt, children}
use Rattle.qk_node.specs.Growing.{none, more, row, field_row, attribute_row, operand_row, link_row, statement_row, in_expr, in_link, in_jsx, in_body, in_stmt, within, grown}

-- ---- rows are their lists

value_row : (mark : Mark) (xs : List Expr) → row mark (hidden-the_row-Expr-2 xs) none ≡ grown (values mark xs)
unfolding hidden-the_row-Expr-2 hidden
value_row mark [] = refl
value_row mark (x ∷ xs) = ap (more (Value x mark) (in_expr x)) (value_row mark xs)

field_list : (fs : List Field) → field_row (hidden-the_row-Field-3 fs) none ≡ grown (fields fs)
unfolding hidden-the_row-Field-3 hidden
field_list [] = refl
field_list (f ∷ fs) = ap (more (plain f.value) (in_expr f.value)) (field_list fs)

attribute_list : (fs : List Field) (ns : List Node) → attribute_row (hidden-the_row-Field-3 fs) (grown ns) ≡ grown (attributes fs ++ ns)
unfolding hidden-the_row-Field-3 hidden
attribute_list [] ns = refl
attribute_list (f ∷ fs) ns = ap (more (Value f.value (attribute_mark f.key)) (in_expr f.value)) (attribute_list fs ns)

operand_list : (os : List Operand) → operand_row (hidden-the_row-Operand-4 os) none ≡ grown (operands os)
unfolding hidden-the_row-Operand-4 hidden
operand_list [] = refl
operand_list (o ∷ os) = ap (more (plain o.value) (in_expr o.value)) (operand_list os)

later_links : (ls : List Link) → link_row Unmarked (hidden-the_row-Link-5 ls) none ≡ grown (map (λ l. Step l Unmarked) ls)
unfolding hidden-the_row-Link-5 hidden
later_links [] = refl
later_links (l ∷ ls) = ap (more (Step l Unmarked) (in_link l Unmarked)) (later_links ls)

link_list : (mark : Mark) (ls : List Link) → link_row mark (hidden-the_row-Link-5 ls) none ≡ grown (links mark ls)
unfolding hidden-the_row-Link-5 hidden
link_list mark [] = refl
link_list mark (l ∷ ls) = ap (more (Step l mark) (in_link l mark)) (later_links ls)

statement_list : (ss : List Stmt) → statement_row (hidden-the_row-Stmt-1 ss) none ≡ grown (statements ss)
unfolding hidden-the_row-Stmt-1 hidden
statement_list [] = refl
statement_list (s ∷ ss) = ap (more (Statement s) (in_stmt s)) (statement_list ss)

-- ---- each form, opened

at_body : (l : Body_form) → in_body (roll-Body l) ≡ grown (of_body l)
unfolding roll-Body roll shape-the_row-Expr-0 hidden-the_row-Expr-0 hidden
at_body (Body-F.Value x) = refl
at_body (Body-F.Body::Block ss) = statement_list ss

body_children : (body : Body) → in_body body ≡ grown (of_body (out-Body body))
body_children body = ap in_body (sym (roll-out-Body body)) ∙ at_body (out-Body body)

element : (tag : Tag) (fs : List Field) (xs : List Expr) → in_jsx (roll-Jsx (record { tag = tag; attrs = fs; children = xs })) ≡ grown (attributes fs ++ values Unmarked xs)
unfolding roll-Jsx hidden roll
element tag fs xs = ap (attribute_row (hidden-the_row-Field-3 fs)) (value_row Unmarked xs) ∙ attribute_list fs (values Unmarked xs)

jsx_children : (jsx : Jsx) → in_jsx jsx ≡ grown (attributes (out-Jsx jsx).attrs ++ values Unmarked (out-Jsx jsx).children)
jsx_children jsx = let j = out-Jsx jsx in ap in_jsx (sym (roll-out-Jsx jsx)) ∙ element j.tag j.attrs j.children

at_expr : (l : Expr_form) → in_expr (roll-Expr l) ≡ grown (of_expr l)
unfolding roll-Expr roll shape-the_row-Expr-0 hidden-the_row-Expr-0 shape-the_row-Arrow-6 hidden-the_row-Arrow-6 shape-the_row-Jsx-7 hidden-the_row-Jsx-7 hidden
at_expr (Expr-F.List xs) = value_row Unmarked xs
at_expr (Expr-F.Record fs) = field_list fs
at_expr (Expr-F.Template parts xs) = value_row Unmarked xs
at_expr (Expr-F.Chain x os) = ap (more (plain x) (in_expr x)) (operand_list os)
at_expr (Expr-F.Post x ls) = ap (more (plain x) (in_expr x)) (link_list (call_mark x) ls)
at_expr (Expr-F.Known known xs) = value_row Unmarked xs
at_expr (Expr-F.Arrow arrow) = body_children arrow.body
at_expr (Expr-F.Jsx jsx) = jsx_children jsx
at_expr _ = refl

at_link : (mark : Mark) (l : Link_form) → in_link (roll-Link l) mark ≡ grown (of_link l mark)
unfolding roll-Link roll hidden
at_link mark (Link-F.Call xs) = value_row mark xs
at_link mark _ = refl

-- the statements of a row that was made of them
abbrev items_of : List Stmt → List Stmt
items_of ss = items-the_row-Stmt _ (hidden-the_row-Stmt-1 ss)

at_stmt : (l : Stmt_form) → in_stmt (roll-Stmt l) ≡ grown (of_stmt l)
unfolding roll-Stmt roll hidden
at_stmt (Stmt-F.Return None) = refl
at_stmt (Stmt-F.Return (Some x)) = refl
at_stmt (Stmt-F.If x ss ts) = ap (more (plain x) (in_expr x))
    (ap (λ all. more (Block all) (within (Block ss)) (more (Block (items_of ts)) (within (Block ts)) none)) (items_hidden-the_row-Stmt-1 ss)
    ∙ ap (λ all. more (Block ss) (within (Block ss)) (more (Block all) (within (Block ts)) none)) (items_hidden-the_row-Stmt-1 ts))
at_stmt (Stmt-F.While x ss) = ap (λ all. more (plain x) (in_expr x) (more (Block all) (within (Block ss)) none)) (items_hidden-the_row-Stmt-1 ss)
at_stmt (Stmt-F.ForOf name x ss) = ap (λ all. more (plain x) (in_expr x) (more (For_block name all) (within (Block ss)) none)) (items_hidden-the_row-Stmt-1 ss)
at_stmt (Stmt-F.Stmt::Block ss) = ap (λ all. more (Block all) (within (Block ss)) none) (items_hidden-the_row-Stmt-1 ss)
at_stmt _ = refl

-- ---- any node

pub within_children : (n : Node) → within n ≡ grown (children n)
within_children (Value x mark) = ap in_expr (sym (roll-out-Expr x)) ∙ at_expr (out-Expr x)
within_children (Step l mark) = ap (λ l. in_link l mark) (sym (roll-out-Link l)) ∙ at_link mark (out-Link l)
within_children (Statement s) = ap in_stmt (sym (roll-out-Stmt s)) ∙ at_stmt (out-Stmt s)
within_children (Block ss) = statement_list ss
within_children (For_block name ss) = statement_list ss
