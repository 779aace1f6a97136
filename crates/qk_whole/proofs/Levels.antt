-- A node is at most three levels higher than its highest child.
use Rattle.std.specs.Prelude.{◌≡◌, refl, ℕ, ◌+◌, ◌≤◌, max, List, [], ◌∷◌, ◌++◌, map, Some, None}
use Rattle.std.proofs.Common.{◌∙◌, ap, arith}
use denote.Param.Weighed.{most}
use Rattle.qk_ast.specs.declared.Body.{Body, out-Body, size-Body}
use Rattle.qk_ast.specs.declared.Body.TheVariants as b
use Rattle.qk_ast.specs.declared.Body.TheOpen.{Body-F, Expr-F, Link-F, Stmt-F}
use Rattle.qk_ast.specs.declared.Body.TheViews.{outs-Body::Block, size_is-Body, size_is-Expr, size_is-Link, size_is-Stmt, size_is-Arrow, size_is-Field, size_is-Jsx, size_is-Operand}
use Rattle.qk_ast.specs.declared.Expr.{Expr, out-Expr, size-Expr}
use Rattle.qk_ast.specs.declared.Field.{Field, size-Field}
use Rattle.qk_ast.specs.declared.Jsx.{Jsx, out-Jsx, size-Jsx}
use Rattle.qk_ast.specs.declared.Link.{Link, out-Link, size-Link}
use Rattle.qk_ast.specs.declared.Operand.{Operand, size-Operand}
use Rattle.qk_ast.specs.declared.Stmt.{Stmt, out-Stmt, size-Stmt}
use Rattle.qk_ast.specs.declared.Arrow.{Arrow, size-Arrow}
use Rattle.qk_ast.specs.Arrows.{Mark, Unmarked, call_mark}
use Rattle.qk_node.specs.Nodes.{Node, Value, Step, Statement, Block, For_block, Expr_form, Link_form, Stmt_form, Body_form, values, fields, attributes, operands, links, statements, of_body, of_expr, of_link, of_stmt, children}
use Rattle.qk_code.specs.Shallow.{IsShallow}
use Rattle.qk_whole.specs.Heights.{height, height_of_all}

-- each of these nodes has at most so many levels
abbrev pub Low : ℕ → List Node → Type 0
Low room [] = Unit {0}
Low room (n ∷ rest) = (height n ≤ room) × Low room rest

low_values : (mark : Mark) (xs : List Expr) (room : ℕ) → Low room (values mark xs) → most size-Expr xs ≤ room
low_values mark [] room h = omega arith
low_values mark (x ∷ xs) room h = let k = low_values mark xs room h.1 in omega (arith, h.0)

field_level : (f : Field) (room : ℕ) → size-Expr f.value ≤ room → size-Field f ≤ room + 1
field_level f room h = let s = size_is-Field f in omega arith

low_fields : (fs : List Field) (room : ℕ) → Low room (fields fs) → most size-Field fs ≤ room + 1
low_fields [] room h = omega arith
low_fields (f ∷ fs) room h = let k = low_fields fs room h.1 in let s = field_level f room h.0 in omega arith

low_operands : (os : List Operand) (room : ℕ) → Low room (operands os) → most size-Operand os ≤ room + 1
low_operands [] room h = omega arith
low_operands (o ∷ os) room h = let k = low_operands os room h.1 in let s = size_is-Operand o in omega (arith, h.0)

later_links : (ls : List Link) (room : ℕ) → Low room (map (λ l. Step l Unmarked) ls) → most size-Link ls ≤ room
later_links [] room h = omega arith
later_links (l ∷ ls) room h = let k = later_links ls room h.1 in omega (arith, h.0)

low_links : (mark : Mark) (ls : List Link) (room : ℕ) → Low room (links mark ls) → most size-Link ls ≤ room
low_links mark [] room h = omega arith
low_links mark (l ∷ ls) room h = let k = later_links ls room h.1 in omega (arith, h.0)

low_statements : (ss : List Stmt) (room : ℕ) → Low room (statements ss) → height_of_all ss ≤ room
low_statements [] room h = omega arith
low_statements (s ∷ ss) room h = let k = low_statements ss room h.1 in omega (arith, h.0)

block_level : (ss : List Stmt) → most size-Stmt ss ≡ height_of_all ss
block_level [] = refl
block_level (s ∷ ss) = ap (max (size-Stmt s)) (block_level ss)

low_markup : (fs : List Field) (xs : List Expr) (room : ℕ) → Low room (attributes fs ++ values Unmarked xs) → (most size-Field fs ≤ room + 1) × (most size-Expr xs ≤ room)
low_markup [] xs room h = (omega arith, low_values Unmarked xs room h)
low_markup (f ∷ fs) xs room h = let k = low_markup fs xs room h.1 in let s = field_level f room h.0 in (omega (arith, k.0), k.1)

-- ---- each form

at_body : (l : Body_form) (b : Body) (room : ℕ) → out-Body b ≡ l → Low room (of_body l) → size-Body b ≤ room + 1
at_body (Body-F.Value x) b room e h = let s = rw e at (size_is-Body b) in omega (arith, s, h.0)
at_body (Body-F.Body::Block ss) b room e h = let s = rw e at (size_is-Body b) in let k = low_statements ss room h in omega (arith, s, block_level ss)

at_jsx : (j : Jsx) (room : ℕ) → Low room (attributes (out-Jsx j).attrs ++ values Unmarked (out-Jsx j).children) → size-Jsx j ≤ room + 2
at_jsx j room h = let s = size_is-Jsx j in let k = low_markup (out-Jsx j).attrs (out-Jsx j).children room h in omega (arith, k.0, k.1)

at_arrow : (a : Arrow) (room : ℕ) → Low room (of_body (out-Body a.body)) → size-Arrow a ≤ room + 2
at_arrow a room h = let s = size_is-Arrow a in let k = at_body (out-Body a.body) a.body room refl h in omega arith

at_expr : (l : Expr_form) (x : Expr) (room : ℕ) → out-Expr x ≡ l → Low room (of_expr l) → size-Expr x ≤ room + 3
at_expr (Expr-F.List xs) x room e h = let s = rw e at (size_is-Expr x) in let k = low_values Unmarked xs room h in omega (arith, s)
at_expr (Expr-F.Record fs) x room e h = let s = rw e at (size_is-Expr x) in let k = low_fields fs room h in omega (arith, s)
at_expr (Expr-F.Template parts xs) x room e h = let s = rw e at (size_is-Expr x) in let k = low_values Unmarked xs room h in omega (arith, s)
at_expr (Expr-F.Unary op y) x room e h = let s = rw e at (size_is-Expr x) in omega (arith, s, h.0)
at_expr (Expr-F.Chain y os) x room e h = let s = rw e at (size_is-Expr x) in let k = low_operands os room h.1 in omega (arith, s, h.0)
at_expr (Expr-F.Cond a b c) x room e h = let s = rw e at (size_is-Expr x) in omega (arith, s, h.0, h.1.0, h.1.1.0)
at_expr (Expr-F.Post y ls) x room e h = let s = rw e at (size_is-Expr x) in let k = low_links (call_mark y) ls room h.1 in omega (arith, s, h.0)
at_expr (Expr-F.Assign op a b) x room e h = let s = rw e at (size_is-Expr x) in omega (arith, s, h.0, h.1.0)
at_expr (Expr-F.Step up a) x room e h = let s = rw e at (size_is-Expr x) in omega (arith, s, h.0)
at_expr (Expr-F.Known known xs) x room e h = let s = rw e at (size_is-Expr x) in let k = low_values Unmarked xs room h in omega (arith, s)
at_expr (Expr-F.Arrow a) x room e h = let s = rw e at (size_is-Expr x) in let k = at_arrow a room h in omega (arith, s)
at_expr (Expr-F.Jsx j) x room e h = let s = rw e at (size_is-Expr x) in let k = at_jsx j room h in omega (arith, s)
at_expr _ x room e h = let s = rw e at (size_is-Expr x) in omega (arith, s)

at_link : (l : Link_form) (mark : Mark) (x : Link) (room : ℕ) → out-Link x ≡ l → Low room (of_link l mark) → size-Link x ≤ room + 3
at_link (Link-F.Prop name) mark x room e h = let s = rw e at (size_is-Link x) in omega (arith, s)
at_link (Link-F.Index y) mark x room e h = let s = rw e at (size_is-Link x) in omega (arith, s, h.0)
at_link (Link-F.Call xs) mark x room e h = let s = rw e at (size_is-Link x) in let k = low_values mark xs room h in omega (arith, s)

at_stmt : (l : Stmt_form) (x : Stmt) (room : ℕ) → out-Stmt x ≡ l → Low room (of_stmt l) → size-Stmt x ≤ room + 3
at_stmt (Stmt-F.Const pattern y) x room e h = let s = rw e at (size_is-Stmt x) in omega (arith, s, h.0)
at_stmt (Stmt-F.Let name y) x room e h = let s = rw e at (size_is-Stmt x) in omega (arith, s, h.0)
at_stmt (Stmt-F.Do y) x room e h = let s = rw e at (size_is-Stmt x) in omega (arith, s, h.0)
at_stmt (Stmt-F.Delete y) x room e h = let s = rw e at (size_is-Stmt x) in omega (arith, s, h.0)
at_stmt (Stmt-F.Return None) x room e h = let s = rw e at (size_is-Stmt x) in omega (arith, s)
at_stmt (Stmt-F.Return (Some y)) x room e h = let s = rw e at (size_is-Stmt x) in omega (arith, s, h.0)
at_stmt (Stmt-F.If y ss ts) x room e h = let s = rw e at (size_is-Stmt x) in omega (arith, s, h.0, h.1.0, h.1.1.0, block_level ss, block_level ts)
at_stmt (Stmt-F.While y ss) x room e h = let s = rw e at (size_is-Stmt x) in omega (arith, s, h.0, h.1.0, block_level ss)
at_stmt (Stmt-F.ForOf name y ss) x room e h = let s = rw e at (size_is-Stmt x) in omega (arith, s, h.0, h.1.0, block_level ss)
at_stmt (Stmt-F.Stmt::Block ss) x room e h = let s = rw e at (size_is-Stmt x) in omega (arith, s, h.0, block_level ss)
at_stmt _ x room e h = let s = rw e at (size_is-Stmt x) in omega (arith, s)

-- ---- any node

pub low_node : (n : Node) (room : ℕ) → Low room (children n) → height n ≤ room + 3
low_node (Value x mark) room h = at_expr (out-Expr x) x room refl h
low_node (Step l mark) room h = at_link (out-Link l) mark l room refl h
low_node (Statement s) room h = at_stmt (out-Stmt s) s room refl h
low_node (Block ss) room h = let k = low_statements ss room h in omega arith
low_node (For_block name ss) room h = let k = low_statements ss room h in omega arith

-- ---- arrows

pub shallow_block : (a : Arrow) (ss : List Stmt) → a.body ≡ b.Block ss → height_of_all ss ≤ 999997 → IsShallow a
shallow_block a ss e h = let s = size_is-Arrow a in let k = rw (ap out-Body e ∙ outs-Body::Block ss) at (size_is-Body a.body) in omega (arith, k, block_level ss)
