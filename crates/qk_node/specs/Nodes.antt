-- The syntax tree as a tree of nodes: which nodes there are, and the children of each, in text order.
use Rattle.std.specs.Prelude.{List, [], ◌∷◌, ◌++◌, map, Option, Some, None}
use Rattle.qk_ast.specs.declared.Arrow.{Arrow}
use Rattle.qk_ast.specs.declared.Body.{Body, out-Body}
use Rattle.qk_ast.specs.declared.Body.TheOpen.{Body-F, Expr-F, Link-F, Stmt-F}
use Rattle.qk_ast.specs.declared.Expr.{Expr, out-Expr}
use Rattle.qk_ast.specs.declared.Field.{Field}
use Rattle.qk_ast.specs.declared.Jsx.{Jsx, out-Jsx}
use Rattle.qk_ast.specs.declared.Link.{Link, out-Link}
use Rattle.qk_ast.specs.declared.Operand.{Operand}
use Rattle.qk_ast.specs.declared.Stmt.{Stmt, out-Stmt}
use Rattle.qk_ast.specs.Texts.{Text}
use Rattle.qk_ast.specs.Arrows.{Mark, Unmarked, call_mark, attribute_mark}

pub data Node : Type 0 where
  -- an expression, with the mark of where it stands
  Value : Expr → Mark → Node
  -- a link, with the mark of a call's arguments
  Step : Link → Mark → Node
  Statement : Stmt → Node
  -- the statements of a block, with a scope of its own
  Block : List Stmt → Node
  -- the block of a `for`, around which this name is declared
  For_block : Text → List Stmt → Node

-- ---- one form, opened

abbrev pub Expr_form : Type 0
Expr_form = Expr-F Body Expr Link Stmt Arrow Field Jsx Operand

abbrev pub Link_form : Type 0
Link_form = Link-F Body Expr Link Stmt Arrow Field Jsx Operand

abbrev pub Stmt_form : Type 0
Stmt_form = Stmt-F Body Expr Link Stmt Arrow Field Jsx Operand

abbrev pub Body_form : Type 0
Body_form = Body-F Body Expr Link Stmt Arrow Field Jsx Operand

-- ---- lists of children

abbrev pub plain : Expr → Node
plain x = Value x Unmarked

abbrev pub values : Mark → List Expr → List Node
values mark xs = map (λ x. Value x mark) xs

abbrev pub fields : List Field → List Node
fields fs = map (λ f. Value f.value Unmarked) fs

abbrev pub attributes : List Field → List Node
attributes fs = map (λ f. Value f.value (attribute_mark f.key)) fs

abbrev pub operands : List Operand → List Node
operands os = map (λ o. Value o.value Unmarked) os

-- the first is behind something that gives its arguments this mark
abbrev pub links : Mark → List Link → List Node
links mark [] = []
links mark (l ∷ ls) = Step l mark ∷ map (λ l. Step l Unmarked) ls

abbrev pub statements : List Stmt → List Node
statements ss = map Statement ss

abbrev pub returned : Option Expr → List Node
returned None = []
returned (Some x) = plain x ∷ []

-- ---- the children of each form

abbrev pub of_body : Body_form → List Node
of_body (Body-F.Value x) = plain x ∷ []
of_body (Body-F.Body::Block ss) = statements ss

abbrev pub of_expr : Expr_form → List Node
of_expr (Expr-F.List xs) = values Unmarked xs
of_expr (Expr-F.Record fs) = fields fs
of_expr (Expr-F.Template parts xs) = values Unmarked xs
of_expr (Expr-F.Unary op x) = plain x ∷ []
of_expr (Expr-F.Chain x os) = plain x ∷ operands os
of_expr (Expr-F.Cond a b c) = plain a ∷ plain b ∷ plain c ∷ []
of_expr (Expr-F.Post x ls) = plain x ∷ links (call_mark x) ls
of_expr (Expr-F.Assign op target x) = plain target ∷ plain x ∷ []
of_expr (Expr-F.Step up target) = plain target ∷ []
of_expr (Expr-F.Known known xs) = values Unmarked xs
of_expr (Expr-F.Arrow arrow) = of_body (out-Body arrow.body)
of_expr (Expr-F.Jsx jsx) = attributes (out-Jsx jsx).attrs ++ values Unmarked (out-Jsx jsx).children
of_expr _ = []

abbrev pub of_link : Link_form → Mark → List Node
of_link (Link-F.Prop name) mark = []
of_link (Link-F.Index x) mark = plain x ∷ []
of_link (Link-F.Call xs) mark = values mark xs

abbrev pub of_stmt : Stmt_form → List Node
of_stmt (Stmt-F.Const pattern x) = plain x ∷ []
of_stmt (Stmt-F.Let name x) = plain x ∷ []
of_stmt (Stmt-F.Do x) = plain x ∷ []
of_stmt (Stmt-F.Delete x) = plain x ∷ []
of_stmt (Stmt-F.Return x) = returned x
of_stmt (Stmt-F.If x ss ts) = plain x ∷ Block ss ∷ Block ts ∷ []
of_stmt (Stmt-F.While x ss) = plain x ∷ Block ss ∷ []
of_stmt (Stmt-F.ForOf name x ss) = plain x ∷ For_block name ss ∷ []
of_stmt Stmt-F.Break = []
of_stmt Stmt-F.Continue = []
of_stmt (Stmt-F.Stmt::Block ss) = Block ss ∷ []

abbrev pub children : Node → List Node
children (Value x mark) = of_expr (out-Expr x)
children (Step l mark) = of_link (out-Link l) mark
children (Statement s) = of_stmt (out-Stmt s)
children (Block ss) = statements ss
children (For_block name ss) = statements ss
