-- The same tree with nothing in it but nodes, so that a definition may go down it by two cases.
use Rattle.std.specs.Prelude.{ℕ, ◌+◌, List, [], ◌∷◌}
use Rattle.qk_ast.specs.declared.Body.{Body, Block' as Body_block'}
use Rattle.qk_ast.specs.declared.Body.TheBlock.{hidden-the_row-Stmt-1}
use Rattle.qk_ast.specs.declared.Expr.{Expr, Row_of-Expr, end_of-Expr, more_of-Expr, Row_of-Field, end_of-Field, more_of-Field, Row_of-Operand, end_of-Operand, more_of-Operand, Row_of-Link, end_of-Link, more_of-Link, more_of-Arrow, more_of-Jsx}
use Rattle.qk_ast.specs.declared.Jsx.{Jsx, Jsx'}
use Rattle.qk_ast.specs.declared.Link.{Link}
use Rattle.qk_ast.specs.declared.Stmt.{Stmt, Block' as Statement_block', Row_of-Stmt, end_of-Stmt, more_of-Stmt, items-the_row-Stmt, None', Some'}
use Rattle.qk_ast.specs.Arrows.{Mark, Unmarked, call_mark, attribute_mark}
use Rattle.qk_node.specs.Nodes.{Node, Value, Step, Statement, Block, For_block}

pub data Forest : Type 0 where
  none : Forest
  -- a node, all that is inside it, and the nodes behind it
  more : Node → (inside : Forest) → (behind : Forest) → Forest

-- what is inside each, before what is behind
abbrev mutual
  pub in_expr : Expr → Forest
  in_expr (Expr.List' _ all) = row Unmarked all none
  in_expr (Expr.Record' _ all) = field_row all none
  in_expr (Expr.Template' parts _ all) = row Unmarked all none
  in_expr (Expr.Unary' op _ x) = row Unmarked x none
  in_expr (Expr.Chain' _ x _ all) = row Unmarked x (operand_row all none)
  in_expr (Expr.Cond' _ a _ b _ c) = row Unmarked a (row Unmarked b (row Unmarked c none))
  in_expr (Expr.Post' _ (more_of-Expr x _) _ all) = more (Value x Unmarked) (in_expr x) (link_row (call_mark x) all none)
  in_expr (Expr.Assign' op _ target _ x) = row Unmarked target (row Unmarked x none)
  in_expr (Expr.Step' up _ target) = row Unmarked target none
  in_expr (Expr.Known' known _ all) = row Unmarked all none
  in_expr (Expr.Arrow' _ (more_of-Arrow place params body _)) = in_body body
  in_expr (Expr.Jsx' _ (more_of-Jsx jsx _)) = in_jsx jsx
  in_expr _ = none

  pub row : {m : _} → Mark → Row_of-Expr m → Forest → Forest
  row mark end_of-Expr behind = behind
  row mark (more_of-Expr x all) behind = more (Value x mark) (in_expr x) (row mark all behind)

  pub field_row : {m : _} → Row_of-Field m → Forest → Forest
  field_row end_of-Field behind = behind
  field_row (more_of-Field key x all) behind = more (Value x Unmarked) (in_expr x) (field_row all behind)

  pub attribute_row : {m : _} → Row_of-Field m → Forest → Forest
  attribute_row end_of-Field behind = behind
  attribute_row (more_of-Field key x all) behind = more (Value x (attribute_mark key)) (in_expr x) (attribute_row all behind)

  pub operand_row : {m : _} → Row_of-Operand m → Forest → Forest
  operand_row end_of-Operand behind = behind
  operand_row (more_of-Operand op x all) behind = more (Value x Unmarked) (in_expr x) (operand_row all behind)

  pub link_row : {m : _} → Mark → Row_of-Link m → Forest → Forest
  link_row mark end_of-Link behind = behind
  link_row mark (more_of-Link l all) behind = more (Step l mark) (in_link l mark) (link_row Unmarked all behind)

  pub in_link : Link → Mark → Forest
  in_link (Link.Prop name) mark = none
  in_link (Link.Index x) mark = more (Value x Unmarked) (in_expr x) none
  in_link (Link.Call' _ all) mark = row mark all none

  pub in_jsx : Jsx → Forest
  in_jsx (Jsx' tag _ attributes _ children) = attribute_row attributes (row Unmarked children none)

  pub in_body : Body → Forest
  in_body (Body.Value' _ x) = row Unmarked x none
  in_body (Body_block' _ all) = statement_row all none

  pub in_stmt : Stmt → Forest
  in_stmt (Stmt.Const pattern x) = more (Value x Unmarked) (in_expr x) none
  in_stmt (Stmt.Let name x) = more (Value x Unmarked) (in_expr x) none
  in_stmt (Stmt.Do x) = more (Value x Unmarked) (in_expr x) none
  in_stmt (Stmt.Delete x) = more (Value x Unmarked) (in_expr x) none
  in_stmt (Stmt.Return' None') = none
  in_stmt (Stmt.Return' (Some' x)) = more (Value x Unmarked) (in_expr x) none
  in_stmt (Stmt.If' x _ all _ others) = more (Value x Unmarked) (in_expr x) (more (Block (items-the_row-Stmt _ all)) (statement_row all none) (more (Block (items-the_row-Stmt _ others)) (statement_row others none) none))
  in_stmt (Stmt.While' x _ all) = more (Value x Unmarked) (in_expr x) (more (Block (items-the_row-Stmt _ all)) (statement_row all none) none)
  in_stmt (Stmt.ForOf' name x _ all) = more (Value x Unmarked) (in_expr x) (more (For_block name (items-the_row-Stmt _ all)) (statement_row all none) none)
  in_stmt Stmt.Break = none
  in_stmt Stmt.Continue = none
  in_stmt (Statement_block' _ all) = more (Block (items-the_row-Stmt _ all)) (statement_row all none) none

  pub statement_row : {m : _} → Row_of-Stmt m → Forest → Forest
  statement_row end_of-Stmt behind = behind
  statement_row (more_of-Stmt s all) behind = more (Statement s) (in_stmt s) (statement_row all behind)

-- all that is inside a node
abbrev pub within : Node → Forest
within (Value x mark) = in_expr x
within (Step l mark) = in_link l mark
within (Statement s) = in_stmt s
within (Block ss) = statement_row (hidden-the_row-Stmt-1 ss) none
within (For_block name ss) = statement_row (hidden-the_row-Stmt-1 ss) none

-- nodes one after another, each with what is inside
abbrev pub grown : List Node → Forest
grown [] = none
grown (n ∷ ns) = more n (within n) (grown ns)

abbrev pub tree : Node → Forest
tree n = grown (n ∷ [])

-- how many nodes there are
abbrev pub count : Forest → ℕ
count none = 0
count (more n inside behind) = 1 + (count inside + count behind)
