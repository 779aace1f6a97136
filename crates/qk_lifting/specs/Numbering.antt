-- Code whose arrows are numbered anew: an arrow's place is the number of the arrows that begin before it.
use Rattle.std.specs.Prelude.{ℕ, ◌+◌, List, [], ◌∷◌, length}
use Rattle.qk_ast.specs.declared.Item.{Item}
use Rattle.qk_ast.specs.declared.Expr.{Expr, Row_of-Expr, end_of-Expr, more_of-Expr, Row_of-Field, end_of-Field, more_of-Field, Row_of-Operand, end_of-Operand, more_of-Operand, Row_of-Link, end_of-Link, more_of-Link, end_of-Arrow, more_of-Arrow, end_of-Jsx, more_of-Jsx}
use Rattle.qk_ast.specs.declared.Stmt.{Stmt, Block' as Statement_block', Row_of-Stmt, end_of-Stmt, more_of-Stmt, None', Some'}
use Rattle.qk_ast.specs.declared.Link.{Link}
use Rattle.qk_ast.specs.declared.Jsx.{Jsx, Jsx'}
use Rattle.qk_ast.specs.declared.Body.{Body, Block' as Body_block'}
use Rattle.qk_ast.specs.Arrows.{Unmarked, arrows, attribute_arrows, link_arrows, statement_arrows, block_arrows}

-- ---- how many arrows there are

abbrev pub count : Expr → ℕ
count e = length (arrows e Unmarked [])

abbrev pub link_count : Link → ℕ
link_count link = length (link_arrows (more_of-Link link end_of-Link) Unmarked [])

abbrev pub statement_count : Stmt → ℕ
statement_count statement = length (statement_arrows statement [])

abbrev pub block_count : {m : _} → Row_of-Stmt m → ℕ
block_count all = length (block_arrows all [])

-- ---- The number is that of the arrows before.

abbrev mutual
  pub numbered : ℕ → Expr → Expr
  numbered n (Expr.Arrow' _ (more_of-Arrow place params body _)) = Expr.Arrow' tt (more_of-Arrow n params (body_numbered (n + 1) body) end_of-Arrow)
  numbered n (Expr.List' k all) = Expr.List' k (all_numbered n all)
  numbered n (Expr.Record' k fields) = Expr.Record' k (fields_numbered n fields)
  numbered n (Expr.Template' parts k holes) = Expr.Template' parts k (all_numbered n holes)
  numbered n (Expr.Unary' operator k all) = Expr.Unary' operator k (all_numbered n all)
  numbered n (Expr.Chain' _ (more_of-Expr x _) k rest) = Expr.Chain' tt (more_of-Expr (numbered n x) end_of-Expr) k (operands_numbered (n + count x) rest)
  numbered n (Expr.Cond' _ (more_of-Expr a _) _ (more_of-Expr b _) _ (more_of-Expr c _)) =
      Expr.Cond' tt (more_of-Expr (numbered n a) end_of-Expr) tt (more_of-Expr (numbered (n + count a) b) end_of-Expr) tt (more_of-Expr (numbered (n + count a + count b) c) end_of-Expr)
  numbered n (Expr.Post' _ (more_of-Expr head _) k links) = Expr.Post' tt (more_of-Expr (numbered n head) end_of-Expr) k (links_numbered (n + count head) links)
  numbered n (Expr.Assign' operator _ (more_of-Expr target _) _ (more_of-Expr e _)) = Expr.Assign' operator tt (more_of-Expr (numbered n target) end_of-Expr) tt (more_of-Expr (numbered (n + count target) e) end_of-Expr)
  numbered n (Expr.Step' up k target) = Expr.Step' up k (all_numbered n target)
  numbered n (Expr.Known' known k all) = Expr.Known' known k (all_numbered n all)
  numbered n (Expr.Jsx' _ (more_of-Jsx jsx _)) = Expr.Jsx' tt (more_of-Jsx (jsx_numbered n jsx) end_of-Jsx)
  numbered n e = e

  pub all_numbered : {m : _} → ℕ → Row_of-Expr m → Row_of-Expr m
  all_numbered n end_of-Expr = end_of-Expr
  all_numbered n (more_of-Expr e rest) = more_of-Expr (numbered n e) (all_numbered (n + count e) rest)

  pub fields_numbered : {m : _} → ℕ → Row_of-Field m → Row_of-Field m
  fields_numbered n end_of-Field = end_of-Field
  fields_numbered n (more_of-Field key e rest) = more_of-Field key (numbered n e) (fields_numbered (n + count e) rest)

  pub operands_numbered : {m : _} → ℕ → Row_of-Operand m → Row_of-Operand m
  operands_numbered n end_of-Operand = end_of-Operand
  operands_numbered n (more_of-Operand operator e rest) = more_of-Operand operator (numbered n e) (operands_numbered (n + count e) rest)

  pub links_numbered : {m : _} → ℕ → Row_of-Link m → Row_of-Link m
  links_numbered n end_of-Link = end_of-Link
  links_numbered n (more_of-Link link rest) = more_of-Link (link_numbered n link) (links_numbered (n + link_count link) rest)

  pub link_numbered : ℕ → Link → Link
  link_numbered n (Link.Prop name) = Link.Prop name
  link_numbered n (Link.Index e) = Link.Index (numbered n e)
  link_numbered n (Link.Call' k all) = Link.Call' k (all_numbered n all)

  pub jsx_numbered : ℕ → Jsx → Jsx
  jsx_numbered n (Jsx' tag j attributes k children) = Jsx' tag j (fields_numbered n attributes) k (all_numbered (n + length (attribute_arrows attributes [])) children)

  pub statement_numbered : ℕ → Stmt → Stmt
  statement_numbered n (Stmt.Const pattern e) = Stmt.Const pattern (numbered n e)
  statement_numbered n (Stmt.Let name e) = Stmt.Let name (numbered n e)
  statement_numbered n (Stmt.Do e) = Stmt.Do (numbered n e)
  statement_numbered n (Stmt.Delete e) = Stmt.Delete (numbered n e)
  statement_numbered n (Stmt.Return' None') = Stmt.Return' None'
  statement_numbered n (Stmt.Return' (Some' e)) = Stmt.Return' (Some' (numbered n e))
  statement_numbered n (Stmt.If' e j then k otherwise) = Stmt.If' (numbered n e) j (block_numbered (n + count e) then) k (block_numbered (n + count e + block_count then) otherwise)
  statement_numbered n (Stmt.While' e k all) = Stmt.While' (numbered n e) k (block_numbered (n + count e) all)
  statement_numbered n (Stmt.ForOf' name e k all) = Stmt.ForOf' name (numbered n e) k (block_numbered (n + count e) all)
  statement_numbered n Stmt.Break = Stmt.Break
  statement_numbered n Stmt.Continue = Stmt.Continue
  statement_numbered n (Statement_block' k all) = Statement_block' k (block_numbered n all)

  pub block_numbered : {m : _} → ℕ → Row_of-Stmt m → Row_of-Stmt m
  block_numbered n end_of-Stmt = end_of-Stmt
  block_numbered n (more_of-Stmt statement rest) = more_of-Stmt (statement_numbered n statement) (block_numbered (n + statement_count statement) rest)

  pub body_numbered : ℕ → Body → Body
  body_numbered n (Body.Value' k all) = Body.Value' k (all_numbered n all)
  body_numbered n (Body_block' k all) = Body_block' k (block_numbered n all)

abbrev pub items_numbered : ℕ → List Item → List Item
items_numbered n [] = []
items_numbered n (i ∷ rest) = record { exported = i.exported; name = i.name; init = numbered n i.init } ∷ items_numbered (n + count i.init) rest
