-- The arrows of a tree are followed by those inside them, and the outermost ones have the names around the tree around them.
use Rattle.std.proofs.Common.{◌≡◌, refl, ◌∙◌, ap}
use Rattle.std.specs.Prelude.{List, [], ◌∷◌}
use Rattle.qk_ast.specs.declared.Item.{Item}
use Rattle.qk_ast.specs.declared.Expr.{Expr, Row_of-Expr, end_of-Expr, more_of-Expr, Row_of-Field, end_of-Field, more_of-Field, Row_of-Operand, end_of-Operand, more_of-Operand, Row_of-Link, end_of-Link, more_of-Link, more_of-Arrow, more_of-Jsx}
use Rattle.qk_ast.specs.declared.Stmt.{Stmt, Block' as Statement_block', Row_of-Stmt, end_of-Stmt, more_of-Stmt, None', Some'}
use Rattle.qk_ast.specs.declared.Link.{Link}
use Rattle.qk_ast.specs.declared.Jsx.{Jsx, Jsx'}
use Rattle.qk_ast.specs.declared.Body.{Body, Block' as Body_block'}
use Rattle.qk_ast.specs.Texts.{Text}
use Rattle.qk_ast.specs.Names.{each_once, those_of}
use Rattle.qk_ast.specs.Arrows.{Mark, Unmarked, Found_arrow, arrows, all_arrows, field_arrows, attribute_arrows, operand_arrows, link_arrows, jsx_arrows, statement_arrows, block_arrows, body_arrows, item_arrows, call_mark, attribute_mark, inner_scope}
use Rattle.qk_ast.specs.Uses.{captures_of, free_of}
use Rattle.qk_names.specs.Laws.{Outermost}
use Rattle.qk_names.proofs.Nested.{Nested, Outer, nothing, none, one, ◌▹◌, ◌▸◌, all_around}

mutual
  pub expression : (x : Expr) (mark : Mark) (scope : List Text) → Outer scope (arrows x mark scope)
  expression (Expr.Arrow' _ (more_of-Arrow place params x _)) mark scope =
      one (record { place = place; scope = scope; mark = mark; params = params; body = x }) (body x (inner_scope mark params scope))
  expression (Expr.List' _ xs) mark scope = all xs Unmarked scope
  expression (Expr.Record' _ xs) mark scope = fields xs scope
  expression (Expr.Template' parts _ xs) mark scope = all xs Unmarked scope
  expression (Expr.Unary' operator _ xs) mark scope = all xs Unmarked scope
  expression (Expr.Chain' _ first _ rest) mark scope = all first Unmarked scope ▸ operands rest scope
  expression (Expr.Cond' _ a _ b _ c) mark scope = all a Unmarked scope ▸ all b Unmarked scope ▸ all c Unmarked scope
  expression (Expr.Post' _ (more_of-Expr head _) _ xs) mark scope = expression head Unmarked scope ▸ links xs (call_mark head) scope
  expression (Expr.Assign' operator _ target _ x) mark scope = all target Unmarked scope ▸ all x Unmarked scope
  expression (Expr.Step' up _ target) mark scope = all target Unmarked scope
  expression (Expr.Known' known _ xs) mark scope = all xs Unmarked scope
  expression (Expr.Jsx' _ (more_of-Jsx x _)) mark scope = jsx x scope
  expression x mark scope = none

  pub all : {m : _} (xs : Row_of-Expr m) (mark : Mark) (scope : List Text) → Outer scope (all_arrows xs mark scope)
  all end_of-Expr mark scope = none
  all (more_of-Expr x rest) mark scope = expression x mark scope ▸ all rest mark scope

  pub fields : {m : _} (xs : Row_of-Field m) (scope : List Text) → Outer scope (field_arrows xs scope)
  fields end_of-Field scope = none
  fields (more_of-Field key x rest) scope = expression x Unmarked scope ▸ fields rest scope

  pub attributes : {m : _} (xs : Row_of-Field m) (scope : List Text) → Outer scope (attribute_arrows xs scope)
  attributes end_of-Field scope = none
  attributes (more_of-Field key x rest) scope = expression x (attribute_mark key) scope ▸ attributes rest scope

  pub operands : {m : _} (xs : Row_of-Operand m) (scope : List Text) → Outer scope (operand_arrows xs scope)
  operands end_of-Operand scope = none
  operands (more_of-Operand operator x rest) scope = expression x Unmarked scope ▸ operands rest scope

  pub links : {m : _} (xs : Row_of-Link m) (mark : Mark) (scope : List Text) → Outer scope (link_arrows xs mark scope)
  links end_of-Link mark scope = none
  links (more_of-Link (Link.Prop name) rest) mark scope = links rest Unmarked scope
  links (more_of-Link (Link.Index x) rest) mark scope = expression x Unmarked scope ▸ links rest Unmarked scope
  links (more_of-Link (Link.Call' _ xs) rest) mark scope = all xs mark scope ▸ links rest Unmarked scope

  pub jsx : (x : Jsx) (scope : List Text) → Outer scope (jsx_arrows x scope)
  jsx (Jsx' tag _ xs _ children) scope = attributes xs scope ▸ all children Unmarked scope

  pub statement : (x : Stmt) (scope : List Text) → Nested (statement_arrows x scope)
  statement (Stmt.Const pattern x) scope = (expression x Unmarked scope).nested
  statement (Stmt.Let name x) scope = (expression x Unmarked scope).nested
  statement (Stmt.Do x) scope = (expression x Unmarked scope).nested
  statement (Stmt.Delete x) scope = (expression x Unmarked scope).nested
  statement (Stmt.Return' None') scope = nothing
  statement (Stmt.Return' (Some' x)) scope = (expression x Unmarked scope).nested
  statement (Stmt.If' x _ then _ otherwise) scope = (expression x Unmarked scope).nested ▹ block then _ ▹ block otherwise _
  statement (Stmt.While' x _ xs) scope = (expression x Unmarked scope).nested ▹ block xs _
  statement (Stmt.ForOf' name x _ xs) scope = (expression x Unmarked scope).nested ▹ block xs _
  statement Stmt.Break scope = nothing
  statement Stmt.Continue scope = nothing
  statement (Statement_block' _ xs) scope = block xs _

  pub block : {m : _} (xs : Row_of-Stmt m) (scope : List Text) → Nested (block_arrows xs scope)
  block end_of-Stmt scope = nothing
  block (more_of-Stmt x rest) scope = statement x scope ▹ block rest scope

  pub body : (x : Body) (scope : List Text) → Nested (body_arrows x scope)
  body (Body.Value' _ xs) scope = (all xs Unmarked scope).nested
  body (Body_block' _ xs) scope = block xs _

pub items : (xs : List Item) → Outer [] (item_arrows xs)
items [] = none
items (i ∷ rest) = expression i.init Unmarked [] ▸ items rest

-- ---- what is captured of no names

those_of_none : (xs : List Text) → those_of [] xs ≡ []
those_of_none [] = refl
those_of_none (x ∷ xs) = those_of_none xs

captured_none : (a : Found_arrow) → a.scope ≡ [] → captures_of a ≡ []
captured_none a e = ap (λ scope. each_once [] (those_of scope (free_of a))) e ∙ ap (each_once []) (those_of_none (free_of a))

pub outermost : (xs : List Item) → Outermost xs
outermost xs = let o = items xs in record {
  outers = o.outers;
  whole = o.whole;
  around_none = all_around (λ a. a.scope ≡ []) [] (λ a e. e) o.outers o.around';
  captured_none = all_around (λ a. captures_of a ≡ []) [] captured_none o.outers o.around';
}
