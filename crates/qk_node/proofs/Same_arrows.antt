-- The arrows of an expression are those of its tree.
use Rattle.std.specs.Prelude.{◌≡◌, refl, List, [], ◌∷◌, ◌++◌}
use Rattle.std.proofs.Common.{sym, ◌∙◌, ap}
use Rattle.std.proofs.lemmas.List.{append_assoc, append-nil}
use Rattle.qk_ast.specs.declared.Body.{Body, Block' as Body_block'}
use Rattle.qk_ast.specs.declared.Expr.{Expr, Row_of-Expr, end_of-Expr, more_of-Expr, Row_of-Field, end_of-Field, more_of-Field, Row_of-Operand, end_of-Operand, more_of-Operand, Row_of-Link, end_of-Link, more_of-Link, more_of-Arrow, more_of-Jsx}
use Rattle.qk_ast.specs.declared.Jsx.{Jsx, Jsx'}
use Rattle.qk_ast.specs.declared.Link.{Link}
use Rattle.qk_ast.specs.declared.Stmt.{Stmt, Block' as Statement_block', Row_of-Stmt, end_of-Stmt, more_of-Stmt, items-the_row-Stmt, None', Some'}
use Rattle.qk_ast.specs.Texts.{Text}
use Rattle.qk_ast.specs.Names.{around, declared_in, declared_by, body_names}
use Rattle.qk_ast.specs.Arrows.{Mark, Unmarked, call_mark, attribute_mark, inner_scope, Found_arrow, arrows, all_arrows, field_arrows, attribute_arrows, operand_arrows, link_arrows, jsx_arrows, statement_arrows, block_arrows, body_arrows}
use Rattle.qk_ast.specs.Walking.{names_declared}
use Rattle.qk_node.specs.Nodes.{Value, Block, For_block}
use Rattle.qk_node.specs.Growing.{Forest, none, more, row, field_row, attribute_row, operand_row, link_row, statement_row, in_expr, in_jsx, in_body, in_stmt, tree}
use Rattle.qk_node.specs.Found.{arrow_here, scope_inside, arrows_in}

-- the front of a row, and what is behind
step : (one front behind : List Found_arrow) (all : List Found_arrow) → all ≡ front ++ behind → one ++ all ≡ (one ++ front) ++ behind
step one front behind all h = ap (λ fs. one ++ fs) h ∙ sym (append_assoc one front behind)

declared_same : {m : _} (all : Row_of-Stmt m) → names_declared (items-the_row-Stmt _ all) ≡ declared_in all
declared_same end_of-Stmt = refl
declared_same (more_of-Stmt s all) = ap (λ ns. declared_by s ++ ns) (declared_same all)

-- an expression, before what is behind it
node : (x : Expr) (mark : Mark) (behind : Forest) (scope : List Text) → arrow_here (Value x mark) scope ++ arrows_in (in_expr x) (scope_inside (Value x mark) scope) ≡ arrows x mark scope
    → arrows_in (more (Value x mark) (in_expr x) behind) scope ≡ arrows x mark scope ++ arrows_in behind scope
node x mark behind scope h = sym (append_assoc (arrow_here (Value x mark) scope) (arrows_in (in_expr x) (scope_inside (Value x mark) scope)) (arrows_in behind scope)) ∙ ap (λ fs. fs ++ arrows_in behind scope) h

-- with nothing behind
last : (front all : List Found_arrow) → all ≡ front ++ [] → all ≡ front
last front all h = h ∙ append-nil front

abbrev block : {m : _} → Row_of-Stmt m → Forest → Forest
block all behind = more (Block (items-the_row-Stmt _ all)) (statement_row all none) behind

-- a block, before what is behind it
inner : {m : _} (all : Row_of-Stmt m) (behind : Forest) (scope : List Text) → arrows_in (statement_row all none) (around (declared_in all) scope) ≡ block_arrows all (around (declared_in all) scope) ++ []
    → arrows_in (more (Block (items-the_row-Stmt _ all)) (statement_row all none) behind) scope ≡ block_arrows all (around (declared_in all) scope) ++ arrows_in behind scope
inner all behind scope h = ap (λ fs. fs ++ arrows_in behind scope) (ap (λ names. arrows_in (statement_row all none) (around names scope)) (declared_same all) ∙ last (block_arrows all (around (declared_in all) scope)) _ h)

mutual
  at_expr : (x : Expr) (mark : Mark) (scope : List Text) → arrow_here (Value x mark) scope ++ arrows_in (in_expr x) (scope_inside (Value x mark) scope) ≡ arrows x mark scope
  at_expr (Expr.List' _ all) mark scope = last (all_arrows all Unmarked scope) _ (at_row all Unmarked none scope)
  at_expr (Expr.Record' _ all) mark scope = at_fields all none scope ∙ append-nil (field_arrows all scope)
  at_expr (Expr.Template' parts _ all) mark scope = last (all_arrows all Unmarked scope) _ (at_row all Unmarked none scope)
  at_expr (Expr.Unary' op _ x) mark scope = last (all_arrows x Unmarked scope) _ (at_row x Unmarked none scope)
  at_expr (Expr.Chain' _ x _ all) mark scope = at_row x Unmarked (operand_row all none) scope ∙ ap (λ fs. all_arrows x Unmarked scope ++ fs) (at_operands all none scope ∙ append-nil (operand_arrows all scope))
  at_expr (Expr.Cond' _ a _ b _ c) mark scope = at_row a Unmarked (row Unmarked b (row Unmarked c none)) scope
      ∙ ap (λ fs. all_arrows a Unmarked scope ++ fs) (at_row b Unmarked (row Unmarked c none) scope ∙ ap (λ fs. all_arrows b Unmarked scope ++ fs) (last (all_arrows c Unmarked scope) _ (at_row c Unmarked none scope)))
  at_expr (Expr.Post' _ (more_of-Expr x _) _ all) mark scope = node x Unmarked (link_row (call_mark x) all none) scope (at_expr x Unmarked scope) ∙ ap (λ fs. arrows x Unmarked scope ++ fs) (at_links all (call_mark x) none scope ∙ append-nil (link_arrows all (call_mark x) scope))
  at_expr (Expr.Assign' op _ target _ x) mark scope = at_row target Unmarked (row Unmarked x none) scope ∙ ap (λ fs. all_arrows target Unmarked scope ++ fs) (last (all_arrows x Unmarked scope) _ (at_row x Unmarked none scope))
  at_expr (Expr.Step' up _ target) mark scope = last (all_arrows target Unmarked scope) _ (at_row target Unmarked none scope)
  at_expr (Expr.Known' known _ all) mark scope = last (all_arrows all Unmarked scope) _ (at_row all Unmarked none scope)
  at_expr (Expr.Arrow' _ (more_of-Arrow place params body _)) mark scope =
      ap (λ fs. record { place = place; scope = scope; mark = mark; params = params; body = body } ∷ fs) (at_body body (inner_scope mark params scope))
  at_expr (Expr.Jsx' _ (more_of-Jsx jsx _)) mark scope = at_jsx jsx scope
  at_expr _ mark scope = refl

  at_row : {m : _} (all : Row_of-Expr m) (mark : Mark) (behind : Forest) (scope : List Text) → arrows_in (row mark all behind) scope ≡ all_arrows all mark scope ++ arrows_in behind scope
  at_row end_of-Expr mark behind scope = refl
  at_row (more_of-Expr x all) mark behind scope = node x mark (row mark all behind) scope (at_expr x mark scope) ∙ step (arrows x mark scope) (all_arrows all mark scope) (arrows_in behind scope) _ (at_row all mark behind scope)

  at_fields : {m : _} (all : Row_of-Field m) (behind : Forest) (scope : List Text) → arrows_in (field_row all behind) scope ≡ field_arrows all scope ++ arrows_in behind scope
  at_fields end_of-Field behind scope = refl
  at_fields (more_of-Field key x all) behind scope = node x Unmarked (field_row all behind) scope (at_expr x Unmarked scope) ∙ step (arrows x Unmarked scope) (field_arrows all scope) (arrows_in behind scope) _ (at_fields all behind scope)

  at_attributes : {m : _} (all : Row_of-Field m) (behind : Forest) (scope : List Text) → arrows_in (attribute_row all behind) scope ≡ attribute_arrows all scope ++ arrows_in behind scope
  at_attributes end_of-Field behind scope = refl
  at_attributes (more_of-Field key x all) behind scope = node x (attribute_mark key) (attribute_row all behind) scope (at_expr x (attribute_mark key) scope) ∙ step (arrows x (attribute_mark key) scope) (attribute_arrows all scope) (arrows_in behind scope) _ (at_attributes all behind scope)

  at_operands : {m : _} (all : Row_of-Operand m) (behind : Forest) (scope : List Text) → arrows_in (operand_row all behind) scope ≡ operand_arrows all scope ++ arrows_in behind scope
  at_operands end_of-Operand behind scope = refl
  at_operands (more_of-Operand op x all) behind scope = node x Unmarked (operand_row all behind) scope (at_expr x Unmarked scope) ∙ step (arrows x Unmarked scope) (operand_arrows all scope) (arrows_in behind scope) _ (at_operands all behind scope)

  at_links : {m : _} (all : Row_of-Link m) (mark : Mark) (behind : Forest) (scope : List Text) → arrows_in (link_row mark all behind) scope ≡ link_arrows all mark scope ++ arrows_in behind scope
  at_links end_of-Link mark behind scope = refl
  at_links (more_of-Link (Link.Prop name) all) mark behind scope = at_links all Unmarked behind scope
  at_links (more_of-Link (Link.Index x) all) mark behind scope = ap (λ fs. fs ++ arrows_in (link_row Unmarked all behind) scope) (node x Unmarked none scope (at_expr x Unmarked scope) ∙ append-nil (arrows x Unmarked scope))
      ∙ step (arrows x Unmarked scope) (link_arrows all Unmarked scope) (arrows_in behind scope) _ (at_links all Unmarked behind scope)
  at_links (more_of-Link (Link.Call' _ xs) all) mark behind scope = ap (λ fs. fs ++ arrows_in (link_row Unmarked all behind) scope) (last (all_arrows xs mark scope) _ (at_row xs mark none scope))
      ∙ step (all_arrows xs mark scope) (link_arrows all Unmarked scope) (arrows_in behind scope) _ (at_links all Unmarked behind scope)

  at_jsx : (jsx : Jsx) (scope : List Text) → arrows_in (in_jsx jsx) scope ≡ jsx_arrows jsx scope
  at_jsx (Jsx' tag _ attributes _ children) scope = at_attributes attributes (row Unmarked children none) scope ∙ ap (λ fs. attribute_arrows attributes scope ++ fs) (last (all_arrows children Unmarked scope) _ (at_row children Unmarked none scope))

  at_body : (body : Body) (scope : List Text) → arrows_in (in_body body) (around (body_names body) scope) ≡ body_arrows body scope
  at_body (Body.Value' _ x) scope = last (all_arrows x Unmarked scope) _ (at_row x Unmarked none scope)
  at_body (Body_block' _ all) scope = last (block_arrows all (around (declared_in all) scope)) _ (at_statements all none (around (declared_in all) scope))

  at_statements : {m : _} (all : Row_of-Stmt m) (behind : Forest) (scope : List Text) → arrows_in (statement_row all behind) scope ≡ block_arrows all scope ++ arrows_in behind scope
  at_statements end_of-Stmt behind scope = refl
  at_statements (more_of-Stmt s all) behind scope = ap (λ fs. fs ++ arrows_in (statement_row all behind) scope) (at_stmt s scope)
      ∙ step (statement_arrows s scope) (block_arrows all scope) (arrows_in behind scope) _ (at_statements all behind scope)

  at_stmt : (s : Stmt) (scope : List Text) → arrows_in (in_stmt s) scope ≡ statement_arrows s scope
  at_stmt (Stmt.Const pattern x) scope = last (arrows x Unmarked scope) _ (node x Unmarked none scope (at_expr x Unmarked scope))
  at_stmt (Stmt.Let name x) scope = last (arrows x Unmarked scope) _ (node x Unmarked none scope (at_expr x Unmarked scope))
  at_stmt (Stmt.Do x) scope = last (arrows x Unmarked scope) _ (node x Unmarked none scope (at_expr x Unmarked scope))
  at_stmt (Stmt.Delete x) scope = last (arrows x Unmarked scope) _ (node x Unmarked none scope (at_expr x Unmarked scope))
  at_stmt (Stmt.Return' None') scope = refl
  at_stmt (Stmt.Return' (Some' x)) scope = last (arrows x Unmarked scope) _ (node x Unmarked none scope (at_expr x Unmarked scope))
  at_stmt (Stmt.If' x _ all _ others) scope = node x Unmarked (block all (block others none)) scope (at_expr x Unmarked scope)
      ∙ ap (λ fs. arrows x Unmarked scope ++ fs) (inner all (block others none) scope (at_statements all none (around (declared_in all) scope)) ∙ ap (λ fs. block_arrows all (around (declared_in all) scope) ++ fs) (inner others none scope (at_statements others none (around (declared_in others) scope)) ∙ append-nil (block_arrows others (around (declared_in others) scope))))
  at_stmt (Stmt.While' x _ all) scope = node x Unmarked (block all none) scope (at_expr x Unmarked scope) ∙ ap (λ fs. arrows x Unmarked scope ++ fs) (inner all none scope (at_statements all none (around (declared_in all) scope)) ∙ append-nil (block_arrows all (around (declared_in all) scope)))
  at_stmt (Stmt.ForOf' name x _ all) scope = node x Unmarked (more (For_block name (items-the_row-Stmt _ all)) (statement_row all none) none) scope (at_expr x Unmarked scope) ∙ ap (λ fs. arrows x Unmarked scope ++ fs) (inner all none (name ∷ scope) (at_statements all none (around (declared_in all) (name ∷ scope))) ∙ append-nil (block_arrows all (around (declared_in all) (name ∷ scope))))
  at_stmt Stmt.Break scope = refl
  at_stmt Stmt.Continue scope = refl
  at_stmt (Statement_block' _ all) scope = inner all none scope (at_statements all none (around (declared_in all) scope)) ∙ append-nil (block_arrows all (around (declared_in all) scope))

pub same_arrows : (x : Expr) (mark : Mark) (scope : List Text) → arrows_in (tree (Value x mark)) scope ≡ arrows x mark scope
same_arrows x mark scope = node x mark none scope (at_expr x mark scope) ∙ append-nil (arrows x mark scope)
