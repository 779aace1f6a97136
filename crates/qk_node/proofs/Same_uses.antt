-- The names that an expression uses are those of its tree.
use Rattle.std.specs.Prelude.{◌≡◌, refl, List, [], ◌∷◌, ◌++◌}
use Rattle.std.proofs.Common.{sym, ◌∙◌, ap}
use Rattle.std.proofs.lemmas.List.{append_assoc, append-nil}
use Rattle.qk_ast.specs.declared.Body.{Body, Block' as Body_block'}
use Rattle.qk_ast.specs.declared.Expr.{Expr, Row_of-Expr, end_of-Expr, more_of-Expr, Row_of-Field, end_of-Field, more_of-Field, Row_of-Operand, end_of-Operand, more_of-Operand, Row_of-Link, end_of-Link, more_of-Link, more_of-Arrow, more_of-Jsx}
use Rattle.qk_ast.specs.declared.Jsx.{Jsx, Jsx'}
use Rattle.qk_ast.specs.declared.Link.{Link}
use Rattle.qk_ast.specs.declared.Pattern.{Pattern}
use Rattle.qk_ast.specs.declared.Stmt.{Stmt, Block' as Statement_block', Row_of-Stmt, end_of-Stmt, more_of-Stmt, items-the_row-Stmt, None', Some'}
use Rattle.qk_ast.specs.Texts.{Text}
use Rattle.qk_ast.specs.Names.{others_than, patterns_names, declared_in, declared_by, body_names}
use Rattle.qk_ast.specs.Arrows.{Mark, Unmarked, call_mark, attribute_mark}
use Rattle.qk_ast.specs.Uses.{uses, all_uses, field_uses, operand_uses, link_uses, jsx_uses, statement_uses, block_uses, body_uses, tag_use}
use Rattle.qk_ast.specs.Walking.{names_declared}
use Rattle.qk_node.specs.Nodes.{Value, Statement, Block, For_block}
use Rattle.qk_node.specs.Growing.{Forest, none, more, row, field_row, attribute_row, operand_row, link_row, statement_row, in_expr, in_jsx, in_body, in_stmt, tree}
use Rattle.qk_node.specs.Used.{tag_of, use_here, not_declared, uses_in}

step : (one front behind : List Text) (all : List Text) → all ≡ front ++ behind → one ++ all ≡ (one ++ front) ++ behind
step one front behind all h = ap (λ fs. one ++ fs) h ∙ sym (append_assoc one front behind)

last : (front all : List Text) → all ≡ front ++ [] → all ≡ front
last front all h = h ∙ append-nil front

others_none : (xs : List Text) → others_than [] xs ≡ xs
others_none [] = refl
others_none (x ∷ xs) = ap (λ fs. x ∷ fs) (others_none xs)

declared_same : {m : _} (all : Row_of-Stmt m) → names_declared (items-the_row-Stmt _ all) ≡ declared_in all
declared_same end_of-Stmt = refl
declared_same (more_of-Stmt s all) = ap (λ ns. declared_by s ++ ns) (declared_same all)

node : (x : Expr) (mark : Mark) (behind : Forest) → use_here (Value x mark) ++ not_declared (Value x mark) (uses_in (in_expr x)) ≡ uses x → uses_in (more (Value x mark) (in_expr x) behind) ≡ uses x ++ uses_in behind
node x mark behind h = sym (append_assoc (use_here (Value x mark)) (not_declared (Value x mark) (uses_in (in_expr x))) (uses_in behind)) ∙ ap (λ fs. fs ++ uses_in behind) h

one : (x : Expr) → use_here (Value x Unmarked) ++ not_declared (Value x Unmarked) (uses_in (in_expr x)) ≡ uses x → uses_in (more (Value x Unmarked) (in_expr x) none) ≡ uses x
one x h = last (uses x) _ (node x Unmarked none h)

abbrev block : {m : _} → Row_of-Stmt m → Forest → Forest
block all behind = more (Block (items-the_row-Stmt _ all)) (statement_row all none) behind

inner : {m : _} (all : Row_of-Stmt m) (behind : Forest) → uses_in (statement_row all none) ≡ block_uses all ++ []
    → uses_in (more (Block (items-the_row-Stmt _ all)) (statement_row all none) behind) ≡ others_than (declared_in all) (block_uses all) ++ uses_in behind
inner all behind h = ap (λ fs. fs ++ uses_in behind) (ap (λ names. others_than names (uses_in (statement_row all none))) (declared_same all) ∙ ap (others_than (declared_in all)) (last (block_uses all) _ h))

mutual
  at_expr : (x : Expr) (mark : Mark) → use_here (Value x mark) ++ not_declared (Value x mark) (uses_in (in_expr x)) ≡ uses x
  at_expr (Expr.List' _ all) mark = last (all_uses all) _ (at_row all Unmarked none)
  at_expr (Expr.Record' _ all) mark = last (field_uses all) _ (at_fields all none)
  at_expr (Expr.Template' parts _ all) mark = last (all_uses all) _ (at_row all Unmarked none)
  at_expr (Expr.Unary' op _ x) mark = last (all_uses x) _ (at_row x Unmarked none)
  at_expr (Expr.Chain' _ x _ all) mark = at_row x Unmarked (operand_row all none) ∙ ap (λ fs. all_uses x ++ fs) (last (operand_uses all) _ (at_operands all none))
  at_expr (Expr.Cond' _ a _ b _ c) mark = at_row a Unmarked (row Unmarked b (row Unmarked c none)) ∙ ap (λ fs. all_uses a ++ fs) (at_row b Unmarked (row Unmarked c none) ∙ ap (λ fs. all_uses b ++ fs) (last (all_uses c) _ (at_row c Unmarked none)))
  at_expr (Expr.Post' _ (more_of-Expr x end_of-Expr) _ all) mark = node x Unmarked (link_row (call_mark x) all none) (at_expr x Unmarked) ∙ ap (λ fs. uses x ++ fs) (last (link_uses all) _ (at_links all (call_mark x) none)) ∙ ap (λ fs. fs ++ link_uses all) (sym (append-nil (uses x)))
  at_expr (Expr.Assign' op _ target _ x) mark = at_row target Unmarked (row Unmarked x none) ∙ ap (λ fs. all_uses target ++ fs) (last (all_uses x) _ (at_row x Unmarked none))
  at_expr (Expr.Step' up _ target) mark = last (all_uses target) _ (at_row target Unmarked none)
  at_expr (Expr.Known' known _ all) mark = last (all_uses all) _ (at_row all Unmarked none)
  at_expr (Expr.Arrow' _ (more_of-Arrow place params body _)) mark = ap (others_than (patterns_names params)) (at_body body)
  at_expr (Expr.Jsx' _ (more_of-Jsx jsx _)) mark = at_jsx jsx mark
  at_expr _ mark = refl

  at_row : {m : _} (all : Row_of-Expr m) (mark : Mark) (behind : Forest) → uses_in (row mark all behind) ≡ all_uses all ++ uses_in behind
  at_row end_of-Expr mark behind = refl
  at_row (more_of-Expr x all) mark behind = node x mark (row mark all behind) (at_expr x mark) ∙ step (uses x) (all_uses all) (uses_in behind) _ (at_row all mark behind)

  at_fields : {m : _} (all : Row_of-Field m) (behind : Forest) → uses_in (field_row all behind) ≡ field_uses all ++ uses_in behind
  at_fields end_of-Field behind = refl
  at_fields (more_of-Field key x all) behind = node x Unmarked (field_row all behind) (at_expr x Unmarked) ∙ step (uses x) (field_uses all) (uses_in behind) _ (at_fields all behind)

  at_attributes : {m : _} (all : Row_of-Field m) (behind : Forest) → uses_in (attribute_row all behind) ≡ field_uses all ++ uses_in behind
  at_attributes end_of-Field behind = refl
  at_attributes (more_of-Field key x all) behind = node x (attribute_mark key) (attribute_row all behind) (at_expr x (attribute_mark key)) ∙ step (uses x) (field_uses all) (uses_in behind) _ (at_attributes all behind)

  at_operands : {m : _} (all : Row_of-Operand m) (behind : Forest) → uses_in (operand_row all behind) ≡ operand_uses all ++ uses_in behind
  at_operands end_of-Operand behind = refl
  at_operands (more_of-Operand op x all) behind = node x Unmarked (operand_row all behind) (at_expr x Unmarked) ∙ step (uses x) (operand_uses all) (uses_in behind) _ (at_operands all behind)

  at_links : {m : _} (all : Row_of-Link m) (mark : Mark) (behind : Forest) → uses_in (link_row mark all behind) ≡ link_uses all ++ uses_in behind
  at_links end_of-Link mark behind = refl
  at_links (more_of-Link (Link.Prop name) all) mark behind = at_links all Unmarked behind
  at_links (more_of-Link (Link.Index x) all) mark behind = ap (λ fs. fs ++ uses_in (link_row Unmarked all behind)) (one x (at_expr x Unmarked)) ∙ step (uses x) (link_uses all) (uses_in behind) _ (at_links all Unmarked behind)
  at_links (more_of-Link (Link.Call' _ xs) all) mark behind = ap (λ fs. fs ++ uses_in (link_row Unmarked all behind)) (last (all_uses xs) _ (at_row xs mark none)) ∙ step (all_uses xs) (link_uses all) (uses_in behind) _ (at_links all Unmarked behind)

  at_jsx : (jsx : Jsx) (mark : Mark) → tag_use (tag_of jsx) ++ uses_in (in_jsx jsx) ≡ jsx_uses jsx
  at_jsx (Jsx' tag _ attributes _ children) mark = ap (λ fs. tag_use tag ++ fs) (at_attributes attributes (row Unmarked children none) ∙ ap (λ fs. field_uses attributes ++ fs) (last (all_uses children) _ (at_row children Unmarked none)))

  at_body : (body : Body) → others_than (body_names body) (uses_in (in_body body)) ≡ body_uses body
  at_body (Body.Value' _ x) = others_none (uses_in (row Unmarked x none)) ∙ last (all_uses x) _ (at_row x Unmarked none)
  at_body (Body_block' _ all) = ap (others_than (declared_in all)) (last (block_uses all) _ (at_statements all none))

  at_statements : {m : _} (all : Row_of-Stmt m) (behind : Forest) → uses_in (statement_row all behind) ≡ block_uses all ++ uses_in behind
  at_statements end_of-Stmt behind = refl
  at_statements (more_of-Stmt s all) behind = ap (λ fs. fs ++ uses_in (statement_row all behind)) (at_stmt s) ∙ step (statement_uses s) (block_uses all) (uses_in behind) _ (at_statements all behind)

  at_stmt : (s : Stmt) → not_declared (Statement s) (uses_in (in_stmt s)) ≡ statement_uses s
  at_stmt (Stmt.Const (Pattern.Name name) x) = one x (at_expr x Unmarked)
  at_stmt (Stmt.Const (Pattern.Fields names) x) = one x (at_expr x Unmarked)
  at_stmt (Stmt.Const (Pattern.Scope names) x) = refl
  at_stmt (Stmt.Let name x) = one x (at_expr x Unmarked)
  at_stmt (Stmt.Do x) = one x (at_expr x Unmarked)
  at_stmt (Stmt.Delete x) = one x (at_expr x Unmarked)
  at_stmt (Stmt.Return' None') = refl
  at_stmt (Stmt.Return' (Some' x)) = one x (at_expr x Unmarked)
  at_stmt (Stmt.If' x _ all _ others) = node x Unmarked (block all (block others none)) (at_expr x Unmarked)
      ∙ ap (λ fs. uses x ++ fs) (inner all (block others none) (at_statements all none) ∙ ap (λ fs. others_than (declared_in all) (block_uses all) ++ fs) (last (others_than (declared_in others) (block_uses others)) _ (inner others none (at_statements others none))))
  at_stmt (Stmt.While' x _ all) = node x Unmarked (block all none) (at_expr x Unmarked) ∙ ap (λ fs. uses x ++ fs) (last (others_than (declared_in all) (block_uses all)) _ (inner all none (at_statements all none)))
  at_stmt (Stmt.ForOf' name x _ all) = node x Unmarked (more (For_block name (items-the_row-Stmt _ all)) (statement_row all none) none) (at_expr x Unmarked)
      ∙ ap (λ fs. uses x ++ fs) (append-nil _ ∙ ap (others_than (name ∷ [])) (sym (append-nil _) ∙ last (others_than (declared_in all) (block_uses all)) _ (inner all none (at_statements all none))))
  at_stmt Stmt.Break = refl
  at_stmt Stmt.Continue = refl
  at_stmt (Statement_block' _ all) = last (others_than (declared_in all) (block_uses all)) _ (inner all none (at_statements all none))

pub same_uses : (x : Expr) (mark : Mark) → uses_in (tree (Value x mark)) ≡ uses x
same_uses x mark = last (uses x) _ (node x mark none (at_expr x mark))
