-- The mentions of an expression are those of its tree.
use Rattle.std.specs.Prelude.{◌≡◌, refl, true, false, List, [], ◌∷◌, ◌++◌, flat_map}
use Rattle.std.proofs.Common.{sym, ◌∙◌, ap}
use Rattle.std.proofs.lemmas.List.{append_assoc, append-nil}
use Rattle.qk_ast.specs.declared.Body.{Body, Block' as Body_block'}
use Rattle.qk_ast.specs.declared.Expr.{Expr, Row_of-Expr, end_of-Expr, more_of-Expr, Row_of-Field, end_of-Field, more_of-Field, Row_of-Operand, end_of-Operand, more_of-Operand, Row_of-Link, end_of-Link, more_of-Link, more_of-Arrow, more_of-Jsx}
use Rattle.qk_ast.specs.declared.Jsx.{Jsx, Jsx'}
use Rattle.qk_ast.specs.declared.Link.{Link}
use Rattle.qk_ast.specs.declared.Stmt.{Stmt, Block' as Statement_block', Row_of-Stmt, end_of-Stmt, more_of-Stmt, items-the_row-Stmt, None', Some'}
use Rattle.qk_ast.specs.Names.{pattern_names, patterns_names}
use Rattle.qk_ast.specs.Arrows.{Mark, Unmarked, call_mark, attribute_mark}
use Rattle.qk_ast.specs.Scopes.{Scope, arrow_scope, block_scope, for_scope, behind, declarations, declarations_of}
use Rattle.qk_ast.specs.Mentions.{Mention, Declares, declared_after, tag_mentions, mentions, target_mentions, all_mentions, field_mentions, attribute_mentions, operand_mentions, link_mentions, jsx_mentions, statement_mentions, block_mentions, body_mentions}
use Rattle.qk_locals.specs.Layers.{block_of}
use Rattle.qk_node.specs.Nodes.{Value, Statement, Block, For_block}
use Rattle.qk_node.specs.Growing.{Forest, none, more, row, field_row, attribute_row, operand_row, link_row, statement_row, in_expr, in_jsx, in_body, in_stmt, tree}
use Rattle.qk_node.specs.Used.{tag_of}
use Rattle.qk_node.specs.Mentioned.{assigns, mention_here, scopes_inside, mentions_in}

step : (one front behind : List Mention) (all : List Mention) → all ≡ front ++ behind → one ++ all ≡ (one ++ front) ++ behind
step one front behind all h = ap (λ fs. one ++ fs) h ∙ sym (append_assoc one front behind)

last : (front all : List Mention) → all ≡ front ++ [] → all ≡ front
last front all h = h ∙ append-nil front

declared_same : {m : _} (all : Row_of-Stmt m) → flat_map declarations_of (items-the_row-Stmt _ all) ≡ declarations all
declared_same end_of-Stmt = refl
declared_same (more_of-Stmt s all) = ap (λ ns. declarations_of s ++ ns) (declared_same all)

scope_same : {m : _} (all : Row_of-Stmt m) → block_of (items-the_row-Stmt _ all) ≡ block_scope all
scope_same all = ap (λ names. record { of_arrow = false; declared = names; ended = [] }) (declared_same all)

abbrev of_node : Expr → Mark → List Scope → List Mention
of_node x mark scopes = mention_here (Value x mark) false scopes ++ mentions_in (in_expr x) (assigns (Value x mark)) (scopes_inside (Value x mark) scopes)

node : (x : Expr) (mark : Mark) (after : Forest) (scopes : List Scope) → of_node x mark scopes ≡ mentions x mark scopes → mentions_in (more (Value x mark) (in_expr x) after) false scopes ≡ mentions x mark scopes ++ mentions_in after false scopes
node x mark after scopes h = sym (append_assoc (mention_here (Value x mark) false scopes) (mentions_in (in_expr x) (assigns (Value x mark)) (scopes_inside (Value x mark) scopes)) (mentions_in after false scopes)) ∙ ap (λ fs. fs ++ mentions_in after false scopes) h

one : (x : Expr) (scopes : List Scope) → of_node x Unmarked scopes ≡ mentions x Unmarked scopes → mentions_in (more (Value x Unmarked) (in_expr x) none) false scopes ≡ mentions x Unmarked scopes
one x scopes h = last (mentions x Unmarked scopes) _ (node x Unmarked none scopes h)

target : (x : Expr) (after : Forest) (scopes : List Scope) → of_node x Unmarked scopes ≡ mentions x Unmarked scopes
    → mentions_in (more (Value x Unmarked) (in_expr x) after) true scopes ≡ target_mentions (more_of-Expr x end_of-Expr) scopes ++ mentions_in after false scopes
target (Expr.Name name) after scopes h = refl
target (Expr.Arrow' shape (more_of-Arrow place params body rest)) after scopes h = node (Expr.Arrow' shape (more_of-Arrow place params body rest)) Unmarked after scopes h
target (Expr.Jsx' shape (more_of-Jsx jsx rest)) after scopes h = node (Expr.Jsx' shape (more_of-Jsx jsx rest)) Unmarked after scopes h
target x after scopes h = node x Unmarked after scopes h

inner : {m : _} (all : Row_of-Stmt m) (after : Forest) (scopes : List Scope) → mentions_in (statement_row all none) false (block_scope all ∷ scopes) ≡ block_mentions all (block_scope all) scopes ++ []
    → mentions_in (more (Block (items-the_row-Stmt _ all)) (statement_row all none) after) false scopes ≡ block_mentions all (block_scope all) scopes ++ mentions_in after false scopes
inner all after scopes h = ap (λ fs. fs ++ mentions_in after false scopes) (ap (λ own. mentions_in (statement_row all none) false (own ∷ scopes)) (scope_same all) ∙ last (block_mentions all (block_scope all) scopes) _ h)

abbrev block : {m : _} → Row_of-Stmt m → Forest → Forest
block all after = more (Block (items-the_row-Stmt _ all)) (statement_row all none) after

mutual
  at_expr : (x : Expr) (mark : Mark) (ss : List Scope) → of_node x mark ss ≡ mentions x mark ss
  at_expr (Expr.List' _ all) mark ss = last (all_mentions all Unmarked ss) _ (at_row all Unmarked none ss)
  at_expr (Expr.Record' _ all) mark ss = last (field_mentions all ss) _ (at_fields all none ss)
  at_expr (Expr.Template' parts _ all) mark ss = last (all_mentions all Unmarked ss) _ (at_row all Unmarked none ss)
  at_expr (Expr.Unary' op _ x) mark ss = last (all_mentions x Unmarked ss) _ (at_row x Unmarked none ss)
  at_expr (Expr.Chain' _ x _ all) mark ss = at_row x Unmarked (operand_row all none) ss ∙ ap (λ fs. all_mentions x Unmarked ss ++ fs) (last (operand_mentions all ss) _ (at_operands all none ss))
  at_expr (Expr.Cond' _ a _ b _ c) mark ss = at_row a Unmarked (row Unmarked b (row Unmarked c none)) ss ∙ ap (λ fs. all_mentions a Unmarked ss ++ fs) (at_row b Unmarked (row Unmarked c none) ss ∙ ap (λ fs. all_mentions b Unmarked ss ++ fs) (last (all_mentions c Unmarked ss) _ (at_row c Unmarked none ss)))
  at_expr (Expr.Post' _ (more_of-Expr x _) _ all) mark ss = node x Unmarked (link_row (call_mark x) all none) ss (at_expr x Unmarked ss) ∙ ap (λ fs. mentions x Unmarked ss ++ fs) (last (link_mentions all (call_mark x) ss) _ (at_links all (call_mark x) none ss))
  at_expr (Expr.Assign' op _ (more_of-Expr t end_of-Expr) _ x) mark ss = target t (row Unmarked x none) ss (at_expr t Unmarked ss) ∙ ap (λ fs. target_mentions (more_of-Expr t end_of-Expr) ss ++ fs) (last (all_mentions x Unmarked ss) _ (at_row x Unmarked none ss))
  at_expr (Expr.Step' up _ (more_of-Expr t end_of-Expr)) mark ss = last (target_mentions (more_of-Expr t end_of-Expr) ss) _ (target t none ss (at_expr t Unmarked ss))
  at_expr (Expr.Known' known _ all) mark ss = last (all_mentions all Unmarked ss) _ (at_row all Unmarked none ss)
  at_expr (Expr.Arrow' _ (more_of-Arrow place params body _)) mark ss = ap (λ fs. declared_after [] (patterns_names params) ++ fs) (at_body body (arrow_scope mark params body) ss)
  at_expr (Expr.Jsx' _ (more_of-Jsx jsx _)) mark ss = at_jsx jsx ss
  at_expr _ mark ss = refl

  at_row : {m : _} (all : Row_of-Expr m) (mark : Mark) (after : Forest) (ss : List Scope) → mentions_in (row mark all after) false ss ≡ all_mentions all mark ss ++ mentions_in after false ss
  at_row end_of-Expr mark after ss = refl
  at_row (more_of-Expr x all) mark after ss = node x mark (row mark all after) ss (at_expr x mark ss) ∙ step (mentions x mark ss) (all_mentions all mark ss) (mentions_in after false ss) _ (at_row all mark after ss)

  at_fields : {m : _} (all : Row_of-Field m) (after : Forest) (ss : List Scope) → mentions_in (field_row all after) false ss ≡ field_mentions all ss ++ mentions_in after false ss
  at_fields end_of-Field after ss = refl
  at_fields (more_of-Field key x all) after ss = node x Unmarked (field_row all after) ss (at_expr x Unmarked ss) ∙ step (mentions x Unmarked ss) (field_mentions all ss) (mentions_in after false ss) _ (at_fields all after ss)

  at_attributes : {m : _} (all : Row_of-Field m) (after : Forest) (ss : List Scope) → mentions_in (attribute_row all after) false ss ≡ attribute_mentions all ss ++ mentions_in after false ss
  at_attributes end_of-Field after ss = refl
  at_attributes (more_of-Field key x all) after ss = node x (attribute_mark key) (attribute_row all after) ss (at_expr x (attribute_mark key) ss) ∙ step (mentions x (attribute_mark key) ss) (attribute_mentions all ss) (mentions_in after false ss) _ (at_attributes all after ss)

  at_operands : {m : _} (all : Row_of-Operand m) (after : Forest) (ss : List Scope) → mentions_in (operand_row all after) false ss ≡ operand_mentions all ss ++ mentions_in after false ss
  at_operands end_of-Operand after ss = refl
  at_operands (more_of-Operand op x all) after ss = node x Unmarked (operand_row all after) ss (at_expr x Unmarked ss) ∙ step (mentions x Unmarked ss) (operand_mentions all ss) (mentions_in after false ss) _ (at_operands all after ss)

  at_links : {m : _} (all : Row_of-Link m) (mark : Mark) (after : Forest) (ss : List Scope) → mentions_in (link_row mark all after) false ss ≡ link_mentions all mark ss ++ mentions_in after false ss
  at_links end_of-Link mark after ss = refl
  at_links (more_of-Link (Link.Prop name) all) mark after ss = at_links all Unmarked after ss
  at_links (more_of-Link (Link.Index x) all) mark after ss = ap (λ fs. fs ++ mentions_in (link_row Unmarked all after) false ss) (one x ss (at_expr x Unmarked ss)) ∙ step (mentions x Unmarked ss) (link_mentions all Unmarked ss) (mentions_in after false ss) _ (at_links all Unmarked after ss)
  at_links (more_of-Link (Link.Call' _ xs) all) mark after ss = ap (λ fs. fs ++ mentions_in (link_row Unmarked all after) false ss) (last (all_mentions xs mark ss) _ (at_row xs mark none ss)) ∙ step (all_mentions xs mark ss) (link_mentions all Unmarked ss) (mentions_in after false ss) _ (at_links all Unmarked after ss)

  at_jsx : (jsx : Jsx) (ss : List Scope) → tag_mentions (tag_of jsx) ss ++ mentions_in (in_jsx jsx) false ss ≡ jsx_mentions jsx ss
  at_jsx (Jsx' tag _ attributes _ children) ss = ap (λ fs. tag_mentions tag ss ++ fs) (at_attributes attributes (row Unmarked children none) ss ∙ ap (λ fs. attribute_mentions attributes ss ++ fs) (last (all_mentions children Unmarked ss) _ (at_row children Unmarked none ss)))

  at_body : (body : Body) (own : Scope) (ss : List Scope) → mentions_in (in_body body) false (own ∷ ss) ≡ body_mentions body own ss
  at_body (Body.Value' _ x) own ss = last (all_mentions x Unmarked (own ∷ ss)) _ (at_row x Unmarked none (own ∷ ss))
  at_body (Body_block' _ all) own ss = last (block_mentions all own ss) _ (at_statements all own ss)

  -- with nothing behind
  at_statements : {m : _} (all : Row_of-Stmt m) (own : Scope) (ss : List Scope) → mentions_in (statement_row all none) false (own ∷ ss) ≡ block_mentions all own ss ++ []
  at_statements end_of-Stmt own ss = refl
  at_statements (more_of-Stmt s all) own ss =
      sym (append_assoc (mention_here (Statement s) false (own ∷ ss)) (mentions_in (in_stmt s) false (scopes_inside (Statement s) (own ∷ ss))) (mentions_in (statement_row all none) false (behind s own ∷ ss)))
      ∙ ap (λ fs. fs ++ mentions_in (statement_row all none) false (behind s own ∷ ss)) (at_stmt s own ss)
      ∙ step (statement_mentions s own ss) (block_mentions all (behind s own) ss) [] _ (at_statements all (behind s own) ss)

  at_stmt : (s : Stmt) (own : Scope) (ss : List Scope) → mention_here (Statement s) false (own ∷ ss) ++ mentions_in (in_stmt s) false (scopes_inside (Statement s) (own ∷ ss)) ≡ statement_mentions s own ss
  at_stmt (Stmt.Const pattern x) own ss = ap (λ fs. declared_after own.ended (pattern_names pattern) ++ fs) (one x (own ∷ ss) (at_expr x Unmarked (own ∷ ss)))
  at_stmt (Stmt.Let name x) own ss = ap (λ fs. Declares name own.ended ∷ fs) (one x (own ∷ ss) (at_expr x Unmarked (own ∷ ss)))
  at_stmt (Stmt.Do x) own ss = one x (own ∷ ss) (at_expr x Unmarked (own ∷ ss))
  at_stmt (Stmt.Delete x) own ss = one x (own ∷ ss) (at_expr x Unmarked (own ∷ ss))
  at_stmt (Stmt.Return' None') own ss = refl
  at_stmt (Stmt.Return' (Some' x)) own ss = one x (own ∷ ss) (at_expr x Unmarked (own ∷ ss))
  at_stmt (Stmt.If' x _ all _ others) own ss = node x Unmarked (block all (block others none)) (own ∷ ss) (at_expr x Unmarked (own ∷ ss))
      ∙ ap (λ fs. mentions x Unmarked (own ∷ ss) ++ fs) (inner all (block others none) (own ∷ ss) (at_statements all (block_scope all) (own ∷ ss))
      ∙ ap (λ fs. block_mentions all (block_scope all) (own ∷ ss) ++ fs) (last (block_mentions others (block_scope others) (own ∷ ss)) _ (inner others none (own ∷ ss) (at_statements others (block_scope others) (own ∷ ss)))))
  at_stmt (Stmt.While' x _ all) own ss = node x Unmarked (block all none) (own ∷ ss) (at_expr x Unmarked (own ∷ ss))
      ∙ ap (λ fs. mentions x Unmarked (own ∷ ss) ++ fs) (last (block_mentions all (block_scope all) (own ∷ ss)) _ (inner all none (own ∷ ss) (at_statements all (block_scope all) (own ∷ ss))))
  at_stmt (Stmt.ForOf' name x _ all) own ss = ap (λ fs. Declares name [] ∷ fs)
      (node x Unmarked (more (For_block name (items-the_row-Stmt _ all)) (statement_row all none) none) (for_scope [] name ∷ own ∷ ss) (at_expr x Unmarked (for_scope [] name ∷ own ∷ ss))
      ∙ ap (λ fs. mentions x Unmarked (for_scope [] name ∷ own ∷ ss) ++ fs) (last (block_mentions all (block_scope all) (for_scope (name ∷ []) name ∷ own ∷ ss)) _
      (inner all none (for_scope (name ∷ []) name ∷ own ∷ ss) (at_statements all (block_scope all) (for_scope (name ∷ []) name ∷ own ∷ ss)))))
  at_stmt Stmt.Break own ss = refl
  at_stmt Stmt.Continue own ss = refl
  at_stmt (Statement_block' _ all) own ss = last (block_mentions all (block_scope all) (own ∷ ss)) _ (inner all none (own ∷ ss) (at_statements all (block_scope all) (own ∷ ss)))

pub same_mentions : (x : Expr) (mark : Mark) (ss : List Scope) → mentions_in (tree (Value x mark)) false ss ≡ mentions x mark ss
same_mentions x mark ss = last (mentions x mark ss) _ (node x mark none ss (at_expr x mark ss))
