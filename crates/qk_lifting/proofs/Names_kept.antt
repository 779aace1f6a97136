-- Code that is numbered anew uses the same names.
use Rattle.std.specs.Prelude.{◌≡◌, refl, ℕ, ◌+◌, List, [], ◌∷◌, ◌++◌}
use Rattle.std.proofs.Common.{◌∙◌, ap}
use Rattle.qk_ast.specs.declared.Expr.{Expr, Row_of-Expr, end_of-Expr, more_of-Expr, Row_of-Field, end_of-Field, more_of-Field, Row_of-Operand, end_of-Operand, more_of-Operand, Row_of-Link, end_of-Link, more_of-Link, more_of-Arrow, more_of-Jsx}
use Rattle.qk_ast.specs.declared.Pattern.{Pattern}
use Rattle.qk_ast.specs.declared.Stmt.{Stmt, Block' as Statement_block', Row_of-Stmt, end_of-Stmt, more_of-Stmt, None', Some'}
use Rattle.qk_ast.specs.declared.Link.{Link}
use Rattle.qk_ast.specs.declared.Jsx.{Jsx, Jsx'}
use Rattle.qk_ast.specs.declared.Body.{Body, Block' as Body_block'}
use Rattle.qk_ast.specs.Texts.{Text}
use Rattle.qk_ast.specs.Names.{others_than, patterns_names, declared_by, declared_in}
use Rattle.qk_ast.specs.Uses.{tag_use, uses, all_uses, field_uses, operand_uses, link_uses, jsx_uses, statement_uses, block_uses, body_uses}
use Rattle.qk_lifting.specs.Numbering.{count, link_count, statement_count, block_count, numbered, all_numbered, fields_numbered, operands_numbered, links_numbered, jsx_numbered, statement_numbered, block_numbered, body_numbered}
use Rattle.qk_lifting.specs.Laws.{NumberingKeepsNames}

both : {a b c d : List Text} → a ≡ b → c ≡ d → a ++ c ≡ b ++ d
both {a} {b} {c} {d} e f = ap (λ xs. xs ++ c) e ∙ ap (λ xs. b ++ xs) f

-- ---- blocks declare the same

statement_declares : (n : ℕ) (s : Stmt) → declared_by (statement_numbered n s) ≡ declared_by s
statement_declares n (Stmt.Const (Pattern.Scope names) x) = refl
statement_declares n (Stmt.Const (Pattern.Name name) x) = refl
statement_declares n (Stmt.Const (Pattern.Fields names) x) = refl
statement_declares n (Stmt.Return' None') = refl
statement_declares n (Stmt.Return' (Some' x)) = refl
statement_declares n _ = refl

block_declares : (n : ℕ) {m : _} (xs : Row_of-Stmt m) → declared_in (block_numbered n xs) ≡ declared_in xs
block_declares n end_of-Stmt = refl
block_declares n (more_of-Stmt s rest) = both (statement_declares n s) (block_declares (n + statement_count s) rest)

inside : (n : ℕ) {m : _} (xs : Row_of-Stmt m) → block_uses (block_numbered n xs) ≡ block_uses xs → others_than (declared_in (block_numbered n xs)) (block_uses (block_numbered n xs)) ≡ others_than (declared_in xs) (block_uses xs)
inside n xs e = ap (λ names. others_than names (block_uses (block_numbered n xs))) (block_declares n xs) ∙ ap (λ us. others_than (declared_in xs) us) e

-- ---- the whole

mutual
  expression : (n : ℕ) (x : Expr) → uses (numbered n x) ≡ uses x
  expression n (Expr.Arrow' _ (more_of-Arrow place params x _)) = ap (λ us. others_than (patterns_names params) us) (body (n + 1) x)
  expression n (Expr.List' _ xs) = all n xs
  expression n (Expr.Record' _ xs) = fields n xs
  expression n (Expr.Template' parts _ xs) = all n xs
  expression n (Expr.Unary' operator _ xs) = all n xs
  expression n (Expr.Chain' _ (more_of-Expr x end_of-Expr) _ rest) = both (both (expression n x) refl) (operands (n + count x) rest)
  expression n (Expr.Cond' _ (more_of-Expr a end_of-Expr) _ (more_of-Expr b end_of-Expr) _ (more_of-Expr c end_of-Expr)) =
      both (both (expression n a) refl) (both (both (expression (n + count a) b) refl) (both (expression (n + count a + count b) c) refl))
  expression n (Expr.Post' _ (more_of-Expr head end_of-Expr) _ xs) = both (both (expression n head) refl) (links (n + count head) xs)
  expression n (Expr.Assign' operator _ (more_of-Expr target end_of-Expr) _ (more_of-Expr x end_of-Expr)) = both (both (expression n target) refl) (both (expression (n + count target) x) refl)
  expression n (Expr.Step' up _ target) = all n target
  expression n (Expr.Known' known _ xs) = all n xs
  expression n (Expr.Jsx' _ (more_of-Jsx x _)) = jsx n x
  expression n x = refl

  all : (n : ℕ) {m : _} (xs : Row_of-Expr m) → all_uses (all_numbered n xs) ≡ all_uses xs
  all n end_of-Expr = refl
  all n (more_of-Expr x rest) = both (expression n x) (all (n + count x) rest)

  fields : (n : ℕ) {m : _} (xs : Row_of-Field m) → field_uses (fields_numbered n xs) ≡ field_uses xs
  fields n end_of-Field = refl
  fields n (more_of-Field key x rest) = both (expression n x) (fields (n + count x) rest)

  operands : (n : ℕ) {m : _} (xs : Row_of-Operand m) → operand_uses (operands_numbered n xs) ≡ operand_uses xs
  operands n end_of-Operand = refl
  operands n (more_of-Operand operator x rest) = both (expression n x) (operands (n + count x) rest)

  links : (n : ℕ) {m : _} (xs : Row_of-Link m) → link_uses (links_numbered n xs) ≡ link_uses xs
  links n end_of-Link = refl
  links n (more_of-Link (Link.Prop name) rest) = links (n + link_count (Link.Prop name)) rest
  links n (more_of-Link (Link.Index x) rest) = both (expression n x) (links (n + link_count (Link.Index x)) rest)
  links n (more_of-Link (Link.Call' k xs) rest) = both (all n xs) (links (n + link_count (Link.Call' k xs)) rest)

  jsx : (n : ℕ) (x : Jsx) → jsx_uses (jsx_numbered n x) ≡ jsx_uses x
  jsx n (Jsx' tag _ xs _ children) = ap (λ us. tag_use tag ++ us) (both (fields n xs) (all _ children))

  statement : (n : ℕ) (x : Stmt) → statement_uses (statement_numbered n x) ≡ statement_uses x
  statement n (Stmt.Const (Pattern.Scope names) x) = refl
  statement n (Stmt.Const (Pattern.Name name) x) = expression n x
  statement n (Stmt.Const (Pattern.Fields names) x) = expression n x
  statement n (Stmt.Let name x) = expression n x
  statement n (Stmt.Do x) = expression n x
  statement n (Stmt.Delete x) = expression n x
  statement n (Stmt.Return' None') = refl
  statement n (Stmt.Return' (Some' x)) = expression n x
  statement n (Stmt.If' x _ then _ otherwise) = both (expression n x) (both (inside (n + count x) then (block (n + count x) then)) (inside (n + count x + block_count then) otherwise (block (n + count x + block_count then) otherwise)))
  statement n (Stmt.While' x _ xs) = both (expression n x) (inside (n + count x) xs (block (n + count x) xs))
  statement n (Stmt.ForOf' name x _ xs) = both (expression n x) (ap (λ us. others_than (name ∷ []) us) (inside (n + count x) xs (block (n + count x) xs)))
  statement n Stmt.Break = refl
  statement n Stmt.Continue = refl
  statement n (Statement_block' _ xs) = inside n xs (block n xs)

  block : (n : ℕ) {m : _} (xs : Row_of-Stmt m) → block_uses (block_numbered n xs) ≡ block_uses xs
  block n end_of-Stmt = refl
  block n (more_of-Stmt x rest) = both (statement n x) (block (n + statement_count x) rest)

  body : (n : ℕ) (x : Body) → body_uses (body_numbered n x) ≡ body_uses x
  body n (Body.Value' _ xs) = all n xs
  body n (Body_block' _ xs) = inside n xs (block n xs)

pub numbering_keeps_names : NumberingKeepsNames
numbering_keeps_names n = (expression n, body n)
