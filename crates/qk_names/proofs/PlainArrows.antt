-- The arrows of a source have no lexical scope.
use Rattle.std.proofs.Common.{◌≡◌, refl}
use Rattle.std.specs.Prelude.{ℕ, List, [], ◌∷◌, All}
use Rattle.qk_ast.specs.declared.Form.TheVariants.{Source}
use Rattle.qk_ast.specs.declared.Module.{Module}
use Rattle.qk_ast.specs.declared.Item.{Item}
use Rattle.qk_ast.specs.declared.Pattern.{Pattern}
use Rattle.qk_ast.specs.declared.Expr.{Expr, Row_of-Expr, end_of-Expr, more_of-Expr, Row_of-Field, end_of-Field, more_of-Field, Row_of-Operand, end_of-Operand, more_of-Operand, Row_of-Link, end_of-Link, more_of-Link, more_of-Arrow, more_of-Jsx}
use Rattle.qk_ast.specs.declared.Stmt.{Stmt, Block' as Statement_block', Row_of-Stmt, end_of-Stmt, more_of-Stmt, None', Some'}
use Rattle.qk_ast.specs.declared.Link.{Link}
use Rattle.qk_ast.specs.declared.Jsx.{Jsx, Jsx'}
use Rattle.qk_ast.specs.declared.Body.{Body, Block' as Body_block'}
use Rattle.qk_ast.specs.Texts.{Text}
use Rattle.qk_ast.specs.Names.{scope_names, row_scope_names}
use Rattle.qk_ast.specs.Arrows.{Mark, Unmarked, Found_arrow, arrows, all_arrows, field_arrows, attribute_arrows, operand_arrows, link_arrows, jsx_arrows, statement_arrows, block_arrows, body_arrows, item_arrows, call_mark, attribute_mark, inner_scope}
use Rattle.qk_ast.specs.Derives.{Derives}
use Rattle.qk_names.proofs.Each.{Each, none, head, tail, each_then, as_all, ◌∷'◌, ◌▹◌}
use Rattle.qk_names.proofs.Plain.{Plain, Plain_all, Plain_fields, Plain_operands, Plain_links, Plain_jsx, Plain_statement, Plain_block, Plain_body, sources_are_plain}

abbrev Bodies : List Found_arrow → Type 0
Bodies xs = Each (λ a. Plain_body a.body) xs

mutual
  expression : (x : Expr) → Plain x → (mark : Mark) (scope : List Text) → Bodies (arrows x mark scope)
  expression (Expr.Arrow' _ (more_of-Arrow place params x _)) q mark scope = q ∷' body x q (inner_scope mark params scope)
  expression (Expr.List' _ xs) q mark scope = all xs q Unmarked scope
  expression (Expr.Record' _ xs) q mark scope = fields xs q scope
  expression (Expr.Template' parts _ xs) q mark scope = all xs q Unmarked scope
  expression (Expr.Unary' operator _ xs) q mark scope = all xs q Unmarked scope
  expression (Expr.Chain' _ first _ rest) q mark scope = all first q.0 Unmarked scope ▹ operands rest q.1 scope
  expression (Expr.Cond' _ x _ y _ z) q mark scope = all x q.0 Unmarked scope ▹ all y q.1.0 Unmarked scope ▹ all z q.1.1 Unmarked scope
  expression (Expr.Post' _ (more_of-Expr x end_of-Expr) _ xs) q mark scope = expression x q.0.0 Unmarked scope ▹ links xs q.1 (call_mark x) scope
  expression (Expr.Assign' operator _ target _ x) q mark scope = all target q.0 Unmarked scope ▹ all x q.1 Unmarked scope
  expression (Expr.Step' up _ target) q mark scope = all target q Unmarked scope
  expression (Expr.Known' known _ xs) q mark scope = all xs q Unmarked scope
  expression (Expr.Jsx' _ (more_of-Jsx x _)) q mark scope = jsx x q scope
  expression (Expr.Name t) q mark scope = none
  expression Expr.Undefined q mark scope = none
  expression Expr.Null q mark scope = none
  expression (Expr.Bool b) q mark scope = none
  expression (Expr.Int n) q mark scope = none
  expression (Expr.Text t) q mark scope = none

  all : {m : _} (xs : Row_of-Expr m) → Plain_all xs → (mark : Mark) (scope : List Text) → Bodies (all_arrows xs mark scope)
  all end_of-Expr q mark scope = none
  all (more_of-Expr x rest) q mark scope = expression x q.0 mark scope ▹ all rest q.1 mark scope

  fields : {m : _} (xs : Row_of-Field m) → Plain_fields xs → (scope : List Text) → Bodies (field_arrows xs scope)
  fields end_of-Field q scope = none
  fields (more_of-Field key x rest) q scope = expression x q.0 Unmarked scope ▹ fields rest q.1 scope

  attributes : {m : _} (xs : Row_of-Field m) → Plain_fields xs → (scope : List Text) → Bodies (attribute_arrows xs scope)
  attributes end_of-Field q scope = none
  attributes (more_of-Field key x rest) q scope = expression x q.0 (attribute_mark key) scope ▹ attributes rest q.1 scope

  operands : {m : _} (xs : Row_of-Operand m) → Plain_operands xs → (scope : List Text) → Bodies (operand_arrows xs scope)
  operands end_of-Operand q scope = none
  operands (more_of-Operand operator x rest) q scope = expression x q.0 Unmarked scope ▹ operands rest q.1 scope

  links : {m : _} (xs : Row_of-Link m) → Plain_links xs → (mark : Mark) (scope : List Text) → Bodies (link_arrows xs mark scope)
  links end_of-Link q mark scope = none
  links (more_of-Link (Link.Prop name) rest) q mark scope = links rest q.1 Unmarked scope
  links (more_of-Link (Link.Index x) rest) q mark scope = expression x q.0 Unmarked scope ▹ links rest q.1 Unmarked scope
  links (more_of-Link (Link.Call' _ xs) rest) q mark scope = all xs q.0 mark scope ▹ links rest q.1 Unmarked scope

  jsx : (x : Jsx) → Plain_jsx x → (scope : List Text) → Bodies (jsx_arrows x scope)
  jsx (Jsx' tag _ xs _ children) q scope = attributes xs q.0 scope ▹ all children q.1 Unmarked scope

  statement : (x : Stmt) → Plain_statement x → (scope : List Text) → Bodies (statement_arrows x scope)
  statement (Stmt.Const pattern x) q scope = expression x q.1 Unmarked scope
  statement (Stmt.Let name x) q scope = expression x q Unmarked scope
  statement (Stmt.Do x) q scope = expression x q Unmarked scope
  statement (Stmt.Delete x) q scope = expression x q Unmarked scope
  statement (Stmt.Return' None') q scope = none
  statement (Stmt.Return' (Some' x)) q scope = expression x q Unmarked scope
  statement (Stmt.If' x _ then _ otherwise) q scope = expression x q.0 Unmarked scope ▹ block then q.1.0 _ ▹ block otherwise q.1.1 _
  statement (Stmt.While' x _ xs) q scope = expression x q.0 Unmarked scope ▹ block xs q.1 _
  statement (Stmt.ForOf' name x _ xs) q scope = expression x q.0 Unmarked scope ▹ block xs q.1 _
  statement Stmt.Break q scope = none
  statement Stmt.Continue q scope = none
  statement (Statement_block' _ xs) q scope = block xs q _

  block : {m : _} (xs : Row_of-Stmt m) → Plain_block xs → (scope : List Text) → Bodies (block_arrows xs scope)
  block end_of-Stmt q scope = none
  block (more_of-Stmt x rest) q scope = statement x q.0 scope ▹ block rest q.1 scope

  body : (x : Body) → Plain_body x → (scope : List Text) → Bodies (body_arrows x scope)
  body (Body.Value' _ xs) q scope = all xs q Unmarked scope
  body (Body_block' _ xs) q scope = block xs q _

items : (xs : List Item) → Each (λ i. Plain i.init) xs → Bodies (item_arrows xs)
items [] q = none
items (i ∷ rest) q = expression i.init (head q) Unmarked [] ▹ items rest (tail q)

no_row_scope : {m : _} (xs : Row_of-Stmt m) → Plain_block xs → row_scope_names xs ≡ []
no_row_scope (more_of-Stmt (Stmt.Const (Pattern.Scope names) x) rest) q = absurd q.0.0
no_row_scope xs q = refl

no_scope : (x : Body) → Plain_body x → scope_names x ≡ []
no_scope (Body.Value' _ xs) q = refl
no_scope (Body_block' _ xs) q = no_row_scope xs q

pub no_scopes : (bytes : List ℕ) (m : Module) → Derives Source bytes m → All (λ a. scope_names a.body ≡ []) (item_arrows m.items)
no_scopes bytes m d = as_all (each_then (λ a q. no_scope a.body q) (items m.items (sources_are_plain bytes m d)))
