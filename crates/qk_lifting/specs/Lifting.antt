-- Code as a built file has it: in the place of each dollar arrow stands the `qrl` of its symbol.
use Rattle.std.specs.Prelude.{ℕ, true, false, Option, Some, None, codes}
use Rattle.qk_ast.specs.declared.Expr.{Expr, Row_of-Expr, end_of-Expr, more_of-Expr, Row_of-Field, end_of-Field, more_of-Field, Row_of-Operand, end_of-Operand, more_of-Operand, Row_of-Link, end_of-Link, more_of-Link, end_of-Arrow, more_of-Arrow, end_of-Jsx, more_of-Jsx}
use Rattle.qk_ast.specs.declared.Stmt.{Stmt, Block' as Statement_block', Row_of-Stmt, end_of-Stmt, more_of-Stmt, None', Some'}
use Rattle.qk_ast.specs.declared.Link.{Link}
use Rattle.qk_ast.specs.declared.Jsx.{Jsx, Jsx'}
use Rattle.qk_ast.specs.declared.Body.{Body, Block' as Body_block'}
use Rattle.qk_ast.specs.Texts.{Text, same_text}
use Rattle.qk_lifting.specs.declared.SegmentKind.TheVariants.{Fn}
use Rattle.qk_lifting.specs.Kinds.{Place, Unmarked, For, argument_place, attribute_place}
use Rattle.qk_lifting.specs.References.{Reference, reference, reference_link}

-- the name that a built file calls in the place of a dollar name
abbrev pub built_name : Text → Text
built_name t =
    elim (same_text t (codes "component$")) [
      | true ↦ codes "componentQrl"
      | false ↦ elim (same_text t (codes "useTask$")) [
        | true ↦ codes "useTaskQrl"
        | false ↦ elim (same_text t (codes "useComputed$")) [ true ↦ codes "useComputedQrl" | false ↦ elim (same_text t (codes "$")) [ true ↦ codes "qrl" | false ↦ t ] ]
      ]
    ]

-- the place of the arrow that is the one argument
abbrev pub place_alone : {m : _} → Row_of-Expr m → Option ℕ
place_alone (more_of-Expr (Expr.Arrow' _ (more_of-Arrow place params body _)) end_of-Expr) = Some place
place_alone _ = None

-- `$` becomes `qrl` itself, so its arrow becomes the arguments
abbrev pub dollar_link : (ℕ → Reference) → Option ℕ → Link → Link
dollar_link refer (Some place) other = reference_link (refer place)
dollar_link refer None other = other

-- The first argument tells the symbol and the captures of the dollar arrow of each place.
abbrev mutual
  pub lifted : (ℕ → Reference) → Expr → Place → Expr
  lifted refer (Expr.Arrow' _ (more_of-Arrow place params body _)) Unmarked = Expr.Arrow' tt (more_of-Arrow place params (body_lifted refer body) end_of-Arrow)
  lifted refer (Expr.Arrow' _ (more_of-Arrow place params body _)) (For kind) = reference (refer place)
  lifted refer (Expr.Name t) there = Expr.Name (built_name t)
  lifted refer (Expr.List' n all) there = Expr.List' n (all_lifted refer all Unmarked)
  lifted refer (Expr.Record' n fields) there = Expr.Record' n (fields_lifted refer fields)
  lifted refer (Expr.Template' parts n holes) there = Expr.Template' parts n (all_lifted refer holes Unmarked)
  lifted refer (Expr.Unary' operator n all) there = Expr.Unary' operator n (all_lifted refer all Unmarked)
  lifted refer (Expr.Chain' m first n rest) there = Expr.Chain' m (all_lifted refer first Unmarked) n (operands_lifted refer rest)
  lifted refer (Expr.Cond' m a n b o c) there = Expr.Cond' m (all_lifted refer a Unmarked) n (all_lifted refer b Unmarked) o (all_lifted refer c Unmarked)
  lifted refer (Expr.Post' _ (more_of-Expr head _) n links) there = Expr.Post' tt (more_of-Expr (lifted refer head Unmarked) end_of-Expr) n (links_lifted refer links (argument_place head))
  lifted refer (Expr.Assign' operator m target n e) there = Expr.Assign' operator m (all_lifted refer target Unmarked) n (all_lifted refer e Unmarked)
  lifted refer (Expr.Step' up n target) there = Expr.Step' up n (all_lifted refer target Unmarked)
  lifted refer (Expr.Known' known n all) there = Expr.Known' known n (all_lifted refer all Unmarked)
  lifted refer (Expr.Jsx' _ (more_of-Jsx jsx _)) there = Expr.Jsx' tt (more_of-Jsx (jsx_lifted refer jsx) end_of-Jsx)
  lifted refer e there = e

  pub all_lifted : {m : _} → (ℕ → Reference) → Row_of-Expr m → Place → Row_of-Expr m
  all_lifted refer end_of-Expr there = end_of-Expr
  all_lifted refer (more_of-Expr e rest) there = more_of-Expr (lifted refer e there) (all_lifted refer rest there)

  pub fields_lifted : {m : _} → (ℕ → Reference) → Row_of-Field m → Row_of-Field m
  fields_lifted refer end_of-Field = end_of-Field
  fields_lifted refer (more_of-Field key e rest) = more_of-Field key (lifted refer e Unmarked) (fields_lifted refer rest)

  pub attributes_lifted : {m : _} → (ℕ → Reference) → Row_of-Field m → Row_of-Field m
  attributes_lifted refer end_of-Field = end_of-Field
  attributes_lifted refer (more_of-Field key e rest) = more_of-Field key (lifted refer e (attribute_place key)) (attributes_lifted refer rest)

  pub operands_lifted : {m : _} → (ℕ → Reference) → Row_of-Operand m → Row_of-Operand m
  operands_lifted refer end_of-Operand = end_of-Operand
  operands_lifted refer (more_of-Operand operator e rest) = more_of-Operand operator (lifted refer e Unmarked) (operands_lifted refer rest)

  -- the arguments of the first link stand there
  pub links_lifted : {m : _} → (ℕ → Reference) → Row_of-Link m → Place → Row_of-Link m
  links_lifted refer end_of-Link there = end_of-Link
  links_lifted refer (more_of-Link link rest) there = more_of-Link (link_lifted refer link there) (links_lifted refer rest Unmarked)

  pub link_lifted : (ℕ → Reference) → Link → Place → Link
  link_lifted refer (Link.Prop name) there = Link.Prop name
  link_lifted refer (Link.Index e) there = Link.Index (lifted refer e Unmarked)
  link_lifted refer (Link.Call' n all) (For Fn) = dollar_link refer (place_alone all) (Link.Call' n (all_lifted refer all (For Fn)))
  link_lifted refer (Link.Call' n all) there = Link.Call' n (all_lifted refer all there)

  pub jsx_lifted : (ℕ → Reference) → Jsx → Jsx
  jsx_lifted refer (Jsx' tag m attributes n children) = Jsx' tag m (attributes_lifted refer attributes) n (all_lifted refer children Unmarked)

  pub statement_lifted : (ℕ → Reference) → Stmt → Stmt
  statement_lifted refer (Stmt.Const pattern e) = Stmt.Const pattern (lifted refer e Unmarked)
  statement_lifted refer (Stmt.Let name e) = Stmt.Let name (lifted refer e Unmarked)
  statement_lifted refer (Stmt.Do e) = Stmt.Do (lifted refer e Unmarked)
  statement_lifted refer (Stmt.Delete e) = Stmt.Delete (lifted refer e Unmarked)
  statement_lifted refer (Stmt.Return' None') = Stmt.Return' None'
  statement_lifted refer (Stmt.Return' (Some' e)) = Stmt.Return' (Some' (lifted refer e Unmarked))
  statement_lifted refer (Stmt.If' e m then n otherwise) = Stmt.If' (lifted refer e Unmarked) m (block_lifted refer then) n (block_lifted refer otherwise)
  statement_lifted refer (Stmt.While' e n all) = Stmt.While' (lifted refer e Unmarked) n (block_lifted refer all)
  statement_lifted refer (Stmt.ForOf' name e n all) = Stmt.ForOf' name (lifted refer e Unmarked) n (block_lifted refer all)
  statement_lifted refer Stmt.Break = Stmt.Break
  statement_lifted refer Stmt.Continue = Stmt.Continue
  statement_lifted refer (Statement_block' n all) = Statement_block' n (block_lifted refer all)

  pub block_lifted : {m : _} → (ℕ → Reference) → Row_of-Stmt m → Row_of-Stmt m
  block_lifted refer end_of-Stmt = end_of-Stmt
  block_lifted refer (more_of-Stmt statement rest) = more_of-Stmt (statement_lifted refer statement) (block_lifted refer rest)

  pub body_lifted : (ℕ → Reference) → Body → Body
  body_lifted refer (Body.Value' n all) = Body.Value' n (all_lifted refer all Unmarked)
  body_lifted refer (Body_block' n all) = Body_block' n (block_lifted refer all)
