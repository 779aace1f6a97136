-- What the dollar arrows of a module are, in text order: components, tasks, computeds, or other functions.
use Rattle.std.specs.Prelude.{true, false, List, [], ◌∷◌, ◌++◌, codes}
use Rattle.qk_ast.specs.declared.Item.{Item}
use Rattle.qk_ast.specs.declared.Expr.{Expr, Row_of-Expr, end_of-Expr, more_of-Expr, Row_of-Field, end_of-Field, more_of-Field, Row_of-Operand, end_of-Operand, more_of-Operand, Row_of-Link, end_of-Link, more_of-Link, more_of-Arrow, more_of-Jsx}
use Rattle.qk_ast.specs.declared.Stmt.{Stmt, Block' as Statement_block', Row_of-Stmt, end_of-Stmt, more_of-Stmt, None', Some'}
use Rattle.qk_ast.specs.declared.Link.{Link}
use Rattle.qk_ast.specs.declared.Jsx.{Jsx, Jsx'}
use Rattle.qk_ast.specs.declared.Body.{Body, Block' as Body_block'}
use Rattle.qk_ast.specs.Texts.{Text, same_text, ends_in_dollar}
use Rattle.qk_lifting.specs.declared.SegmentKind.{SegmentKind}
use Rattle.qk_lifting.specs.declared.SegmentKind.TheVariants.{Component, Task, Computed, Fn}

-- Where an expression stands: in no marked place, or where an arrow is a dollar arrow of that kind.
pub data Place : Type 0 where
  Unmarked : Place
  For : SegmentKind → Place

-- as an argument of a call of that name
abbrev pub place_of_name : Text → Place
place_of_name t =
    elim (same_text t (codes "useTask$")) [
      | true ↦ For Task
      | false ↦ elim (same_text t (codes "component$")) [
        | true ↦ For Component
        | false ↦ elim (same_text t (codes "$")) [ true ↦ For Fn | false ↦ elim (same_text t (codes "useComputed$")) [ true ↦ For Computed | false ↦ Unmarked ] ]
      ]
    ]

-- as an argument of a call of this
abbrev pub argument_place : Expr → Place
argument_place (Expr.Name t) = place_of_name t
argument_place _ = Unmarked

-- as the value of an attribute
abbrev pub attribute_place : Text → Place
attribute_place name = elim (ends_in_dollar name) [ true ↦ For Fn | false ↦ Unmarked ]

-- of an arrow that stands there
abbrev pub kind_there : Place → List SegmentKind
kind_there Unmarked = []
kind_there (For kind) = kind ∷ []

abbrev mutual
  pub kinds : Expr → Place → List SegmentKind
  kinds (Expr.Arrow' _ (more_of-Arrow place params body _)) there = kind_there there ++ body_kinds body
  kinds (Expr.List' _ all) there = all_kinds all Unmarked
  kinds (Expr.Record' _ fields) there = field_kinds fields
  kinds (Expr.Template' parts _ holes) there = all_kinds holes Unmarked
  kinds (Expr.Unary' operator _ all) there = all_kinds all Unmarked
  kinds (Expr.Chain' _ first _ rest) there = all_kinds first Unmarked ++ operand_kinds rest
  kinds (Expr.Cond' _ a _ b _ c) there = all_kinds a Unmarked ++ (all_kinds b Unmarked ++ all_kinds c Unmarked)
  kinds (Expr.Post' _ (more_of-Expr head _) _ links) there = kinds head Unmarked ++ link_kinds links (argument_place head)
  kinds (Expr.Assign' operator _ target _ e) there = all_kinds target Unmarked ++ all_kinds e Unmarked
  kinds (Expr.Step' up _ target) there = all_kinds target Unmarked
  kinds (Expr.Known' known _ all) there = all_kinds all Unmarked
  kinds (Expr.Jsx' _ (more_of-Jsx jsx _)) there = jsx_kinds jsx
  kinds _ there = []

  pub all_kinds : {m : _} → Row_of-Expr m → Place → List SegmentKind
  all_kinds end_of-Expr there = []
  all_kinds (more_of-Expr e rest) there = kinds e there ++ all_kinds rest there

  pub field_kinds : {m : _} → Row_of-Field m → List SegmentKind
  field_kinds end_of-Field = []
  field_kinds (more_of-Field key e rest) = kinds e Unmarked ++ field_kinds rest

  pub attribute_kinds : {m : _} → Row_of-Field m → List SegmentKind
  attribute_kinds end_of-Field = []
  attribute_kinds (more_of-Field key e rest) = kinds e (attribute_place key) ++ attribute_kinds rest

  pub operand_kinds : {m : _} → Row_of-Operand m → List SegmentKind
  operand_kinds end_of-Operand = []
  operand_kinds (more_of-Operand operator e rest) = kinds e Unmarked ++ operand_kinds rest

  -- the arguments of the first link stand there
  pub link_kinds : {m : _} → Row_of-Link m → Place → List SegmentKind
  link_kinds end_of-Link there = []
  link_kinds (more_of-Link (Link.Prop name) rest) there = link_kinds rest Unmarked
  link_kinds (more_of-Link (Link.Index e) rest) there = kinds e Unmarked ++ link_kinds rest Unmarked
  link_kinds (more_of-Link (Link.Call' _ all) rest) there = all_kinds all there ++ link_kinds rest Unmarked

  pub jsx_kinds : Jsx → List SegmentKind
  jsx_kinds (Jsx' tag _ attributes _ children) = attribute_kinds attributes ++ all_kinds children Unmarked

  pub statement_kinds : Stmt → List SegmentKind
  statement_kinds (Stmt.Const pattern e) = kinds e Unmarked
  statement_kinds (Stmt.Let name e) = kinds e Unmarked
  statement_kinds (Stmt.Do e) = kinds e Unmarked
  statement_kinds (Stmt.Delete e) = kinds e Unmarked
  statement_kinds (Stmt.Return' None') = []
  statement_kinds (Stmt.Return' (Some' e)) = kinds e Unmarked
  statement_kinds (Stmt.If' e _ then _ otherwise) = kinds e Unmarked ++ (block_kinds then ++ block_kinds otherwise)
  statement_kinds (Stmt.While' e _ all) = kinds e Unmarked ++ block_kinds all
  statement_kinds (Stmt.ForOf' name e _ all) = kinds e Unmarked ++ block_kinds all
  statement_kinds Stmt.Break = []
  statement_kinds Stmt.Continue = []
  statement_kinds (Statement_block' _ all) = block_kinds all

  pub block_kinds : {m : _} → Row_of-Stmt m → List SegmentKind
  block_kinds end_of-Stmt = []
  block_kinds (more_of-Stmt statement rest) = statement_kinds statement ++ block_kinds rest

  pub body_kinds : Body → List SegmentKind
  body_kinds (Body.Value' _ all) = all_kinds all Unmarked
  body_kinds (Body_block' _ all) = block_kinds all

-- of the dollar arrows of the items
abbrev pub item_kinds : List Item → List SegmentKind
item_kinds [] = []
item_kinds (i ∷ rest) = kinds i.init Unmarked ++ item_kinds rest
