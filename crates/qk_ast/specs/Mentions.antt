-- Where a module declares names and where it uses them, in text order, each with what surrounds the place.
use Rattle.std.specs.Prelude.{Bool, true, false, List, [], ◌∷◌, ◌++◌, Option, Some, None}
use Rattle.qk_ast.specs.declared.Module.{Module}
use Rattle.qk_ast.specs.declared.Import.{Import}
use Rattle.qk_ast.specs.declared.Item.{Item}
use Rattle.qk_ast.specs.declared.Tag.{Tag}
use Rattle.qk_ast.specs.declared.Expr.{Expr, Row_of-Expr, end_of-Expr, more_of-Expr, Row_of-Field, end_of-Field, more_of-Field, Row_of-Operand, end_of-Operand, more_of-Operand, Row_of-Link, end_of-Link, more_of-Link, more_of-Arrow, more_of-Jsx}
use Rattle.qk_ast.specs.declared.Stmt.{Stmt, Block' as Statement_block', Row_of-Stmt, end_of-Stmt, more_of-Stmt, None', Some'}
use Rattle.qk_ast.specs.declared.Link.{Link}
use Rattle.qk_ast.specs.declared.Jsx.{Jsx, Jsx'}
use Rattle.qk_ast.specs.declared.Body.{Body, Block' as Body_block'}
use Rattle.qk_ast.specs.Texts.{Text}
use Rattle.qk_ast.specs.Names.{pattern_names, patterns_names}
use Rattle.qk_ast.specs.Arrows.{Mark, Unmarked, call_mark, attribute_mark}
use Rattle.qk_ast.specs.Scopes.{Scope, arrow_scope, block_scope, for_scope, behind}

pub data Mention : Type 0 where
  -- an import names it: from this source, after these names of the root
  Imports : Text → (source : Text) → (earlier : List Text) → Mention
  -- an item of the root declares it, after these names of the root
  Roots : Text → (earlier : List Text) → Mention
  -- a scope declares it, after these names of the scope
  Declares : Text → (earlier : List Text) → Mention
  -- it is used, maybe assigned, with these scopes around, the innermost first
  Uses : Text → (assigned : Bool) → List Scope → Mention

-- names that are declared one after another
abbrev pub declared_after : List Text → List Text → List Mention
declared_after earlier [] = []
declared_after earlier (name ∷ rest) = Declares name earlier ∷ declared_after (earlier ++ name ∷ []) rest

abbrev pub tag_mentions : Tag → List Scope → List Mention
tag_mentions (Tag.Component name) scopes = Uses name false scopes ∷ []
tag_mentions _ scopes = []

-- a target that is a name
abbrev pub name_in : Expr → Option Text
name_in (Expr.Name name) = Some name
name_in _ = None

abbrev mutual
  -- the mark says what the expression is the argument or the value of
  pub mentions : Expr → Mark → List Scope → List Mention
  mentions (Expr.Name name) mark scopes = Uses name false scopes ∷ []
  mentions (Expr.List' _ all) mark scopes = all_mentions all Unmarked scopes
  mentions (Expr.Record' _ fields) mark scopes = field_mentions fields scopes
  mentions (Expr.Template' parts _ holes) mark scopes = all_mentions holes Unmarked scopes
  mentions (Expr.Unary' operator _ all) mark scopes = all_mentions all Unmarked scopes
  mentions (Expr.Chain' _ first _ rest) mark scopes = all_mentions first Unmarked scopes ++ operand_mentions rest scopes
  mentions (Expr.Cond' _ a _ b _ c) mark scopes = all_mentions a Unmarked scopes ++ (all_mentions b Unmarked scopes ++ all_mentions c Unmarked scopes)
  mentions (Expr.Post' _ (more_of-Expr head _) _ links) mark scopes = mentions head Unmarked scopes ++ link_mentions links (call_mark head) scopes
  mentions (Expr.Assign' operator _ target _ e) mark scopes = target_mentions target scopes ++ all_mentions e Unmarked scopes
  mentions (Expr.Step' up _ target) mark scopes = target_mentions target scopes
  mentions (Expr.Known' known _ all) mark scopes = all_mentions all Unmarked scopes
  mentions (Expr.Arrow' _ (more_of-Arrow place params body _)) mark scopes = declared_after [] (patterns_names params) ++ body_mentions body (arrow_scope mark params body) scopes
  mentions (Expr.Jsx' _ (more_of-Jsx jsx _)) mark scopes = jsx_mentions jsx scopes
  mentions _ mark scopes = []

  -- a name that is assigned, or the parts of another target
  pub target_mentions : {m : _} → Row_of-Expr m → List Scope → List Mention
  target_mentions end_of-Expr scopes = []
  target_mentions (more_of-Expr target rest) scopes = elim (name_in target) [ Some name ↦ Uses name true scopes ∷ [] | None ↦ mentions target Unmarked scopes ]

  pub all_mentions : {m : _} → Row_of-Expr m → Mark → List Scope → List Mention
  all_mentions end_of-Expr mark scopes = []
  all_mentions (more_of-Expr e rest) mark scopes = mentions e mark scopes ++ all_mentions rest mark scopes

  pub field_mentions : {m : _} → Row_of-Field m → List Scope → List Mention
  field_mentions end_of-Field scopes = []
  field_mentions (more_of-Field key e rest) scopes = mentions e Unmarked scopes ++ field_mentions rest scopes

  pub attribute_mentions : {m : _} → Row_of-Field m → List Scope → List Mention
  attribute_mentions end_of-Field scopes = []
  attribute_mentions (more_of-Field name e rest) scopes = mentions e (attribute_mark name) scopes ++ attribute_mentions rest scopes

  pub operand_mentions : {m : _} → Row_of-Operand m → List Scope → List Mention
  operand_mentions end_of-Operand scopes = []
  operand_mentions (more_of-Operand operator e rest) scopes = mentions e Unmarked scopes ++ operand_mentions rest scopes

  pub link_mentions : {m : _} → Row_of-Link m → Mark → List Scope → List Mention
  link_mentions end_of-Link mark scopes = []
  link_mentions (more_of-Link (Link.Prop name) rest) mark scopes = link_mentions rest Unmarked scopes
  link_mentions (more_of-Link (Link.Index e) rest) mark scopes = mentions e Unmarked scopes ++ link_mentions rest Unmarked scopes
  link_mentions (more_of-Link (Link.Call' _ all) rest) mark scopes = all_mentions all mark scopes ++ link_mentions rest Unmarked scopes

  pub jsx_mentions : Jsx → List Scope → List Mention
  jsx_mentions (Jsx' tag _ attributes _ children) scopes = tag_mentions tag scopes ++ (attribute_mentions attributes scopes ++ all_mentions children Unmarked scopes)

  -- a statement of the block with this scope
  pub statement_mentions : Stmt → Scope → List Scope → List Mention
  statement_mentions (Stmt.Const pattern e) own scopes = declared_after own.ended (pattern_names pattern) ++ mentions e Unmarked (own ∷ scopes)
  statement_mentions (Stmt.Let name e) own scopes = Declares name own.ended ∷ mentions e Unmarked (own ∷ scopes)
  statement_mentions (Stmt.Do e) own scopes = mentions e Unmarked (own ∷ scopes)
  statement_mentions (Stmt.Delete e) own scopes = mentions e Unmarked (own ∷ scopes)
  statement_mentions (Stmt.Return' None') own scopes = []
  statement_mentions (Stmt.Return' (Some' e)) own scopes = mentions e Unmarked (own ∷ scopes)
  statement_mentions (Stmt.If' e _ then _ otherwise) own scopes =
      mentions e Unmarked (own ∷ scopes) ++ (block_mentions then (block_scope then) (own ∷ scopes) ++ block_mentions otherwise (block_scope otherwise) (own ∷ scopes))
  statement_mentions (Stmt.While' e _ all) own scopes = mentions e Unmarked (own ∷ scopes) ++ block_mentions all (block_scope all) (own ∷ scopes)
  statement_mentions (Stmt.ForOf' name e _ all) own scopes =
      Declares name [] ∷ (mentions e Unmarked (for_scope [] name ∷ own ∷ scopes) ++ block_mentions all (block_scope all) (for_scope (name ∷ []) name ∷ own ∷ scopes))
  statement_mentions Stmt.Break own scopes = []
  statement_mentions Stmt.Continue own scopes = []
  statement_mentions (Statement_block' _ all) own scopes = block_mentions all (block_scope all) (own ∷ scopes)

  pub block_mentions : {m : _} → Row_of-Stmt m → Scope → List Scope → List Mention
  block_mentions end_of-Stmt own scopes = []
  block_mentions (more_of-Stmt statement rest) own scopes = statement_mentions statement own scopes ++ block_mentions rest (behind statement own) scopes

  pub body_mentions : Body → Scope → List Scope → List Mention
  body_mentions (Body.Value' _ all) own scopes = all_mentions all Unmarked (own ∷ scopes)
  body_mentions (Body_block' _ all) own scopes = block_mentions all own scopes

-- ---- a module

abbrev pub imported_after : Text → List Text → List Text → List Mention
imported_after source earlier [] = []
imported_after source earlier (name ∷ rest) = Imports name source earlier ∷ imported_after source (earlier ++ name ∷ []) rest

abbrev pub import_names : List Import → List Text
import_names [] = []
import_names (i ∷ rest) = i.names ++ import_names rest

abbrev pub import_mentions : List Text → List Import → List Mention
import_mentions earlier [] = []
import_mentions earlier (i ∷ rest) = imported_after i.from earlier i.names ++ import_mentions (earlier ++ i.names) rest

abbrev pub item_mentions : List Text → List Item → List Mention
item_mentions earlier [] = []
item_mentions earlier (i ∷ rest) = Roots i.name earlier ∷ (mentions i.init Unmarked [] ++ item_mentions (earlier ++ i.name ∷ []) rest)

abbrev pub module_mentions : Module → List Mention
module_mentions m = import_mentions [] m.imports ++ item_mentions (import_names m.imports) m.items

abbrev pub item_names : List Item → List Text
item_names [] = []
item_names (i ∷ rest) = i.name ∷ item_names rest
