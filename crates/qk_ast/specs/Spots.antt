-- What stands where in a module, in text order: the items of its root, the names that it uses, its tags and their attributes.
use Rattle.std.specs.Prelude.{Bool, true, false, ◌&&◌, List, [], ◌∷◌, ◌++◌, Option, Some, None, codes}
use Rattle.qk_ast.specs.declared.Item.{Item as Root_item}
use Rattle.qk_ast.specs.declared.Pattern.{Pattern}
use Rattle.qk_ast.specs.declared.Tag.{Tag}
use Rattle.qk_ast.specs.declared.Expr.{Expr, Row_of-Expr, end_of-Expr, more_of-Expr, Row_of-Field, end_of-Field, more_of-Field, Row_of-Operand, end_of-Operand, more_of-Operand, Row_of-Link, end_of-Link, more_of-Link, more_of-Arrow, more_of-Jsx}
use Rattle.qk_ast.specs.declared.Stmt.{Stmt, Block' as Statement_block', Row_of-Stmt, end_of-Stmt, more_of-Stmt, None', Some'}
use Rattle.qk_ast.specs.declared.Link.{Link}
use Rattle.qk_ast.specs.declared.Jsx.{Jsx, Jsx'}
use Rattle.qk_ast.specs.declared.Body.{Body, Block' as Body_block'}
use Rattle.qk_ast.specs.Texts.{Text, same_text, is_among}
use Rattle.qk_ast.specs.Arrows.{Mark, Unmarked, name_mark}
use Rattle.qk_ast.specs.Scopes.{Scope, arrow_scope, block_scope, for_scope}
use Rattle.qk_ast.specs.Mentions.{name_in}

-- Where an expression stands.
pub data Standing : Type 0 where
  Anywhere : Standing
  -- it is the whole initialiser of an item
  Root_value : Standing
  -- it is the whole initialiser of a `const NAME`, or a whole statement, of the block of a component's arrow; before it there are only `const` statements and hooks
  Hook_value : Standing
  Hook_statement : Standing
  -- it is an argument of a call of this name, maybe the first
  Argument : Text → (first : Bool) → Standing

-- Whether a name is what is called: with these arguments, and whether the call is the whole expression.
pub data Called : Type 0 where
  Not_called : Called
  With : List Expr → (whole : Bool) → Called

pub data Spot : Type 0 where
  -- an item of the root, at its name
  Item : Text → Expr → Spot
  -- a use of a name other than as a tag, with the scopes around
  Named : Text → Called → Standing → List Scope → Spot
  -- an opening tag, with whether there are children
  Tagged : Tag → (children : Bool) → List Scope → Spot
  -- an attribute of a tag, after these
  Attributed : Tag → Text → Expr → (earlier : List Text) → Spot

-- ---- calls

abbrev pub arguments_of : {m : _} → Row_of-Expr m → List Expr
arguments_of end_of-Expr = []
arguments_of (more_of-Expr e rest) = e ∷ arguments_of rest

abbrev pub is_last : {m : _} → Row_of-Link m → Bool
is_last end_of-Link = true
is_last (more_of-Link link rest) = false

abbrev pub called : {m : _} → Row_of-Link m → Called
called end_of-Link = Not_called
called (more_of-Link (Link.Prop name) rest) = Not_called
called (more_of-Link (Link.Index e) rest) = Not_called
called (more_of-Link (Link.Call' _ all) rest) = With (arguments_of all) (is_last rest)

abbrev pub argument_of : Option Text → (first : Bool) → Standing
argument_of (Some callee) first = Argument callee first
argument_of None first = Anywhere

abbrev pub standing_mark : Standing → Mark
standing_mark (Argument callee first) = name_mark callee
standing_mark _ = Unmarked

abbrev pub is_component_arrow : Standing → Bool
is_component_arrow (Argument callee first) = same_text callee (codes "component$")
is_component_arrow _ = false

-- ---- the hooks that are whole statements

abbrev pub statement_hooks : List Text
statement_hooks = codes "useTask$" ∷ codes "useContextProvider" ∷ []

abbrev pub is_whole_call : Called → Bool
is_whole_call Not_called = false
is_whole_call (With arguments whole) = whole

abbrev pub is_named : List Text → Option Text → Bool
is_named names (Some name) = is_among name names
is_named names None = false

abbrev pub is_hook_call : Expr → Bool
is_hook_call (Expr.Post' _ (more_of-Expr head _) _ links) = is_named statement_hooks (name_in head) && is_whole_call (called links)
is_hook_call _ = false

-- before a hook there are only `const` statements and such hooks
abbrev pub lets_hooks_follow : Stmt → Bool
lets_hooks_follow (Stmt.Const pattern e) = true
lets_hooks_follow (Stmt.Do e) = is_hook_call e
lets_hooks_follow _ = false

abbrev pub where_hooks : Standing → (hooks : Bool) → Standing
where_hooks standing true = standing
where_hooks standing false = Anywhere

abbrev pub const_standing : Pattern → (hooks : Bool) → Standing
const_standing (Pattern.Name name) hooks = where_hooks Hook_value hooks
const_standing pattern hooks = Anywhere

abbrev pub has_children : {m : _} → Row_of-Expr m → Bool
has_children end_of-Expr = false
has_children (more_of-Expr e rest) = true

-- ---- the spots

abbrev mutual
  pub spots : Expr → Standing → List Scope → List Spot
  spots (Expr.Name name) standing scopes = Named name Not_called standing scopes ∷ []
  spots (Expr.List' _ all) standing scopes = all_spots all None false scopes
  spots (Expr.Record' _ fields) standing scopes = field_spots fields scopes
  spots (Expr.Template' parts _ holes) standing scopes = all_spots holes None false scopes
  spots (Expr.Unary' operator _ all) standing scopes = all_spots all None false scopes
  spots (Expr.Chain' _ first _ rest) standing scopes = all_spots first None false scopes ++ operand_spots rest scopes
  spots (Expr.Cond' _ a _ b _ c) standing scopes = all_spots a None false scopes ++ (all_spots b None false scopes ++ all_spots c None false scopes)
  spots (Expr.Post' _ (more_of-Expr head _) _ links) standing scopes =
      elim (name_in head) [
        | Some name ↦ Named name (called links) standing scopes ∷ link_spots links (Some name) scopes
        | None ↦ spots head Anywhere scopes ++ link_spots links None scopes
      ]
  spots (Expr.Assign' operator _ target _ e) standing scopes = all_spots target None false scopes ++ all_spots e None false scopes
  spots (Expr.Step' up _ target) standing scopes = all_spots target None false scopes
  spots (Expr.Known' known _ all) standing scopes = all_spots all None false scopes
  spots (Expr.Arrow' _ (more_of-Arrow place params body _)) standing scopes = body_spots body (is_component_arrow standing) (arrow_scope (standing_mark standing) params body ∷ scopes)
  spots (Expr.Jsx' _ (more_of-Jsx jsx _)) standing scopes = jsx_spots jsx scopes
  spots _ standing scopes = []

  -- expressions in a row, which may be the arguments of a call of that name
  pub all_spots : {m : _} → Row_of-Expr m → Option Text → (first : Bool) → List Scope → List Spot
  all_spots end_of-Expr callee first scopes = []
  all_spots (more_of-Expr e rest) callee first scopes = spots e (argument_of callee first) scopes ++ all_spots rest callee false scopes

  pub field_spots : {m : _} → Row_of-Field m → List Scope → List Spot
  field_spots end_of-Field scopes = []
  field_spots (more_of-Field key e rest) scopes = spots e Anywhere scopes ++ field_spots rest scopes

  pub operand_spots : {m : _} → Row_of-Operand m → List Scope → List Spot
  operand_spots end_of-Operand scopes = []
  operand_spots (more_of-Operand operator e rest) scopes = spots e Anywhere scopes ++ operand_spots rest scopes

  -- the name stands where the first link calls it
  pub link_spots : {m : _} → Row_of-Link m → Option Text → List Scope → List Spot
  link_spots end_of-Link callee scopes = []
  link_spots (more_of-Link (Link.Prop name) rest) callee scopes = link_spots rest None scopes
  link_spots (more_of-Link (Link.Index e) rest) callee scopes = spots e Anywhere scopes ++ link_spots rest None scopes
  link_spots (more_of-Link (Link.Call' _ all) rest) callee scopes = all_spots all callee true scopes ++ link_spots rest None scopes

  pub jsx_spots : Jsx → List Scope → List Spot
  jsx_spots (Jsx' tag _ attributes _ children) scopes = Tagged tag (has_children children) scopes ∷ (attribute_spots tag [] attributes scopes ++ all_spots children None false scopes)

  pub attribute_spots : {m : _} → Tag → (earlier : List Text) → Row_of-Field m → List Scope → List Spot
  attribute_spots tag earlier end_of-Field scopes = []
  attribute_spots tag earlier (more_of-Field name e rest) scopes = Attributed tag name e earlier ∷ (spots e Anywhere scopes ++ attribute_spots tag (earlier ++ name ∷ []) rest scopes)

  -- hooks may stand in the statement
  pub statement_spots : Stmt → (hooks : Bool) → List Scope → List Spot
  statement_spots (Stmt.Const pattern e) hooks scopes = spots e (const_standing pattern hooks) scopes
  statement_spots (Stmt.Let name e) hooks scopes = spots e Anywhere scopes
  statement_spots (Stmt.Do e) hooks scopes = spots e (where_hooks Hook_statement hooks) scopes
  statement_spots (Stmt.Delete e) hooks scopes = spots e Anywhere scopes
  statement_spots (Stmt.Return' None') hooks scopes = []
  statement_spots (Stmt.Return' (Some' e)) hooks scopes = spots e Anywhere scopes
  statement_spots (Stmt.If' e _ then _ otherwise) hooks scopes =
      spots e Anywhere scopes ++ (block_spots then false (block_scope then ∷ scopes) ++ block_spots otherwise false (block_scope otherwise ∷ scopes))
  statement_spots (Stmt.While' e _ all) hooks scopes = spots e Anywhere scopes ++ block_spots all false (block_scope all ∷ scopes)
  statement_spots (Stmt.ForOf' name e _ all) hooks scopes = spots e Anywhere (for_scope [] name ∷ scopes) ++ block_spots all false (block_scope all ∷ for_scope [] name ∷ scopes)
  statement_spots Stmt.Break hooks scopes = []
  statement_spots Stmt.Continue hooks scopes = []
  statement_spots (Statement_block' _ all) hooks scopes = block_spots all false (block_scope all ∷ scopes)

  -- hooks may stand in the first statement
  pub block_spots : {m : _} → Row_of-Stmt m → (hooks : Bool) → List Scope → List Spot
  block_spots end_of-Stmt hooks scopes = []
  block_spots (more_of-Stmt statement rest) hooks scopes = statement_spots statement hooks scopes ++ block_spots rest (hooks && lets_hooks_follow statement) scopes

  pub body_spots : Body → (component : Bool) → List Scope → List Spot
  body_spots (Body.Value' _ all) component scopes = all_spots all None false scopes
  body_spots (Body_block' _ all) component scopes = block_spots all component scopes

abbrev pub item_spots : List Root_item → List Spot
item_spots [] = []
item_spots (i ∷ rest) = Item i.name i.init ∷ (spots i.init Root_value [] ++ item_spots rest)
