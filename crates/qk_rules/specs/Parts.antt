-- What the parts of a module break, by what the tree holds in lists.
use Rattle.std.specs.Prelude.{Bool, true, false, not, ◌&&◌, List, [], ◌∷◌, ◌++◌, flat_map, Option, Some, None}
use Rattle.qk_ast.specs.declared.Item.{Item as Root_item}
use Rattle.qk_ast.specs.declared.Tag.{Tag}
use Rattle.qk_ast.specs.declared.Expr.{Expr}
use Rattle.qk_ast.specs.declared.Stmt.{Stmt}
use Rattle.qk_ast.specs.declared.Link.{Link}
use Rattle.qk_ast.specs.declared.Jsx.{Jsx}
use Rattle.qk_ast.specs.declared.Field.{Field}
use Rattle.qk_ast.specs.declared.Operand.{Operand}
use Rattle.qk_ast.specs.declared.Pattern.{Pattern}
use Rattle.qk_ast.specs.declared.Body.{Body}
use Rattle.qk_ast.specs.Texts.{Text}
use Rattle.qk_ast.specs.Scopes.{Scope, arrow_scope}
use Rattle.qk_locals.specs.Layers.{block_of}
use Rattle.qk_ast.specs.Mentions.{name_in}
use Rattle.qk_ast.specs.Spots.{Standing, Anywhere, Root_value, Called, Spot, Named, Tagged, Attributed, argument_of, standing_mark, is_component_arrow, lets_hooks_follow, spots, all_spots, jsx_spots, statement_spots, body_spots}
use Rattle.qk_ast.specs.declared.RuleKind.TheVariants.{TagRefused}
use Rattle.qk_ast.specs.Tags.{is_element, is_attribute}
use Rattle.qk_ast.specs.Placing.{Root_kind, Placing_breach, refuse_if, item_breaches, placing_breaches}
use Rattle.qk_rules.specs.Breaches.{component_breaches}

-- In the module of this name, with these kinds of the names of its root and these scopes around.
pub record Place : Type 0 where
  pub file : Text
  pub roots : Text → Root_kind
  pub scopes : List Scope

abbrev pub inside : Scope → Place → Place
inside scope p = record { file = p.file; roots = p.roots; scopes = scope ∷ p.scopes }

-- what these spots break there
unfoldable pub broken : Place → List Spot → List Placing_breach
broken p all = flat_map (placing_breaches p.file p.roots) all

-- ---- expressions

unfoldable pub of_name : Place → Text → Called → Standing → List Placing_breach
of_name p name call standing = broken p (Named name call standing p.scopes ∷ [])

unfoldable pub of_expression : Place → Standing → Expr → List Placing_breach
of_expression p standing x = broken p (spots x standing p.scopes)

abbrev pub of_field : Place → Field → List Placing_breach
of_field p f = of_expression p Anywhere f.value

abbrev pub of_operand : Place → Operand → List Placing_breach
of_operand p o = of_expression p Anywhere o.value

abbrev pub of_arguments : Place → Option Text → List Expr → List Placing_breach
of_arguments p callee [] = []
of_arguments p callee (x ∷ rest) = of_expression p (argument_of callee true) x ++ flat_map (of_expression p (argument_of callee false)) rest

-- a link behind a head that is that name, if any
unfoldable pub of_link : Place → Option Text → Link → List Placing_breach
of_link p callee (Link.Prop name) = []
of_link p callee (Link.Index x) = of_expression p Anywhere x
of_link p callee (Link.Call' _ all) = broken p (all_spots all callee true p.scopes)

abbrev pub of_links : Place → Option Text → List Link → List Placing_breach
of_links p callee [] = []
of_links p callee (link ∷ rest) = of_link p callee link ++ flat_map (of_link p None) rest

-- what stands before links, by the name that it is, if it is one
abbrev pub of_head_named : Place → Option Text → Expr → Called → Standing → List Placing_breach
of_head_named p (Some name) head call standing = of_name p name call standing
of_head_named p None head call standing = of_expression p Anywhere head

abbrev pub of_head : Place → Expr → Called → Standing → List Placing_breach
of_head p head call standing = of_head_named p (name_in head) head call standing

-- ---- elements

abbrev pub element_breaches : Text → (children : Bool) → List Placing_breach
element_breaches name children = refuse_if (not (is_element name children)) TagRefused name

abbrev pub tag_breaches : (Text → Root_kind) → Tag → (children : Bool) → List Scope → List Placing_breach
tag_breaches roots (Tag.Element name) children scopes = element_breaches name children
tag_breaches roots (Tag.Component name) children scopes = component_breaches roots name children scopes
tag_breaches roots Tag.Fragment children scopes = []

abbrev pub attribute_breaches : Tag → Field → (earlier : List Text) → List Placing_breach
attribute_breaches tag f earlier = refuse_if (not (is_attribute tag f.key f.value earlier)) TagRefused f.key

abbrev pub is_any : List Expr → Bool
is_any [] = false
is_any (x ∷ rest) = true

unfoldable pub of_tag : Place → Tag → (children : Bool) → List Placing_breach
of_tag p tag children = broken p (Tagged tag children p.scopes ∷ [])

unfoldable pub of_attribute : Place → Tag → (earlier : List Text) → Field → List Placing_breach
of_attribute p tag earlier f = broken p (Attributed tag f.key f.value earlier ∷ []) ++ of_expression p Anywhere f.value

abbrev pub of_attributes : Place → Tag → (earlier : List Text) → List Field → List Placing_breach
of_attributes p tag earlier [] = []
of_attributes p tag earlier (f ∷ rest) = of_attribute p tag earlier f ++ of_attributes p tag (earlier ++ f.key ∷ []) rest

unfoldable pub of_markup : Place → Jsx → List Placing_breach
of_markup p jsx = broken p (jsx_spots jsx p.scopes)

-- ---- arrows and statements

unfoldable pub of_body : Place → (component : Bool) → Body → List Placing_breach
of_body p component body = broken p (body_spots body component p.scopes)

unfoldable pub of_arrow : Place → Standing → List Pattern → Body → List Placing_breach
of_arrow p standing params body = of_body (inside (arrow_scope (standing_mark standing) params body) p) (is_component_arrow standing) body

unfoldable pub of_statement : Place → (hooks : Bool) → Stmt → List Placing_breach
of_statement p hooks statement = broken p (statement_spots statement hooks p.scopes)

abbrev pub of_statements : Place → (hooks : Bool) → List Stmt → List Placing_breach
of_statements p hooks [] = []
of_statements p hooks (statement ∷ rest) = of_statement p hooks statement ++ of_statements p (hooks && lets_hooks_follow statement) rest

unfoldable pub of_block : Place → List Stmt → List Placing_breach
of_block p statements = of_statements (inside (block_of statements) p) false statements

abbrev pub of_returned : Place → Option Expr → List Placing_breach
of_returned p None = []
of_returned p (Some x) = of_expression p Anywhere x

-- ---- items

unfoldable pub of_item : Place → Root_item → List Placing_breach
of_item p i = item_breaches p.file i.name i.init ++ of_expression p Root_value i.init
