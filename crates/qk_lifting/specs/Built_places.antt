-- The rules of places of built files: those of modules, but for what stands in the place of dollar arrows.
use Rattle.std.specs.Prelude.{Bool, true, false, not, ◌&&◌, ◌||◌, List, [], ◌∷◌, Option, Some, None, codes}
use Rattle.qk_ast.specs.declared.Module.{Module}
use Rattle.qk_ast.specs.declared.Import.{Import}
use Rattle.qk_ast.specs.declared.Item.{Item as Root_item}
use Rattle.qk_ast.specs.declared.Tag.{Tag}
use Rattle.qk_ast.specs.declared.Expr.{Expr, Row_of-Expr, end_of-Expr, more_of-Expr}
use Rattle.qk_ast.specs.declared.Form.TheVariants.{Built}
use Rattle.qk_ast.specs.Texts.{Text, same_text, is_among, ends_in_dollar}
use Rattle.qk_ast.specs.Framework.{framework, may_import, is_module_name, is_symbol}
use Rattle.qk_ast.specs.Sources.{source_module}
use Rattle.qk_ast.specs.Scopes.{Scope, meaning, is_local}
use Rattle.qk_ast.specs.Mentions.{name_in}
use Rattle.qk_ast.specs.Spots.{Standing, Called, With, Spot, Item, Named, Tagged, Attributed, called, is_whole_call}
use Rattle.qk_ast.specs.Tags.{is_attribute, is_element}
use Rattle.qk_ast.specs.Placing.{Placing_breach, Root_kind, A_component, Else, kind_of_value, is_component, is_made, is_arrow, is_data, is_hook_value, is_hook_statement, is_misplaced_context, is_root_value, takes, takes_one, local_use_breaches, capital_breaches}
use Rattle.qk_lifting.specs.declared.SegmentKind.{SegmentKind}
use Rattle.qk_lifting.specs.Importing.{built_source}
use Rattle.qk_lifting.specs.Built_spots.{built_statement_hooks, built_spots, used_as}

-- ---- imports

abbrev pub may_import_all : List Text → Bool
may_import_all [] = true
may_import_all (name ∷ rest) = may_import Built name && may_import_all rest

-- from the framework, or by the source `./NAME.js`
abbrev pub is_import : Import → Bool
is_import i =
    elim (same_text i.from framework) [
      | true ↦ may_import_all i.names
      | false ↦ is_module_name (source_module i.from) && same_text i.from (built_source (source_module i.from))
    ]

-- ---- calls of built names

-- the one call of an expression that is a call of that name
abbrev pub is_call_of : Text → Expr → Bool
is_call_of name (Expr.Post' _ (more_of-Expr (Expr.Name other) _) _ links) = same_text other name && is_whole_call (called links)
is_call_of name _ = false

-- `componentQrl`, `useTaskQrl` and `useComputedQrl` take a call of `qrl`
abbrev pub takes_reference : Called → Bool
takes_reference (With (e ∷ []) whole) = is_call_of (codes "qrl") e
takes_reference _ = false

abbrev pub is_local_name : List Scope → Option Text → Bool
is_local_name scopes (Some name) = is_local name scopes
is_local_name scopes None = false

abbrev pub are_locals : {m : _} → List Scope → Row_of-Expr m → Bool
are_locals scopes end_of-Expr = true
are_locals scopes (more_of-Expr e rest) = is_local_name scopes (name_in e) && are_locals scopes rest

-- `qrl` takes the text of a symbol and a list of names of locals
abbrev pub takes_symbol : List Scope → Called → Bool
takes_symbol scopes (With (Expr.Text symbol ∷ Expr.List' _ names ∷ []) whole) = is_symbol symbol && are_locals scopes names
takes_symbol scopes _ = false

-- ---- names of the root

abbrev pub built_kind_of : Expr → Root_kind
built_kind_of e = elim (is_call_of (codes "componentQrl") e) [ true ↦ A_component | false ↦ kind_of_value e ]

-- an own item by its value, and an imported name by its use
abbrev pub own_kind : List Root_item → (imported : Root_kind) → Text → Root_kind
own_kind [] imported name = imported
own_kind (i ∷ rest) imported name = elim (same_text i.name name) [ true ↦ built_kind_of i.init | false ↦ own_kind rest imported name ]

abbrev pub kind_used : Option Root_kind → Root_kind
kind_used (Some kind) = kind
kind_used None = Else

abbrev pub built_root_kind : List Root_item → List Spot → Text → Root_kind
built_root_kind items spots name = own_kind items (kind_used (used_as name spots)) name

-- ---- uses of names of the root

abbrev pub built_value_hooks : List Text
built_value_hooks = codes "useSignal" ∷ codes "useStore" ∷ codes "useComputedQrl" ∷ codes "useContext" ∷ []

abbrev pub hook_stands : (Text → Root_kind) → Text → Called → Standing → List Scope → Bool
hook_stands roots name call standing scopes =
    (not (is_among name built_value_hooks) || (is_hook_value standing && takes roots scopes name call))
    && (not (is_among name built_statement_hooks) || (is_hook_statement standing && takes roots scopes name call))

abbrev pub call_stands : Text → Called → Standing → List Scope → Bool
call_stands name call standing scopes =
    (not (is_among name (codes "componentQrl" ∷ codes "useTaskQrl" ∷ codes "useComputedQrl" ∷ [])) || takes_reference call)
    && (not (is_among name (codes "componentQrl" ∷ codes "createContextId" ∷ [])) || is_root_value call standing)
    && (not (same_text name (codes "qrl")) || takes_symbol scopes call)
    && (not (same_text name (codes "noSerialize")) || takes_one call)
    && not (is_among name (codes "Slot" ∷ codes "useLexicalScope" ∷ []))

abbrev pub use_stands : (Text → Root_kind) → Text → Called → Standing → List Scope → Bool
use_stands roots name call standing scopes =
    hook_stands roots name call standing scopes && not (is_misplaced_context roots name call standing) && call_stands name call standing scopes && not (is_component (roots name))

-- ---- the rules

abbrev pub none_broken : List Placing_breach → Bool
none_broken [] = true
none_broken (breach ∷ rest) = false

abbrev pub is_built_item : Expr → Bool
is_built_item e = is_made (built_kind_of e) || is_arrow e || is_data e

abbrev pub spot_stands : (Text → Root_kind) → Spot → Bool
spot_stands roots (Item name init) = is_built_item init
spot_stands roots (Named name call standing scopes) =
    elim (meaning name scopes) [ Some local ↦ none_broken (local_use_breaches name call local) | None ↦ use_stands roots name call standing scopes ]
spot_stands roots (Tagged (Tag.Element name) children scopes) = is_element name children
spot_stands roots (Tagged (Tag.Component name) children scopes) =
    elim (same_text name (codes "Slot")) [ true ↦ not children | false ↦ none_broken (capital_breaches roots name scopes) ]
spot_stands roots (Tagged Tag.Fragment children scopes) = true
-- no arrow is the whole value of an attribute whose name ends in `$`
spot_stands roots (Attributed tag name value earlier) = is_attribute tag name value earlier && not (ends_in_dollar name && is_arrow value)

abbrev pub spots_stand : (Text → Root_kind) → List Spot → Bool
spots_stand roots [] = true
spots_stand roots (spot ∷ rest) = spot_stands roots spot && spots_stand roots rest

abbrev pub imports_stand : List Import → Bool
imports_stand [] = true
imports_stand (i ∷ rest) = is_import i && imports_stand rest

-- no use in a segment means its own item
abbrev pub root_items : Option SegmentKind → Module → List Root_item
root_items (Some kind) m = []
root_items None m = m.items

-- The file keeps the rules of places: a segment of that kind, or what remains of a module.
abbrev pub places_stand : Option SegmentKind → Module → Bool
places_stand kind m = imports_stand m.imports && spots_stand (built_root_kind (root_items kind m) (built_spots kind m)) (built_spots kind m)
