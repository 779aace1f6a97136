-- The rules of places: what at a spot breaks which rule, and the first that does. They are for modules whose names keep the rules of names.
use Rattle.std.specs.Prelude.{ℕ, Bool, true, false, not, ◌&&◌, ◌||◌, ◌==◌, nat_le, List, [], ◌∷◌, ◌++◌, length, flat_map, Option, Some, None, codes}
use Rattle.qk_ast.specs.declared.Module.{Module}
use Rattle.qk_ast.specs.declared.Import.{Import}
use Rattle.qk_ast.specs.declared.Item.{Item as Root_item}
use Rattle.qk_ast.specs.declared.Pattern.{Pattern}
use Rattle.qk_ast.specs.declared.Tag.{Tag}
use Rattle.qk_ast.specs.declared.Un.TheVariants as un
use Rattle.qk_ast.specs.declared.RuleKind.{RuleKind}
use Rattle.qk_ast.specs.declared.RuleKind.TheVariants.{HookPlace, DollarArgument, RootValue, NotComponent, TagRefused, TooManySites}
use Rattle.qk_ast.specs.declared.Expr.{Expr, Row_of-Expr, end_of-Expr, more_of-Expr, Row_of-Field, end_of-Field, more_of-Field, more_of-Arrow}
use Rattle.qk_ast.specs.declared.Body.{Body}
use Rattle.qk_ast.specs.Texts.{Text, same_text, is_among}
use Rattle.qk_ast.specs.Names.{is_listed}
use Rattle.qk_ast.specs.Arrows.{item_arrows, of_kind}
use Rattle.qk_ast.specs.Sources.{Named_module, module_of, source_module}
use Rattle.qk_ast.specs.Framework.{framework}
use Rattle.qk_ast.specs.Scopes.{Tracker, Local, Scope, meaning, is_local, is_track}
use Rattle.qk_ast.specs.Mentions.{name_in}
use Rattle.qk_ast.specs.Spots.{Standing, Root_value, Hook_value, Hook_statement, Argument, Called, Not_called, With, Spot, Item, Named, Tagged, Attributed, called, statement_hooks, item_spots}
use Rattle.qk_ast.specs.Tags.{is_attribute, is_element, is_text_literal}

-- A broken rule and what breaks it.
pub record Placing_breach : Type 0 where
  pub kind : RuleKind
  pub name : Text

abbrev pub refuse_if : Bool → RuleKind → Text → List Placing_breach
refuse_if true kind name = record { kind = kind; name = name } ∷ []
refuse_if false kind name = []

-- ---- what names of a root are

-- What a root has under a name: a component, a context id, or something else.
pub data Root_kind : Type 0 where
  A_component A_context Else : Root_kind

abbrev pub is_one_text : List Expr → Bool
is_one_text (e ∷ []) = is_text_literal e
is_one_text _ = false

abbrev pub called_kind : Option Text → Called → Root_kind
called_kind (Some name) (With arguments true) =
    elim (same_text name (codes "component$")) [
      | true ↦ A_component
      | false ↦ elim (same_text name (codes "createContextId") && is_one_text arguments) [ true ↦ A_context | false ↦ Else ]
    ]
called_kind _ _ = Else

-- `component$(..)` and `createContextId(Text)`
abbrev pub kind_of_value : Expr → Root_kind
kind_of_value (Expr.Post' _ (more_of-Expr head _) _ links) = called_kind (name_in head) (called links)
kind_of_value _ = Else

abbrev pub item_kind : Text → List Root_item → Root_kind
item_kind name [] = Else
item_kind name (i ∷ rest) = elim (same_text i.name name) [ true ↦ kind_of_value i.init | false ↦ item_kind name rest ]

-- a name of the root of a module: an imported one is what the other module has under it
abbrev pub imported_kind : List Named_module → Text → Text → Root_kind
imported_kind modules source name = elim (same_text source framework) [ true ↦ Else | false ↦ item_kind name (module_of modules (source_module source)).items ]

abbrev pub root_kind_from : List Named_module → List Import → List Root_item → Text → Root_kind
root_kind_from modules [] items name = item_kind name items
root_kind_from modules (i ∷ rest) items name = elim (is_listed name i.names) [ true ↦ imported_kind modules i.from name | false ↦ root_kind_from modules rest items name ]

abbrev pub root_kind : List Named_module → Module → Text → Root_kind
root_kind modules m name = root_kind_from modules m.imports m.items name

abbrev pub is_component : Root_kind → Bool
is_component A_component = true
is_component _ = false

abbrev pub is_context : Root_kind → Bool
is_context A_context = true
is_context _ = false

-- ---- items: `component$(..)`, `createContextId(Text)`, an arrow, or fixed data

abbrev mutual
  pub is_data : Expr → Bool
  is_data Expr.Undefined = true
  is_data Expr.Null = true
  is_data (Expr.Bool b) = true
  is_data (Expr.Int n) = true
  is_data (Expr.Text t) = true
  is_data (Expr.Unary' un.Neg _ (more_of-Expr (Expr.Int n) _)) = true
  is_data (Expr.List' _ all) = are_data all
  is_data (Expr.Record' _ fields) = are_data_fields fields
  is_data _ = false

  pub are_data : {m : _} → Row_of-Expr m → Bool
  are_data end_of-Expr = true
  are_data (more_of-Expr e rest) = is_data e && are_data rest

  pub are_data_fields : {m : _} → Row_of-Field m → Bool
  are_data_fields end_of-Field = true
  are_data_fields (more_of-Field key e rest) = is_data e && are_data_fields rest

abbrev pub is_arrow : Expr → Bool
is_arrow (Expr.Arrow' _ arrow) = true
is_arrow _ = false

abbrev pub is_made : Root_kind → Bool
is_made Else = false
is_made _ = true

abbrev pub is_item : Expr → Bool
is_item e = is_made (kind_of_value e) || is_arrow e || is_data e

abbrev pub is_app : Text → Text → Bool
is_app file name = same_text file (codes "root") && same_text name (codes "App")

-- `App` of the module `root` is a component before all else
abbrev pub item_breaches : Text → Text → Expr → List Placing_breach
item_breaches file name init = refuse_if (is_app file name && not (is_component (kind_of_value init))) NotComponent name ++ refuse_if (not (is_item init)) RootValue name

-- ---- hooks

abbrev pub value_hooks : List Text
value_hooks = codes "useSignal" ∷ codes "useStore" ∷ codes "useComputed$" ∷ codes "useContext" ∷ []

abbrev pub context_hooks : List Text
context_hooks = codes "useContext" ∷ codes "useContextProvider" ∷ []

-- how many arguments a hook takes
abbrev pub is_count : Text → ℕ → Bool
is_count hook n =
    elim (same_text hook (codes "useSignal")) [
      | true ↦ nat_le n 1
      | false ↦ elim (same_text hook (codes "useContextProvider")) [ true ↦ n == 2 | false ↦ n == 1 ]
    ]

-- what may stand for a context: a name that means a context id of the root
abbrev pub is_context_name : (Text → Root_kind) → List Scope → Option Text → Bool
is_context_name roots scopes (Some name) = not (is_local name scopes) && is_context (roots name)
is_context_name roots scopes None = false

abbrev pub first_name : List Expr → Option Text
first_name [] = None
first_name (e ∷ rest) = name_in e

abbrev pub takes : (Text → Root_kind) → List Scope → Text → Called → Bool
takes roots scopes hook (With arguments true) = is_count hook (length arguments) && (not (is_among hook context_hooks) || is_context_name roots scopes (first_name arguments))
takes roots scopes hook _ = false

abbrev pub is_hook_value : Standing → Bool
is_hook_value Hook_value = true
is_hook_value _ = false

abbrev pub is_hook_statement : Standing → Bool
is_hook_statement Hook_statement = true
is_hook_statement _ = false

-- a hook where it doesn't stand, or with other arguments than it takes
abbrev pub is_misplaced_hook : (Text → Root_kind) → Text → Called → Standing → List Scope → Bool
is_misplaced_hook roots name call standing scopes =
    (is_among name value_hooks && not (is_hook_value standing && takes roots scopes name call))
    || (is_among name statement_hooks && not (is_hook_statement standing && takes roots scopes name call))

-- a context id's name elsewhere than as the first argument of a context hook
abbrev pub is_context_argument : Called → Standing → Bool
is_context_argument Not_called (Argument hook true) = is_among hook context_hooks
is_context_argument _ _ = false

abbrev pub is_misplaced_context : (Text → Root_kind) → Text → Called → Standing → Bool
is_misplaced_context roots name call standing = is_context (roots name) && not (is_context_argument call standing)

-- `track(() => e)`
abbrev pub is_tracking : Called → Bool
is_tracking (With (Expr.Arrow' _ (more_of-Arrow place [] (Body.Value' _ e) _) ∷ []) whole) = true
is_tracking _ = false

-- ---- calls of dollar names

abbrev pub dollar_names : List Text
dollar_names = codes "component$" ∷ codes "$" ∷ codes "useTask$" ∷ codes "useComputed$" ∷ []

abbrev pub has_parameters : Text → List Pattern → Bool
has_parameters callee params =
    elim (same_text callee (codes "component$")) [
      | true ↦ nat_le (length params) 1
      | false ↦ elim (same_text callee (codes "useTask$")) [
        | true ↦ (length params == 0) || is_track params
        | false ↦ elim (same_text callee (codes "useComputed$")) [ true ↦ length params == 0 | false ↦ true ]
      ]
    ]

abbrev pub is_dollar_argument : Text → List Expr → Bool
is_dollar_argument callee (Expr.Arrow' _ (more_of-Arrow place params body _) ∷ []) = has_parameters callee params
is_dollar_argument callee _ = false

abbrev pub is_dollar_call_refused : Text → Called → Bool
is_dollar_call_refused name (With arguments whole) = is_among name dollar_names && not (is_dollar_argument name arguments)
is_dollar_call_refused name Not_called = false

-- ---- other framework names

abbrev pub is_root_value : Called → Standing → Bool
is_root_value (With arguments true) Root_value = true
is_root_value _ _ = false

abbrev pub takes_one : Called → Bool
takes_one (With (e ∷ []) whole) = true
takes_one _ = false

abbrev pub is_misused : Text → Called → Standing → Bool
is_misused name call standing =
    (is_among name (codes "component$" ∷ codes "createContextId" ∷ []) && not (is_root_value call standing))
    || (is_among name (codes "$" ∷ codes "noSerialize" ∷ []) && not (takes_one call)) || same_text name (codes "Slot")

-- ---- the rules

abbrev pub root_use_breaches : (Text → Root_kind) → Text → Called → Standing → List Scope → List Placing_breach
root_use_breaches roots name call standing scopes =
    refuse_if (is_misplaced_hook roots name call standing scopes || is_misplaced_context roots name call standing) HookPlace name
    ++ (refuse_if (is_dollar_call_refused name call) DollarArgument name
    ++ (refuse_if (is_misused name call standing) RootValue name ++ refuse_if (is_component (roots name)) NotComponent name))

abbrev pub local_use_breaches : Text → Called → Local → List Placing_breach
local_use_breaches name call local = elim local.kind [ Tracker ↦ refuse_if (local.in_arrow || not (is_tracking call)) HookPlace name | _ ↦ [] ]

-- a capital tag
abbrev pub capital_breaches : (Text → Root_kind) → Text → List Scope → List Placing_breach
capital_breaches roots name scopes =
    elim (is_local name scopes) [
      | true ↦ refuse_if true NotComponent name
      | false ↦ refuse_if (is_context (roots name)) HookPlace name ++ refuse_if (not (is_component (roots name))) NotComponent name
    ]

-- Which rules a spot breaks, in the order of the rules.
abbrev pub placing_breaches : Text → (Text → Root_kind) → Spot → List Placing_breach
placing_breaches file roots (Item name init) = item_breaches file name init
placing_breaches file roots (Named name call standing scopes) =
    elim (meaning name scopes) [ Some local ↦ local_use_breaches name call local | None ↦ root_use_breaches roots name call standing scopes ]
placing_breaches file roots (Tagged (Tag.Element name) children scopes) = refuse_if (not (is_element name children)) TagRefused name
placing_breaches file roots (Tagged (Tag.Component name) children scopes) =
    elim (same_text name (codes "Slot")) [ true ↦ refuse_if children TagRefused name | false ↦ capital_breaches roots name scopes ]
placing_breaches file roots (Tagged Tag.Fragment children scopes) = []
placing_breaches file roots (Attributed tag name value earlier) = refuse_if (not (is_attribute tag name value earlier)) TagRefused name

-- more dollar sites than a module may have
abbrev pub most_sites : ℕ
most_sites = 4096

abbrev pub site_breaches : Module → List Placing_breach
site_breaches m = refuse_if (not (nat_le (length (of_kind true (item_arrows m.items))) most_sites)) TooManySites (codes "-")

-- All breaches of a module of that name, in text order, that on the number of sites last.
abbrev pub all_placing_breaches : Text → (Text → Root_kind) → Module → List Placing_breach
all_placing_breaches file roots m = flat_map (placing_breaches file roots) (item_spots m.items) ++ site_breaches m
