-- The first rule that is broken at one place, and data in lists.
use Rattle.std.specs.Prelude.{Bool, true, false, not, ◌&&◌, ◌||◌, List, [], ◌∷◌, length, Option, Some, None, codes}
use Rattle.qk_ast.specs.declared.RuleKind.{RuleKind}
use Rattle.qk_ast.specs.declared.Expr.{Expr}
use Rattle.qk_ast.specs.declared.Field.{Field}
use Rattle.qk_ast.specs.declared.Un.{Un}
use Rattle.qk_ast.specs.declared.Un.TheVariants as un
use Rattle.qk_ast.specs.declared.RuleKind.TheVariants.{TagRefused}
use Rattle.qk_ast.specs.Texts.{Text, same_text, is_among}
use Rattle.qk_ast.specs.Scopes.{Scope, meaning}
use Rattle.qk_ast.specs.Spots.{Standing, Called}
use Rattle.qk_ast.specs.Placing.{Placing_breach, Root_kind, refuse_if, is_data, context_hooks, is_count, first_name, is_context_name, local_use_breaches, root_use_breaches, capital_breaches}

-- the name breaks a rule of that kind
abbrev pub breach : Text → RuleKind → Placing_breach
breach name kind = record { kind = kind; name = name }

abbrev pub first_breach : List Placing_breach → Option Placing_breach
first_breach [] = None
first_breach (b ∷ rest) = Some b

-- ---- uses and tags

-- the hook takes these arguments
abbrev pub takes_all : (Text → Root_kind) → List Scope → Text → List Expr → Bool
takes_all roots scopes hook arguments = is_count hook (length arguments) && (not (is_among hook context_hooks) || is_context_name roots scopes (first_name arguments))

-- what a use of a name breaks
abbrev pub use_breaches : (Text → Root_kind) → Text → Called → Standing → List Scope → List Placing_breach
use_breaches roots name call standing scopes =
    elim (meaning name scopes) [ Some local ↦ local_use_breaches name call local | None ↦ root_use_breaches roots name call standing scopes ]

-- what the tag of a component breaks
abbrev pub component_breaches : (Text → Root_kind) → Text → (children : Bool) → List Scope → List Placing_breach
component_breaches roots name children scopes =
    elim (same_text name (codes "Slot")) [ true ↦ refuse_if children TagRefused name | false ↦ capital_breaches roots name scopes ]

-- ---- data

-- a number behind a minus
abbrev pub is_negative : Un → Expr → Bool
is_negative un.Neg (Expr.Int n) = true
is_negative _ _ = false

abbrev pub all_data : List Expr → Bool
all_data [] = true
all_data (x ∷ rest) = is_data x && all_data rest

abbrev pub field_data : List Field → Bool
field_data [] = true
field_data (f ∷ rest) = is_data f.value && field_data rest
