-- The rules of names: which mention of a name breaks which rule, and the first that does.
use Rattle.std.specs.Prelude.{Bool, true, false, not, ◌&&◌, ◌||◌, List, [], ◌∷◌, ◌++◌, flat_map, Some, None}
use Rattle.qk_ast.specs.declared.Form.{Form}
use Rattle.qk_ast.specs.declared.Form.TheVariants.{Source, Built}
use Rattle.qk_ast.specs.declared.Module.{Module}
use Rattle.qk_ast.specs.declared.ScopeKind.{ScopeKind}
use Rattle.qk_ast.specs.declared.ScopeKind.TheVariants.{UnknownName, DuplicateName, LetCaptured, ConstAssigned, EarlyUse}
use Rattle.qk_ast.specs.Texts.{Text, same_text}
use Rattle.qk_ast.specs.Names.{is_listed, others_than}
use Rattle.qk_ast.specs.Framework.{framework, may_import, is_fixed, is_taken, is_symbol}
use Rattle.qk_ast.specs.Scopes.{Kind, Variable, Local, meaning}
use Rattle.qk_ast.specs.Mentions.{Mention, Imports, Roots, Declares, Uses, module_mentions, import_names, item_names}

-- A broken rule and the name that breaks it.
pub record Naming_breach : Type 0 where
  pub kind : ScopeKind
  pub name : Text

abbrev pub breach_if : Bool → ScopeKind → Text → List Naming_breach
breach_if true kind name = record { kind = kind; name = name } ∷ []
breach_if false kind name = []

abbrev pub is_variable : Kind → Bool
is_variable Variable = true
is_variable _ = false

-- the file is a segment: a built file that is named by a symbol, as its one item is
abbrev pub is_segment : Form → Text → Bool
is_segment Source file = false
is_segment Built file = is_symbol file

-- the names that a use at the root may mean; that of a segment's own item is none of them
abbrev pub root_names : Form → Text → Module → List Text
root_names form file m = import_names m.imports ++ elim (is_segment form file) [ true ↦ others_than (file ∷ []) (item_names m.items) | false ↦ item_names m.items ]

-- a use that means a local, and one that means a name of the root or nothing
abbrev pub local_breaches : Text → (assigned : Bool) → Local → List Naming_breach
local_breaches name assigned local = breach_if (is_variable local.kind && local.in_arrow) LetCaptured name
    ++ (breach_if (assigned && not (is_variable local.kind)) ConstAssigned name ++ breach_if (not local.ended) EarlyUse name)

abbrev pub root_breaches : Text → (assigned : Bool) → (known : Bool) → List Naming_breach
root_breaches name assigned true = breach_if assigned ConstAssigned name
root_breaches name assigned false = breach_if true UnknownName name

-- Which rules a mention breaks, in the order of the rules.
abbrev pub naming_breaches : Form → Text → List Text → Mention → List Naming_breach
naming_breaches form file roots (Imports name source earlier) =
    breach_if (is_listed name earlier || (is_taken name && not (same_text source framework && may_import form name)) || is_symbol name) DuplicateName name
naming_breaches form file roots (Roots name earlier) =
    breach_if (is_listed name earlier || is_taken name || (is_symbol name && not (is_segment form file && same_text name file))) DuplicateName name
naming_breaches form file roots (Declares name earlier) = breach_if (is_listed name earlier || is_taken name) DuplicateName name
naming_breaches form file roots (Uses name assigned scopes) =
    elim (is_fixed name) [
      | true ↦ breach_if true UnknownName name
      | false ↦ elim (meaning name scopes) [
        | Some local ↦ local_breaches name assigned local
        | None ↦ root_breaches name assigned (is_listed name roots)
      ]
    ]

-- All breaches of a module or built file of that name, in text order. It keeps the rules of names where there are none, and else is refused for the first.
abbrev pub all_naming_breaches : Form → Text → Module → List Naming_breach
all_naming_breaches form file m = flat_map (naming_breaches form file (root_names form file m)) (module_mentions m)
