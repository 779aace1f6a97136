-- The tables beside the list of an application's modules: one for each name of a module.
use Rattle.std.specs.Prelude.{◌≡◌, ℕ, true, false, List, [], ◌∷◌, map, Option, Some, None}
use Rattle.std.specs.Option.{option_map}
use Rattle.std.specs.Borrow.{Bor}
use Rattle.std.specs.Ordering.{nat_cmp}
use Rattle.std.specs.Cmp.Lexicographic.{slice_cmp}
use Rattle.std.specs.BTreeMap.{BTreeMap, get_by}
use Rattle.qk_ast.specs.declared.Module.{Module}
use Rattle.qk_ast.specs.Texts.{Text, same_text}
use Rattle.qk_ast.specs.Sources.{Named_module}
use Rattle.qk_ast.specs.Placing.{Root_kind, item_kind}
use Rattle.qk_rules.specs.declared.roots.Roots.{Roots}
use Rattle.qk_rules.specs.Root_table.{kind_by}

abbrev pub named_of : List (Bor Text × Bor Module) → List Named_module
named_of pairs = map (λ p. (p.0.now, p.1.now)) pairs

-- the first module of this name
abbrev pub first_module : List Named_module → Text → Option Module
first_module [] name = None
first_module (m ∷ rest) name = elim (same_text m.0 name) [ true ↦ Some m.1 | false ↦ first_module rest name ]

-- what an item of a module is, where there is that module
abbrev pub module_kind : List Named_module → Text → Text → Option Root_kind
module_kind modules name q = option_map (λ m. item_kind q m.items) (first_module modules name)

abbrev pub table_at : BTreeMap (Bor (List ℕ)) Roots → Text → Option Roots
table_at tables name = get_by (λ k. slice_cmp nat_cmp name k.now) tables

abbrev pub table_kind : BTreeMap (Bor (List ℕ)) Roots → Text → Text → Option Root_kind
table_kind tables name q = option_map (λ table. kind_by table q) (table_at tables name)

-- the tables say of each name of each module what the modules say
abbrev pub HoldsKinds : BTreeMap (Bor (List ℕ)) Roots → List Named_module → Type 0
HoldsKinds tables modules = (name q : Text) → table_kind tables name q ≡ module_kind modules name q
