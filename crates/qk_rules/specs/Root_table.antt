-- What the names of a root are, as the program keeps it: a table of kinds, in which the first kind that a name was given counts.
use Rattle.std.specs.Prelude.{true, false, List, [], ◌∷◌, Option, Some, None}
use Rattle.std.specs.Option.{option_map}
use Rattle.std.specs.Borrow.{Bor}
use Rattle.std.specs.Ordering.{nat_cmp}
use Rattle.std.specs.Cmp.Lexicographic.{slice_cmp}
use Rattle.std.specs.BTreeMap.{get_by}
use Rattle.qk_ast.specs.declared.Import.{Import}
use Rattle.qk_ast.specs.declared.Item.{Item}
use Rattle.qk_ast.specs.Texts.{Text, same_text}
use Rattle.qk_ast.specs.Sources.{Named_module}
use Rattle.qk_ast.specs.Placing.{Root_kind, Else, kind_of_value, imported_kind}
use Rattle.qk_rules.specs.declared.roots.Roots.{Roots}
use Rattle.qk_rules.specs.Kinds_of_root.{root_kind_of}

-- ---- names with kinds

-- the first of the two that is there
abbrev pub earlier_of : Option Root_kind → Option Root_kind → Option Root_kind
earlier_of (Some kind) other = Some kind
earlier_of None other = other

abbrev pub kind_or_else : Option Root_kind → Root_kind
kind_or_else (Some kind) = kind
kind_or_else None = Else

-- a name with its kind
abbrev pub one_kind : Text → Root_kind → Text → Option Root_kind
one_kind name kind q = elim (same_text name q) [ true ↦ Some kind | false ↦ None ]

abbrev pub item_kinds : List Item → Text → Option Root_kind
item_kinds [] q = None
item_kinds (i ∷ rest) q = earlier_of (one_kind i.name (kind_of_value i.init) q) (item_kinds rest q)

abbrev pub name_kinds : (Text → Root_kind) → List Text → Text → Option Root_kind
name_kinds kind [] q = None
name_kinds kind (name ∷ rest) q = earlier_of (one_kind name (kind name) q) (name_kinds kind rest q)

abbrev pub import_kinds : List Named_module → List Import → Text → Option Root_kind
import_kinds modules [] q = None
import_kinds modules (i ∷ rest) q = earlier_of (name_kinds (imported_kind modules i.from) i.names q) (import_kinds modules rest q)

-- ---- the table

-- the kind that the table has for a name
unfoldable pub kind_at : Roots → Text → Option Root_kind
kind_at table q = option_map root_kind_of (get_by (λ k. slice_cmp nat_cmp q k.now) table.kinds)

-- a name of which the table has nothing is something else
abbrev pub kind_by : Roots → Text → Root_kind
kind_by table q = kind_or_else (kind_at table q)

-- without a table each name is something else
abbrev pub kind_from : Option (Bor Roots) → Text → Root_kind
kind_from None q = Else
kind_from (Some table) q = kind_by table.now q
