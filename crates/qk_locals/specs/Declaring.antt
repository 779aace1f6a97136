-- What a table of declarations has for a name.
use Rattle.std.specs.Prelude.{Option, Some, None}
use Rattle.std.specs.Option.{option_map}
use Rattle.std.specs.Ordering.{nat_cmp}
use Rattle.std.specs.Cmp.Lexicographic.{slice_cmp}
use Rattle.std.specs.BTreeMap.{get_by}
use Rattle.qk_ast.specs.Texts.{Text}
use Rattle.qk_ast.specs.Scopes.{Kind}
use Rattle.qk_locals.specs.declared.declared.Declared.{Declared}
use Rattle.qk_locals.specs.Meanings.{kind_of}

-- the first of the two that is there
abbrev pub first_of : Option Kind → Option Kind → Option Kind
first_of (Some kind) later = Some kind
first_of None later = later

-- how the table has the name declared
unfoldable pub declared_at : Declared → Text → Option Kind
declared_at table name = option_map kind_of (get_by (λ k. slice_cmp nat_cmp name k.now) table.kinds)
