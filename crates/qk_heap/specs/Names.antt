-- The names of an object, as `Object.keys` lists them.
use Rattle.std.specs.Prelude.{ℕ, List, [], ◌∷◌, Option, Some, None}
use Rattle.std.specs.BTreeMap.{insert_entry}
use Rattle.std.specs.Ordering.{nat_cmp}
use Rattle.qk_ast.specs.Texts.{Text}
use Rattle.qk_meaning.specs.World.{Object, Plain, Props}
use Rattle.qk_meaning.specs.Parts.{names_of}
use Rattle.qk_meaning.specs.Texts.{array_index}
use Rattle.qk_value.specs.declared.value.Value.{Value}

-- the names of a plain object and of props
abbrev pub object_names : Object → Option (List Text)
object_names (Plain fields) = Some (names_of fields)
object_names (Props fields) = Some (names_of fields)
object_names _ = None

-- ---- words of the steps

-- the names that are array indexes, by their numbers, put among others
abbrev pub indexed : List (ℕ × Text) → List (Text × Value) → List (ℕ × Text)
indexed done [] = done
indexed done (e ∷ rest) = elim (array_index e.0) [ Some i ↦ indexed (insert_entry nat_cmp done i e.0) rest | None ↦ indexed done rest ]

-- the other names, in order
abbrev pub unindexed : List (Text × Value) → List Text
unindexed [] = []
unindexed (e ∷ rest) = elim (array_index e.0) [ Some i ↦ unindexed rest | None ↦ e.0 ∷ unindexed rest ]
