-- Where an imported name comes from.
use Rattle.std.specs.Prelude.{true, false, List, [], ◌∷◌, Option, Some, None}
use Rattle.qk_ast.specs.declared.Imported.{Imported}
use Rattle.qk_ast.specs.declared.Origin.{Origin}
use Rattle.qk_ast.specs.Texts.{Text, same_text}

-- the first of the name
abbrev pub origin_in : List Imported → Text → Option Origin
origin_in [] q = None
origin_in (e ∷ rest) q = elim (same_text e.name q) [ true ↦ Some e.origin | false ↦ origin_in rest q ]
