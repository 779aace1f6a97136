-- A list of texts, each once: how it grows.
use Rattle.std.specs.Prelude.{true, false, List, [], ◌∷◌, ◌++◌}
use Rattle.qk_ast.specs.declared.Import.{Import}
use Rattle.qk_ast.specs.Texts.{Text, same_text}
use Rattle.qk_ast.specs.Framework.{framework}
use Rattle.qk_ast.specs.Names.{is_listed}

-- one more text, which goes last where it is new
abbrev pub with_source : List Text → Text → List Text
with_source all t = elim (is_listed t all) [ true ↦ all | false ↦ all ++ t ∷ [] ]

abbrev pub with_sources : List Text → List Text → List Text
with_sources all [] = all
with_sources all (t ∷ rest) = with_sources (with_source all t) rest

-- with the source of an import, where that isn't the framework's
abbrev pub with_import : List Text → Import → List Text
with_import all i = elim (same_text i.from framework) [ true ↦ all | false ↦ with_source all i.from ]

abbrev pub with_imports : List Text → List Import → List Text
with_imports all [] = all
with_imports all (i ∷ rest) = with_imports (with_import all i) rest
