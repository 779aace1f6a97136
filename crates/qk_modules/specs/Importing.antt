-- Where the imported names of a module come from.
use Rattle.std.specs.Prelude.{true, false, List, [], ◌∷◌, ◌++◌, map}
use Rattle.qk_ast.specs.declared.Import.{Import}
use Rattle.qk_ast.specs.declared.Imported.{Imported}
use Rattle.qk_ast.specs.declared.Origin.{Origin}
use Rattle.qk_ast.specs.declared.Origin.TheVariants.{Qwik, Module}
use Rattle.qk_ast.specs.Texts.{Text}
use Rattle.qk_ast.specs.Sources.{source_module, is_module_source}

-- the source of a module names it; any other is that of the framework
abbrev pub origin_of : (source name : Text) → Origin
origin_of source name = elim (is_module_source source) [ true ↦ Module (source_module source) name | false ↦ Qwik name ]

abbrev pub imported_by : (source : Text) → List Text → List Imported
imported_by source names = map (λ name. record { name = name; origin = origin_of source name }) names

-- each imported name with its origin, in the order of the text
abbrev pub imported : List Import → List Imported
imported [] = []
imported (i ∷ rest) = imported_by i.from i.names ++ imported rest
