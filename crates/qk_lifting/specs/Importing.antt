-- The imports of a built file: those that it uses, from the framework first, then from the files of modules by their names.
use Rattle.std.specs.Prelude.{Bool, true, false, List, [], ◌∷◌, ◌++◌, map, codes}
use Rattle.qk_ast.specs.declared.Import.{Import}
use Rattle.qk_ast.specs.declared.Module.{Module}
use Rattle.qk_ast.specs.Texts.{Text, same_text, is_among}
use Rattle.qk_ast.specs.Names.{is_listed}
use Rattle.qk_ast.specs.Framework.{framework, built_names}
use Rattle.qk_ast.specs.Sources.{source_module}
use Rattle.qk_lifting.specs.Ordering.{in_order}

-- Where a name comes from in built files: the framework, or the file that remains of a module.
pub data Origin : Type 0 where
  From_framework : Origin
  From_module : Text → Origin

abbrev pub origin_of_source : Text → Origin
origin_of_source source = elim (same_text source framework) [ true ↦ From_framework | false ↦ From_module (source_module source) ]

-- what no import names is an item of the module's own
abbrev pub imported_origin : (file : Text) → List Import → Text → Origin
imported_origin file [] name = From_module file
imported_origin file (i ∷ rest) name = elim (is_listed name i.names) [ true ↦ origin_of_source i.from | false ↦ imported_origin file rest name ]

-- of a name that the root of the module of that name has, and of a built name
abbrev pub origin : (file : Text) → Module → Text → Origin
origin file m name = elim (is_among name built_names) [ true ↦ From_framework | false ↦ imported_origin file m.imports name ]

-- ---- names by their origin

abbrev pub module_asked : Origin → List Text
module_asked From_framework = []
module_asked (From_module file) = file ∷ []

-- the modules from which names come
abbrev pub modules_asked : (Text → Origin) → List Text → List Text
modules_asked from [] = []
modules_asked from (name ∷ rest) = module_asked (from name) ++ modules_asked from rest

abbrev pub is_of_framework : Origin → Bool
is_of_framework From_framework = true
is_of_framework (From_module file) = false

abbrev pub is_of_module : Text → Origin → Bool
is_of_module file From_framework = false
is_of_module file (From_module other) = same_text other file

abbrev pub those_from : (Origin → Bool) → (Text → Origin) → List Text → List Text
those_from is_it from [] = []
those_from is_it from (name ∷ rest) = elim (is_it (from name)) [ true ↦ name ∷ those_from is_it from rest | false ↦ those_from is_it from rest ]

-- ---- imports

-- the source of a built file: `./NAME.js`
abbrev pub built_source : Text → Text
built_source file = codes "./" ++ (file ++ codes ".js")

-- none without names
abbrev pub import_of : List Text → Text → List Import
import_of [] source = []
import_of (name ∷ rest) source = record { names = name ∷ rest; from = source } ∷ []

abbrev pub module_import : (Text → Origin) → List Text → Text → Import
module_import from names file = record { names = in_order (those_from (is_of_module file) from names); from = built_source file }

-- the imports of these names, each of which comes from there
abbrev pub imports_of : (Text → Origin) → List Text → List Import
imports_of from names = import_of (in_order (those_from is_of_framework from names)) framework ++ map (module_import from names) (in_order (modules_asked from names))
