-- Whether the built files of an application are built files of its index, each behind all of them.
use Rattle.std.specs.Prelude.{Bool, true, false, ◌&&◌, List, [], ◌∷◌}
use Rattle.qk_ast.specs.declared.Form.TheVariants.{Built}
use Rattle.qk_ast.specs.Sources.{Named_module}
use Rattle.qk_ast.specs.Naming.{Naming_breach, all_naming_breaches}
use Rattle.qk_lifting.specs.declared.AppIndex.{AppIndex}
use Rattle.qk_lifting.specs.Index.{is_index}
use Rattle.qk_lifting.specs.Files.{index_of}
use Rattle.qk_lifting.specs.Built_file.{Read_file, fits_index}
use Rattle.qk_lifting.specs.Built_application.{read_modules}

abbrev none_broken : List Naming_breach → Bool
none_broken [] = true
none_broken (breach ∷ rest) = false

abbrev pub is_built : AppIndex → List Read_file → Read_file → Bool
is_built index before f = none_broken (all_naming_breaches Built f.name f.code) && fits_index index before f

abbrev all_built : AppIndex → List Read_file → List Read_file → Bool
all_built index all [] = true
all_built index all (f ∷ rest) = is_built index all f && all_built index all rest

abbrev pub keeps : List Named_module → Bool
keeps modules = is_index (index_of modules) && all_built (index_of modules) (read_modules modules) (read_modules modules)
