-- What the modules of an application break: first the rules of names in all modules, then those of places.
use Rattle.std.specs.Prelude.{List, ◌++◌, map, flat_map}
use Rattle.qk_ast.specs.declared.Form.TheVariants.{Source}
use Rattle.qk_ast.specs.Texts.{Text}
use Rattle.qk_ast.specs.Sources.{Named_module}
use Rattle.qk_ast.specs.Naming.{Naming_breach, all_naming_breaches}
use Rattle.qk_ast.specs.Placing.{Placing_breach, all_placing_breaches, root_kind}

-- A breach in the module of that name.
pub data Breach : Type 0 where
  Of_names : Text → Naming_breach → Breach
  Of_places : Text → Placing_breach → Breach

abbrev pub naming_of : Named_module → List Breach
naming_of m = map (Of_names m.0) (all_naming_breaches Source m.0 m.1)

abbrev pub placing_of : List Named_module → Named_module → List Breach
placing_of modules m = map (Of_places m.0) (all_placing_breaches m.0 (root_kind modules m.1) m.1)

-- The modules keep all rules where there are none, and else they are refused for the first.
abbrev pub application_breaches : List Named_module → List Breach
application_breaches modules = flat_map naming_of modules ++ flat_map (placing_of modules) modules
