-- Modules by their names, and the sources by which they are imported.
use Rattle.std.specs.Prelude.{Bool, true, false, ◌&&◌, ◌==◌, List, [], ◌∷◌, ◌++◌, drop, codes}
use Rattle.qk_ast.specs.declared.Module.{Module}
use Rattle.qk_ast.specs.Texts.{Text, same_text}
use Rattle.qk_ast.specs.Framework.{is_module_name}

-- a module by its name
abbrev pub Named_module : Type 0
Named_module = Text × Module

abbrev pub empty_module : Module
empty_module = record { imports = []; items = [] }

abbrev pub module_of : List Named_module → Text → Module
module_of [] name = empty_module
module_of (m ∷ rest) name = elim (same_text m.0 name) [ true ↦ m.1 | false ↦ module_of rest name ]

-- the module named by a source such as `./cell.jsx` or `./cell.js`
abbrev pub up_to_dot : Text → Text
up_to_dot [] = []
up_to_dot (c ∷ rest) = elim (c == 46) [ true ↦ [] | false ↦ c ∷ up_to_dot rest ]

abbrev pub source_module : Text → Text
source_module t = up_to_dot (drop 2 t)

-- the source is that of a module, as it is written: `./NAME.jsx`
abbrev pub is_module_source : Text → Bool
is_module_source t = is_module_name (source_module t) && same_text t (codes "./" ++ (source_module t ++ codes ".jsx"))
