-- The files that are built of an application, in order, with their texts.
use Rattle.std.specs.Prelude.{ℕ, true, false, List, [], ◌∷◌, ◌++◌, map, flat_map, Option, Some, None, codes}
use Rattle.qk_ast.specs.declared.Item.{Item}
use Rattle.qk_ast.specs.declared.Expr.{Expr, Row_of-Link, more_of-Link}
use Rattle.qk_ast.specs.declared.Link.{Link}
use Rattle.qk_ast.specs.Texts.{Text, same_text}
use Rattle.qk_ast.specs.Sources.{Named_module, module_of}
use Rattle.qk_print.specs.Printing.{print_text}
use Rattle.qk_lifting.specs.declared.AppIndex.{AppIndex}
use Rattle.qk_lifting.specs.declared.Entry.{Entry}
use Rattle.qk_lifting.specs.Ordering.{comes_before}
use Rattle.qk_lifting.specs.Lifting.{place_alone}
use Rattle.qk_lifting.specs.Segments.{Segment, Lifted, lifted_module, reference_at}
use Rattle.qk_lifting.specs.Index.{index_text}

-- ---- the built modules, by their names without `build/` and `.js`

abbrev pub named_segment : Segment → Named_module
named_segment s = (s.entry.symbol, s.code)

-- what remains, then the segments by their numbers
abbrev pub built_of : Lifted → List Named_module
built_of l = (l.name, l.remainder') ∷ map named_segment l.segments

-- of all modules, in their order
abbrev pub built_modules : List Named_module → List Named_module
built_modules modules = flat_map (λ m. built_of (lifted_module m)) modules

-- ---- the index

abbrev pub put_entry : Entry → List Entry → List Entry
put_entry e [] = e ∷ []
put_entry e (f ∷ rest) = elim (comes_before e.symbol f.symbol) [ true ↦ e ∷ f ∷ rest | false ↦ f ∷ put_entry e rest ]

abbrev pub entries_in_order : List Entry → List Entry
entries_in_order [] = []
entries_in_order (e ∷ rest) = put_entry e (entries_in_order rest)

abbrev pub entries_of : Lifted → List Entry
entries_of l = map (λ s. s.entry) l.segments

-- the place of the arrow that the call of an initialiser is handed
abbrev pub or_first : Option ℕ → ℕ
or_first (Some place) = place
or_first None = 0

abbrev pub called_place : {m : _} → Row_of-Link m → ℕ
called_place (more_of-Link (Link.Call' _ all) rest) = or_first (place_alone all)
called_place _ = 0

abbrev pub handed_place : Expr → ℕ
handed_place (Expr.Post' _ head _ links) = called_place links
handed_place _ = 0

abbrev pub init_place : Text → List Item → ℕ
init_place name [] = 0
init_place name (i ∷ rest) = elim (same_text i.name name) [ true ↦ handed_place i.init | false ↦ init_place name rest ]

-- the symbol of `App` of the module `root`
abbrev pub app_symbol : List Named_module → Text
app_symbol modules = let m = module_of modules (codes "root") in (reference_at (codes "root") m (init_place (codes "App") m.items)).symbol

abbrev pub index_of : List Named_module → AppIndex
index_of modules = record { app = app_symbol modules; symbols = entries_in_order (flat_map (λ m. entries_of (lifted_module m)) modules) }

-- ---- the files

-- A file that is written.
pub record File : Type 0 where
  pub name : Text
  pub text : Text

abbrev pub file_name : Text → Text
file_name name = codes "build/" ++ (name ++ codes ".js")

abbrev pub printed : Named_module → File
printed m = record { name = file_name m.0; text = print_text m.1 }

abbrev pub index_file : AppIndex → File
index_file index = record { name = codes "build/index.json"; text = index_text index }

-- The files of a lifted module.
abbrev pub emitted : Lifted → List File
emitted l = map printed (built_of l)

-- All files of an application, the index last.
abbrev pub built_files : List Named_module → List File
built_files modules = map printed (built_modules modules) ++ index_file (index_of modules) ∷ []
