-- Which bytes are a built file of an index.
use Rattle.std.specs.Prelude.{◌≡◌, ℕ, ◌+◌, Bool, true, false, not, ◌&&◌, ◌||◌, ◌==◌, nat_le, List, [], ◌∷◌, ◌++◌, length, Option, Some, None, codes, IsTrue}
use Rattle.qk_ast.specs.declared.Form.TheVariants.{Built}
use Rattle.qk_ast.specs.declared.Module.{Module}
use Rattle.qk_ast.specs.declared.Import.{Import}
use Rattle.qk_ast.specs.declared.Item.{Item as Root_item}
use Rattle.qk_ast.specs.declared.Pattern.{Pattern}
use Rattle.qk_ast.specs.declared.Expr.{Expr, Row_of-Expr, end_of-Expr, more_of-Expr, more_of-Arrow}
use Rattle.qk_ast.specs.declared.Body.{Body}
use Rattle.qk_ast.specs.Texts.{Text, same_text}
use Rattle.qk_ast.specs.Names.{scope_names}
use Rattle.qk_ast.specs.Derives.{Derives}
use Rattle.qk_ast.specs.Framework.{framework}
use Rattle.qk_ast.specs.Sources.{source_module}
use Rattle.qk_ast.specs.Naming.{all_naming_breaches}
use Rattle.qk_ast.specs.Scopes.{is_track}
use Rattle.qk_ast.specs.Spots.{Standing, Argument, Called, With, Spot, Named}
use Rattle.qk_ast.specs.Placing.{Root_kind, A_component, A_context, Else}
use Rattle.qk_lifting.specs.declared.AppIndex.{AppIndex}
use Rattle.qk_lifting.specs.declared.Entry.{Entry}
use Rattle.qk_lifting.specs.declared.SegmentKind.{SegmentKind}
use Rattle.qk_lifting.specs.declared.SegmentKind.TheVariants.{Component, Task, Computed, Fn}
use Rattle.qk_lifting.specs.Index.{entry_in, has_symbol}
use Rattle.qk_lifting.specs.Hooks.{hook_letters}
use Rattle.qk_lifting.specs.Built_spots.{built_spots, used_as}
use Rattle.qk_lifting.specs.Built_places.{places_stand, built_kind_of}

-- A file that is read: its name without `build/` and `.js`, its entry where it is a segment, and its module.
pub record Read_file : Type 0 where
  pub name : Text
  pub entry : Option Entry
  pub code : Module

abbrev pub kind_of_file : Option Entry → Option SegmentKind
kind_of_file (Some e) = Some e.kind
kind_of_file None = None

abbrev pub spots_of : Read_file → List Spot
spots_of f = built_spots (kind_of_file f.entry) f.code

-- ---- each `qrl` by the index

-- the kind whose `qrl` stands there
abbrev pub kind_asked : Standing → SegmentKind
kind_asked (Argument callee first) =
    elim (same_text callee (codes "componentQrl")) [
      | true ↦ Component
      | false ↦ elim (same_text callee (codes "useTaskQrl")) [ true ↦ Task | false ↦ elim (same_text callee (codes "useComputedQrl")) [ true ↦ Computed | false ↦ Fn ] ]
    ]
kind_asked _ = Fn

abbrev pub same_kind : SegmentKind → SegmentKind → Bool
same_kind Component Component = true
same_kind Task Task = true
same_kind Computed Computed = true
same_kind Fn Fn = true
same_kind _ _ = false

abbrev pub expressions : {m : _} → Row_of-Expr m → ℕ
expressions end_of-Expr = 0
expressions (more_of-Expr e rest) = 1 + expressions rest

-- a symbol of the index, its number of captures, its kind
abbrev pub names_entry : AppIndex → Called → Standing → Bool
names_entry index (With (Expr.Text symbol ∷ Expr.List' _ names ∷ []) whole) standing =
    has_symbol index.symbols symbol && ((entry_in index.symbols symbol).captures == expressions names) && same_kind (entry_in index.symbols symbol).kind (kind_asked standing)
names_entry index _ standing = false

abbrev pub reference_stands : AppIndex → Spot → Bool
reference_stands index (Named name call standing scopes) = not (same_text name (codes "qrl")) || names_entry index call standing
reference_stands index _ = true

abbrev pub references_stand : AppIndex → List Spot → Bool
references_stand index [] = true
references_stand index (spot ∷ rest) = reference_stands index spot && references_stand index rest

-- ---- a segment by its entry

abbrev pub allows : SegmentKind → List Pattern → Bool
allows Component params = nat_le (length params) 1
allows Task params = (length params == 0) || is_track params
allows Computed params = length params == 0
allows Fn params = true

abbrev pub hooks_of : SegmentKind → Body → Text
hooks_of Component body = hook_letters body
hooks_of _ body = []

abbrev pub is_own_arrow : Entry → Expr → Bool
is_own_arrow e (Expr.Arrow' _ (more_of-Arrow place params body _)) = (length (scope_names body) == e.captures) && allows e.kind params && same_text (hooks_of e.kind body) e.hooks
is_own_arrow e _ = false

-- the one item, exported under its symbol
abbrev pub is_segment_of : Entry → List Root_item → Bool
is_segment_of e (i ∷ []) = i.exported && same_text i.name e.symbol && is_own_arrow e i.init
is_segment_of e _ = false

abbrev pub fits_entry : Option Entry → Module → Bool
fits_entry (Some e) m = is_segment_of e m.items
fits_entry None m = true

-- ---- what files ask of one another

-- A name asked of a file, and what it is used as; a name that isn't used is asked as whatever it is.
pub record Ask : Type 0 where
  pub of_file : Text
  pub name : Text
  pub as_what : Option Root_kind

abbrev pub asks_for : List Spot → Text → List Text → List Ask
asks_for spots file [] = []
asks_for spots file (name ∷ rest) = record { of_file = file; name = name; as_what = used_as name spots } ∷ asks_for spots file rest

abbrev pub import_asks : List Spot → List Import → List Ask
import_asks spots [] = []
import_asks spots (i ∷ rest) = elim (same_text i.from framework) [ true ↦ import_asks spots rest | false ↦ asks_for spots (source_module i.from) i.names ++ import_asks spots rest ]

abbrev pub asks_of : Read_file → List Ask
asks_of f = import_asks (spots_of f) f.code.imports

abbrev pub same_root_kind : Root_kind → Root_kind → Bool
same_root_kind A_component A_component = true
same_root_kind A_context A_context = true
same_root_kind Else Else = true
same_root_kind _ _ = false

abbrev pub is_as : Option Root_kind → Expr → Bool
is_as (Some kind) e = same_root_kind kind (built_kind_of e)
is_as None e = true

abbrev pub exports : List Root_item → Ask → Bool
exports [] a = false
exports (i ∷ rest) a = (i.exported && same_text i.name a.name && is_as a.as_what i.init) || exports rest a

-- what the asks want of that file is exported there
abbrev pub answers : Read_file → List Ask → Bool
answers f [] = true
answers f (a ∷ rest) = (not (same_text a.of_file f.name) || exports f.code.items a) && answers f rest

-- the file asks itself and those before it only for what is there, and has what those before it ask
abbrev pub agrees_with : Read_file → List Read_file → Bool
agrees_with f [] = answers f (asks_of f)
agrees_with f (g ∷ rest) = answers g (asks_of f) && answers f (asks_of g) && agrees_with f rest

-- ---- the whole

-- A module keeps what the index and the files before it ask, besides the rules of names.
abbrev pub fits_index : AppIndex → List Read_file → Read_file → Bool
fits_index index before f =
    places_stand (kind_of_file f.entry) f.code && references_stand index (spots_of f) && fits_entry f.entry f.code && agrees_with f before

-- The bytes are a built file of that name and entry, behind those that were read before.
pub record Built_file (index : AppIndex) (before : List Read_file) (name : Text) (entry : Option Entry) (bytes : List ℕ) : Type 0 where
  pub code : Module
  pub derived : Derives Built bytes code
  pub names : all_naming_breaches Built name code ≡ []
  pub fits : IsTrue (fits_index index before (record { name = name; entry = entry; code = code }))
