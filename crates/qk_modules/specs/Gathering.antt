-- The modules that `root.jsx` reaches, and why an application is refused before its names are looked at.
use Rattle.std.specs.Prelude.{◌≡◌, ◌≤◌, ℕ, Bool, true, false, not, ◌&&◌, IsTrue, IsFalse, List, [], ◌∷◌, ◌++◌, codes, map, length, All, Option, Some, None, slice_get, unwrap_or, Result, Ok, Err}
use Rattle.std.specs.List.{list_any, find}
use Rattle.std.specs.Option.{option_map}
use Rattle.std.specs.Str.{IsUtf8}
use Rattle.qk_ast.specs.declared.Form.TheVariants.{Source}
use Rattle.qk_ast.specs.declared.Import.{Import}
use Rattle.qk_ast.specs.declared.Item.{Item}
use Rattle.qk_ast.specs.declared.Module.{Module}
use Rattle.qk_ast.specs.Derives.{Derives}
use Rattle.qk_ast.specs.Texts.{Text, same_text, is_among}
use Rattle.qk_ast.specs.Names.{each_once}
use Rattle.qk_ast.specs.Framework.{framework, framework_names, is_module_name}
use Rattle.qk_ast.specs.Sources.{source_module, is_module_source}
use Rattle.qk_store.specs.Files.{Files}
use Rattle.qk_store.specs.Answers.{Content, gone, too_long, bytes, reading, Answer}
use Rattle.qk_parse.specs.declared.parse.ParseFault.{ParseFault}
use Rattle.qk_parse.specs.declared.parse.ParseFault.TheVariants as parse
use Rattle.qk_parse.specs.Parsing.{Refused, NoneDerived}
use Rattle.qk_modules.specs.Places.{place_of, beginning}
use Rattle.qk_modules.specs.declared.modules.NamedModule.{NamedModule}
use Rattle.qk_modules.specs.declared.modules.Modules.{Modules}
use Rattle.qk_modules.specs.declared.fault.GatherFault.{GatherFault}
use Rattle.qk_modules.specs.declared.fault.GatherFault.TheVariants.{RootMissing, ImportMissing, ExportMissing, NotUtf8, Parse, TooMany, Store, Memory}

-- ---- names, sources, files

abbrev pub root : Text
root = codes "root"

-- the file of a module, and the source by which others import it
abbrev pub file_of : Text → Text
file_of name = name ++ codes ".jsx"

abbrev pub source_of : Text → Text
source_of name = codes "./" ++ file_of name

-- the module that the source names
abbrev pub named_by : (source : Text) → Option Text
named_by source = elim (is_module_source source) [ true ↦ Some (source_module source) | false ↦ None ]

-- ---- the list of an application's modules

-- the sources of modules that the imports name, in order
abbrev pub sources_in : List Import → List Text
sources_in [] = []
sources_in (i ∷ rest) = elim (same_text i.from framework) [ true ↦ sources_in rest | false ↦ i.from ∷ sources_in rest ]

abbrev pub all_sources : List NamedModule → List Text
all_sources [] = []
all_sources (m ∷ rest) = sources_in m.module.imports ++ all_sources rest

-- the sources of all modules that stand in the list so far or are named there: the root, then each by its first import
abbrev pub listed : List NamedModule → List Text
listed modules = each_once [] (source_of root ∷ all_sources modules)

-- A module that was read: its name, its text, and what that derives.
pub record Read_module : Type 0 where
  pub name : Text
  pub text : Text
  pub tree : Module

abbrev pub named : Read_module → NamedModule
named m = record { name = m.name; «module» = m.tree }

-- no module of the list is left
abbrev pub IsWhole : List Read_module → Type 0
IsWhole read = map (λ m. source_of m.name) read ≡ listed (map named read)

-- it is this one's turn: of the list by those that were read it is the next
abbrev pub IsNext : List Read_module → (source : Text) → Type 0
IsNext read source = slice_get (listed (map named read)) (length read) ≡ Some source

-- behind those before, each of the others was read at its turn
abbrev pub InTurn : (before others : List Read_module) → Type 0
InTurn before [] = Unit {0}
InTurn before (m ∷ others) = IsNext before (source_of m.name) × InTurn (before ++ m ∷ []) others

-- Modules that were read: each at its turn, from the root on. They are 256 at most.
pub record IsFront (read : List Read_module) : Type 0 where
  pub turns : InTurn [] read
  pub names : All (λ m. IsTrue (is_module_name m.name)) read
  pub utf8 : All (λ m. IsUtf8 m.text) read
  pub derived : All (λ m. Derives Source m.text m.tree) read
  pub few : length read ≤ 256

-- ---- what is read

-- the file of a module was read, of at most 1 MiB, and so it was found
abbrev pub read_as : (name : Text) → Content → Answer
read_as name found = record { name = file_of name; most = 1048576; found = found }

abbrev pub read_of : Read_module → Answer
read_of m = read_as m.name (bytes m.text)

-- the answer is true of the files
abbrev pub IsTold : Files → Answer → Type 0
IsTold told a = a.found ≡ reading (told a.name) a.most

-- ---- what a module exports

abbrev pub exported_in : List Item → (name : Text) → Bool
exported_in items name = list_any (λ i. i.exported && same_text i.name name) items

-- the module of that name exports the name
abbrev pub one_exports : List NamedModule → (m name : Text) → Bool
one_exports modules m name = list_any (λ n. same_text n.name m && exported_in n.module.items name) modules

-- the framework, or the module that the source names, exports the name
abbrev pub is_exported : List NamedModule → (source name : Text) → Bool
is_exported modules source name =
    elim (same_text source framework) [
      | true ↦ is_among name framework_names
      | false ↦ elim (named_by source) [ Some m ↦ one_exports modules m name | None ↦ false ]
    ]

-- the first name of an import that its source doesn't export
abbrev pub missing_name : (exported : Text → Text → Bool) → Import → Option Text
missing_name exported i = find (λ name. not (exported i.from name)) i.names

abbrev pub missing_in : (exported : Text → Text → Bool) → List Import → Option Text
missing_in exported [] = None
missing_in exported (i ∷ rest) = elim (missing_name exported i) [ Some name ↦ Some name | None ↦ missing_in exported rest ]

-- the first such name, and the module that imports it
abbrev pub missing_of : (exported : Text → Text → Bool) → List NamedModule → Option (Text × Text)
missing_of exported [] = None
missing_of exported (m ∷ rest) = elim (missing_in exported m.module.imports) [ Some name ↦ Some (m.name, name) | None ↦ missing_of exported rest ]

-- the same, where `App` of the root is wanted last
abbrev pub first_missing : List NamedModule → Option (Text × Text)
first_missing modules =
    elim (missing_of (is_exported modules) modules) [
      | Some p ↦ Some p
      | None ↦ elim (one_exports modules root (codes "App")) [ true ↦ None | false ↦ Some (root, codes "App") ]
    ]

-- ---- refusals

abbrev pub imports_from : (source : Text) → NamedModule → Bool
imports_from source m = list_any (λ i. same_text i.from source) m.module.imports

-- there is no module of this source: it is the root, or the first module that imports it wants it
abbrev pub absence : List NamedModule → (source : Text) → GatherFault
absence [] source = RootMissing
absence (m ∷ rest) source = ImportMissing (unwrap_or (find (imports_from source) (m ∷ rest)) m).name source

-- The text of a module is refused, where so many modules stand before it.
pub data RefusedText (before : ℕ) (name text : Text) : GatherFault → Type 0 where
  not_utf8 : ¬ IsUtf8 text → RefusedText before name text (NotUtf8 name)
  unparsed : {fault : ParseFault} → IsUtf8 text → Refused Source text fault → NoneDerived Source text fault → ¬ (fault ≡ parse.Memory) → RefusedText before name text (Parse name fault (place_of text fault))
  too_many : {m : Module} → 256 ≤ before → Derives Source text m → RefusedText before name text TooMany
  want : RefusedText before name text Memory

-- A module is refused at its turn, when these stand before it, and this was read for it.
pub data RefusedTurn (modules : List NamedModule) (source : Text) : List Answer → GatherFault → Type 0 where
  -- the source is none of a module
  no_source : IsFalse (is_module_source source) → RefusedTurn modules source [] (absence modules source)
  no_file : IsTrue (is_module_source source) → RefusedTurn modules source (read_as (source_module source) gone ∷ []) (absence modules source)
  long : IsTrue (is_module_source source) → RefusedTurn modules source (read_as (source_module source) too_long ∷ []) (Parse (source_module source) parse.TooLong beginning)
  text : {t : Text} {fault : GatherFault} → IsTrue (is_module_source source) → RefusedText (length modules) (source_module source) t fault → RefusedTurn modules source (read_as (source_module source) (bytes t) ∷ []) fault
  failed : RefusedTurn modules source [] Store
  want : RefusedTurn modules source [] Memory
  want_behind : (found : Content) → IsTrue (is_module_source source) → RefusedTurn modules source (read_as (source_module source) found ∷ []) Memory

-- ---- the answer

-- How it ends, where these modules were read, and this behind them.
pub data Ends (read : List Read_module) : List Answer → Result Modules GatherFault → Type 0 where
  all : IsWhole read → first_missing (map named read) ≡ None → Ends read [] (Ok (record { list = map named read }))
  unexported : {m name : Text} → IsWhole read → first_missing (map named read) ≡ Some (m, name) → Ends read [] (Err (ExportMissing m name))
  refused : {source : Text} {last : List Answer} {fault : GatherFault} → IsNext read source → RefusedTurn (map named read) source last fault → Ends read last (Err fault)
  want : Ends read [] (Err Memory)

abbrev pub behind : List Answer → List Answer → List Answer
behind more past = past ++ more

-- What gathering answers over a store of these files, if it tells them; before and after it the store has answered that, if it tells it.
pub record Gathers (files : Option Files) (before after : Option (List Answer)) (result : Result Modules GatherFault) : Type 0 where
  pub read : List Read_module
  pub last : List Answer
  pub front : IsFront read
  pub answered : after ≡ option_map (behind (map read_of read ++ last)) before
  pub told : (told : Files) → files ≡ Some told → All (IsTold told) (map read_of read ++ last)
  pub ends : Ends read last result

-- What gathering answers over a store of these files, whatever else the store tells.
pub record GathersOver (files : Files) (result : Result Modules GatherFault) : Type 0 where
  pub read : List Read_module
  pub last : List Answer
  pub front : IsFront read
  pub told : All (IsTold files) (map read_of read ++ last)
  pub ends : Ends read last result
