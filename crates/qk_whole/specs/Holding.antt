-- What is held of the modules: each function and name of a root stands for what the modules have there, whatever files come later.
use Rattle.std.specs.Prelude.{◌≡◌, ◌<◌, ◌≤◌, ℕ, suc, Bool, true, false, List, length, Option, Some, None, get_or, slice_get, String, IsTrue}
use Rattle.std.specs.BTreeMap.{BTreeMap, get_by_text}
use Rattle.qk_ast.specs.declared.Form.TheVariants.{Source}
use Rattle.qk_ast.specs.declared.Origin.{Origin}
use Rattle.qk_ast.specs.declared.Origin.TheVariants.{Qwik, Module}
use Rattle.qk_ast.specs.Texts.{Text, same_text}
use Rattle.qk_ast.specs.Framework.{is_symbol}
use Rattle.qk_ast.specs.Sources.{Named_module, module_of}
use Rattle.qk_ast.specs.Arrows.{item_arrows, of_kind}
use Rattle.qk_meaning.specs.Value.{Site}
use Rattle.qk_meaning.specs.Program as M
use Rattle.qk_meaning.specs.Program.{Framework, Unknown}
use Rattle.qk_meaning.specs.Roots.{found_item, root_of}
use Rattle.qk_meaning.specs.Readings.{site_spelled, lifted_root}
use Rattle.qk_modules.specs.declared.modules.NamedModule.{NamedModule}
use Rattle.qk_code.specs.declared.func.Func.{Func}
use Rattle.qk_code.specs.declared.func.Root.{Root}
use Rattle.qk_code.specs.Sources.{Sources, Extends, reading}
use Rattle.qk_code.specs.Standing.{StandsFor, Means, HasKind}
use Rattle.qk_whole.specs.declared.files.File.{File}
use Rattle.qk_whole.specs.Taking.{named, sources_of}

-- ---- functions

abbrev pub site_with : Text → Bool → ℕ → Site
site_with file dollar number = record { file = file; number = number; dollar = dollar }

-- how many arrows of a kind a module has
abbrev pub count_of : List Named_module → Text → Bool → ℕ
count_of modules file dollar = length (of_kind dollar (item_arrows (module_of modules file).items))

-- the functions of the arrows of a kind, in order
pub record Holds_kind (modules : List NamedModule) (file : Text) (dollar : Bool) (fs : List Func) : Type 0 where
  pub count : length fs ≡ count_of (named modules) file dollar
  pub stand : (n : ℕ) (f : Func) → slice_get fs n ≡ Some f → StandsFor Source (sources_of modules) (λ p. p.code (site_with file dollar (suc n))) f

-- the modules have the dollar site that the symbol spells
abbrev pub HasSite : List Named_module → Text → Type 0
HasSite modules symbol = IsTrue (is_symbol symbol) × ((site_spelled symbol).number ≤ count_of modules (site_spelled symbol).file true)

-- ---- names of roots

-- what an item of that name is in the modules
abbrev pub item_of : List Named_module → Text → Text → M.Root
item_of modules file q = found_item modules file q (module_of modules file).items

-- whatever files come later, a name that means what this item is means this
abbrev pub Means_item : List NamedModule → Text → Text → Root → Type 0
Means_item modules file q r =
    HasKind (sources_of modules) r
    × ((later : Sources) → Extends (sources_of modules) later → (at name : Text) → (reading Source later).root at name ≡ lifted_root (item_of later.files file q) → Means (reading Source later) at name r)

abbrev pub Holds_item : List NamedModule → Text → Text → Option Root → Type 0
Holds_item modules file q (Some r) = Means_item modules file q r
Holds_item modules file q None = item_of (named modules) file q ≡ Unknown

-- what a name means by its origin; one that isn't imported is an item of the file
abbrev pub by_origin : List Named_module → Text → Text → Option Origin → M.Root
by_origin modules file q None = item_of modules file q
by_origin modules file q (Some (Qwik name)) = Framework name
by_origin modules file q (Some (Module m name)) = item_of modules m name

abbrev pub Holds_origin : List NamedModule → Text → Text → Option Origin → Type 0
Holds_origin modules file q origin = (later : Sources) → Extends (sources_of modules) later → root_of later.files file q ≡ by_origin later.files file q origin

-- a name of the framework, or none
abbrev pub NoName : M.Root → Type 0
NoName (Framework name) = Unit {0}
NoName Unknown = Unit {0}
NoName _ = ⊥

-- ---- files

pub record Holds_file (modules : List NamedModule) (file : Text) (f : File) : Type 0 where
  pub dollars : Holds_kind modules file true f.functions.dollars
  pub plains : Holds_kind modules file false f.functions.plains
  pub roots : (q : Text) → Holds_item modules file q (get_by_text f.roots q)
  pub origins : (q : Text) → Holds_origin modules file q (get_by_text f.origins q)

-- there is one for each of the first modules, and no other
pub record Holds_files {Y : Type 0} (modules : List NamedModule) (done : ℕ) (files : BTreeMap (String Y) File) : Type 0 where
  pub each : (file : Text) (f : File) → get_by_text files file ≡ Some f → Holds_file modules file f
  pub all : (file : Text) → get_by_text files file ≡ None → (k : ℕ) (d : NamedModule) → k < done → same_text (get_or modules k d).name file ≡ false
