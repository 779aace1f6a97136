-- What it is that what a code gave stands for a piece of code, or for what a root's name means.
use Rattle.std.specs.Prelude.{◌≡◌, ◌<◌, ◌≤◌, ℕ, Bool, true, false, List, [], ◌∷◌, length, Option, Some, None, get_or}
use Rattle.qk_ast.specs.declared.Form.{Form}
use Rattle.qk_ast.specs.declared.Form.TheVariants.{Source, Built}
use Rattle.qk_ast.specs.declared.Imported.{Imported}
use Rattle.qk_ast.specs.declared.Origin.{Origin}
use Rattle.qk_ast.specs.declared.Origin.TheVariants.{Qwik}
use Rattle.qk_ast.specs.Texts.{same_text}
use Rattle.qk_ast.specs.declared.Site.{Site}
use Rattle.qk_ast.specs.Arrows.{Found_arrow, item_arrows, built_arrows, of_kind}
use Rattle.qk_ast.specs.Sources.{module_of}
use Rattle.qk_captures.specs.declared.Captured.{Captured}
use Rattle.qk_meaning.specs.Value as M
use Rattle.qk_meaning.specs.Value.{Text, Fields}
use Rattle.qk_meaning.specs.Parts.{packed, picked, zipped}
use Rattle.qk_meaning.specs.Program.{Program, Code, Framework, Holds, Shows, symbol_of, captures_in}
use Rattle.qk_meaning.specs.Index.{For_component}
use Rattle.qk_value.specs.View.{seen, is_distinct}
use Rattle.qk_code.specs.declared.func.Func.{Func}
use Rattle.qk_code.specs.declared.func.Root.{Root}
use Rattle.qk_code.specs.declared.stop.CodeFault.{CodeFault}
use Rattle.qk_code.specs.declared.stop.CodeFault.TheVariants.{Missing, Bad, Store, Memory}
use Rattle.qk_code.specs.Sources.{Sources, Extends, reading}

-- an arrow as it is entered
abbrev pub code_of : Func → Code
code_of f = record { file = f.file; captures = f.captures; task = f.task; params = f.arrow.params; body = f.arrow.body }

abbrev pub site_seen : Site → M.Site
site_seen s = record { file = s.«module»; number = s.number; dollar = s.dollar }

-- a function keeps the values that it captures: a dollar function by its symbol, a plain one by their names
abbrev pub keeping : (dollar : Bool) → M.Site → List Text → Fields → M.Value
keeping true site names scope = M.Lifted (symbol_of site) (packed (picked names scope)) false
keeping false site names scope = M.Closure site (zipped names (picked names scope)) false

-- what is known of the arrow at a place of the function's file
abbrev pub known_at : Func → ℕ → Captured
known_at f place = get_or f.names.captures place f.elsewhere

-- the name of the framework that a name is by an import table, where it is one
abbrev pub framework_by : Origin → Option Text
framework_by (Qwik other) = Some other
framework_by _ = None

abbrev pub framework_in : List Imported → Text → Option Text
framework_in [] name = None
framework_in (e ∷ rest) name = elim (same_text e.name name) [ true ↦ framework_by e.origin | false ↦ framework_in rest name ]

-- what is known of a program where a function's file says what each of its arrows is, by its place, and from where each name is imported
pub record Knows (p : Program) (f : Func) : Type 0 where
  pub site : (place : ℕ) → p.site f.file place ≡ site_seen (known_at f place).site
  pub file : (place : ℕ) → (known_at f place).site.«module» ≡ f.file
  pub captures : (place : ℕ) → captures_in p (site_seen (known_at f place).site) ≡ (known_at f place).names
  pub distinct : (place : ℕ) → is_distinct (known_at f place).names ≡ true
  pub makes : (place : ℕ) (scope : Fields) → p.makes (site_seen (known_at f place).site) scope ≡ keeping (known_at f place).site.dollar (site_seen (known_at f place).site) (known_at f place).names scope
  pub framework : (name other : Text) → framework_in f.imports.entries name ≡ Some other → p.root f.file name ≡ Framework other
  pub others : (name other : Text) → framework_in f.imports.entries name ≡ None → p.root f.file name ≡ Framework other → ⊥

-- this code is the function's
pub record Stands (p : Program) (code : Code) (f : Func) : Type 0 where
  pub is : code ≡ code_of f
  pub distinct : is_distinct f.captures ≡ true
  pub knows : Knows p f

-- it is, whatever files come later
abbrev pub StandsFor : Form → Sources → (Program → Code) → Func → Type 0
StandsFor form sources code f = (later : Sources) → Extends sources later → Stands (reading form later) (code (reading form later)) f

-- a name of a file's root is this plain arrow, which captures nothing
pub record Is_arrow (p : Program) (file name : Text) (f : Func) : Type 0 where
  pub is : p.root file name ≡ Holds (M.Closure (p.site f.file f.arrow.place) M.end false)
  pub plain : (p.site f.file f.arrow.place).dollar ≡ false
  pub captures : f.captures ≡ []
  pub stands : Stands p (p.code (p.site f.file f.arrow.place)) f

-- what a name of a file's root means: an arrow, fixed data, the text of a context's id, a component
abbrev pub Means : Program → Text → Text → Root → Type 0
Means p file name (Root.Fn f) = Is_arrow p file name f
Means p file name (Root.Literal v) = p.root file name ≡ Holds (seen (captures_in p) v)
Means p file name (Root.Context id) = p.root file name ≡ Holds (M.Words id)
Means p file name (Root.Component symbol) = p.root file name ≡ Shows (M.Lifted_component symbol)

-- it does, whatever files come later
abbrev pub MeansIn : Form → Sources → Text → Text → Root → Type 0
MeansIn form sources file name r = (later : Sources) → Extends sources later → Means (reading form later) file name r

-- a component is a symbol that the index has as one
abbrev pub HasKind : Sources → Root → Type 0
HasKind sources (Root.Component symbol) = sources.index.kind_of symbol ≡ For_component
HasKind sources _ = Unit {0}

-- ---- the plain arrows of a file

abbrev pub plain_arrows : Form → Sources → Text → List Found_arrow
plain_arrows Source s file = of_kind false (item_arrows (module_of s.files file).items)
plain_arrows Built s file = of_kind false (built_arrows (module_of s.files file).items)

-- the file has a plain arrow of that number
abbrev pub HasPlain : Form → Sources → Text → ℕ → Type 0
HasPlain form s file number = (0 < number) × (number ≤ length (plain_arrows form s file))

-- a plain arrow is missing exactly where the file has none of that number; nothing is read for it, so nothing else is refused
abbrev pub LacksPlain : Form → Sources → Text → ℕ → CodeFault → Type 0
LacksPlain form s file number (Missing missed) = (missed ≡ file) × (¬ HasPlain form s file number)
LacksPlain form s file number (Bad _) = ⊥
LacksPlain form s file number Store = ⊥
LacksPlain form s file number Memory = Unit {0}
