-- What is known of a module, and which functions are of it.
use Rattle.std.specs.Prelude.{◌≡◌, ℕ, Bool, true, false, List, map, get_or, All}
use Rattle.qk_ast.specs.declared.Site.{Site}
use Rattle.qk_ast.specs.declared.Form.TheVariants.{Source}
use Rattle.qk_ast.specs.Arrows.{Found_arrow, item_arrows, of_kind}
use Rattle.qk_captures.specs.Capturing.{captured_in}
use Rattle.qk_meaning.specs.Sites.{code_from}
use Rattle.qk_modules.specs.declared.modules.NamedModule.{NamedModule}
use Rattle.qk_modules.specs.Importing.{imported}
use Rattle.qk_code.specs.declared.func.Func.{Func}
use Rattle.qk_code.specs.Standing.{code_of}
use Rattle.qk_whole.specs.declared.known.Known.{Known}
use Rattle.qk_whole.specs.Elsewhere.{elsewhere_of}

-- this is known of the module
pub record Tells (known : Known) (m : NamedModule) : Type 0 where
  pub file : known.file ≡ m.name
  pub names : known.names.captures ≡ captured_in Source m.name m.module
  pub elsewhere : known.elsewhere ≡ elsewhere_of m.name (item_arrows m.module.items)
  pub imports : known.imports.entries ≡ imported m.module.imports

-- the site of the arrow at a place
abbrev pub site_at : Known → ℕ → Site
site_at known place = (get_or known.names.captures place known.elsewhere).site

-- the function is one of the module of which this is known
pub record IsOf (known : Known) (f : Func) : Type 0 where
  pub file : f.file ≡ known.file
  pub names : f.names ≡ known.names
  pub elsewhere : f.elsewhere ≡ known.elsewhere
  pub imports : f.imports ≡ known.imports

-- the functions are of the arrows of a kind, in order
pub record IsKind (known : Known) (dollar : Bool) (found : List Found_arrow) (fs : List Func) : Type 0 where
  pub codes : map code_of fs ≡ map (code_from known.file) (of_kind dollar found)
  pub each : All (IsOf known) fs

-- both kinds
pub record AreOf (known : Known) (found : List Found_arrow) (dollars plains : List Func) : Type 0 where
  pub of_dollars : IsKind known true found dollars
  pub of_plains : IsKind known false found plains
