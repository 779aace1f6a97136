-- Accepted source modules: their names, what they derive from, and that no rule is broken.
use Rattle.std.specs.Prelude.{◌≡◌, ℕ, Bool, not, ◌&&◌, nat_le, List, [], All, IsTrue}
use Rattle.qk_ast.specs.declared.Form.TheVariants.{Source}
use Rattle.qk_ast.specs.declared.Module.{Module}
use Rattle.qk_ast.specs.Derives.{Derives}
use Rattle.qk_ast.specs.Framework.{is_module_name}
use Rattle.qk_ast.specs.Sources.{Named_module}
use Rattle.qk_ast.specs.Application.{application_breaches}
use Rattle.qk_ast.specs.Placing.{most_sites}
use Rattle.qk_meaning.specs.Value.{Site}

-- a text derives the module
pub record Derived (m : Module) : Type 0 where
  pub bytes : List ℕ
  pub derives : Derives Source bytes m

pub record Accepted (modules : List Named_module) : Type 0 where
  pub names : All (λ m. IsTrue (is_module_name m.0)) modules
  pub derived : All (λ m. Derived m.1) modules
  pub kept : application_breaches modules ≡ []

-- the sites that are symbols over captured values: dollar ones of modules; the others stay sites
abbrev pub lifts_in_source : Site → Bool
lifts_in_source site = site.dollar && (is_module_name site.file && nat_le site.number most_sites)

abbrev pub stays_in_source : Site → Bool
stays_in_source site = not site.dollar
