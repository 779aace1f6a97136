-- Which applications are taken, and what they are to code.
use Rattle.std.specs.Prelude.{◌≡◌, ◌||◌, List, map, All, IsTrue}
use Rattle.qk_ast.specs.Texts.{Text, same_text}
use Rattle.qk_ast.specs.Framework.{framework}
use Rattle.qk_ast.specs.Sources.{Named_module, is_module_source}
use Rattle.qk_modules.specs.declared.modules.NamedModule.{NamedModule}
use Rattle.qk_application.specs.declared.application.Application.{Application}
use Rattle.qk_application.specs.Accepting.{named_module, names_of}
use Rattle.qk_source_alike.specs.Accepted.{Accepted}
use Rattle.qk_code.specs.Sources.{Sources}
use Rattle.qk_whole.specs.Kinds.{index_of}

abbrev pub named : List NamedModule → List Named_module
named modules = map named_module modules

-- the files are the modules, and the index is by where their arrows stand
abbrev pub sources_of : List NamedModule → Sources
sources_of modules = record { files = named modules; index = index_of (named modules) }

-- it is the framework's source, or that of a module
abbrev pub IsSource : Text → Type 0
IsSource t = IsTrue (same_text t framework || is_module_source t)

-- An application as `accept` gives it: a text derives each module, all rules are kept, imports are from modules or the framework, and the names
-- of each module are told.
pub record IsAccepted (a : Application) : Type 0 where
  pub modules : Accepted (named a.modules.list)
  pub sources : All (λ m. All (λ i. IsSource i.from) m.module.imports) a.modules.list
  pub names : a.names ≡ map names_of a.modules.list
