-- The application of one module.
use Rattle.std.specs.Prelude.{◌≡◌, Bool, [], ◌∷◌, IsTrue}
use Rattle.std.specs.List.{list_all}
use Rattle.qk_ast.specs.declared.Form.TheVariants.{Source}
use Rattle.qk_ast.specs.declared.Import.{Import}
use Rattle.qk_ast.specs.declared.Module.{Module}
use Rattle.qk_ast.specs.Application.{naming_of, placing_of}
use Rattle.qk_ast.specs.Derives.{Derives}
use Rattle.qk_ast.specs.Framework.{framework, is_module_name}
use Rattle.qk_ast.specs.Texts.{Text, same_text}
use Rattle.qk_modules.specs.declared.modules.NamedModule.{NamedModule}
use Rattle.qk_application.specs.declared.application.Application.{Application}
use Rattle.qk_application.specs.Accepting.{named_module, application_of}

-- the application has this module alone, which keeps all rules
pub record IsAlone (m : NamedModule) (a : Application) : Type 0 where
  pub is : a ≡ application_of (record { list = m ∷ [] })
  pub names : naming_of (named_module m) ≡ []
  pub places : placing_of (named_module m ∷ []) (named_module m) ≡ []

abbrev pub is_of_framework : Import → Bool
is_of_framework i = same_text i.from framework

-- it has the module alone that the text derives, with that name; it imports from the framework alone
pub record IsOfText (source name : Text) (a : Application) : Type 0 where
  pub tree : Module
  pub derives : Derives Source source tree
  pub named : IsTrue (is_module_name name)
  pub imports : IsTrue (list_all is_of_framework tree.imports)
  pub alone : IsAlone (record { name = name; «module» = tree }) a
