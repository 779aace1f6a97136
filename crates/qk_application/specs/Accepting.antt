-- What is answered for an application: all rules are kept, or it is refused for the first thing that is wrong.
use Rattle.std.specs.Prelude.{◌≡◌, ◌⊎◌, List, [], ◌∷◌, map, Option, Result, Ok, Err}
use Rattle.qk_ast.specs.declared.Form.TheVariants.{Source}
use Rattle.qk_ast.specs.Sources.{Named_module}
use Rattle.qk_ast.specs.Naming.{Naming_breach}
use Rattle.qk_ast.specs.Placing.{Placing_breach}
use Rattle.qk_ast.specs.Application.{Breach, Of_names, Of_places, application_breaches}
use Rattle.qk_ast.specs.Texts.{Text}
use Rattle.qk_store.specs.Files.{Files}
use Rattle.qk_store.specs.Answers.{Answer}
use Rattle.qk_modules.specs.declared.modules.NamedModule.{NamedModule}
use Rattle.qk_modules.specs.declared.modules.Modules.{Modules}
use Rattle.qk_modules.specs.declared.fault.GatherFault.{GatherFault}
use Rattle.qk_modules.specs.declared.fault.GatherFault.TheVariants as gathering
use Rattle.qk_modules.specs.Gathering.{Gathers, GathersOver}
use Rattle.qk_captures.specs.Capturing.{captured_in}
use Rattle.qk_scope.specs.declared.resolver.Names.{Names}
use Rattle.qk_application.specs.declared.application.Application.{Application}
use Rattle.qk_application.specs.declared.fault.ApplicationFault.{ApplicationFault}
use Rattle.qk_application.specs.declared.fault.ApplicationFault.TheVariants.{Gathering, Naming, Placing, Memory}

-- the module, as the rules speak of it
abbrev pub named_module : NamedModule → Named_module
named_module m = (m.name, m.module)

-- what the modules break
abbrev pub breaches_of : Modules → List Breach
breaches_of modules = application_breaches (map named_module modules.list)

-- the names of a module: for each arrow its site and its captures
abbrev pub names_of : NamedModule → Names
names_of m = record { captures = captured_in Source m.name m.module }

-- the application of modules that keep all rules
abbrev pub application_of : Modules → Application
application_of modules = record { modules = modules; names = map names_of modules.list }

-- What is answered where these rules are broken: this value where there are none, and else the refusal for the first.
pub data Judges {T : Type 0} (breaches : List Breach) (value : T) : Result T ApplicationFault → Type 0 where
  kept : breaches ≡ [] → Judges breaches value (Ok value)
  misnamed : {m : Text} {first : Naming_breach} {rest : List Breach} → breaches ≡ Of_names m first ∷ rest → Judges breaches value (Err (Naming m first.kind first.name))
  misplaced : {m : Text} {first : Placing_breach} {rest : List Breach} → breaches ≡ Of_places m first ∷ rest → Judges breaches value (Err (Placing m first.kind first.name))
  want : Judges breaches value (Err Memory)

-- why an application isn't accepted whose modules aren't gathered for this; want of memory is told as itself
abbrev pub fault_of : GatherFault → ApplicationFault
fault_of gathering.Memory = Memory
fault_of fault = Gathering fault

-- What is answered where gathering answered that: the rules decide of modules that were gathered.
abbrev pub Decides : Result Modules GatherFault → Result Application ApplicationFault → Type 0
Decides (Ok modules) result = Judges (breaches_of modules) (application_of modules) result
Decides (Err fault) result = result ≡ Err (fault_of fault)

-- What is answered over a store of these files, if it tells them; before and after it the store has answered that, if it tells it.
pub record Accepts (files : Option Files) (before after : Option (List Answer)) (result : Result Application ApplicationFault) : Type 0 where
  pub gathered : Result Modules GatherFault
  pub gathers : Gathers files before after gathered
  pub decides : Decides gathered result

-- What is answered over a store of these files, whatever else the store tells.
pub record AcceptsOver (files : Files) (result : Result Application ApplicationFault) : Type 0 where
  pub gathered : Result Modules GatherFault
  pub gathers : GathersOver files gathered
  pub decides : Decides gathered result

-- this fault, or want of memory
abbrev pub Blames : (fault answered : ApplicationFault) → Type 0
Blames fault answered = (answered ≡ fault) ⊎ (answered ≡ Memory)
