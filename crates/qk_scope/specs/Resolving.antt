-- What is known of the names of a module, where they keep the rules.
use Rattle.std.specs.Prelude.{◌≡◌, List, [], ◌∷◌, Result, Ok, Err}
use Rattle.qk_ast.specs.declared.Form.{Form}
use Rattle.qk_ast.specs.declared.Module.{Module}
use Rattle.qk_ast.specs.Texts.{Text}
use Rattle.qk_ast.specs.Naming.{Naming_breach, all_naming_breaches}
use Rattle.qk_captures.specs.Capturing.{captured_in}
use Rattle.qk_scope.specs.declared.fault.ScopeFault.{ScopeFault}
use Rattle.qk_scope.specs.declared.fault.ScopeFault.TheVariants.{Refused, Memory}
use Rattle.qk_scope.specs.declared.resolver.Names.{Names}

-- what `resolve` answers for a module or built file of that name: the captures where nothing breaks a rule of names, else the first breach
pub data Resolves (form : Form) (file : Text) (m : Module) : Result Names ScopeFault → Type 0 where
  all : all_naming_breaches form file m ≡ [] → Resolves form file m (Ok (record { captures = captured_in form file m }))
  refused : {first : Naming_breach} {rest : List Naming_breach} → all_naming_breaches form file m ≡ first ∷ rest → Resolves form file m (Err (Refused first.kind first.name))
  want : Resolves form file m (Err Memory)
