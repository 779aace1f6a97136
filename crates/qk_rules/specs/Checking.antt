-- What a check of a module answers.
use Rattle.std.specs.Prelude.{◌≡◌, List, [], ◌∷◌, Result, Ok, Err}
use Rattle.qk_ast.specs.declared.Module.{Module}
use Rattle.qk_ast.specs.Texts.{Text}
use Rattle.qk_ast.specs.Placing.{Placing_breach, Root_kind, all_placing_breaches}
use Rattle.qk_rules.specs.declared.fault.RuleFault.{RuleFault}
use Rattle.qk_rules.specs.declared.fault.RuleFault.TheVariants.{Refused, Memory}

-- What is told of a part that breaks these rules: the first of them.
pub data Refuses (breaches : List Placing_breach) : RuleFault → Type 0 where
  first : {breach : Placing_breach} {rest : List Placing_breach} → breaches ≡ breach ∷ rest → Refuses breaches (Refused breach.kind breach.name)
  want : Refuses breaches Memory

abbrev pub Comes : List Placing_breach → Result Unit RuleFault → Type 0
Comes breaches (Ok done) = breaches ≡ []
Comes breaches (Err fault) = Refuses breaches fault

-- What a part of the check answers where the part breaks these rules.
pub record Answers (breaches : List Placing_breach) (result : Result Unit RuleFault) : Type 0 where
  pub comes : Comes breaches result

-- What the check answers for a module of that name, where these are the kinds of its root's names.
pub data Checks (file : Text) (roots : Text → Root_kind) (m : Module) : Result Unit RuleFault → Type 0 where
  all : all_placing_breaches file roots m ≡ [] → Checks file roots m (Ok tt)
  refused : {first : Placing_breach} {rest : List Placing_breach} → all_placing_breaches file roots m ≡ first ∷ rest → Checks file roots m (Err (Refused first.kind first.name))
  want : Checks file roots m (Err Memory)
