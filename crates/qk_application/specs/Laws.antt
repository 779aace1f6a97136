-- The laws of acceptance: over the same files one thing is answered.
use Rattle.std.specs.Prelude.{◌≡◌, ◌⊎◌, Ok, Err}
use Rattle.qk_store.specs.Files.{Files}
use Rattle.qk_modules.specs.declared.fault.GatherFault.TheVariants.{Store}
use Rattle.qk_application.specs.declared.application.Application.{Application}
use Rattle.qk_application.specs.declared.fault.ApplicationFault.{ApplicationFault}
use Rattle.qk_application.specs.declared.fault.ApplicationFault.TheVariants.{Gathering, Memory}
use Rattle.qk_application.specs.Accepting.{AcceptsOver}

-- files hold one accepted application at most
abbrev pub OneApplication : Type 0
OneApplication = (files : Files) (a b : Application) → AcceptsOver files (Ok a) → AcceptsOver files (Ok b) → a ≡ b

-- it says nothing of the application: the store failed, or memory ran out
abbrev pub IsFailure : ApplicationFault → Type 0
IsFailure fault = (fault ≡ Gathering Store) ⊎ (fault ≡ Memory)

-- an application that is accepted is refused by no fault of its own
abbrev pub AcceptedOrRefused : Type 0
AcceptedOrRefused = (files : Files) (a : Application) (fault : ApplicationFault) → AcceptsOver files (Ok a) → AcceptsOver files (Err fault) → IsFailure fault

-- an application is refused by one fault of its own
abbrev pub OneRefusal : Type 0
OneRefusal = (files : Files) (f g : ApplicationFault) → AcceptsOver files (Err f) → AcceptsOver files (Err g) → ¬ IsFailure f → ¬ IsFailure g → f ≡ g
