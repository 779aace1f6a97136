-- The laws of gathering: over the same files it answers one thing.
use Rattle.std.specs.Prelude.{◌≡◌, ◌⊎◌, Ok, Err}
use Rattle.qk_store.specs.Files.{Files}
use Rattle.qk_modules.specs.declared.modules.Modules.{Modules}
use Rattle.qk_modules.specs.declared.fault.GatherFault.{GatherFault}
use Rattle.qk_modules.specs.declared.fault.GatherFault.TheVariants.{Store, Memory}
use Rattle.qk_modules.specs.Gathering.{GathersOver}

-- files hold one application at most
abbrev pub OneGathering : Type 0
OneGathering = (files : Files) (a b : Modules) → GathersOver files (Ok a) → GathersOver files (Ok b) → a ≡ b

-- it says nothing of the application: the store failed, or memory ran out
abbrev pub IsFailure : GatherFault → Type 0
IsFailure fault = (fault ≡ Store) ⊎ (fault ≡ Memory)

-- an application that is gathered is refused by no fault of its own
abbrev pub GatheredOrRefused : Type 0
GatheredOrRefused = (files : Files) (a : Modules) (fault : GatherFault) → GathersOver files (Ok a) → GathersOver files (Err fault) → IsFailure fault

-- an application is refused by one fault of its own
abbrev pub OneFault : Type 0
OneFault = (files : Files) (f g : GatherFault) → GathersOver files (Err f) → GathersOver files (Err g) → ¬ IsFailure f → ¬ IsFailure g → f ≡ g
