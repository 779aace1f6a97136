-- When it is answered that the store failed, and as what want of memory is told.
use Rattle.std.specs.Prelude.{◌≡◌, ◌≤◌, ℕ, Result, IsErrOf}
use Rattle.qk_store.specs.Causes.{Rose}
use Rattle.qk_modules.specs.declared.fault.GatherFault.TheVariants.{Store, Memory}
use Rattle.qk_application.specs.declared.fault.ApplicationFault.{ApplicationFault}
use Rattle.qk_application.specs.declared.fault.ApplicationFault.TheVariants.{Gathering}

-- only where the store's count of faults rose; with every other answer the count stays
pub record FailsByStore {T : Type 0} (before now : ℕ) (result : Result T ApplicationFault) : Type 0 where
  pub later : before ≤ now
  pub failed : IsErrOf result (Gathering Store) → Rose before now
  pub kept : ¬ IsErrOf result (Gathering Store) → now ≡ before

-- want of memory is told as itself, and not as why modules aren't gathered
abbrev pub TellsMemory : {T : Type 0} → Result T ApplicationFault → Type 0
TellsMemory result = ¬ IsErrOf result (Gathering Memory)
