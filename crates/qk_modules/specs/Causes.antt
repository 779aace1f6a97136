-- When gathering answers that the store failed.
use Rattle.std.specs.Prelude.{◌≡◌, ◌≤◌, ℕ, Result, IsErrOf}
use Rattle.qk_store.specs.Causes.{Rose}
use Rattle.qk_modules.specs.declared.fault.GatherFault.{GatherFault}
use Rattle.qk_modules.specs.declared.fault.GatherFault.TheVariants.{Store}

-- only where the store's count of faults rose; with every other answer the count stays
pub record FailsByStore {T : Type 0} (before now : ℕ) (result : Result T GatherFault) : Type 0 where
  pub later : before ≤ now
  pub failed : IsErrOf result Store → Rose before now
  pub kept : ¬ IsErrOf result Store → now ≡ before
