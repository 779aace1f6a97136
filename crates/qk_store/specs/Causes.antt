-- When a call may answer that the outside failed: a count of faults, which never falls, is the witness.
use Rattle.std.specs.Prelude.{◌≡◌, ℕ, ◌+◌, ◌-◌, ◌^◌, ◌≤◌, min, Result, OnOk, IsErrOf}

-- the count rose, or stands at the last value that a counter has
abbrev pub Rose : ℕ → ℕ → Type 0
Rose before now = min (before + 1) (2 ^ 64 - 1) ≤ now

-- Of a call that may answer that the outside failed, or that memory was wanting: it answers the former only where the count rose, and no other
-- answer moves the count.
pub record HasCause {T E : Type 0} (fault want : E) (before now : ℕ) (result : Result T E) : Type 0 where
  pub later : before ≤ now
  pub failed : IsErrOf result fault → Rose before now
  pub ok : OnOk result (now ≡ before)
  pub memory : IsErrOf result want → now ≡ before
