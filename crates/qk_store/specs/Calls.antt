-- The calls of a store or a sink for tests, where those of listed numbers fail. Calls are numbered from 1, up to the last value of a counter,
-- where the number stays.
use Rattle.std.specs.Prelude.{◌≡◌, ℕ, ◌+◌, ◌-◌, ◌^◌, min, Contains, Result, OnOk, IsErrOf}
use Rattle.qk_store.specs.declared.calls.Calls.{Calls}

abbrev pub next_number : ℕ → ℕ
next_number n = min (n + 1) (2 ^ 64 - 1)

-- A call takes the next number. It fails where that is listed and nowhere else, and then raises the count of faults. One that memory was
-- wanting for takes no number.
pub record IsNumbered {T E : Type 0} (fault want : E) (before after : Calls) (result : Result T E) : Type 0 where
  pub listed : IsErrOf result fault → Contains before.failing.items (next_number before.made)
  pub others : OnOk result (¬ Contains before.failing.items (next_number before.made))
  pub failed : IsErrOf result fault → after ≡ record before { made = next_number before.made; faults = next_number before.faults }
  pub ok : OnOk result (after ≡ record before { made = next_number before.made })
  pub memory : IsErrOf result want → after ≡ before
