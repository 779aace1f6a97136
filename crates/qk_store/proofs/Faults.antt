-- The causes of a failed call that was counted.
use Rattle.std.proofs.Common.{◌≡◌, ℕ, ◌≤◌, Err, arith}
use Rattle.qk_store.specs.Calls.{next_number}
use Rattle.qk_store.specs.Causes.{HasCause}
use Rattle.qk_store.specs.declared.found.StoreFault.TheVariants as store
use Rattle.qk_store.specs.declared.sink.SinkFault.TheVariants as sink

pub store_failed : {T : Type 0} (before now : ℕ) → before ≤ now → now ≡ next_number before → HasCause {T = T} store.Failed store.Memory before now (Err store.Failed)
store_failed before now later counted = record { later = later; failed = λ _. omega (arith, counted); ok = tt; memory = λ other. absurd (cc other) }

pub sink_failed : {T : Type 0} (before now : ℕ) → before ≤ now → now ≡ next_number before → HasCause {T = T} sink.Failed sink.Memory before now (Err sink.Failed)
sink_failed before now later counted = record { later = later; failed = λ _. omega (arith, counted); ok = tt; memory = λ other. absurd (cc other) }
