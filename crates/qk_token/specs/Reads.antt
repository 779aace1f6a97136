-- What a function that reads tokens ensures: what the reader answers, and where it stands then; want of memory is the one free answer.
use Rattle.std.specs.Prelude.{◌≡◌, ◌≢◌, Result, Ok, Err}
use Rattle.qk_reading.specs.Input.{Input, Outcome}
use Rattle.qk_reading.specs.Input as input
use Rattle.qk_token.specs.declared.fault.Fault.{Fault}
use Rattle.qk_token.specs.declared.fault.Fault.TheVariants.{Memory, Syntax, TooDeep}

-- the fault that a fault is; want of memory is none, and stands for any
abbrev pub fault_of : Fault → input.Fault
fault_of Memory = input.Syntax 0
fault_of (Syntax left) = input.Syntax left
fault_of (TooDeep left) = input.TooDeep left

-- the function reads what the reader reads
abbrev pub Reads : {A : Type 0} → Outcome A → Result A Fault → Input → Type 0
Reads outcome (Ok a) new = outcome ≡ Ok (a, new)
Reads outcome (Err e) new = e ≢ Memory → outcome ≡ Err (fault_of e)

-- the same, seen in another way
abbrev pub ReadsAs : {A B : Type 0} → (A → B) → Outcome B → Result A Fault → Input → Type 0
ReadsAs view outcome (Ok a) new = outcome ≡ Ok (view a, new)
ReadsAs view outcome (Err e) new = e ≢ Memory → outcome ≡ Err (fault_of e)
