-- What a try comes to.
use Rattle.std.specs.Prelude.{◌≡◌, Option, Some, None, Result, Ok, Err}
use Rattle.qk_meaning.specs.Fault as M
use Rattle.qk_value.specs.Faults.{fault_of}
use Rattle.qk_code.specs.declared.stop.Stop.{Stop}
use Rattle.qk_code.specs.declared.stop.Stop.TheVariants.{Fault, Ended, Code, Memory}

-- there is no fault, or it is this one; of want of memory nothing is said
abbrev pub Tried : Option M.Fault → Result (Unit {0}) Stop → Type 0
Tried fault (Ok _) = fault ≡ None
Tried fault (Err (Fault f)) = fault ≡ Some (fault_of f)
Tried fault (Err Ended) = ⊥
Tried fault (Err (Code why)) = ⊥
Tried fault (Err Memory) = Unit {0}
