-- Tries, one after another.
use Rattle.std.specs.Prelude.{◌≡◌, Option, Some, None, Result, Err}
use Rattle.std.proofs.Common.{sym, ap, subst}
use Rattle.qk_meaning.specs.Fault as M
use Rattle.qk_meaning.specs.Doing.{Doing, ◌>>◌}
use Rattle.qk_meaning.specs.Markup.{then_if}
use Rattle.qk_meaning.specs.Running.{Running, unless_fault}
use Rattle.qk_value.specs.Faults.{fault_of}
use Rattle.qk_code.specs.declared.stop.Stop.{Stop}
use Rattle.qk_code.specs.declared.stop.Stop.TheVariants.{Fault, Ended, Code, Memory}
use Rattle.qk_making.specs.Acting.{Comes_to}
use Rattle.qk_making.specs.Trying.{Tried}

abbrev pub Tries : Type 0
Tries = Result (Unit {0}) Stop

pub tried_as : (fault : Option M.Fault) (e : Stop) (result : Tries) → result ≡ Err e → Tried fault (Err e) → Tried fault result
tried_as fault e result is h = subst (λ r. Tried fault r) (sym is) h

-- another fault that is the same
pub tried_so : (one other : Option M.Fault) (result : Tries) → other ≡ one → Tried one result → Tried other result
tried_so one other result e h = subst (λ fault. Tried fault result) (sym e) h

-- the fault of a first try that fails is the fault of a whole that has it first
pub tried_first : (part whole : Option M.Fault) (e : Stop) → ((f : M.Fault) → part ≡ Some f → whole ≡ Some f) → Tried part (Err e) → Tried whole (Err e)
tried_first part whole (Fault f) front h = front (fault_of f) h
tried_first part whole Ended front h = h
tried_first part whole (Code why) front h = h
tried_first part whole Memory front h = tt

pub then_failed : (first second : Option M.Fault) (f : M.Fault) → first ≡ Some f → then_if first second ≡ Some f
then_failed first second f e = ap (λ o. then_if o second) e

pub then_next : (first second : Option M.Fault) → first ≡ None → then_if first second ≡ second
then_next first second e = ap (λ o. then_if o second) e

-- what comes behind a try
module _ {A B : Type 0} (seen : A → B) (fault : Option M.Fault) (next : Doing Running B) where
  pub stops_there : (e : Stop) (s : Running) → Tried fault (Err e) → Comes_to seen ((◌>>◌ (unless_fault fault) next) s) (Err e) s
  stops_there (Fault f) s h = ap (λ o. (◌>>◌ (unless_fault o) next) s) h
  stops_there Ended s h = h
  stops_there (Code why) s h = h
  stops_there Memory s h = tt

  pub goes_on : fault ≡ None → ◌>>◌ (unless_fault fault) next ≡ next
  goes_on e = ap (λ o. ◌>>◌ (unless_fault o) next) e
