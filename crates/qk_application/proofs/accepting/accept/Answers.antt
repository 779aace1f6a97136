use Rattle.std.proofs.Common.{rules, ◌≡◌}
use Rattle.std.specs.Prelude.{Ok, Err}
use Rattle.qk_application.specs.Accepting.{fault_of}
use Rattle.qk_application.proofs.Judged.{cause_judged, cause_gathering, memory_judged, memory_gathering}
use Rattle.qk_application.proofs.accepting.accept.Goals as goal

pub returns-in_err-modules-clause-accepts : goal.returns-in_err-modules-clause-accepts
returns-in_err-modules-clause-accepts g c =
    let e : c.from_residual.result ≡ Err (fault_of c.in_err-modules.field-0.0) = search rules in
    record { gathered = Err c.in_err-modules.field-0.0; gathers = c.in_err-modules.ensures.gathers; decides = e }

pub returns-in_err-modules-clause-cause : goal.returns-in_err-modules-clause-cause
returns-in_err-modules-clause-cause g c =
    let e : c.from_residual.result ≡ Err (fault_of c.in_err-modules.field-0.0) = search rules in
    cause_gathering _ _ c.in_err-modules.field-0.0 _ e c.in_err-modules.ensures.cause

pub returns-in_err-modules-clause-memory : goal.returns-in_err-modules-clause-memory
returns-in_err-modules-clause-memory g c =
    let e : c.from_residual.result ≡ Err (fault_of c.in_err-modules.field-0.0) = search rules in
    memory_gathering c.in_err-modules.field-0.0 _ e

pub returns-clause-accepts : goal.returns-clause-accepts
returns-clause-accepts g c = record { gathered = Ok c.in_ok-modules.modules; gathers = c.in_ok-modules.ensures.gathers; decides = c.judge.ensures }

pub returns-clause-cause : goal.returns-clause-cause
returns-clause-cause g c = cause_judged _ _ c.in_ok-modules.modules _ c.in_ok-modules.ensures.cause c.judge.ensures

pub returns-clause-memory : goal.returns-clause-memory
returns-clause-memory g c = memory_judged _ _ _ c.judge.ensures
