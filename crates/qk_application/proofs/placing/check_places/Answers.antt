use Rattle.std.proofs.Common.{rules, ◌≡◌}
use Rattle.std.specs.Prelude.{Err}
use Rattle.qk_application.specs.declared.fault.ApplicationFault.TheVariants.{Memory}
use Rattle.qk_application.specs.Accepting.{want}
use Rattle.qk_application.proofs.Judged.{handed_on}
use Rattle.qk_application.proofs.placing.check_places.Goals as goal

pub returns-in_err-kinds : goal.returns-in_err-kinds
returns-in_err-kinds c =
    let e : c.from_residual.result ≡ Err Memory = search rules in
    handed_on _ _ _ _ e want
