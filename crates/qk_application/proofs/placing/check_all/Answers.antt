use Rattle.std.proofs.Common.{rules, ◌≡◌}
use Rattle.std.specs.Prelude.{Err}
use Rattle.qk_ast.specs.Application.{placing_of}
use Rattle.qk_application.proofs.Judged.{none_broken, kept_on, fails_there, handed_on, places_done}
use Rattle.qk_application.proofs.placing.check_all.Goals as goal

pub returns-in_err-check_one : goal.returns-in_err-check_one
returns-in_err-check_one c =
    let e : c.from_residual.result ≡ Err c.in_err-check_one.field-0.0 = search rules in
    handed_on _ _ _ _ e (fails_there (placing_of c.args.kinds.now) c.args.modules.now c.loop-module.module-index c.module-item.result (tt {0}) (tt {0}) _ c.loop-module-test.true c.module-item.is c.loop-module.invariant c.in_err-check_one.ensures)

pub loop-module-preserved : goal.loop-module-preserved
loop-module-preserved c =
    kept_on (placing_of c.args.kinds.now) c.args.modules.now c.loop-module.module-index c.module-item.result c.loop-module-test.true c.module-item.is (none_broken c.in_ok-check_one.field-0 c.in_ok-check_one.ensures).0 c.loop-module.invariant

pub returns : goal.returns
returns c = places_done c.args.kinds.now c.args.modules.now c.loop-module.module-index c.loop-module-test.false c.loop-module.invariant
