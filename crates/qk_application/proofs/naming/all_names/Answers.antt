use Rattle.std.proofs.Common.{rules, ◌≡◌}
use Rattle.std.specs.Prelude.{Err}
use Rattle.qk_ast.specs.Application.{naming_of}
use Rattle.qk_application.specs.declared.fault.ApplicationFault.TheVariants.{Memory}
use Rattle.qk_application.specs.Accepting.{want, names_of}
use Rattle.qk_application.proofs.Judged.{none_broken, kept_on, fails_there, handed_on, more_names, names_done}
use Rattle.qk_application.proofs.naming.all_names.Goals as goal

pub returns-in_err-names : goal.returns-in_err-names
returns-in_err-names c =
    let e : c.from_residual.result ≡ Err c.in_err-names.field-0.0 = search rules in
    handed_on _ _ _ _ e (fails_there naming_of c.args.modules.now c.loop-module.module-index c.module-item.result (names_of c.module-item.result) _ _ c.loop-module-test.true c.module-item.is c.loop-module.invariant.0 c.in_err-names.ensures)

pub returns-in_err-push : goal.returns-in_err-push
returns-in_err-push c =
    let e : c.from_residual-in_err-push.result ≡ Err Memory = search rules in
    handed_on _ _ _ _ e want

pub loop-module-preserved : goal.loop-module-preserved
loop-module-preserved c =
    let named = none_broken c.in_ok-names.field-0 c.in_ok-names.ensures in (
      kept_on naming_of c.args.modules.now c.loop-module.module-index c.module-item.result c.loop-module-test.true c.module-item.is named.0 c.loop-module.invariant.0,
      more_names c.args.modules.now c.loop-module.module-index c.module-item.result c.loop-module.all c.push.new.self c.in_ok-names.field-0 c.loop-module-test.true c.module-item.is c.in_ok-push.ensures.appended named.1 c.loop-module.invariant.1,
    )

pub returns-in_err-into_list : goal.returns-in_err-into_list
returns-in_err-into_list c =
    let e : c.from_residual-in_err-into_list.result ≡ Err Memory = search rules in
    handed_on _ _ _ _ e want

pub returns : goal.returns
returns c = names_done c.args.modules.now c.loop-module.module-index c.loop-module.all c.in_ok-into_list.field-0 c.loop-module-test.false c.in_ok-into_list.ensures c.loop-module.invariant.0 c.loop-module.invariant.1
