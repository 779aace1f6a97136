use Rattle.std.proofs.Common.{rules, refl}
use Rattle.qk_code.proofs.Runs.{ran_lost}
use Rattle.qk_eval.proofs.Hooking.{ran_undollared, ran_call_dollar}
use Rattle.qk_eval.proofs.Plain_steps.{is_none}
use Rattle.qk_eval.proofs.stepping.call_dollar.Goals as goal

pub returns-in_default : goal.returns-in_default
returns-in_default g c = λ outer. ran_undollared _ _ _ c.args.here.now.func.now c.args.here.now.mode c.args.here.now.running.now c.args.here.now.levels _ c.args.given.now _ refl (rw (is_none _ c.in_default.not-Some) at c.only.ensures.none)

pub returns-in_err-share : goal.returns-in_err-share
returns-in_err-share g c = λ outer. ran_lost _ _ _ _ _ _ _ (search rules)

pub returns : goal.returns
returns g c = λ outer. ran_call_dollar _ _ _ c.args.here.now.func.now c.args.here.now.mode c.args.here.now.running.now c.args.here.now.levels _ c.args.given.now _ _ (rw c.in-Some.is at c.only.ensures.some) c.in_ok-share.ensures
