use Rattle.std.proofs.Common.{refl}
use Rattle.qk_eval.proofs.Hooking.{ran_unmarked}
use Rattle.qk_eval.proofs.Plain_steps.{is_none}
use Rattle.qk_eval.proofs.Storing.{ran_marked}
use Rattle.qk_eval.proofs.stepping.call_mark.Goals as goal

pub returns-in_default : goal.returns-in_default
returns-in_default g c = λ outer. ran_unmarked _ _ _ c.args.here.now.func.now c.args.here.now.mode c.args.here.now.running.now c.args.here.now.levels _ c.args.given.now _ refl (rw (is_none _ c.in_default.not-Some) at c.only.ensures.none)

pub returns : goal.returns
returns g c = λ outer. ran_marked _ _ _ c.args.here.now.func.now c.args.here.now.mode c.args.here.now.running.now c.args.here.now.levels c.args.machine.now.heap _ c.args.given.now _ _ (λ p. refl) (rw c.in-Some.is at c.only.ensures.some) c.marked.ensures
