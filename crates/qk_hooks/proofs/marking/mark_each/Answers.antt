use Rattle.std.proofs.Common.{subst, sym}
use Rattle.qk_hooks.specs.Marking.{IsMarked}
use Rattle.qk_hooks.proofs.Made_due.{all_marked}
use Rattle.qk_hooks.proofs.marking.mark_each.Goals as goal

pub loop-instance-preserved : goal.loop-instance-preserved
loop-instance-preserved c =
    let both = all_marked c.args.l.now c.args.all.now c.loop-instance.all c.loop-instance.instance-index c.instance-item.result c.mark_instance.new.instance c.loop-instance-test.true c.loop-instance.invariant.done c.loop-instance.invariant.left c.instance-item.is (subst (λ x. IsMarked c.args.l.now x c.mark_instance.new.instance) (sym c.instance-item.is) c.mark_instance.ensures) in
    record { done = both.0; left = both.1 }
