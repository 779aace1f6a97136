use Rattle.std.proofs.Common.{subst, sym}
use Rattle.qk_hooks.specs.Ran_again.{HasRun}
use Rattle.qk_hooks.proofs.Run_again.{written_instance, no_such_instance}
use Rattle.qk_hooks.proofs.ran.ran_at.Goals as goal

pub returns-then-id-all : goal.returns-then-id-all
returns-then-id-all c =
    written_instance c.args.id.instance c.args.id.hook c.args.tracks c.args.due c.args.all.now c.index-all-id.result c.instance_ran.new.instance c.if-id-all.true c.index-all-id.is
    (subst (λ i. HasRun c.args.id.hook c.args.tracks c.args.due i c.instance_ran.new.instance) (sym c.index-all-id.is) c.instance_ran.ensures)

pub returns-else-id-all : goal.returns-else-id-all
returns-else-id-all c = no_such_instance c.args.id.instance c.args.id.hook c.args.tracks c.args.due c.args.all.now c.if-id-all.false
