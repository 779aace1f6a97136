use Rattle.std.proofs.Common.{subst, sym}
use Rattle.qk_hooks.specs.Ran_again.{task_meant, MayBeTask}
use Rattle.qk_hooks.proofs.Run_again.{all_may}
use Rattle.qk_hooks.proofs.ran.task_at.Goals as goal

pub returns-clause-meant : goal.returns-clause-meant
returns-clause-meant c =
    λ names log meant are. subst (λ o. MayBeTask names log o (task_meant c.args.id.instance c.args.id.hook meant)) (sym c.found_at.ensures) (all_may names log c.args.id.instance c.args.id.hook c.args.all.now meant are)
