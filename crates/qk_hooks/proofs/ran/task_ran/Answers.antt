use Rattle.qk_hooks.proofs.Run_again.{all_so}
use Rattle.qk_hooks.proofs.ran.task_ran.Goals as goal

pub returns-clause-meant : goal.returns-clause-meant
returns-clause-meant c =
    λ names log meant before after are found behind. all_so names log c.args.tracks c.args.due before after behind c.args.id.instance c.args.id.hook c.args.all.now _ meant c.ran_at.ensures are found
