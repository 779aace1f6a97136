use Rattle.qk_hooks.proofs.Made_due.{all_mark}
use Rattle.qk_hooks.proofs.marking.mark.Goals as goal

pub returns-clause-due : goal.returns-clause-due
returns-clause-due c = λ names log meant are. all_mark names log c.args.l.now _ _ meant c.mark_each.ensures are
