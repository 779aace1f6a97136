use Rattle.std.proofs.Common.{◌∙◌, sym}
use Rattle.qk_hooks.proofs.Found.{first_found}
use Rattle.qk_hooks.proofs.due.first_due.Goals as goal

pub returns-clause-due : goal.returns-clause-due
returns-clause-due c = λ names log meant are. first_found names log 0 c.args.all.now meant are ∙ sym c.first_marked.ensures
