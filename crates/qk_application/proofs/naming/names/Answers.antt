use Rattle.qk_application.specs.Accepting.{want}
use Rattle.qk_application.proofs.Judged.{names_kept, names_broken}
use Rattle.qk_application.proofs.naming.names.Goals as goal

pub returns-in-Ok : goal.returns-in-Ok
returns-in-Ok c = names_kept c.args.module.now _ c.in-Ok.ensures

pub returns-in-Err-Refused : goal.returns-in-Err-Refused
returns-in-Err-Refused c = names_broken c.args.module.now _ _ _ _ c.in-Err-Refused.ensures c.in-Err-Refused.field-0-is c.refusal.ensures

pub returns-in-Err-Memory : goal.returns-in-Err-Memory
returns-in-Err-Memory c = want
