use Rattle.qk_application.specs.Accepting.{want}
use Rattle.qk_application.proofs.Judged.{places_kept, places_broken}
use Rattle.qk_application.proofs.placing.check_one.Goals as goal

pub returns-in-Ok : goal.returns-in-Ok
returns-in-Ok c = places_kept c.args.kinds.now c.args.module.now c.in-Ok.ensures

pub returns-in-Err-Refused : goal.returns-in-Err-Refused
returns-in-Err-Refused c = places_broken c.args.kinds.now c.args.module.now _ _ _ _ c.in-Err-Refused.ensures c.in-Err-Refused.field-0-is c.refusal.ensures

pub returns-in-Err-Memory : goal.returns-in-Err-Memory
returns-in-Err-Memory c = want
