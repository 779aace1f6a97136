use Rattle.std.proofs.Common.{ap}
use Rattle.qk_modules.specs.declared.fault.GatherFault.TheVariants.{Parse}
use Rattle.qk_application.specs.declared.fault.ApplicationFault.TheVariants.{Gathering}
use Rattle.qk_top.specs.Saying.{said_of_text}
use Rattle.qk_top.proofs.Stopped.{refused_stops}
use Rattle.qk_top.proofs.stopping.stop_for_text.Goals as goal

pub returns-in-TooLong : goal.returns-in-TooLong
returns-in-TooLong c = refused_stops (Gathering (Parse c.args.module c.args.fault c.args.place)) _ _ _ c.refused.result (ap (λ f. said_of_text c.args.module f c.args.place) c.in-TooLong.is) c.refused.ensures

pub returns-in-Lexical : goal.returns-in-Lexical
returns-in-Lexical c = refused_stops (Gathering (Parse c.args.module c.args.fault c.args.place)) _ _ _ c.refused-in-Lexical.result (ap (λ f. said_of_text c.args.module f c.args.place) c.in-Lexical.is) c.refused-in-Lexical.ensures

pub returns-in-Syntax : goal.returns-in-Syntax
returns-in-Syntax c = refused_stops (Gathering (Parse c.args.module c.args.fault c.args.place)) _ _ _ c.refused-in-Syntax.result (ap (λ f. said_of_text c.args.module f c.args.place) c.in-Syntax.is) c.refused-in-Syntax.ensures

pub returns-in-TooDeep : goal.returns-in-TooDeep
returns-in-TooDeep c = refused_stops (Gathering (Parse c.args.module c.args.fault c.args.place)) _ _ _ c.refused-in-TooDeep.result (ap (λ f. said_of_text c.args.module f c.args.place) c.in-TooDeep.is) c.refused-in-TooDeep.ensures

pub returns-in-Memory : goal.returns-in-Memory
returns-in-Memory c = λ e. cc
