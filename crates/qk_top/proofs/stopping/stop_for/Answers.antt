use Rattle.std.proofs.Common.{sym, ap, subst}
use Rattle.qk_top.specs.Saying.{said_of}
use Rattle.qk_top.specs.Refusals.{StopsFor}
use Rattle.qk_top.proofs.Stopped.{refused_stops}
use Rattle.qk_top.proofs.stopping.stop_for.Goals as goal

pub returns-in-Gathering : goal.returns-in-Gathering
returns-in-Gathering c = subst (λ f. StopsFor f c.stop_for_gathering.result) (sym c.in-Gathering.is) c.stop_for_gathering.ensures

pub returns-in-Naming : goal.returns-in-Naming
returns-in-Naming c = refused_stops c.args.fault _ _ _ c.refused.result (ap said_of c.in-Naming.is) c.refused.ensures

pub returns-in-Placing : goal.returns-in-Placing
returns-in-Placing c = refused_stops c.args.fault _ _ _ c.refused-in-Placing.result (ap said_of c.in-Placing.is) c.refused-in-Placing.ensures

pub returns-in-Memory : goal.returns-in-Memory
returns-in-Memory c = λ e. let i = c.in-Memory.is in cc
