use Rattle.std.proofs.Common.{sym, ap, subst}
use Rattle.qk_application.specs.declared.fault.ApplicationFault.TheVariants.{Gathering}
use Rattle.qk_top.specs.declared.refusal.Kind.TheVariants as kind
use Rattle.qk_top.specs.Saying.{said_of_gathering}
use Rattle.qk_top.specs.Refusals.{StopsFor}
use Rattle.qk_top.proofs.Stopped.{refused_stops, root_stops}
use Rattle.qk_top.proofs.stopping.stop_for_gathering.Goals as goal

pub returns-in-RootMissing : goal.returns-in-RootMissing
returns-in-RootMissing c = root_stops (Gathering c.args.fault) kind.RootMissing c.refused_root.result (ap said_of_gathering c.in-RootMissing.is) (λ e. let i = c.in-RootMissing.is in cc) c.refused_root.ensures

pub returns-in-TooMany : goal.returns-in-TooMany
returns-in-TooMany c = root_stops (Gathering c.args.fault) kind.TooMany c.refused_root-in-TooMany.result (ap said_of_gathering c.in-TooMany.is) (λ e. let i = c.in-TooMany.is in cc) c.refused_root-in-TooMany.ensures

pub returns-in-ImportMissing : goal.returns-in-ImportMissing
returns-in-ImportMissing c = refused_stops (Gathering c.args.fault) _ _ _ c.refused.result (ap said_of_gathering c.in-ImportMissing.is) c.refused.ensures

pub returns-in-ExportMissing : goal.returns-in-ExportMissing
returns-in-ExportMissing c = refused_stops (Gathering c.args.fault) _ _ _ c.refused-in-ExportMissing.result (ap said_of_gathering c.in-ExportMissing.is) c.refused-in-ExportMissing.ensures

pub returns-in-NotUtf8 : goal.returns-in-NotUtf8
returns-in-NotUtf8 c = refused_stops (Gathering c.args.fault) _ _ _ c.refused-in-NotUtf8.result (ap said_of_gathering c.in-NotUtf8.is) c.refused-in-NotUtf8.ensures

pub returns-in-Parse : goal.returns-in-Parse
returns-in-Parse c = subst (λ f. StopsFor (Gathering f) c.stop_for_text.result) (sym c.in-Parse.is) c.stop_for_text.ensures

pub returns-in-Store : goal.returns-in-Store
returns-in-Store c = ap Gathering c.in-Store.is

pub returns-in-Memory : goal.returns-in-Memory
returns-in-Memory c = λ e. let i = c.in-Memory.is in cc
