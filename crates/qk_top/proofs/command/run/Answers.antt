use Rattle.std.proofs.Common.{ap, Err}
use Rattle.qk_top.proofs.Ends.{script_line_put, application_line_put, printed_whole, printed_front, comes_played, comes_ended, complete_ended, headline_played}
use Rattle.qk_top.proofs.Usage.{usage_put}
use Rattle.qk_top.specs.Answers.{played}
use Rattle.qk_top.proofs.command.run.Goals as goal

pub returns-in-Ok-clause-headline : goal.returns-in-Ok-clause-headline
returns-in-Ok-clause-headline g c told m ids e accepted zero =
    let comes = c.in-Ok.ensures.comes told e in
    headline_played _ told _ _ m ids comes.0 accepted comes.1 comes.2

pub returns-in-Ok-clause-printed : goal.returns-in-Ok-clause-printed
returns-in-Ok-clause-printed g c told e other =
    let comes = c.in-Ok.ensures.comes told e in
    (comes.0, played comes.1.accepted comes.1.printed, comes.2)

pub returns-in-Ok-clause-comes : goal.returns-in-Ok-clause-comes
returns-in-Ok-clause-comes g c told e = let comes = c.in-Ok.ensures.comes told e in comes_played _ told comes.0 comes.1

pub returns-in-Err-clause-complete : goal.returns-in-Err-clause-complete
returns-in-Err-clause-complete g c told m ids e accepted no_store no_sink =
    complete_ended _ told _ _ _ _ _ _ _ _ _ _ m ids accepted (c.in-Err.ensures.comes told e) c.finish.ensures c.in-Err.ensures.store c.in-Err.ensures.sink no_store no_sink

pub returns-in-Err-clause-printed : goal.returns-in-Err-clause-printed
returns-in-Err-clause-printed g c told e other = printed_whole _ told _ _ _ _ _ _ _ (c.in-Err.ensures.comes told e) c.finish.ensures other

pub returns-in-Err-clause-printed_front : goal.returns-in-Err-clause-printed_front
returns-in-Err-clause-printed_front g c told e seven = printed_front _ told _ _ _ _ _ _ _ (c.in-Err.ensures.comes told e) c.finish.ensures seven

pub returns-in-Err-clause-comes : goal.returns-in-Err-clause-comes
returns-in-Err-clause-comes g c told e = comes_ended _ told _ _ _ _ _ _ _ (c.in-Err.ensures.comes told e) c.finish.ensures

pub returns-in-Err-clause-usage_line : goal.returns-in-Err-clause-usage_line
returns-in-Err-clause-usage_line g c one = usage_put _ _ _ _ _ _ _ c.finish.ensures one (λ e. c.in-Err.ensures.unput (ap Err e))

pub returns-in-Err-clause-script_line : goal.returns-in-Err-clause-script_line
returns-in-Err-clause-script_line g c told kind e refused five = script_line_put _ told _ _ _ _ _ _ _ kind (c.in-Err.ensures.comes told e) c.finish.ensures refused five

pub returns-in-Err-clause-application_line : goal.returns-in-Err-clause-application_line
returns-in-Err-clause-application_line g c told said e refused two = application_line_put _ told _ _ _ _ _ _ _ said (c.in-Err.ensures.comes told e) c.finish.ensures refused two
