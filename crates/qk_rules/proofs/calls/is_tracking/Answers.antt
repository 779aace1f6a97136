use Rattle.std.proofs.Common.{sym, ap, ◌∙◌}
use Rattle.qk_ast.specs.Placing.{is_tracking}
use Rattle.qk_rules.specs.Standings.{called_of}
use Rattle.qk_rules.proofs.Given_calls.{tracked_is}
use Rattle.qk_rules.proofs.calls.is_tracking.Goals as goal

pub returns-in-With : goal.returns-in-With
returns-in-With c = c.are_tracked.ensures ∙ sym (tracked_is c.in-With.arguments.now c.in-With.whole) ∙ ap (λ call. is_tracking (called_of call)) (sym c.in-With.is)
