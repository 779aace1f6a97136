use Rattle.std.proofs.Common.{rules, ap, ◌∙◌}
use Rattle.qk_rules.specs.Given_calls.{tracked}
use Rattle.qk_rules.proofs.Given_calls.{tracked_arrow}
use Rattle.qk_rules.proofs.calls.is_tracked.Goals as goal

pub returns-in-Arrow : goal.returns-in-Arrow
returns-in-Arrow c = rw (ap tracked c.in-Arrow.is ∙ tracked_arrow c.in-Arrow.arrow.place c.in-Arrow.arrow.params c.in-Arrow.arrow.body) (search rules)
