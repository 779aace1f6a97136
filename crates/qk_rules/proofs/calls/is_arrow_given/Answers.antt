use Rattle.std.proofs.Common.{rules, ap, ◌∙◌}
use Rattle.qk_rules.specs.Given_calls.{arrow_given}
use Rattle.qk_rules.proofs.Given_calls.{given_arrow}
use Rattle.qk_rules.proofs.calls.is_arrow_given.Goals as goal

pub returns-in-Arrow : goal.returns-in-Arrow
returns-in-Arrow c = rw (ap (arrow_given c.args.callee.now) c.in-Arrow.is ∙ given_arrow c.args.callee.now c.in-Arrow.arrow.place c.in-Arrow.arrow.params c.in-Arrow.arrow.body) (search rules)
