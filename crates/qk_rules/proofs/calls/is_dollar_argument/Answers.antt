use Rattle.std.proofs.Common.{sym, ◌∙◌}
use Rattle.qk_rules.proofs.Given_calls.{given_is}
use Rattle.qk_rules.proofs.calls.is_dollar_argument.Goals as goal

pub returns : goal.returns
returns c = c.are_given.ensures ∙ sym (given_is c.args.callee.now c.args.arguments.now)
