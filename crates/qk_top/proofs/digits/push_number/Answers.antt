use Rattle.std.proofs.Common.{rules}
use Rattle.qk_top.proofs.Numbers.{number_written}
use Rattle.qk_top.proofs.digits.push_number.Goals as goal

pub returns : goal.returns
returns c = rw (← number_written c.args.number (search (rules, c.ranges.number))) (search rules)
