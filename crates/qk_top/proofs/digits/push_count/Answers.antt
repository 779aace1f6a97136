use Rattle.std.proofs.Common.{rules, arith}
use Rattle.qk_top.proofs.Numbers.{count_written}
use Rattle.qk_top.proofs.digits.push_count.Goals as goal

pub returns : goal.returns
returns c = rw (← count_written c.args.count (omega (arith, c.ranges.count))) (search rules)
