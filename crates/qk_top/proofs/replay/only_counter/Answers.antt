use Rattle.std.proofs.Common.{arith}
use Rattle.qk_top.proofs.Accepted.{not_alone}
use Rattle.qk_top.proofs.replay.only_counter.Goals as goal

pub returns-in-len2-up-clause-none : goal.returns-in-len2-up-clause-none
returns-in-len2-up-clause-none c m one =
    omega (arith, not_alone c.args.application.now c.as_slice.result.now c.as_slice.ensures m one, c.in-len2-up.len_at_least)
