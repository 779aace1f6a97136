use Rattle.std.proofs.Common.{rules}
use Rattle.qk_meaning.specs.Operators.{truncated}
use Rattle.qk_meaning.specs.Setting.{captures}
use Rattle.qk_making.specs.Acting.{seen_in}
use Rattle.qk_acts.proofs.Known_calls.{comes_refused, two_given}
use Rattle.qk_acts.proofs.known.truncated.Goals as goal

pub returns-in_err-trunc : goal.returns-in_err-trunc
returns-in_err-trunc c = λ here s.
    rw (two_given c.args.arguments.now c.a-item.result c.b-item.result c.in-len2.len_at_least c.in-len2.len_below c.a-item.is c.b-item.is)
    (comes_refused (seen_in here) (truncated (seen_in here c.a-item.result) (seen_in here c.b-item.result)) c.in_err-trunc.field-0.0 _ s (search rules) (c.in_err-trunc.ensures (captures here)))
