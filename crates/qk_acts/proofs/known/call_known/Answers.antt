use Rattle.qk_making.specs.Acting.{seen_in}
use Rattle.qk_making.proofs.Acting.{acts_left}
use Rattle.qk_acts.proofs.known.call_known.Goals as goal

pub returns-in-Log : goal.returns-in-Log
returns-in-Log g c = rw c.in-Log.is (c.log_line.ensures c.args.heap.now)

pub returns-in-Str : goal.returns-in-Str
returns-in-Str g c = rw c.in-Str.is (λ here mode_is. acts_left (seen_in here) _ _ _ _ (λ s same. c.as_text.ensures here s))

pub returns-in-Trunc : goal.returns-in-Trunc
returns-in-Trunc g c = rw c.in-Trunc.is (λ here mode_is. acts_left (seen_in here) _ _ _ _ (λ s same. c.truncated.ensures here s))
