use Rattle.std.proofs.Common.{rules}
use Rattle.qk_first.specs.Kept.{counter_in}
use Rattle.qk_top.proofs.Shown.{shown_there, not_shown}
use Rattle.qk_top.proofs.blocks.push_shown.Goals as goal

pub returns-in_ok-push_number : goal.returns-in_ok-push_number
returns-in_ok-push_number c = rw (shown_there (counter_in c.args.counter.now) c.args.number c.if-counter.true) (search rules)

pub returns-else-counter : goal.returns-else-counter
returns-else-counter c = rw (not_shown (counter_in c.args.counter.now) c.args.number c.if-counter.false) (search rules)

pub returns-in_err-push_number : goal.returns-in_err-push_number
returns-in_err-push_number c = rw (shown_there (counter_in c.args.counter.now) c.args.number c.if-counter.true) (search rules)
