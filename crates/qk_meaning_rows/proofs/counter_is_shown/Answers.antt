use Rattle.qk_meaning_rows.proofs.counter_is_shown.Goals as goal
use Rattle.qk_meaning_rows.proofs.Counter as row

pub returns : goal.returns
returns c = row.counter_is_shown
