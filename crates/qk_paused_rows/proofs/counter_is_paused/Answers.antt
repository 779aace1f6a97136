use Rattle.qk_paused_rows.proofs.counter_is_paused.Goals as goal
use Rattle.qk_paused_rows.proofs.Counter_page as row

pub returns : goal.returns
returns c = row.counter_is_paused
