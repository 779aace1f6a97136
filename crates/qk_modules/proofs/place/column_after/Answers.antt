use Rattle.std.proofs.Common.{sym, arith}
use Rattle.qk_modules.proofs.Feeds.{column_start}
use Rattle.qk_modules.proofs.place.column_after.Goals as goal

pub loop-rest-init : goal.loop-rest-init
loop-rest-init c = (sym (column_start c.args.front.now), omega arith)
