use Rattle.std.proofs.Common.{rules, arith, sym}
use Rattle.qk_sites.proofs.Spelled.{put_together}
use Rattle.qk_whole.proofs.roots.symbol_of.Goals as goal

pub returns : goal.returns
returns c = let fits = c.ranges.number.fits in rw (sym (put_together c.args.name.now c.args.number (omega (arith, fits)))) (search rules)
