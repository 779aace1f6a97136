use Rattle.std.proofs.Common.{sym, ◌∙◌, arith}
use Rattle.qk_nodes.proofs.Comparing.{not_above, all_same}
use Rattle.qk_nodes.proofs.paths.is_above.Goals as goal

pub returns-then-a-b : goal.returns-then-a-b
returns-then-a-b c = sym (not_above c.args.a.now c.args.b.now c.if-a-b.true)

pub returns : goal.returns
returns c = sym (c.loop-at.invariant.same ∙ all_same c.args.a.now c.args.b.now c.loop-at.at c.loop-at-test.false (omega (arith, c.loop-at.invariant.within, c.loop-at.invariant.shorter)))
