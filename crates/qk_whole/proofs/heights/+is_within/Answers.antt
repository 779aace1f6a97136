use Rattle.std.proofs.Common.{sym, subst, arith}
use Rattle.qk_node.specs.Borrowed.{node_of}
use Rattle.qk_whole.proofs.Levels.{Low, low_node}
use Rattle.qk_whole.proofs.heights.+is_within.Goals as goal

pub returns : goal.returns
returns t c = λ _.
    let none = subst (Low c.in-Some.below) (sym c.in-None.ensures.steps.0) tt in
    omega (arith, low_node (node_of c.args.node) c.in-Some.below (c.loop-child.invariant none), c.in-Some.ensures)
