use Rattle.qk_node.specs.Nodes.{children}
use Rattle.qk_node.specs.Borrowed.{node_of, left}
use Rattle.qk_whole.proofs.Levels.{Low}
use Rattle.qk_whole.proofs.heights.+is_within.Given as goal

abbrev pub decreases-is_within : goal.decreases-is_within
decreases-is_within l = l.levels

abbrev pub invariant-loop-child : goal.invariant-loop-child
invariant-loop-child l = Low l.below (left l.child-iterator) → Low l.below (children (node_of l.fn.node))
