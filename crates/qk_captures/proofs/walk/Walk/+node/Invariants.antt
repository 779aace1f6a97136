use Rattle.std.specs.Prelude.{◌≡◌, ◌≤◌}
use Rattle.qk_node.specs.Growing.{within, grown, count}
use Rattle.qk_node.specs.Borrowed.{node_of, left}
use Rattle.qk_node.specs.Found.{arrows_in}
use Rattle.qk_captures.specs.Walking.{behind}
use Rattle.qk_captures.proofs.walk.Walk.+node.Given as goal

abbrev pub decreases-node : goal.decreases-node
decreases-node l = count (within (node_of l.node))

abbrev pub invariant-loop-child : goal.invariant-loop-child
invariant-loop-child l = (count (grown (left l.child-iterator)) ≤ count (within (node_of l.fn.node)))
    × (behind (arrows_in (grown (left l.child-iterator))) l.self ≡ behind (arrows_in (within (node_of l.fn.node))) l.initial.self)
