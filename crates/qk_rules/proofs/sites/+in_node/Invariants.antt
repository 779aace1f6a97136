use Rattle.std.proofs.Common.{◌≡◌, ◌≤◌, ◌-◌}
use Rattle.qk_node.specs.Growing.{within, grown, tree, count}
use Rattle.qk_node.specs.Borrowed.{node_of, left}
use Rattle.qk_rules.specs.Site_counts.{sites}
use Rattle.qk_rules.proofs.sites.+in_node.Given as goal

abbrev pub decreases-in_node : goal.decreases-in_node
decreases-in_node l = count (within (node_of l.node))

abbrev pub invariant-loop-child : goal.invariant-loop-child
invariant-loop-child l = (count (grown (left l.child-iterator)) ≤ count (within (node_of l.fn.node)))
    × (l.more - sites (grown (left l.child-iterator)) ≡ l.fn.left - sites (tree (node_of l.fn.node)))
