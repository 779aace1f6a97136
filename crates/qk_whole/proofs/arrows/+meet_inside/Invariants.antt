use Rattle.std.specs.Prelude.{◌≡◌, ◌≤◌, ◌++◌, List, map}
use Rattle.qk_ast.specs.Texts.{Text}
use Rattle.qk_node.specs.Growing.{within, grown, count}
use Rattle.qk_node.specs.Borrowed.{node_of, left}
use Rattle.qk_node.specs.Found.{arrows_in}
use Rattle.qk_whole.specs.Meeting.{met_seen, arrow_seen}
use Rattle.qk_whole.proofs.arrows.+meet_inside.Given as goal

abbrev pub decreases-meet_inside : goal.decreases-meet_inside
decreases-meet_inside l = count (within (node_of l.node))

abbrev pub invariant-loop-child : goal.invariant-loop-child
invariant-loop-child l = (count (grown (left l.child-iterator)) ≤ count (within (node_of l.fn.node)))
    × ((scope : List Text) → map met_seen l.all ++ map arrow_seen (arrows_in (grown (left l.child-iterator)) scope) ≡ map met_seen l.initial.all ++ map arrow_seen (arrows_in (within (node_of l.fn.node)) scope))
