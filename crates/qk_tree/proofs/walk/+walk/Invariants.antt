use Rattle.std.proofs.Common.{◌≡◌, ◌+◌, ◌*◌, ◌≤◌, drop}
use Rattle.qk_meaning.specs.Expansion.{in_order, expand_item, placed}
use Rattle.qk_meaning.specs.Html.{nodes_count}
use Rattle.qk_value.specs.View.{seen_all}
use Rattle.qk_nodes.specs.Tree.{path_of, nodes_of}
use Rattle.qk_tree.specs.Giving.{given_of}
use Rattle.qk_tree.specs.Doings.{among, behind}
use Rattle.qk_tree.proofs.Sequences.{Goes, to_do}
use Rattle.qk_tree.proofs.walk.+walk.Given as goal

abbrev pub decreases-component : goal.decreases-component
decreases-component g l = 4 * l.left + 2

abbrev pub decreases-in_order : goal.decreases-in_order
decreases-in_order g l = 4 * l.left + 1

abbrev pub decreases-inside : goal.decreases-inside
decreases-inside g l = 4 * l.left + 3

abbrev pub decreases-one : goal.decreases-one
decreases-one g l = 4 * l.left

-- in each way, what comes of the whole sequence is what came so far with what is left to do
abbrev pub invariant-in_order-loop-item : goal.invariant-in_order-loop-item
invariant-in_order-loop-item g l =
    (l.number ≤ l.item-index)
    × (l.path.items ≡ l.fn.path.items)
    × ((w : g.V.Visit.Way) → g.V.Visit.fits w l.visit → g.V.Visit.fits w l.fn.visit
    × ((s : g.V.Visit.State) → g.V.Visit.stands w l.fn.visit s
    → Goes (g.V.Visit.stands w l.visit) (l.fn.room + nodes_count (nodes_of (g.V.Visit.names w) l.fn.out.items))
    (behind (nodes_of (g.V.Visit.names w) l.fn.out.items)
    (in_order (expand_item (g.V.Visit.visits w) l.left (path_of l.fn.path.items) (given_of (g.V.Visit.names w) l.given)) (among l.only (placed (seen_all (g.V.Visit.names w) l.items))) s))
    (nodes_of (g.V.Visit.names w) l.out.items)
    l.room
    (to_do (expand_item (g.V.Visit.visits w) l.left (path_of l.fn.path.items) (given_of (g.V.Visit.names w) l.given)) l.only l.number (seen_all (g.V.Visit.names w) (drop l.item-index l.items)))))
