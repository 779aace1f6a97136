-- The tree of settled views.
use Rattle.std.specs.Prelude.{Bool, ◌≡◌, ◌≤◌, List, map, Result, Ok, Err, Vec}
use Rattle.std.specs.declared.alloc.Global.{Global}
use Rattle.qk_ast.specs.Texts.{Text}
use Rattle.qk_meaning.specs.Value as M
use Rattle.qk_meaning.specs.Value.{Site}
use Rattle.qk_meaning.specs.World.{Instance, Step}
use Rattle.qk_meaning.specs.Places.{same_path}
use Rattle.qk_meaning.specs.Doing.{Outcome, Gives, Stops, Faults, Ends}
use Rattle.qk_meaning.specs.Expansion.{Nodes}
use Rattle.qk_meaning.specs.Html.{nodes_count}
use Rattle.qk_value.specs.View.{seen}
use Rattle.qk_value.specs.Faults.{fault_of}
use Rattle.qk_value.specs.declared.fault.Fault.{Fault}
use Rattle.qk_nodes.specs.declared.node.Node.{Node}
use Rattle.qk_nodes.specs.declared.node.Step as program
use Rattle.qk_nodes.specs.Tree.{path_of, nodes_of}
use Rattle.qk_tree.specs.declared.settled.View.{View}
use Rattle.qk_tree.specs.declared.settled.TreeStop.{TreeStop}
use Rattle.qk_tree.specs.Doings.{exceeds}

-- these are the paths and views of the instances
abbrev pub Shows : (Site → List Text) → List View → List Instance → Type 0
Shows names views all = map {B = List Step × M.Value} (λ v. (path_of v.path, seen names v.view)) views ≡ map (λ i. (i.path, i.view)) all

abbrev pub stands_at : List program.Step → View → Bool
stands_at path v = same_path (path_of v.path) (path_of path)

-- The nodes are those of the tree, at most 65,536; or it has more; or there is no tree. Of want of memory nothing is said.
abbrev pub Tree_comes : (Site → List Text) → Outcome (Unit {0}) Nodes → Result (Vec Node Global) TreeStop → Type 0
Tree_comes names outcome (Ok nodes) = (outcome ≡ Gives (nodes_of names nodes.items) (tt {0})) × (nodes_count (nodes_of names nodes.items) ≤ 65536)
Tree_comes names outcome (Err (TreeStop.Fault Fault.TreeTooLarge)) = exceeds 65536 outcome
Tree_comes names outcome (Err (TreeStop.Fault f)) = outcome ≡ Stops (Faults (fault_of f)) (tt {0})
Tree_comes names outcome (Err TreeStop.NoView) = outcome ≡ Stops Ends (tt {0})
Tree_comes names outcome (Err TreeStop.Memory) = Unit {0}
