-- What the nodes and paths of the program stand for in the meaning.
use Rattle.std.specs.Prelude.{List, [], ◌∷◌}
use Rattle.qk_ast.specs.Texts.{Text}
use Rattle.qk_meaning.specs.Value.{Site}
use Rattle.qk_meaning.specs.World as W
use Rattle.qk_meaning.specs.Expansion.{Nodes, no_nodes, node}
use Rattle.qk_meaning.specs.Expansion as E
use Rattle.qk_value.specs.View.{seen_fields}
use Rattle.qk_nodes.specs.declared.node.Place.{Place}
use Rattle.qk_nodes.specs.declared.node.Step.{Step}
use Rattle.qk_nodes.specs.declared.node.Element.{Element}
use Rattle.qk_nodes.specs.declared.node.Inside.{Inside}
use Rattle.qk_nodes.specs.declared.node.Node.{Node, Element', Instance', Row_of-Node, end_of-Node, more_of-Node}

abbrev pub place_of : Place → W.Place
place_of (Place.Keyed key) = W.Keyed key
place_of (Place.Nth n) = W.Nth n

abbrev pub step_of : Step → W.Step
step_of s = record { place = place_of s.place; name = s.name }

abbrev pub path_of : List Step → List W.Step
path_of [] = []
path_of (s ∷ rest) = step_of s ∷ path_of rest

module _ (names : Site → List Text) where
  abbrev mutual
    pub node_of : Node → E.Node
    node_of (Element' tag attrs _ children) = E.Tagged tag (seen_fields names attrs) (row_of children)
    node_of (Node.Text t) = E.Shows t
    node_of (Instance' path _ nodes) = E.Inside (path_of path) (row_of nodes)

    pub row_of : {n : _} → Row_of-Node n → Nodes
    row_of end_of-Node = no_nodes
    row_of (more_of-Node n rest) = node (node_of n) (row_of rest)

  -- the nodes of a list
  abbrev pub nodes_of : List Node → Nodes
  nodes_of [] = no_nodes
  nodes_of (n ∷ rest) = node (node_of n) (nodes_of rest)

  abbrev pub element_of : Element → E.Node
  element_of e = E.Tagged e.tag (seen_fields names e.attrs) (nodes_of e.children)

  abbrev pub inside_of : Inside → E.Node
  inside_of i = E.Inside (path_of i.path) (nodes_of i.nodes)
