use Rattle.std.specs.Prelude.{◌≡◌, List, drop}
use Rattle.qk_meaning.specs.Value.{Text, Site}
use Rattle.qk_nodes.specs.Tree.{nodes_of}
use Rattle.qk_html.specs.Finding.{first_element}
use Rattle.qk_html.proofs.finding.+find.Given as goal

abbrev pub invariant-find_among-loop-node : goal.invariant-find_among-loop-node
invariant-find_among-loop-node l = (names : Site → List Text) → first_element l.id (nodes_of names l.nodes) ≡ first_element l.id (nodes_of names (drop l.node-index l.nodes))
