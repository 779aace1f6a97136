use Rattle.std.specs.Prelude.{List, drop}
use Rattle.qk_meaning.specs.Value.{Text, Site}
use Rattle.qk_meaning.specs.Html.{html}
use Rattle.qk_nodes.specs.Tree.{nodes_of}
use Rattle.qk_html.proofs.Walking.{Left}
use Rattle.qk_html.proofs.nodes.+nodes.Given as goal

abbrev pub invariant-nodes_html-loop-node : goal.invariant-nodes_html-loop-node
invariant-nodes_html-loop-node l = (names : Site → List Text) → Left l.most l.fn.out.items (html (nodes_of names l.nodes)) l.out.items (html (nodes_of names (drop l.node-index l.nodes)))
