use Rattle.std.proofs.Common.{sym, ap, ◌∙◌}
use Rattle.qk_node.specs.Growing.{grown}
use Rattle.qk_node.specs.Borrowed.{node_of, left}
use Rattle.qk_node.proofs.Trees.{within_children}
use Rattle.qk_node.proofs.node.Node.children.Goals as goal

pub returns-clause-each : goal.returns-clause-each
unfolding left
returns-clause-each c = c.parts.ensures

pub returns-clause-inside : goal.returns-clause-inside
unfolding left
returns-clause-inside c = ap grown c.parts.ensures ∙ sym (within_children (node_of c.args.self))
