use Rattle.std.specs.Option.{option_map, option_copied}
use Rattle.qk_nodes.specs.Tree.{node_of, nodes_of}
use Rattle.qk_html.proofs.Elements_found.{attributes_found}
use Rattle.qk_html.proofs.finding.find.Goals as goal

pub returns-clause-attributes : goal.returns-clause-attributes
returns-clause-attributes c = λ names. attributes_found c.args.id.now (nodes_of names c.args.nodes.now) (option_map (node_of names) (option_copied c.find_among.result)) (c.find_among.ensures names)
