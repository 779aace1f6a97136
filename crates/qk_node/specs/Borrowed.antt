-- The node that a borrowed one stands for, and the children that an iteration has left.
use Rattle.std.specs.Prelude.{List, [], ◌∷◌, ◌++◌}
use Rattle.qk_ast.specs.Arrows.{Unmarked}
use Rattle.qk_locals.specs.Meanings.{mark_of}
use Rattle.qk_node.specs.declared.node.Node.{Node as Borrowed}
use Rattle.qk_node.specs.declared.node.Heads.{Heads}
use Rattle.qk_node.specs.declared.node.Heads.TheVariants as heads
use Rattle.qk_node.specs.declared.node.Row.{Row}
use Rattle.qk_node.specs.declared.node.Row.TheVariants as row
use Rattle.qk_node.specs.declared.node.Children.{Children}
use Rattle.qk_node.specs.Nodes.{Node, Value, Step, Statement, Block, For_block, plain, values, fields, attributes, operands, links, statements}

abbrev pub node_of : Borrowed → Node
node_of (Borrowed.Value x mark) = Value x.now (mark_of mark)
node_of (Borrowed.Step l mark) = Step l.now (mark_of mark)
node_of (Borrowed.Statement s) = Statement s.now
node_of (Borrowed.Block ss) = Block ss.now
node_of (Borrowed.ForBlock name ss) = For_block name.now ss.now

abbrev pub heads_of : Heads → List Node
heads_of heads.None = []
heads_of (heads.One a) = plain a.now ∷ []
heads_of (heads.Two a b) = plain a.now ∷ plain b.now ∷ []
heads_of (heads.Three a b c) = plain a.now ∷ plain b.now ∷ plain c.now ∷ []

abbrev pub nodes_of : Row → List Node
nodes_of row.Nothing = []
nodes_of (row.Values xs mark) = values (mark_of mark) xs.now
nodes_of (row.Fields fs) = fields fs.now
nodes_of (row.Operands os) = operands os.now
nodes_of (row.Links ls mark) = links (mark_of mark) ls.now
nodes_of (row.Markup fs xs) = attributes fs.now ++ values Unmarked xs.now
nodes_of (row.Statements ss) = statements ss.now
nodes_of (row.Block ss) = Block ss.now ∷ []
nodes_of (row.Blocks ss ts) = Block ss.now ∷ Block ts.now ∷ []
nodes_of (row.ForBlock name ss) = For_block name.now ss.now ∷ []

abbrev pub parts : Children → List Node
parts c = heads_of c.heads ++ nodes_of c.row

unfoldable pub left : Children → List Node
left c = parts c
