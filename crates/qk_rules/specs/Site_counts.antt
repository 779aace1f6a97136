-- How many dollar sites a tree has.
use Rattle.std.specs.Prelude.{ℕ, ◌+◌, List, [], ◌∷◌}
use Rattle.qk_ast.specs.declared.Item.{Item}
use Rattle.qk_ast.specs.declared.Expr.{Expr}
use Rattle.qk_ast.specs.Arrows.{Marked, Tasked}
use Rattle.qk_node.specs.Nodes.{Node, Value, plain}
use Rattle.qk_node.specs.Growing.{Forest, none, more, tree}

-- the node itself, as a dollar site
abbrev pub dollar_here : Node → ℕ
dollar_here (Value (Expr.Arrow' _ _) Marked) = 1
dollar_here (Value (Expr.Arrow' _ _) Tasked) = 1
dollar_here _ = 0

abbrev pub sites : Forest → ℕ
sites none = 0
sites (more n inside behind) = dollar_here n + (sites inside + sites behind)

abbrev pub item_sites : List Item → ℕ
item_sites [] = 0
item_sites (i ∷ rest) = sites (tree (plain i.init)) + item_sites rest
