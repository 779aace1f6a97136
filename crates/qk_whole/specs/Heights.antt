-- How many levels of the tree there are below a node.
use Rattle.std.specs.Prelude.{ℕ, max, List, [], ◌∷◌}
use Rattle.qk_ast.specs.declared.Expr.{size-Expr}
use Rattle.qk_ast.specs.declared.Link.{size-Link}
use Rattle.qk_ast.specs.declared.Stmt.{Stmt, size-Stmt}
use Rattle.qk_node.specs.Nodes.{Node, Value, Step, Statement, Block, For_block}

-- the most that a statement of these has
abbrev pub height_of_all : List Stmt → ℕ
height_of_all [] = 0
height_of_all (s ∷ rest) = max (size-Stmt s) (height_of_all rest)

abbrev pub height : Node → ℕ
height (Value x mark) = size-Expr x
height (Step l mark) = size-Link l
height (Statement s) = size-Stmt s
height (Block ss) = height_of_all ss
height (For_block name ss) = height_of_all ss
