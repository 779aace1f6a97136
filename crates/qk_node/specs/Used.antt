-- The names that code uses and doesn't declare, in order of use.
use Rattle.std.specs.Prelude.{List, [], ◌∷◌, ◌++◌}
use Rattle.qk_ast.specs.declared.Pattern.{Pattern}
use Rattle.qk_ast.specs.declared.Expr.{Expr, more_of-Arrow, more_of-Jsx}
use Rattle.qk_ast.specs.declared.Jsx.{Jsx, Jsx'}
use Rattle.qk_ast.specs.declared.Tag.{Tag}
use Rattle.qk_ast.specs.declared.Stmt.{Stmt}
use Rattle.qk_ast.specs.Texts.{Text}
use Rattle.qk_ast.specs.Names.{others_than, patterns_names, body_names}
use Rattle.qk_ast.specs.Uses.{tag_use}
use Rattle.qk_ast.specs.Walking.{names_declared}
use Rattle.qk_node.specs.Nodes.{Node, Value, Statement, Block, For_block}
use Rattle.qk_node.specs.Growing.{Forest, none, more}

abbrev pub tag_of : Jsx → Tag
tag_of (Jsx' tag _ attributes _ children) = tag

-- the node itself, where it is or has a name
abbrev pub use_here : Node → List Text
use_here (Value (Expr.Name name) mark) = name ∷ []
use_here (Value (Expr.Jsx' _ (more_of-Jsx jsx _)) mark) = tag_use (tag_of jsx)
use_here _ = []

-- of the names used inside a node, those that it doesn't declare
abbrev pub not_declared : Node → List Text → List Text
not_declared (Value (Expr.Arrow' _ (more_of-Arrow place params body _)) mark) names = others_than (patterns_names params) (others_than (body_names body) names)
not_declared (Block ss) names = others_than (names_declared ss) names
not_declared (For_block name ss) names = others_than (name ∷ []) (others_than (names_declared ss) names)
not_declared (Statement (Stmt.Const (Pattern.Scope all) x)) names = []
not_declared _ names = names

abbrev pub uses_in : Forest → List Text
uses_in none = []
uses_in (more n inside behind) = use_here n ++ (not_declared n (uses_in inside) ++ uses_in behind)
