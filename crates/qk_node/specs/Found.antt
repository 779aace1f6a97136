-- The arrows of a tree in text order: only where an arrow stands, and where names are declared, do forms differ.
use Rattle.std.specs.Prelude.{List, [], ◌∷◌, ◌++◌}
use Rattle.qk_ast.specs.declared.Expr.{Expr, more_of-Arrow}
use Rattle.qk_ast.specs.Texts.{Text}
use Rattle.qk_ast.specs.Names.{around, body_names}
use Rattle.qk_ast.specs.Arrows.{Found_arrow, inner_scope}
use Rattle.qk_ast.specs.Walking.{names_declared}
use Rattle.qk_node.specs.Nodes.{Node, Value, Block, For_block}
use Rattle.qk_node.specs.Growing.{Forest, none, more}

-- the node itself, where it is an arrow
abbrev pub arrow_here : Node → (scope : List Text) → List Found_arrow
arrow_here (Value (Expr.Arrow' _ (more_of-Arrow place params body _)) mark) scope = record { place = place; scope = scope; mark = mark; params = params; body = body } ∷ []
arrow_here _ scope = []

-- the names declared around what is inside a node
abbrev pub scope_inside : Node → List Text → List Text
scope_inside (Value (Expr.Arrow' _ (more_of-Arrow place params body _)) mark) scope = around (body_names body) (inner_scope mark params scope)
scope_inside (Block ss) scope = around (names_declared ss) scope
scope_inside (For_block name ss) scope = around (names_declared ss) (name ∷ scope)
scope_inside _ scope = scope

abbrev pub arrows_in : Forest → (scope : List Text) → List Found_arrow
arrows_in none scope = []
arrows_in (more n inside behind) scope = arrow_here n scope ++ (arrows_in inside (scope_inside n scope) ++ arrows_in behind scope)
