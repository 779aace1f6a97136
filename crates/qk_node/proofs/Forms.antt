-- The forms that definitions name, as the code has them.
use Rattle.std.specs.Prelude.{◌≡◌, refl, List, [], ◌∷◌, ◌++◌}
use Rattle.std.proofs.Common.{ap}
use denote.Hole.Carrier.{hidden}
use Rattle.qk_ast.specs.declared.Body.TheBlock.{hidden-the_row-Stmt-1, shape-the_row-Arrow-6, hidden-the_row-Arrow-6}
use Rattle.qk_ast.specs.declared.Body.TheVariants as b
use Rattle.qk_ast.specs.declared.Arrow.{Arrow}
use Rattle.qk_ast.specs.declared.Expr.TheVariants as e
use Rattle.qk_ast.specs.declared.Stmt.{Stmt}
use Rattle.qk_ast.specs.Texts.{Text}
use Rattle.qk_ast.specs.Names.{declared_in, declared_by, body_names}
use Rattle.qk_ast.specs.Arrows.{Mark}
use Rattle.qk_ast.specs.Walking.{names_declared}
use Rattle.qk_node.specs.Nodes.{Value}
use Rattle.qk_node.specs.Found.{arrow_here}

declared_row : (ss : List Stmt) → declared_in (hidden-the_row-Stmt-1 ss) ≡ names_declared ss
unfolding hidden-the_row-Stmt-1 hidden
declared_row [] = refl
declared_row (s ∷ ss) = ap (λ names. declared_by s ++ names) (declared_row ss)

pub block_names : (ss : List Stmt) → body_names (b.Block ss) ≡ names_declared ss
block_names ss = declared_row ss

pub arrow_itself : (a : Arrow) (mark : Mark) (scope : List Text)
    → arrow_here (Value (e.Arrow a) mark) scope ≡ record { place = a.place; scope = scope; mark = mark; params = a.params; body = a.body } ∷ []
unfolding shape-the_row-Arrow-6 hidden-the_row-Arrow-6 hidden
arrow_itself a mark scope = refl
