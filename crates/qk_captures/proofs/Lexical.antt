-- The names of `useLexicalScope`.
use Rattle.std.specs.Prelude.{◌≡◌, refl, List, [], ◌∷◌}
use denote.Hole.Carrier.{hidden}
use Rattle.qk_ast.specs.declared.Body.TheBlock.{hidden-the_row-Stmt-1, shape-the_row-Arrow-6, hidden-the_row-Arrow-6}
use Rattle.qk_ast.specs.declared.Arrow.{Arrow}
use Rattle.qk_ast.specs.declared.Expr.TheVariants as e
use Rattle.qk_ast.specs.declared.Pattern.{Pattern}
use Rattle.qk_ast.specs.declared.Stmt.{Stmt, Block' as Statement_block'}
use Rattle.qk_ast.specs.declared.Body.TheVariants as b
use Rattle.qk_ast.specs.Names.{row_scope_names, scope_names}
use Rattle.qk_ast.specs.Arrows.{names_around}
use Rattle.qk_captures.specs.Scoping.{first_names}

pub around_arrow : (a : Arrow) → names_around (e.Arrow a) ≡ scope_names a.body
unfolding shape-the_row-Arrow-6 hidden-the_row-Arrow-6 hidden
around_arrow a = refl

first_in_row : (ss : List Stmt) → row_scope_names (hidden-the_row-Stmt-1 ss) ≡ first_names ss
unfolding hidden-the_row-Stmt-1 hidden
first_in_row [] = refl
first_in_row (Stmt.Const (Pattern.Name name) x ∷ rest) = refl
first_in_row (Stmt.Const (Pattern.Fields names) x ∷ rest) = refl
first_in_row (Stmt.Const (Pattern.Scope names) x ∷ rest) = refl
first_in_row (Stmt.Let name x ∷ rest) = refl
first_in_row (Stmt.Do x ∷ rest) = refl
first_in_row (Stmt.Delete x ∷ rest) = refl
first_in_row (Stmt.Return' x ∷ rest) = refl
first_in_row (Stmt.If' x _ then _ otherwise ∷ rest) = refl
first_in_row (Stmt.While' x _ all ∷ rest) = refl
first_in_row (Stmt.ForOf' name x _ all ∷ rest) = refl
first_in_row (Stmt.Break ∷ rest) = refl
first_in_row (Stmt.Continue ∷ rest) = refl
first_in_row (Statement_block' _ all ∷ rest) = refl

pub first_of_block : (ss : List Stmt) → scope_names (b.Block ss) ≡ first_names ss
first_of_block ss = first_in_row ss
