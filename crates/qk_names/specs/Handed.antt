-- The arrow that a call is handed.
use Rattle.std.specs.Prelude.{true, [], ◌∷◌, Option, Some, None}
use Rattle.qk_ast.specs.declared.Expr.{Expr, more_of-Expr, more_of-Arrow}
use Rattle.qk_ast.specs.Arrows.{Mark, Found_arrow, call_mark}
use Rattle.qk_ast.specs.Spots.{Called, With, called}

-- the one arrow that a call of that mark is handed; no local is declared around it
abbrev pub handed_in : Mark → Called → Option Found_arrow
handed_in mark (With (Expr.Arrow' _ (more_of-Arrow place params body _) ∷ []) true) = Some (record { place = place; scope = []; mark = mark; params = params; body = body })
handed_in mark _ = None

-- of an expression that is one call
abbrev pub handed : Expr → Option Found_arrow
handed (Expr.Post' _ (more_of-Expr head _) _ links) = handed_in (call_mark head) (called links)
handed _ = None
