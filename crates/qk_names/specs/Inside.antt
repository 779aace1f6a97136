-- The arrows inside an arrow.
use Rattle.std.specs.Prelude.{List, ◌∷◌}
use Rattle.qk_ast.specs.Arrows.{Found_arrow, body_arrows, inner_scope}

-- those that its body has, in text order, with the names declared around each
abbrev pub inside : Found_arrow → List Found_arrow
inside a = body_arrows a.body (inner_scope a.mark a.params a.scope)

abbrev pub with_inside : Found_arrow → List Found_arrow
with_inside a = a ∷ inside a
