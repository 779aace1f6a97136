-- What calls are given, by their lists of arguments.
use Rattle.std.specs.Prelude.{Bool, true, false, List, [], ◌∷◌}
use Rattle.qk_ast.specs.declared.Arrow.{Arrow}
use Rattle.qk_ast.specs.declared.Body.{Body}
use Rattle.qk_ast.specs.declared.Expr.{Expr, more_of-Arrow}
use Rattle.qk_ast.specs.declared.Pattern.{Pattern}
use Rattle.qk_ast.specs.Texts.{Text}
use Rattle.qk_ast.specs.Placing.{has_parameters}

-- an arrow, with parameters as that dollar name wants them
abbrev pub arrow_given : Text → Expr → Bool
arrow_given callee (Expr.Arrow' _ (more_of-Arrow place params body _)) = has_parameters callee params
arrow_given callee _ = false

abbrev pub are_given : Text → List Expr → Bool
are_given callee (x ∷ []) = arrow_given callee x
are_given callee _ = false

-- no parameters, and a value
abbrev pub value_of : List Pattern → Body → Bool
value_of [] (Body.Value' _ e) = true
value_of _ _ = false

abbrev pub is_value_of : Arrow → Bool
is_value_of arrow = value_of arrow.params arrow.body

-- `() => e`
abbrev pub tracked : Expr → Bool
tracked (Expr.Arrow' _ (more_of-Arrow place params body _)) = value_of params body
tracked _ = false

abbrev pub are_tracked : List Expr → Bool
are_tracked (x ∷ []) = tracked x
are_tracked _ = false

abbrev pub is_one : List Expr → Bool
is_one (x ∷ []) = true
is_one _ = false
