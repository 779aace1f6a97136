-- Texts in the order of their bytes, each once.
use Rattle.std.specs.Prelude.{Bool, true, false, List, [], ◌∷◌}
use Rattle.std.specs.Ordering.{nat_cmp, is_lt}
use Rattle.std.specs.Cmp.Lexicographic.{slice_cmp}
use Rattle.qk_ast.specs.Texts.{Text, same_text}

abbrev pub comes_before : Text → Text → Bool
comes_before t u = is_lt (slice_cmp nat_cmp t u)

-- one text more at its place, unless it stands there
abbrev pub put_in : Text → List Text → List Text
put_in t [] = t ∷ []
put_in t (u ∷ rest) = elim (same_text t u) [ true ↦ u ∷ rest | false ↦ elim (comes_before t u) [ true ↦ t ∷ u ∷ rest | false ↦ u ∷ put_in t rest ] ]

abbrev pub in_order : List Text → List Text
in_order [] = []
in_order (t ∷ rest) = put_in t (in_order rest)
