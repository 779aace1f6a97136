-- Which names are in the set of a list.
use Rattle.std.specs.Prelude.{◌≡◌, refl, Bool, true, false, ◌||◌, List, []}
use Rattle.std.proofs.Common.{◌∙◌}
use Rattle.qk_ast.specs.Texts.{Text}
use Rattle.qk_ast.specs.Names.{is_listed}
use Rattle.qk_ast.specs.Walking.{with_names}
use Rattle.qk_ast.proofs.Bound.{listed_inside}

or_none : (b : Bool) → (b || false) ≡ b
or_none true = refl
or_none false = refl

-- each name of a list is in its set
pub listed_once : (q : Text) (names : List Text) → is_listed q (with_names [] names) ≡ is_listed q names
listed_once q names = listed_inside q [] names ∙ or_none (is_listed q names)
