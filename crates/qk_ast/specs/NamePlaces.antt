-- Names in order, beside a table of the place that each of them has.
use Rattle.std.specs.Prelude.{◌≡◌, ℕ, List, Option, Some, map, slice_get}
use Rattle.std.specs.Borrow.{Bor}
use Rattle.std.specs.Ordering.{nat_cmp}
use Rattle.std.specs.Cmp.Lexicographic.{slice_cmp}
use Rattle.std.specs.BTreeMap.{BTreeMap, get_by}
use Rattle.qk_ast.specs.Texts.{Text}

-- the names of texts on loan
abbrev pub names_of : List (Bor (List ℕ)) → List Text
names_of names = map (λ name. name.now) names

-- the place that the table has for a name
abbrev pub place_at : BTreeMap (Bor (List ℕ)) ℕ → Text → Option ℕ
place_at places name = get_by (λ k. slice_cmp nat_cmp name k.now) places

-- the table has the place of each of the names
abbrev pub HoldPlaces : BTreeMap (Bor (List ℕ)) ℕ → List Text → Type 0
HoldPlaces places names = (place : ℕ) (name : Text) → slice_get names place ≡ Some name → place_at places name ≡ Some place
