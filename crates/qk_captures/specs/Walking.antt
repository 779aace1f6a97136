-- The walk that finds arrows: what it notes of each, and which arrows each part of the tree holds.
use Rattle.std.specs.Prelude.{ℕ, suc, Bool, true, false, not, List, [], ◌∷◌, ◌++◌, map}
use Rattle.qk_ast.specs.declared.Arrow.{Arrow}
use Rattle.qk_ast.specs.declared.Form.{Form}
use Rattle.qk_ast.specs.declared.Item.{Item}
use Rattle.qk_ast.specs.Texts.{Text}
use Rattle.qk_ast.specs.Names.{around}
use Rattle.qk_ast.specs.Arrows.{Mark, Unmarked, Found_arrow, arrows, is_dollar}
use Rattle.qk_ast.specs.Uses.{captures_of}
use Rattle.qk_captures.specs.declared.Captured.{Captured}
use Rattle.qk_captures.specs.declared.walk.Walk.{Walk}
use Rattle.qk_captures.specs.Scoping.{in_scope, names_before}

-- ---- what is noted

pub record Note : Type 0 where
  pub dollar : Bool
  pub names : List Text

abbrev pub note_of : Found_arrow → Note
note_of a = record { dollar = is_dollar a; names = captures_of a }

abbrev pub one_more : (counts : Bool) → ℕ → ℕ
one_more true n = suc n
one_more false n = n

-- how many arrows of that kind were met
abbrev pub count_of : Bool → (dollar plain : ℕ) → ℕ
count_of true dollar plain = dollar
count_of false dollar plain = plain

abbrev pub captured : Text → ℕ → Note → Captured
captured file before n = record { site = record { «module» = file; number = suc before; dollar = n.dollar }; names = n.names }

-- the walk behind an arrow
unfoldable pub noted : Note → Walk → Walk
noted n w = record w {
  dollar = one_more n.dollar w.dollar;
  plain = one_more (not n.dollar) w.plain;
  found = w.found ++ captured w.file.now (count_of n.dollar w.dollar w.plain) n ∷ [];
}

unfoldable pub all_noted : List Note → Walk → Walk
all_noted [] w = w
all_noted (n ∷ rest) w = all_noted rest (noted n w)

-- the walk behind the arrows that a part of the tree holds, where these names are in scope
unfoldable pub behind : (List Text → List Found_arrow) → Walk → Walk
behind found w = all_noted (map note_of (found (in_scope w.scope))) w

-- nothing that holds an arrow
abbrev pub none_found : List Text → List Found_arrow
none_found scope = []

-- an arrow that stands so
abbrev pub arrow_of : Arrow → Mark → List Text → Found_arrow
arrow_of a mark scope = record { place = a.place; scope = scope; mark = mark; params = a.params; body = a.body }

abbrev pub arrow_found : Arrow → Mark → List Text → List Found_arrow
arrow_found a mark scope = arrow_of a mark scope ∷ []

-- ---- items

abbrev pub item_found : Form → Item → List Text → List Found_arrow
item_found form i scope = arrows i.init Unmarked (around (names_before form i.init) scope)

abbrev pub items_found : Form → List Item → List Text → List Found_arrow
items_found form [] scope = []
items_found form (i ∷ rest) scope = item_found form i scope ++ items_found form rest scope
