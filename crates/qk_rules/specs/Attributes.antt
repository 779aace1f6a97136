-- The attributes of a tag: what may stand alone, and what the set of events says.
use Rattle.std.specs.Prelude.{◌≡◌, ℕ, Bool, true, false, not, ◌&&◌, ◌||◌, ◌==◌, List, [], ◌∷◌, codes, String}
use Rattle.std.specs.BTreeSet.{BTreeSet, contains_text}
use Rattle.qk_ast.specs.declared.Tag.{Tag}
use Rattle.qk_ast.specs.declared.Expr.{Expr}
use Rattle.qk_ast.specs.Characters.{is_letter, is_digit, has}
use Rattle.qk_ast.specs.Texts.{Text, same_text, is_among}
use Rattle.qk_ast.specs.Tags.{is_listener, in_small_letters, fits_tag, wants_text, is_text_literal}

abbrev pub is_in_attribute : ℕ → Bool
is_in_attribute d = is_letter d || is_digit d || (d == 45)

abbrev pub fits_component : Text → Text → Bool
fits_component tag name = elim (same_text tag (codes "Slot")) [ true ↦ same_text name (codes "name") | false ↦ not (has 58 name) || same_text name (codes "q:slot") ]

-- the tag may have the attribute, as far as no other matters
abbrev pub is_alone : Tag → Text → Expr → Bool
is_alone tag name value =
    fits_tag tag name && not (is_among name (codes "children" ∷ codes "ref" ∷ codes "dangerouslySetInnerHTML" ∷ [])) && (not (wants_text tag name) || is_text_literal value)

-- one of the names is that of a listener, and this in small letters
abbrev pub is_event : Text → List Text → Bool
is_event event [] = false
is_event event (n ∷ rest) = (is_listener n && same_text (in_small_letters n) event) || is_event event rest

-- the set has the events of these names, and no other
abbrev pub HasEvents : {Y : Type 0} → BTreeSet (String Y) → List Text → Type 0
HasEvents set names = (event : Text) → contains_text set event ≡ is_event event names
