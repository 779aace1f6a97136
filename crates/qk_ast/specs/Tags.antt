-- The rules of tags and attributes.
use Rattle.std.specs.Prelude.{ℕ, ◌+◌, Bool, true, false, not, ◌&&◌, ◌||◌, ◌==◌, List, [], ◌∷◌, map, codes}
use Rattle.qk_ast.specs.declared.Tag.{Tag}
use Rattle.qk_ast.specs.declared.Expr.{Expr}
use Rattle.qk_ast.specs.Characters.{is_letter, is_capital, is_digit, every, has}
use Rattle.qk_ast.specs.Texts.{Text, same_text, is_among}
use Rattle.qk_ast.specs.Names.{is_listed}
use Rattle.qk_ast.specs.Framework.{void_tags, refused_tags}

-- ---- listeners

-- letters, and a `$` at the end
abbrev pub letters_and_dollar : Text → Bool
letters_and_dollar [] = false
letters_and_dollar (c ∷ []) = c == 36
letters_and_dollar (c ∷ (d ∷ rest)) = is_letter c && letters_and_dollar (d ∷ rest)

-- `on`, a capital letter, letters and `$`
abbrev pub is_listener : Text → Bool
is_listener (o ∷ (n ∷ (c ∷ rest))) = (o == 111) && (n == 110) && is_capital c && letters_and_dollar rest
is_listener _ = false

abbrev pub small : ℕ → ℕ
small c = elim (is_capital c) [ true ↦ c + 32 | false ↦ c ]

-- two listeners are of one event where their names are the same in small letters
abbrev pub in_small_letters : Text → Text
in_small_letters = map small

abbrev pub is_event_listed : Text → List Text → Bool
is_event_listed name [] = false
is_event_listed name (n ∷ rest) = (is_listener n && same_text (in_small_letters n) (in_small_letters name)) || is_event_listed name rest

-- ---- attributes

-- a letter with letters, digits and `-`
abbrev pub is_plain_attribute : Text → Bool
is_plain_attribute [] = false
is_plain_attribute (c ∷ rest) = is_letter c && every (λ d. is_letter d || is_digit d || (d == 45)) rest

abbrev pub is_element_attribute : Text → Bool
is_element_attribute name = is_among name (codes "key" ∷ codes "q:slot" ∷ []) || is_listener name || is_plain_attribute name

abbrev pub is_text_literal : Expr → Bool
is_text_literal (Expr.Text t) = true
is_text_literal _ = false

abbrev pub is_slot : Tag → Bool
is_slot (Tag.Component name) = same_text name (codes "Slot")
is_slot _ = false

-- what the kind of the tag asks of an attribute's name
abbrev pub fits_tag : Tag → Text → Bool
fits_tag (Tag.Element tag) name = is_element_attribute name
fits_tag (Tag.Component tag) name = elim (same_text tag (codes "Slot")) [ true ↦ same_text name (codes "name") | false ↦ not (has 58 name) || same_text name (codes "q:slot") ]
fits_tag Tag.Fragment name = true

-- attributes whose value is a text literal
abbrev pub wants_text : Tag → Text → Bool
wants_text tag name = same_text name (codes "q:slot") || (is_slot tag && same_text name (codes "name"))

-- an attribute after those of the tag that stand before it
abbrev pub is_attribute : Tag → Text → Expr → (earlier : List Text) → Bool
is_attribute tag name value earlier =
    not (is_listed name earlier) && fits_tag tag name && not (is_listener name && is_event_listed name earlier)
    && not (is_among name (codes "children" ∷ codes "ref" ∷ codes "dangerouslySetInnerHTML" ∷ [])) && (not (wants_text tag name) || is_text_literal value)

-- ---- tags

-- an element that may be shown, a void one without children
abbrev pub is_element : Text → (children : Bool) → Bool
is_element name children = not (is_among name refused_tags) && not (is_among name void_tags && children)
