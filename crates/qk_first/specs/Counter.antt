-- A counter: one element, whose click moves a number up or down by one, and what is printed of a list of events.
use Rattle.std.specs.Prelude.{ℕ, suc, ℤ, pos, ◌+ℤ◌, ◌-ℤ◌, Bool, true, false, ◌&&◌, List, [], ◌∷◌, ◌++◌, Option, Some, None, codes}
use Rattle.qk_ast.specs.Characters.{Characters, number_after}
use Rattle.qk_ast.specs.First.{First_text, First_attribute, Id, On_click, Shape, Shown}
use Rattle.qk_meaning.specs.Value.{Text}
use Rattle.qk_ast.specs.Texts.{same_text, decimal}
use Rattle.qk_meaning.specs.Texts.{integer_text}
use Rattle.qk_meaning.specs.Item.{Event}
use Rattle.qk_meaning.specs.Output.{line}

pub record Counter : Type 0 where
  pub tag : Text
  pub attributes : List First_attribute
  -- the number before the first click
  pub initial : ℤ
  -- whether the element shows its number
  pub shows : Bool

-- ---- the counter of a module of the first form; its texts are letters, each of which is its own byte

abbrev pub initial_of : Option Characters → ℤ
initial_of (Some digits) = pos (number_after 10 0 digits)
initial_of None = pos 0

abbrev pub is_shown : Shape → Bool
is_shown Shown = true
is_shown _ = false

abbrev pub counter_of : First_text → Counter
counter_of f = record { tag = f.tag; attributes = f.attributes; initial = initial_of f.initial; shows = is_shown f.shape }

-- ---- its element

abbrev pub attribute_html : First_attribute → Text
attribute_html (Id id) = codes " id=\"" ++ (id ++ codes "\"")
attribute_html (On_click up) = []

abbrev pub attributes_html : List First_attribute → Text
attributes_html [] = []
attributes_html (a ∷ more) = attribute_html a ++ attributes_html more

abbrev pub shown_number : Counter → ℤ → Text
shown_number c n = elim c.shows [ true ↦ integer_text n | false ↦ [] ]

-- the HTML of the element at this number
abbrev pub first_html : Counter → ℤ → Text
first_html c n = codes "<" ++ (c.tag ++ (attributes_html c.attributes ++ (codes ">" ++ (shown_number c n ++ (codes "</" ++ (c.tag ++ codes ">"))))))

-- ---- an event

abbrev pub has_id : Text → List First_attribute → Bool
has_id id [] = false
has_id id (Id w ∷ more) = same_text w id
has_id id (On_click up ∷ more) = has_id id more

abbrev pub listener : List First_attribute → Option Bool
listener [] = None
listener (Id w ∷ more) = listener more
listener (On_click up ∷ more) = Some up

-- the event is a click at the element; its value doesn't matter
abbrev pub clicks_it : Counter → Event → Bool
clicks_it c e = same_text e.kind (codes "click") && has_id e.id c.attributes

-- the listener that hears the event, as whether it counts up; none where the event is of another kind or at another id, or the element has no listener
abbrev pub hears : Counter → Event → Option Bool
hears c e = elim (clicks_it c e) [ true ↦ listener c.attributes | false ↦ None ]

abbrev pub moved : Bool → ℤ → ℤ
moved true n = n +ℤ pos 1
moved false n = n -ℤ pos 1

-- ---- what is printed

abbrev pub item_line : ℕ → Text
item_line k = line (codes "item " ++ decimal k)

abbrev pub html_line : Counter → ℤ → Text
html_line c n = line (codes "html " ++ first_html c n)

-- the blocks of these events, the first being item k, where the number is n before them
abbrev pub first_blocks : Counter → ℕ → ℤ → List Event → Text
first_blocks c k n [] = []
first_blocks c k n (e ∷ more) =
    elim (hears c e) [
      | Some up ↦ (item_line k ++ html_line c (moved up n)) ++ first_blocks c (suc k) (moved up n) more
      | None ↦ (item_line k ++ (line (codes "none") ++ html_line c n)) ++ first_blocks c (suc k) n more
    ]

-- all that is printed of these events: the first render is item 0
abbrev pub first_output : Counter → List Event → Text
first_output c events = (item_line 0 ++ html_line c c.initial) ++ first_blocks c 1 c.initial events
