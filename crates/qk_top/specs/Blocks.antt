-- The block of one event, and the counter that the program keeps.
use Rattle.std.specs.Prelude.{◌≡◌, ℕ, zero, suc, ℤ, take, true, false, List, [], ◌∷◌, ◌++◌, Option, Some, None, unwrap_or, codes}
use Rattle.std.specs.Option.{option_map}
use Rattle.qk_store.specs.Pieces.{with_piece}
use Rattle.qk_meaning.specs.Value.{Text}
use Rattle.qk_meaning.specs.Item.{Event}
use Rattle.qk_meaning.specs.Output.{line}
use Rattle.qk_first.specs.Counter.{Counter, attributes_html, hears, moved}
use Rattle.qk_top.specs.Decimals.{count_text, number_text}

abbrev pub item_text : ℕ → Text
item_text k = line (codes "item " ++ count_text k)

-- the element's attributes, and its number where it shows it
unfoldable pub id_text : Counter → Text
id_text c = attributes_html c.attributes

unfoldable pub shown_text : Counter → ℤ → Text
shown_text c n = elim c.shows [ true ↦ number_text n | false ↦ [] ]

abbrev pub opening_text : Counter → Text
opening_text c = codes "html <" ++ (c.tag ++ (id_text c ++ codes ">"))

abbrev pub closing_text : Counter → Text
closing_text c = codes "</" ++ (c.tag ++ codes ">\n")

-- the line of the element's HTML at this number
unfoldable pub html_text : Counter → ℤ → Text
html_text c n = opening_text c ++ (shown_text c n ++ closing_text c)

-- the number after an event, where it is heard
abbrev pub moves : Counter → ℤ → Event → Option ℤ
moves c n e = option_map (λ up. moved up n) (hears c e)

-- the number after an event
abbrev pub number_after : Counter → ℤ → Event → ℤ
number_after c n e = unwrap_or (moves c n e) n

-- what is printed of item k behind its first line: the number moved to this, or nothing heard the event and it stays
unfoldable pub moved_text : Counter → ℤ → Option ℤ → Text
moved_text c n (Some after) = html_text c after
moved_text c n None = line (codes "none") ++ html_text c n

-- the block of an event, which is item k, where the number was n
unfoldable pub event_text : Counter → ℕ → ℤ → Event → Text
event_text c k n e = item_text k ++ moved_text c n (moves c n e)

-- the blocks of these events, the first being item k, where the number is n before them
unfoldable pub events_text : Counter → ℕ → ℤ → List Event → Text
events_text c k n [] = []
events_text c k n (e ∷ more) = event_text c k n e ++ events_text c (suc k) (number_after c n e) more

-- the block of the first render
unfoldable pub first_text : Counter → Text
first_text c = item_text 0 ++ html_text c c.initial

-- all that is printed of these events
unfoldable pub played_text : Counter → List Event → Text
played_text c events = first_text c ++ events_text c 1 c.initial events

-- the text of the first blocks, so many
abbrev pub blocks_text : Counter → List Event → ℕ → Text
blocks_text c events zero = []
blocks_text c events (suc k) = played_text c (take k events)

-- whole blocks were put
pub record PutsBlocks (c : Counter) (events : List Event) (before after : Option Text) : Type 0 where
  pub n : ℕ
  pub put : after ≡ option_map (with_piece (blocks_text c events n)) before

-- whole blocks were put, and a part of the next one
pub record PutsPartOfBlock (c : Counter) (events : List Event) (before after : Option Text) : Type 0 where
  pub n : ℕ
  pub piece : Text
  pub next : blocks_text c events (suc n) ≡ blocks_text c events n ++ piece
  pub taken : ℕ
  pub put : after ≡ option_map (with_piece (blocks_text c events n ++ take taken piece)) before
