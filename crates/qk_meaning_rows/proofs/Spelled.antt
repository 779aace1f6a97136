-- How values are spelled: in HTML, in the state script, and in the printed lines.
use Rattle.std.specs.Prelude.{◌≡◌, refl, ℕ, pos, true, false, List, [], ◌∷◌, codes}
use Rattle.qk_meaning.specs.Value.{Truth, Int, Words, Null, end, field}
use Rattle.qk_meaning.specs.World.{Key, Keys, Length, Index, Prop, Loc}
use Rattle.qk_meaning.specs.Fault.{Identity}
use Rattle.qk_meaning.specs.Expansion.{Tagged, Shows, Inside, no_nodes, node}
use Rattle.qk_meaning.specs.Html.{node_html, node_count}
use Rattle.qk_meaning.specs.Json.{quoted}
use Rattle.qk_meaning.specs.Locations.{put_loc}
use Rattle.qk_ast.specs.Sources.{Named_module}
use Rattle.qk_meaning.specs.Readings.{program_of}
use Rattle.qk_meaning.specs.Session.{nothing_yet}
use Rattle.qk_meaning.specs.Run.{Played, Faulted, Ended}
use Rattle.qk_meaning.specs.Output.{block_text}
use Rattle.qk_meaning_rows.specs.Common.{lines_of}

-- ---- HTML

-- `true` shows as the empty text; `false`, `null` and `undefined` show nothing; a void element has no closing tag
void_element : node_html (Tagged (codes "input") (field (codes "checked") (Truth true) (field (codes "hidden") (Truth false) (field (codes "id") Null (field (codes "max") (Int (pos 7)) end)))) no_nodes)
    ≡ codes "<input checked=\"\" max=\"7\">"
void_element = refl

escaped_element : node_html (Tagged (codes "p") (field (codes "title") (Words (codes "<&>\"'")) end) (node (Shows (codes "<&>\"'")) no_nodes))
    ≡ codes "<p title=\"&lt;&amp;&gt;&quot;'\">&lt;&amp;&gt;\"'</p>"
escaped_element = refl

-- an element, its text and the instance around them
three_nodes : node_count (Inside [] (node (Tagged (codes "p") end (node (Shows (codes "x")) no_nodes)) no_nodes)) ≡ 3
three_nodes = refl

-- ---- the state script

-- backspace, tab, line feed, form feed, carriage return, the character 31, and `<`
quoted_controls : quoted (8 ∷ 9 ∷ 10 ∷ 12 ∷ 13 ∷ 31 ∷ 60 ∷ 127 ∷ []) ≡ 34 ∷ 92 ∷ 98 ∷ 92 ∷ 116 ∷ 92 ∷ 110 ∷ 92 ∷ 102 ∷ 92 ∷ 114 ∷ 92 ∷ 117 ∷ 48 ∷ 48 ∷ 49 ∷ 102 ∷ 92 ∷ 117 ∷ 48 ∷ 48 ∷ 51 ∷ 99 ∷ 127 ∷ 34 ∷ []
quoted_controls = refl

-- locations stand by row, then the key list, the length, the indexes ascending, the properties by bytes; each once
abbrev at : ℕ → Key → Loc
at row key = record { address = row; key = key }

abbrev in_order : List Loc → List Loc
in_order [] = []
in_order (l ∷ rest) = put_loc l (in_order rest)

locations_in_order : in_order (at 2 Keys ∷ at 1 (Prop (codes "b")) ∷ at 1 (Index 10) ∷ at 1 (Prop (codes "B")) ∷ at 1 Length ∷ at 1 (Index 9) ∷ at 1 Keys ∷ at 1 (Index 10) ∷ [])
    ≡ at 1 Keys ∷ at 1 Length ∷ at 1 (Index 9) ∷ at 1 (Index 10) ∷ at 1 (Prop (codes "B")) ∷ at 1 (Prop (codes "b")) ∷ at 2 Keys ∷ []
locations_in_order = refl

-- ---- printed lines

abbrev no_modules : List Named_module
no_modules = []

-- a backslash, a line feed and a carriage return
printed_block : block_text (program_of no_modules) 12 (Played (record { none = true; lines = (92 ∷ 10 ∷ 13 ∷ []) ∷ []; html = codes "<p></p>" }) nothing_yet)
    ≡ lines_of (codes "item 12" ∷ codes "none" ∷ codes "log \\\\\\n\\r" ∷ codes "html <p></p>" ∷ [])
printed_block = refl

printed_fault : block_text (program_of no_modules) 3 (Faulted Identity (codes "a" ∷ [])) ≡ lines_of (codes "item 3" ∷ codes "log a" ∷ codes "fault 3 Identity" ∷ [])
printed_fault = refl

printed_end : block_text (program_of no_modules) 4 Ended ≡ lines_of (codes "ended 4" ∷ [])
printed_end = refl
