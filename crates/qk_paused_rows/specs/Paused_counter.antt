-- The counter as built files: its page, the state as which this page is read, and what is printed of a run that goes on from each pause.
use Rattle.std.specs.Prelude.{◌≡◌, List, [], ◌∷◌, codes, None}
use Rattle.qk_meaning.specs.Value.{Text}
use Rattle.qk_meaning.specs.Index.{For_component, For_function}
use Rattle.qk_meaning.specs.Run.{Line, Happens, Pauses}
use Rattle.qk_meaning.specs.Program.{Program}
use Rattle.qk_meaning.specs.Page.{page}
use Rattle.qk_meaning_rows.specs.Clicked_counter.{built as files, tasks}
use Rattle.qk_meaning_rows.specs.Common.{built, lines_of}
use Rattle.qk_paused.specs.Entries.{App_index, A_signal}
use Rattle.qk_paused.specs.Reading.{Reads_as}
use Rattle.qk_paused_rows.specs.Words.{last_world, last_state, printed_resuming, told}

abbrev pub program : Program
program = built tasks files

-- the component with its signal, and the listener with what it captures
abbrev pub index : App_index
index = record { app = codes "root_s1"; entries = told (codes "root_s1") For_component 0 (A_signal ∷ []) ∷ told (codes "root_s2") For_function 1 [] ∷ [] }

-- the page after the first render
abbrev pub page_shown : Text
page_shown = codes "<div q:container=\"paused\" q:version=\"1\" q:base=\"build/\"><!--qi 0--><button id=\"b\" on:click=\"root_s2.js#root_s2[0]\">0</button><!--/qi--><script type=\"qwik/json\">{\"caps\":[[\"r\",1]],\"heap\":[[\"p\"],[\"s\",0]],\"inst\":[[\"root_s1\",0,[[\"v\",[\"r\",1]]],[\"e\",\"button\",null,\"\",[\"id\",\"b\",\"onClick$\",[\"f\",\"root_s2\",[\"r\",1]]],[0]],[[1,\"value\"]]]]}</script></div>\n"

abbrev click : Line
click = Happens (record { kind = codes "click"; id = codes "b"; value = None })

abbrev pub script : List Line
script = Pauses ∷ click ∷ Pauses ∷ Pauses ∷ click ∷ []

-- what is printed
abbrev pub blocks : Text
blocks = lines_of (
    codes "item 0" ∷
    codes "html <button id=\"b\">0</button>" ∷
    codes "item 1" ∷
    codes "paused" ∷
    codes "item 2" ∷
    codes "html <button id=\"b\">1</button>" ∷
    codes "item 3" ∷
    codes "paused" ∷
    codes "item 4" ∷
    codes "paused" ∷
    codes "item 5" ∷
    codes "html <button id=\"b\">2</button>" ∷
    [])

-- the page, the state that it is read as, and a run that goes on from the page's state at each pause
abbrev pub CounterIsPaused : Type 0
CounterIsPaused = (page program (last_world program []) ≡ page_shown) × Reads_as program index page_shown (last_state program []) × (printed_resuming program script ≡ blocks)
