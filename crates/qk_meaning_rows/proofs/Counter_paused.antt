-- The counter with pauses between its clicks, and its page after one click.
use Rattle.std.specs.Prelude.{◌≡◌, refl, [], ◌∷◌, codes, None}
use Rattle.qk_meaning.specs.Run.{Line, Happens, Pauses}
use Rattle.qk_meaning_rows.specs.Clicked_counter.{modules}
use Rattle.qk_meaning_rows.specs.Common.{usual, printed, lines_of, last_page}

abbrev click : Line
click = Happens (record { kind = codes "click"; id = codes "b"; value = None })

-- pauses change nothing, however many stand in a row
shown : printed modules usual (Pauses ∷ click ∷ Pauses ∷ Pauses ∷ click ∷ Pauses ∷ []) ≡ lines_of (
    codes "item 0" ∷
    codes "html <button id=\"b\">0</button>" ∷
    codes "item 1" ∷
    codes "paused" ∷
    codes "item 2" ∷
    codes "html <button id=\"b\">1</button>" ∷
    codes "item 3" ∷
    codes "paused" ∷
    codes "item 4" ∷
    codes "paused" ∷
    codes "item 5" ∷
    codes "html <button id=\"b\">2</button>" ∷
    codes "item 6" ∷
    codes "paused" ∷
    [])
shown = refl

paged : last_page modules (click ∷ [])
    ≡ codes "<div q:container=\"paused\" q:version=\"1\" q:base=\"build/\"><!--qi 0--><button id=\"b\" on:click=\"root_s2.js#root_s2[0]\">1</button><!--/qi--><script type=\"qwik/json\">{\"caps\":[[\"r\",1]],\"heap\":[[\"p\"],[\"s\",1]],\"inst\":[[\"root_s1\",0,[[\"v\",[\"r\",1]]],[\"e\",\"button\",null,\"\",[\"id\",\"b\",\"onClick$\",[\"f\",\"root_s2\",[\"r\",1]]],[1]],[[1,\"value\"]]]]}</script></div>\n"
paged = refl
