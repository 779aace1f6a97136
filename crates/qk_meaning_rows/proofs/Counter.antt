-- A counter that is clicked three times.
use Rattle.std.specs.Prelude.{◌≡◌, refl, codes}
use Rattle.qk_meaning.specs.Value.{Text}
use Rattle.qk_meaning_rows.specs.Common.{usual, printed, printed_captured, printed_built, last_page, last_page_captured, last_page_built}
use Rattle.qk_meaning_rows.specs.Clicked_counter.{modules, built, tasks, script, blocks, CounterIsShown}

-- what is printed, in the reading with whole scopes
shown : printed modules usual script ≡ blocks
shown = refl

-- the same in the reading with captured values
shown_captured : printed_captured modules usual script ≡ blocks
shown_captured = refl

-- the same of the built files
shown_built : printed_built tasks built usual script ≡ blocks
shown_built = refl

pub counter_is_shown : CounterIsShown
counter_is_shown = (shown, shown_captured, shown_built)

-- the page of the last world
abbrev pub page_shown : Text
page_shown = codes "<div q:container=\"paused\" q:version=\"1\" q:base=\"build/\"><!--qi 0--><button id=\"b\" on:click=\"root_s2.js#root_s2[0]\">3</button><!--/qi--><script type=\"qwik/json\">{\"caps\":[[\"r\",1]],\"heap\":[[\"p\"],[\"s\",3]],\"inst\":[[\"root_s1\",0,[[\"v\",[\"r\",1]]],[\"e\",\"button\",null,\"\",[\"id\",\"b\",\"onClick$\",[\"f\",\"root_s2\",[\"r\",1]]],[3]],[[1,\"value\"]]]]}</script></div>\n"

paged : last_page modules script ≡ page_shown
paged = refl

paged_captured : last_page_captured modules script ≡ page_shown
paged_captured = refl

paged_built : last_page_built tasks built script ≡ page_shown
paged_built = refl
