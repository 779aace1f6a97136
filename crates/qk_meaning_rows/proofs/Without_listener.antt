-- A paragraph without a listener, and an id that isn't there.
use Rattle.std.specs.Prelude.{◌≡◌, refl, true, List, [], ◌∷◌, codes, None}
use Rattle.qk_ast.specs.declared.Module.{Module}
use Rattle.qk_meaning.specs.Value.{Text}
use Rattle.qk_ast.specs.Sources.{Named_module}
use Rattle.qk_meaning.specs.Run.{Line, Happens}
use Rattle.qk_meaning_rows.specs.Trees.{name, text, post, call, gives, arrow, element, importing, item}
use Rattle.qk_meaning_rows.specs.Common.{usual, printed, printed_captured, lines_of, last_page, last_page_captured}

abbrev pub root_module : Module
root_module = record {
  imports = importing
      ("$" ∷ "Slot" ∷ "component$" ∷ "createContextId" ∷ "noSerialize" ∷ "useComputed$" ∷ "useContext" ∷ "useContextProvider" ∷ "useSignal" ∷ "useStore" ∷ "useTask$" ∷ []) "@builder.io/qwik" ∷ [];
  items = item true "App" (post (name "component$") (call (arrow 0 [] (gives (element "p" (("id", text "p") ∷ []) (text "hi" ∷ []))) ∷ []) ∷ [])) ∷ [];
}

abbrev pub modules : List Named_module
modules = (codes "root", root_module) ∷ []

abbrev pub script : List Line
script = Happens (record { kind = codes "click"; id = codes "q"; value = None }) ∷ Happens (record { kind = codes "click"; id = codes "p"; value = None }) ∷ []

-- what is printed, in the reading with whole scopes
shown : printed modules usual script ≡ lines_of (
    codes "item 0" ∷
    codes "html <p id=\"p\">hi</p>" ∷
    codes "item 1" ∷
    codes "none" ∷
    codes "html <p id=\"p\">hi</p>" ∷
    codes "item 2" ∷
    codes "none" ∷
    codes "html <p id=\"p\">hi</p>" ∷
    [])
shown = refl

-- the same in the reading with captured values
shown_captured : printed_captured modules usual script ≡ lines_of (
    codes "item 0" ∷
    codes "html <p id=\"p\">hi</p>" ∷
    codes "item 1" ∷
    codes "none" ∷
    codes "html <p id=\"p\">hi</p>" ∷
    codes "item 2" ∷
    codes "none" ∷
    codes "html <p id=\"p\">hi</p>" ∷
    [])
shown_captured = refl

-- the page of the last world
abbrev pub page_shown : Text
page_shown = codes "<div q:container=\"paused\" q:version=\"1\" q:base=\"build/\"><!--qi 0--><p id=\"p\">hi</p><!--/qi--><script type=\"qwik/json\">{\"caps\":[],\"heap\":[[\"p\"]],\"inst\":[[\"root_s1\",0,[],[\"e\",\"p\",null,\"\",[\"id\",\"p\"],[\"hi\"]],[]]]}</script></div>\n"

paged : last_page modules script ≡ page_shown
paged = refl

paged_captured : last_page_captured modules script ≡ page_shown
paged_captured = refl
