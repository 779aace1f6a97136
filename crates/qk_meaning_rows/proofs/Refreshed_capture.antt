-- A listener captures what its render read, and is made anew by the next render.
use Rattle.std.specs.Prelude.{◌≡◌, refl, true, List, [], ◌∷◌, codes, None}
use Rattle.qk_ast.specs.declared.Module.{Module}
use Rattle.qk_ast.specs.declared.Bin.{Bin}
use Rattle.qk_ast.specs.declared.AssignOp.{AssignOp}
use Rattle.qk_meaning.specs.Value.{Text}
use Rattle.qk_ast.specs.Sources.{Named_module}
use Rattle.qk_meaning.specs.Run.{Line, Happens, Pauses}
use Rattle.qk_meaning_rows.specs.Trees.{int, name, text, chain, post, dot, call, assign, block, plain, arrow, element, const, do_it, give_back, importing, item}
use Rattle.qk_meaning_rows.specs.Common.{usual, printed, printed_captured, lines_of, last_page, last_page_captured}

abbrev pub root_module : Module
root_module = record {
  imports = importing
      ("$" ∷ "Slot" ∷ "component$" ∷ "createContextId" ∷ "noSerialize" ∷ "useComputed$" ∷ "useContext" ∷ "useContextProvider" ∷ "useSignal" ∷ "useStore" ∷ "useTask$" ∷ []) "@builder.io/qwik" ∷ [];
  items = item true "App"
      (post (name "component$")
      (call (arrow 0 []
      (block (
      const (plain "s") (post (name "useSignal") (call (int 1 ∷ []) ∷ [])) ∷
      const (plain "n") (post (name "s") (dot "value" ∷ [])) ∷
      give_back (element "button"
      (
      ("id", text "b") ∷ (
        "onClick$",
        arrow 1 []
            (block (do_it (assign AssignOp.Set (post (name "s") (dot "value" ∷ [])) (chain (name "n") ((Bin.Mul, int 2) ∷ []))) ∷ [])),
      ) ∷
      []) (name "n" ∷ [])) ∷
      [])) ∷ []) ∷ [])) ∷ [];
}

abbrev pub modules : List Named_module
modules = (codes "root", root_module) ∷ []

abbrev pub script : List Line
script = Happens (record { kind = codes "click"; id = codes "b"; value = None }) ∷ Pauses ∷ Happens (record { kind = codes "click"; id = codes "b"; value = None }) ∷ []

-- what is printed, in the reading with whole scopes
shown : printed modules usual script ≡ lines_of (
    codes "item 0" ∷
    codes "html <button id=\"b\">1</button>" ∷
    codes "item 1" ∷
    codes "html <button id=\"b\">2</button>" ∷
    codes "item 2" ∷
    codes "paused" ∷
    codes "item 3" ∷
    codes "html <button id=\"b\">4</button>" ∷
    [])
shown = refl

-- the same in the reading with captured values
shown_captured : printed_captured modules usual script ≡ lines_of (
    codes "item 0" ∷
    codes "html <button id=\"b\">1</button>" ∷
    codes "item 1" ∷
    codes "html <button id=\"b\">2</button>" ∷
    codes "item 2" ∷
    codes "paused" ∷
    codes "item 3" ∷
    codes "html <button id=\"b\">4</button>" ∷
    [])
shown_captured = refl

-- the page of the last world
abbrev pub page_shown : Text
page_shown = codes "<div q:container=\"paused\" q:version=\"1\" q:base=\"build/\"><!--qi 0--><button id=\"b\" on:click=\"root_s2.js#root_s2[0 1]\">4</button><!--/qi--><script type=\"qwik/json\">{\"caps\":[[\"r\",1],4],\"heap\":[[\"p\"],[\"s\",4]],\"inst\":[[\"root_s1\",0,[[\"v\",[\"r\",1]]],[\"e\",\"button\",null,\"\",[\"id\",\"b\",\"onClick$\",[\"f\",\"root_s2\",[\"r\",1],4]],[4]],[[1,\"value\"]]]]}</script></div>\n"

paged : last_page modules script ≡ page_shown
paged = refl

paged_captured : last_page_captured modules script ≡ page_shown
paged_captured = refl
