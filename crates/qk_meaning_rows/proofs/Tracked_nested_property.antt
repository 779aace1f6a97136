-- A task tracks a nested property.
use Rattle.std.specs.Prelude.{◌≡◌, refl, true, List, [], ◌∷◌, codes, None}
use Rattle.qk_ast.specs.declared.Module.{Module}
use Rattle.qk_ast.specs.declared.Bin.{Bin}
use Rattle.qk_ast.specs.declared.AssignOp.{AssignOp}
use Rattle.qk_ast.specs.declared.Known.{Known}
use Rattle.qk_meaning.specs.Value.{Text}
use Rattle.qk_ast.specs.Sources.{Named_module}
use Rattle.qk_meaning.specs.Run.{Line, Happens, Pauses}
use Rattle.qk_meaning_rows.specs.Trees.{int, name, text, record_of, chain, post, dot, call, assign, known, gives, block, plain, fields, arrow, element, const, do_it, give_back, importing, item}
use Rattle.qk_meaning_rows.specs.Common.{usual, printed, printed_captured, lines_of, last_page, last_page_captured}

abbrev pub root_module : Module
root_module = record {
  imports = importing
      ("$" ∷ "Slot" ∷ "component$" ∷ "createContextId" ∷ "noSerialize" ∷ "useComputed$" ∷ "useContext" ∷ "useContextProvider" ∷ "useSignal" ∷ "useStore" ∷ "useTask$" ∷ []) "@builder.io/qwik" ∷ [];
  items = item true "App"
      (post (name "component$")
      (call (arrow 0 []
      (block (
      const (plain "st") (post (name "useStore") (call (record_of (("a", record_of (("b", int 1) ∷ [])) ∷ []) ∷ []) ∷ [])) ∷
      do_it (post (name "useTask$")
      (call (arrow 1 (fields ("track" ∷ []) ∷ [])
      (block (do_it (known Known.Log
      (chain (text "b ")
      ((Bin.Add, post (name "track") (call (arrow 2 [] (gives (post (name "st") (dot "a" ∷ dot "b" ∷ []))) ∷ []) ∷ [])) ∷ []) ∷ [])) ∷ [])) ∷ []) ∷ [])) ∷
      give_back (element "button"
      (
      ("id", text "b") ∷
      ("onClick$", arrow 3 [] (block (do_it (assign AssignOp.Set (post (name "st") (dot "a" ∷ dot "b" ∷ [])) (int 2)) ∷ []))) ∷
      []) (text "x" ∷ [])) ∷
      [])) ∷ []) ∷ [])) ∷ [];
}

abbrev pub modules : List Named_module
modules = (codes "root", root_module) ∷ []

abbrev pub script : List Line
script = Pauses ∷ Happens (record { kind = codes "click"; id = codes "b"; value = None }) ∷ Happens (record { kind = codes "click"; id = codes "b"; value = None }) ∷ []

-- what is printed, in the reading with whole scopes
shown : printed modules usual script ≡ lines_of (
    codes "item 0" ∷
    codes "log b 1" ∷
    codes "html <button id=\"b\">x</button>" ∷
    codes "item 1" ∷
    codes "paused" ∷
    codes "item 2" ∷
    codes "log b 2" ∷
    codes "html <button id=\"b\">x</button>" ∷
    codes "item 3" ∷
    codes "html <button id=\"b\">x</button>" ∷
    [])
shown = refl

-- the same in the reading with captured values
shown_captured : printed_captured modules usual script ≡ lines_of (
    codes "item 0" ∷
    codes "log b 1" ∷
    codes "html <button id=\"b\">x</button>" ∷
    codes "item 1" ∷
    codes "paused" ∷
    codes "item 2" ∷
    codes "log b 2" ∷
    codes "html <button id=\"b\">x</button>" ∷
    codes "item 3" ∷
    codes "html <button id=\"b\">x</button>" ∷
    [])
shown_captured = refl

-- the page of the last world
abbrev pub page_shown : Text
page_shown = codes "<div q:container=\"paused\" q:version=\"1\" q:base=\"build/\"><!--qi 0--><button id=\"b\" on:click=\"root_s3.js#root_s3[0]\">x</button><!--/qi--><script type=\"qwik/json\">{\"caps\":[[\"r\",1]],\"heap\":[[\"p\"],[\"o\",\"a\",[\"r\",2]],[\"o\",\"b\",2]],\"inst\":[[\"root_s1\",0,[[\"v\",[\"r\",1]],[\"t\",[\"f\",\"root_s2\",[\"r\",1]],[[1,\"a\"],[2,\"b\"]]]],[\"e\",\"button\",null,\"\",[\"id\",\"b\",\"onClick$\",[\"f\",\"root_s3\",[\"r\",1]]],[\"x\"]],[]]]}</script></div>\n"

paged : last_page modules script ≡ page_shown
paged = refl

paged_captured : last_page_captured modules script ≡ page_shown
paged_captured = refl
