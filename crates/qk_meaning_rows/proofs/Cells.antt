-- Twenty cells from another module.
use Rattle.std.specs.Prelude.{◌≡◌, refl, true, false, List, [], ◌∷◌, codes, None}
use Rattle.qk_ast.specs.declared.Module.{Module}
use Rattle.qk_ast.specs.Sources.{Named_module}
use Rattle.qk_meaning.specs.Run.{Line, Happens, Pauses}
use Rattle.qk_meaning_rows.specs.Trees.{int, name, text, list_of, post, dot, call, step, gives, block, plain, arrow, element, component, const, give_back, importing, item}
use Rattle.qk_meaning_rows.specs.Common.{usual, printed, lines_of}

abbrev pub cell_module : Module
cell_module = record {
  imports = importing
      ("$" ∷ "Slot" ∷ "component$" ∷ "createContextId" ∷ "noSerialize" ∷ "useComputed$" ∷ "useContext" ∷ "useContextProvider" ∷ "useSignal" ∷ "useStore" ∷ "useTask$" ∷ []) "@builder.io/qwik" ∷ [];
  items = item true "Cell"
      (post (name "component$")
      (call (arrow 0 (plain "props" ∷ [])
      (block (
      const (plain "n") (post (name "useSignal") (call (int 0 ∷ []) ∷ [])) ∷
      give_back (element "button"
      (
      ("id", post (name "props") (dot "k" ∷ [])) ∷
      ("onClick$", arrow 1 [] (gives (step true (post (name "n") (dot "value" ∷ []))))) ∷
      []) (post (name "n") (dot "value" ∷ []) ∷ [])) ∷
      [])) ∷ []) ∷ [])) ∷ [];
}

abbrev pub root_module : Module
root_module = record {
  imports = importing ("component$" ∷ []) "@builder.io/qwik" ∷ importing ("Cell" ∷ []) "./cell.jsx" ∷ [];
  items =
      item false "ids"
      (list_of (
      text "a" ∷
      text "b" ∷
      text "c" ∷
      text "d" ∷
      text "e" ∷
      text "f" ∷
      text "g" ∷
      text "h" ∷
      text "i" ∷
      text "j" ∷
      text "k" ∷
      text "l" ∷
      text "m" ∷
      text "n" ∷
      text "o" ∷
      text "p" ∷
      text "q" ∷
      text "r" ∷
      text "s" ∷
      text "t" ∷
      [])) ∷
      item true "App"
      (post (name "component$")
      (call (arrow 0 []
      (gives (element "div" []
      (post (name "ids")
      (dot "map" ∷ call (arrow 1 (plain "k" ∷ []) (gives (component "Cell" (("key", name "k") ∷ ("k", name "k") ∷ []) [])) ∷ []) ∷ []) ∷ []))) ∷ []) ∷ [])) ∷
      [];
}

abbrev pub modules : List Named_module
modules = (codes "cell", cell_module) ∷ (codes "root", root_module) ∷ []

abbrev pub script : List Line
script = Pauses ∷ Happens (record { kind = codes "click"; id = codes "c"; value = None }) ∷ []

-- what is printed, in the reading with whole scopes
shown : printed modules usual script ≡ lines_of (
    codes "item 0" ∷
    codes "html <div><button id=\"a\">0</button><button id=\"b\">0</button><button id=\"c\">0</button><button id=\"d\">0</button><button id=\"e\">0</button><button id=\"f\">0</button><button id=\"g\">0</button><button id=\"h\">0</button><button id=\"i\">0</button><button id=\"j\">0</button><button id=\"k\">0</button><button id=\"l\">0</button><button id=\"m\">0</button><button id=\"n\">0</button><button id=\"o\">0</button><button id=\"p\">0</button><button id=\"q\">0</button><button id=\"r\">0</button><button id=\"s\">0</button><button id=\"t\">0</button></div>" ∷
    codes "item 1" ∷
    codes "paused" ∷
    codes "item 2" ∷
    codes "html <div><button id=\"a\">0</button><button id=\"b\">0</button><button id=\"c\">1</button><button id=\"d\">0</button><button id=\"e\">0</button><button id=\"f\">0</button><button id=\"g\">0</button><button id=\"h\">0</button><button id=\"i\">0</button><button id=\"j\">0</button><button id=\"k\">0</button><button id=\"l\">0</button><button id=\"m\">0</button><button id=\"n\">0</button><button id=\"o\">0</button><button id=\"p\">0</button><button id=\"q\">0</button><button id=\"r\">0</button><button id=\"s\">0</button><button id=\"t\">0</button></div>" ∷
    [])
shown = refl
