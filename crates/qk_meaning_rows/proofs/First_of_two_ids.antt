-- Two elements with one id: the first has no listener.
use Rattle.std.specs.Prelude.{◌≡◌, refl, true, List, [], ◌∷◌, codes, None}
use Rattle.qk_ast.specs.declared.Module.{Module}
use Rattle.qk_ast.specs.Sources.{Named_module}
use Rattle.qk_meaning.specs.Run.{Line, Happens}
use Rattle.qk_meaning_rows.specs.Trees.{int, name, text, post, dot, call, step, gives, block, plain, arrow, element, const, give_back, importing, item}
use Rattle.qk_meaning_rows.specs.Common.{usual, printed, lines_of}

abbrev pub root_module : Module
root_module = record {
  imports = importing
      ("$" ∷ "Slot" ∷ "component$" ∷ "createContextId" ∷ "noSerialize" ∷ "useComputed$" ∷ "useContext" ∷ "useContextProvider" ∷ "useSignal" ∷ "useStore" ∷ "useTask$" ∷ []) "@builder.io/qwik" ∷ [];
  items = item true "App"
      (post (name "component$")
      (call (arrow 0 []
      (block (
      const (plain "n") (post (name "useSignal") (call (int 0 ∷ []) ∷ [])) ∷
      give_back (element "div" []
      (
      element "i" (("id", text "b") ∷ []) [] ∷
      element "button"
      (("id", text "b") ∷ ("onClick$", arrow 1 [] (gives (step true (post (name "n") (dot "value" ∷ []))))) ∷ []) (post (name "n") (dot "value" ∷ []) ∷ []) ∷
      [])) ∷
      [])) ∷ []) ∷ [])) ∷ [];
}

abbrev pub modules : List Named_module
modules = (codes "root", root_module) ∷ []

abbrev pub script : List Line
script = Happens (record { kind = codes "click"; id = codes "b"; value = None }) ∷ []

-- what is printed, in the reading with whole scopes
shown : printed modules usual script ≡ lines_of (
    codes "item 0" ∷
    codes "html <div><i id=\"b\"></i><button id=\"b\">0</button></div>" ∷
    codes "item 1" ∷
    codes "none" ∷
    codes "html <div><i id=\"b\"></i><button id=\"b\">0</button></div>" ∷
    [])
shown = refl
