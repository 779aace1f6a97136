-- The budget of turns is given anew to each item.
use Rattle.std.specs.Prelude.{◌≡◌, refl, true, List, [], ◌∷◌, codes, None}
use Rattle.qk_ast.specs.declared.Module.{Module}
use Rattle.qk_ast.specs.Sources.{Named_module}
use Rattle.qk_meaning.specs.Run.{Line, Happens}
use Rattle.qk_meaning_rows.specs.Trees.{int, name, text, post, dot, call, step, gives, block, plain, arrow, element, const, give_back, importing, item}
use Rattle.qk_meaning_rows.specs.Common.{printed, lines_of}

abbrev pub root_module : Module
root_module = record {
  imports = importing
      ("$" ∷ "Slot" ∷ "component$" ∷ "createContextId" ∷ "noSerialize" ∷ "useComputed$" ∷ "useContext" ∷ "useContextProvider" ∷ "useSignal" ∷ "useStore" ∷ "useTask$" ∷ []) "@builder.io/qwik" ∷ [];
  items = item true "App"
      (post (name "component$")
      (call (arrow 0 []
      (block (
      const (plain "n") (post (name "useSignal") (call (int 0 ∷ []) ∷ [])) ∷
      give_back (element "button"
      (("id", text "b") ∷ ("onClick$", arrow 1 [] (gives (step true (post (name "n") (dot "value" ∷ []))))) ∷ []) (post (name "n") (dot "value" ∷ []) ∷ [])) ∷
      [])) ∷ []) ∷ [])) ∷ [];
}

abbrev pub modules : List Named_module
modules = (codes "root", root_module) ∷ []

abbrev pub script : List Line
script = Happens (record { kind = codes "click"; id = codes "b"; value = None }) ∷ []

-- two turns suffice for each item
in_two_turns : printed modules (record { turns = 2; levels = 48 }) script ≡ lines_of (
    codes "item 0" ∷
    codes "html <button id=\"b\">0</button>" ∷
    codes "item 1" ∷
    codes "html <button id=\"b\">1</button>" ∷
    [])
in_two_turns = refl

-- a whole first render takes two
not_in_one_turn : printed modules (record { turns = 1; levels = 48 }) [] ≡ lines_of (
    codes "ended 0" ∷
    [])
not_in_one_turn = refl
