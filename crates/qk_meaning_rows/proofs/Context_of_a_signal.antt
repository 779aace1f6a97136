-- A Slot with a name, and a context whose value is a signal.
use Rattle.std.specs.Prelude.{◌≡◌, refl, true, List, [], ◌∷◌, codes}
use Rattle.qk_ast.specs.declared.Module.{Module}
use Rattle.qk_ast.specs.Sources.{Named_module}
use Rattle.qk_meaning.specs.Run.{Line}
use Rattle.qk_meaning_rows.specs.Trees.{name, text, post, dot, call, gives, block, plain, arrow, element, component, const, do_it, give_back, importing, item}
use Rattle.qk_meaning_rows.specs.Common.{usual, printed, lines_of}

abbrev pub root_module : Module
root_module = record {
  imports = importing
      ("$" ∷ "Slot" ∷ "component$" ∷ "createContextId" ∷ "noSerialize" ∷ "useComputed$" ∷ "useContext" ∷ "useContextProvider" ∷ "useSignal" ∷ "useStore" ∷ "useTask$" ∷ []) "@builder.io/qwik" ∷ [];
  items =
      item true "Theme" (post (name "createContextId") (call (text "theme" ∷ []) ∷ [])) ∷
      item true "Card"
      (post (name "component$")
      (call (arrow 0 []
      (gives (element "section" [] (element "h1" [] (component "Slot" (("name", text "t") ∷ []) [] ∷ []) ∷ component "Slot" [] [] ∷ []))) ∷ []) ∷ [])) ∷
      item true "Who"
      (post (name "component$")
      (call (arrow 1 []
      (block (
      const (plain "t") (post (name "useContext") (call (name "Theme" ∷ []) ∷ [])) ∷
      give_back (element "u" [] (post (name "t") (dot "value" ∷ []) ∷ [])) ∷
      [])) ∷ []) ∷ [])) ∷
      item true "App"
      (post (name "component$")
      (call (arrow 2 []
      (block (
      const (plain "s") (post (name "useSignal") (call (text "x" ∷ []) ∷ [])) ∷
      do_it (post (name "useContextProvider") (call (name "Theme" ∷ name "s" ∷ []) ∷ [])) ∷
      give_back (component "Card" [] (component "Who" [] [] ∷ text " and " ∷ element "b" (("q:slot", text "t") ∷ []) (text "T" ∷ []) ∷ [])) ∷
      [])) ∷ []) ∷ [])) ∷
      [];
}

abbrev pub modules : List Named_module
modules = (codes "root", root_module) ∷ []

abbrev pub script : List Line
script = []

-- what is printed, in the reading with whole scopes
shown : printed modules usual script ≡ lines_of (
    codes "item 0" ∷
    codes "html <section><h1><b>T</b></h1><u>x</u> and </section>" ∷
    [])
shown = refl
