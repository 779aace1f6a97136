-- A Slot among the children that a component gives to another: it shows what was given to the first.
use Rattle.std.specs.Prelude.{◌≡◌, refl, true, List, [], ◌∷◌, codes}
use Rattle.qk_ast.specs.declared.Module.{Module}
use Rattle.qk_ast.specs.Sources.{Named_module}
use Rattle.qk_meaning_rows.specs.Trees.{name, text, post, call, gives, arrow, element, component, importing, item}
use Rattle.qk_meaning_rows.specs.Common.{usual, printed, printed_captured, lines_of}

abbrev root_module : Module
root_module = record {
  imports = importing ("Slot" ∷ "component$" ∷ []) "@builder.io/qwik" ∷ [];
  items =
      item true "Card" (post (name "component$") (call (arrow 0 [] (gives (element "section" [] (component "Slot" [] [] ∷ []))) ∷ []) ∷ [])) ∷
      item true "Outer" (post (name "component$") (call (arrow 1 [] (gives (component "Card" [] (component "Slot" [] [] ∷ []))) ∷ []) ∷ [])) ∷
      item true "App" (post (name "component$") (call (arrow 2 [] (gives (component "Outer" [] (element "b" [] (text "x" ∷ []) ∷ []))) ∷ []) ∷ [])) ∷
      [];
}

abbrev modules : List Named_module
modules = (codes "root", root_module) ∷ []

shown : printed modules usual [] ≡ lines_of (codes "item 0" ∷ codes "html <section><b>x</b></section>" ∷ [])
shown = refl

shown_captured : printed_captured modules usual [] ≡ lines_of (codes "item 0" ∷ codes "html <section><b>x</b></section>" ∷ [])
shown_captured = refl
