-- Components in one another, and an element at a path of 129 steps.
use Rattle.std.specs.Prelude.{◌≡◌, refl, true, List, [], ◌∷◌, codes}
use Rattle.qk_ast.specs.declared.Module.{Module}
use Rattle.qk_ast.specs.declared.Bin.{Bin}
use Rattle.qk_ast.specs.Sources.{Named_module}
use Rattle.qk_meaning.specs.Run.{Line}
use Rattle.qk_meaning_rows.specs.Trees.{int, name, chain, choice, post, dot, call, gives, plain, arrow, element, component, importing, item}
use Rattle.qk_meaning_rows.specs.Common.{usual, printed, lines_of}

abbrev pub root_module : Module
root_module = record {
  imports = importing ("component$" ∷ []) "@builder.io/qwik" ∷ [];
  items =
      item true "R"
      (post (name "component$")
      (call (arrow 0 (plain "p" ∷ [])
      (gives (choice
      (chain (post (name "p") (dot "n" ∷ [])) ((Bin.More, int 0) ∷ []))
      (component "R" (("n", chain (post (name "p") (dot "n" ∷ [])) ((Bin.Sub, int 1) ∷ [])) ∷ []) []) (element "b" [] []))) ∷ []) ∷ [])) ∷
      item true "App" (post (name "component$") (call (arrow 1 [] (gives (component "R" (("n", int 127) ∷ []) [])) ∷ []) ∷ [])) ∷
      [];
}

abbrev pub modules : List Named_module
modules = (codes "root", root_module) ∷ []

abbrev pub script : List Line
script = []

-- what is printed, in the reading with whole scopes
shown : printed modules usual script ≡ lines_of (
    codes "item 0" ∷
    codes "fault 0 TreeTooDeep" ∷
    [])
shown = refl
