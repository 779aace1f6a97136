-- A write in a render.
use Rattle.std.specs.Prelude.{◌≡◌, refl, true, List, [], ◌∷◌, codes}
use Rattle.qk_ast.specs.declared.Module.{Module}
use Rattle.qk_ast.specs.declared.AssignOp.{AssignOp}
use Rattle.qk_ast.specs.Sources.{Named_module}
use Rattle.qk_meaning.specs.Run.{Line}
use Rattle.qk_meaning_rows.specs.Trees.{int, name, post, dot, call, assign, block, plain, arrow, element, const, do_it, give_back, importing, item}
use Rattle.qk_meaning_rows.specs.Common.{usual, printed, printed_captured, lines_of}

abbrev pub root_module : Module
root_module = record {
  imports = importing
      ("$" ∷ "Slot" ∷ "component$" ∷ "createContextId" ∷ "noSerialize" ∷ "useComputed$" ∷ "useContext" ∷ "useContextProvider" ∷ "useSignal" ∷ "useStore" ∷ "useTask$" ∷ []) "@builder.io/qwik" ∷ [];
  items = item true "App"
      (post (name "component$")
      (call (arrow 0 []
      (block (
      const (plain "s") (post (name "useSignal") (call (int 0 ∷ []) ∷ [])) ∷
      do_it (assign AssignOp.Set (post (name "s") (dot "value" ∷ [])) (int 1)) ∷
      give_back (element "p" [] []) ∷
      [])) ∷ []) ∷ [])) ∷ [];
}

abbrev pub modules : List Named_module
modules = (codes "root", root_module) ∷ []

abbrev pub script : List Line
script = []

-- what is printed, in the reading with whole scopes
shown : printed modules usual script ≡ lines_of (
    codes "item 0" ∷
    codes "fault 0 RenderWrite" ∷
    [])
shown = refl

-- the same in the reading with captured values
shown_captured : printed_captured modules usual script ≡ lines_of (
    codes "item 0" ∷
    codes "fault 0 RenderWrite" ∷
    [])
shown_captured = refl
