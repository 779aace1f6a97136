-- A line logged in a computed.
use Rattle.std.specs.Prelude.{◌≡◌, refl, true, List, [], ◌∷◌, codes}
use Rattle.qk_ast.specs.declared.Module.{Module}
use Rattle.qk_ast.specs.declared.Known.{Known}
use Rattle.qk_ast.specs.Sources.{Named_module}
use Rattle.qk_meaning.specs.Run.{Line}
use Rattle.qk_meaning_rows.specs.Trees.{int, name, text, post, dot, call, known, block, plain, arrow, element, const, do_it, give_back, importing, item}
use Rattle.qk_meaning_rows.specs.Common.{usual, printed, printed_captured, lines_of}

abbrev pub root_module : Module
root_module = record {
  imports = importing
      ("$" ∷ "Slot" ∷ "component$" ∷ "createContextId" ∷ "noSerialize" ∷ "useComputed$" ∷ "useContext" ∷ "useContextProvider" ∷ "useSignal" ∷ "useStore" ∷ "useTask$" ∷ []) "@builder.io/qwik" ∷ [];
  items = item true "App"
      (post (name "component$")
      (call (arrow 0 []
      (block (
      const (plain "c")
      (post (name "useComputed$") (call (arrow 1 [] (block (do_it (known Known.Log (text "x" ∷ [])) ∷ give_back (int 1) ∷ [])) ∷ []) ∷ [])) ∷
      give_back (element "p" [] (post (name "c") (dot "value" ∷ []) ∷ [])) ∷
      [])) ∷ []) ∷ [])) ∷ [];
}

abbrev pub modules : List Named_module
modules = (codes "root", root_module) ∷ []

abbrev pub script : List Line
script = []

-- what is printed, in the reading with whole scopes
shown : printed modules usual script ≡ lines_of (
    codes "item 0" ∷
    codes "fault 0 RenderLog" ∷
    [])
shown = refl

-- the same in the reading with captured values
shown_captured : printed_captured modules usual script ≡ lines_of (
    codes "item 0" ∷
    codes "fault 0 RenderLog" ∷
    [])
shown_captured = refl
