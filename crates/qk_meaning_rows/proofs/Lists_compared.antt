-- Two fixed values can't be compared.
use Rattle.std.specs.Prelude.{◌≡◌, refl, true, List, [], ◌∷◌, codes, None}
use Rattle.qk_ast.specs.declared.Module.{Module}
use Rattle.qk_ast.specs.declared.Bin.{Bin}
use Rattle.qk_ast.specs.declared.Known.{Known}
use Rattle.qk_ast.specs.Sources.{Named_module}
use Rattle.qk_meaning.specs.Run.{Line, Happens}
use Rattle.qk_meaning_rows.specs.Trees.{int, name, text, list_of, chain, post, call, known, block, plain, arrow, element, const, do_it, give_back, importing, item}
use Rattle.qk_meaning_rows.specs.Common.{usual, printed, printed_captured, lines_of}

abbrev pub root_module : Module
root_module = record {
  imports = importing
      ("$" ∷ "Slot" ∷ "component$" ∷ "createContextId" ∷ "noSerialize" ∷ "useComputed$" ∷ "useContext" ∷ "useContextProvider" ∷ "useSignal" ∷ "useStore" ∷ "useTask$" ∷ []) "@builder.io/qwik" ∷ [];
  items = item true "App"
      (post (name "component$")
      (call (arrow 0 []
      (block (
      const (plain "r") (list_of (int 1 ∷ [])) ∷
      give_back (element "p"
      (
      ("id", text "p") ∷ (
        "onClick$",
        arrow 1 []
            (block (do_it (known Known.Log (text "a" ∷ [])) ∷ do_it (known Known.Log (chain (name "r") ((Bin.Same, name "r") ∷ []) ∷ [])) ∷ [])),
      ) ∷
      []) []) ∷
      [])) ∷ []) ∷ [])) ∷ [];
}

abbrev pub modules : List Named_module
modules = (codes "root", root_module) ∷ []

abbrev pub script : List Line
script = Happens (record { kind = codes "click"; id = codes "p"; value = None }) ∷ []

-- what is printed, in the reading with whole scopes
shown : printed modules usual script ≡ lines_of (
    codes "item 0" ∷
    codes "html <p id=\"p\"></p>" ∷
    codes "item 1" ∷
    codes "log a" ∷
    codes "fault 1 Identity" ∷
    [])
shown = refl

-- the same in the reading with captured values
shown_captured : printed_captured modules usual script ≡ lines_of (
    codes "item 0" ∷
    codes "html <p id=\"p\"></p>" ∷
    codes "item 1" ∷
    codes "log a" ∷
    codes "fault 1 Identity" ∷
    [])
shown_captured = refl
