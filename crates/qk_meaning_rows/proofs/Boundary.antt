-- The greatest safe integer, and one more.
use Rattle.std.specs.Prelude.{◌≡◌, refl, true, List, [], ◌∷◌, codes, None}
use Rattle.qk_ast.specs.declared.Module.{Module}
use Rattle.qk_ast.specs.declared.Bin.{Bin}
use Rattle.qk_ast.specs.declared.AssignOp.{AssignOp}
use Rattle.qk_ast.specs.Sources.{Named_module}
use Rattle.qk_meaning.specs.Run.{Line, Happens}
use Rattle.qk_meaning_rows.specs.Trees.{int, name, text, chain, post, dot, call, assign, block, plain, arrow, element, const, do_it, give_back, importing, item}
use Rattle.qk_meaning_rows.specs.Common.{usual, printed, printed_captured, lines_of}

abbrev pub root_module : Module
root_module = record {
  imports = importing
      ("$" ∷ "Slot" ∷ "component$" ∷ "createContextId" ∷ "noSerialize" ∷ "useComputed$" ∷ "useContext" ∷ "useContextProvider" ∷ "useSignal" ∷ "useStore" ∷ "useTask$" ∷ []) "@builder.io/qwik" ∷ [];
  items = item true "App"
      (post (name "component$")
      (call (arrow 0 []
      (block (
      const (plain "n") (post (name "useSignal") (call (int 9007199254740990 ∷ []) ∷ [])) ∷
      give_back (element "button"
      (
      ("id", text "b") ∷ (
        "onClick$",
        arrow 1 []
            (block (do_it (assign AssignOp.Set (post (name "n") (dot "value" ∷ []))
            (chain (post (name "n") (dot "value" ∷ [])) ((Bin.Add, int 1) ∷ []))) ∷ [])),
      ) ∷
      []) (post (name "n") (dot "value" ∷ []) ∷ [])) ∷
      [])) ∷ []) ∷ [])) ∷ [];
}

abbrev pub modules : List Named_module
modules = (codes "root", root_module) ∷ []

abbrev pub script : List Line
script = Happens (record { kind = codes "click"; id = codes "b"; value = None }) ∷ Happens (record { kind = codes "click"; id = codes "b"; value = None }) ∷ []

-- what is printed, in the reading with whole scopes
shown : printed modules usual script ≡ lines_of (
    codes "item 0" ∷
    codes "html <button id=\"b\">9007199254740990</button>" ∷
    codes "item 1" ∷
    codes "html <button id=\"b\">9007199254740991</button>" ∷
    codes "item 2" ∷
    codes "fault 2 OutOfSafeRange" ∷
    [])
shown = refl

-- the same in the reading with captured values
shown_captured : printed_captured modules usual script ≡ lines_of (
    codes "item 0" ∷
    codes "html <button id=\"b\">9007199254740990</button>" ∷
    codes "item 1" ∷
    codes "html <button id=\"b\">9007199254740991</button>" ∷
    codes "item 2" ∷
    codes "fault 2 OutOfSafeRange" ∷
    [])
shown_captured = refl
