-- A function that a pause drops.
use Rattle.std.specs.Prelude.{◌≡◌, refl, true, List, [], ◌∷◌, codes, None}
use Rattle.qk_ast.specs.declared.Module.{Module}
use Rattle.qk_ast.specs.declared.Expr.{Expr}
use Rattle.qk_ast.specs.declared.Bin.{Bin}
use Rattle.qk_ast.specs.declared.AssignOp.{AssignOp}
use Rattle.qk_ast.specs.Sources.{Named_module}
use Rattle.qk_meaning.specs.Run.{Line, Happens, Pauses}
use Rattle.qk_meaning_rows.specs.Trees.{int, name, text, chain, choice, post, dot, call, assign, step, gives, block, plain, arrow, element, const, do_it, give_back, importing, item}
use Rattle.qk_meaning_rows.specs.Common.{usual, printed_dropping, lines_of}

abbrev pub root_module : Module
root_module = record {
  imports = importing
      ("$" ∷ "Slot" ∷ "component$" ∷ "createContextId" ∷ "noSerialize" ∷ "useComputed$" ∷ "useContext" ∷ "useContextProvider" ∷ "useSignal" ∷ "useStore" ∷ "useTask$" ∷ []) "@builder.io/qwik" ∷ [];
  items = item true "App"
      (post (name "component$")
      (call (arrow 0 []
      (block (
      const (plain "s") (post (name "useSignal") (call (Expr.Null ∷ []) ∷ [])) ∷
      const (plain "x") (post (name "useSignal") (call (int 0 ∷ []) ∷ [])) ∷
      give_back (element "div" []
      (
      element "b"
      (
      ("id", text "m") ∷ (
        "onClick$",
        arrow 1 []
            (block (do_it (assign AssignOp.Set (post (name "s") (dot "value" ∷ []))
            (post (name "noSerialize")
            (call (arrow 2 (plain "y" ∷ []) (gives (chain (name "y") ((Bin.Add, int 1) ∷ []))) ∷ []) ∷ []))) ∷ [])),
      ) ∷
      [])
      (choice (post (name "s") (dot "value" ∷ [])) (text "set") (text "none") ∷ []) ∷
      element "i"
      (("id", text "x") ∷ ("onClick$", arrow 3 [] (gives (step true (post (name "x") (dot "value" ∷ []))))) ∷ []) (post (name "x") (dot "value" ∷ []) ∷ []) ∷
      [])) ∷
      [])) ∷ []) ∷ [])) ∷ [];
}

abbrev pub modules : List Named_module
modules = (codes "root", root_module) ∷ []

abbrev pub script : List Line
script = Happens (record { kind = codes "click"; id = codes "m"; value = None }) ∷ Pauses ∷ Happens (record { kind = codes "click"; id = codes "x"; value = None }) ∷ []

-- what is printed where an answered pause drops hidden functions
shown : printed_dropping modules usual script ≡ lines_of (
    codes "item 0" ∷
    codes "html <div><b id=\"m\">none</b><i id=\"x\">0</i></div>" ∷
    codes "item 1" ∷
    codes "html <div><b id=\"m\">set</b><i id=\"x\">0</i></div>" ∷
    codes "item 2" ∷
    codes "paused" ∷
    codes "item 3" ∷
    codes "html <div><b id=\"m\">none</b><i id=\"x\">1</i></div>" ∷
    [])
shown = refl
