-- A computed is kept over items, and runs again once its dependency was changed and changed back.
use Rattle.std.specs.Prelude.{◌≡◌, refl, List, [], ◌∷◌, codes, true, None}
use Rattle.qk_ast.specs.declared.Module.{Module}
use Rattle.qk_ast.specs.declared.Bin.{Bin}
use Rattle.qk_ast.specs.declared.AssignOp.{AssignOp}
use Rattle.qk_ast.specs.Sources.{Named_module}
use Rattle.qk_meaning.specs.Run.{Line, Happens}
use Rattle.qk_meaning_rows.specs.Trees.{int, name, text, list_of, chain, post, dot, index, call, assign, step, gives, block, plain, arrow, element, const, do_it, give_back, importing, item}
use Rattle.qk_meaning_rows.specs.Common.{usual, printed, lines_of}
use Rattle.qk_needed.proofs.Rows.Printed.{printed_needed, printed_needed_captured}

abbrev pub root_module : Module
root_module = record {
  imports = importing
      ("$" ∷ "Slot" ∷ "component$" ∷ "createContextId" ∷ "noSerialize" ∷ "useComputed$" ∷ "useContext" ∷ "useContextProvider" ∷ "useSignal" ∷ "useStore" ∷ "useTask$" ∷ []) "@builder.io/qwik" ∷ [];
  items = item true "App"
      (post (name "component$")
      (call (arrow 0 []
      (block (
      const (plain "s") (post (name "useSignal") (call (int 1 ∷ []) ∷ [])) ∷
      const (plain "n") (post (name "useSignal") (call (int 0 ∷ []) ∷ [])) ∷
      const (plain "c")
      (post (name "useComputed$")
      (call (arrow 1 []
      (gives (list_of (post (name "s") (dot "value" ∷ []) ∷ chain (post (name "s") (dot "value" ∷ [])) ((Bin.Mul, int 2) ∷ []) ∷ []))) ∷ []) ∷ [])) ∷
      give_back (element "div" []
      (
      element "button"
      (
      ("id", text "b") ∷ (
        "onClick$",
        arrow 2 []
            (block (
            do_it (assign AssignOp.Set (post (name "s") (dot "value" ∷ [])) (int 5)) ∷
            do_it (assign AssignOp.Set (post (name "s") (dot "value" ∷ [])) (int 1)) ∷
            [])),
      ) ∷
      []) [] ∷
      element "button"
      (
      ("id", text "r") ∷ (
        "onClick$",
        arrow 3 []
            (block (do_it (assign AssignOp.Set (post (name "n") (dot "value" ∷ [])) (post (name "c") (dot "value" ∷ index (int 1) ∷ []))) ∷ [])),
      ) ∷
      []) [] ∷
      element "button"
      (("id", text "n") ∷ ("onClick$", arrow 4 [] (block (do_it (step true (post (name "n") (dot "value" ∷ []))) ∷ []))) ∷ []) [] ∷
      element "p" [] (post (name "n") (dot "value" ∷ []) ∷ []) ∷
      element "p" [] (post (name "c") (dot "value" ∷ dot "join" ∷ call (text "-" ∷ []) ∷ []) ∷ []) ∷
      [])) ∷
      [])) ∷ []) ∷ [])) ∷ [];
}

abbrev pub modules : List Named_module
modules = (codes "root", root_module) ∷ []

abbrev script : List Line
script = Happens (record { kind = codes "click"; id = codes "b"; value = None }) ∷ Happens (record { kind = codes "click"; id = codes "n"; value = None }) ∷ Happens (record { kind = codes "click"; id = codes "r"; value = None }) ∷ Happens (record { kind = codes "click"; id = codes "b"; value = None }) ∷ Happens (record { kind = codes "click"; id = codes "r"; value = None }) ∷ []

-- rendered whole
whole : printed modules usual script ≡ lines_of (
    codes "item 0" ∷
    codes "html <div><button id=\"b\"></button><button id=\"r\"></button><button id=\"n\"></button><p>0</p><p>1-2</p></div>" ∷
    codes "item 1" ∷
    codes "html <div><button id=\"b\"></button><button id=\"r\"></button><button id=\"n\"></button><p>0</p><p>1-2</p></div>" ∷
    codes "item 2" ∷
    codes "html <div><button id=\"b\"></button><button id=\"r\"></button><button id=\"n\"></button><p>1</p><p>1-2</p></div>" ∷
    codes "item 3" ∷
    codes "html <div><button id=\"b\"></button><button id=\"r\"></button><button id=\"n\"></button><p>2</p><p>1-2</p></div>" ∷
    codes "item 4" ∷
    codes "html <div><button id=\"b\"></button><button id=\"r\"></button><button id=\"n\"></button><p>2</p><p>1-2</p></div>" ∷
    codes "item 5" ∷
    codes "html <div><button id=\"b\"></button><button id=\"r\"></button><button id=\"n\"></button><p>2</p><p>1-2</p></div>" ∷
    [])
whole = refl

-- only what is needed, in the reading with whole scopes
shown : printed_needed modules usual script ≡ lines_of (
    codes "item 0" ∷
    codes "html <div><button id=\"b\"></button><button id=\"r\"></button><button id=\"n\"></button><p>0</p><p>1-2</p></div>" ∷
    codes "item 1" ∷
    codes "html <div><button id=\"b\"></button><button id=\"r\"></button><button id=\"n\"></button><p>0</p><p>1-2</p></div>" ∷
    codes "item 2" ∷
    codes "html <div><button id=\"b\"></button><button id=\"r\"></button><button id=\"n\"></button><p>1</p><p>1-2</p></div>" ∷
    codes "item 3" ∷
    codes "html <div><button id=\"b\"></button><button id=\"r\"></button><button id=\"n\"></button><p>2</p><p>1-2</p></div>" ∷
    codes "item 4" ∷
    codes "html <div><button id=\"b\"></button><button id=\"r\"></button><button id=\"n\"></button><p>2</p><p>1-2</p></div>" ∷
    codes "item 5" ∷
    codes "html <div><button id=\"b\"></button><button id=\"r\"></button><button id=\"n\"></button><p>2</p><p>1-2</p></div>" ∷
    [])
shown = refl

-- and in the reading with captured values
shown_captured : printed_needed_captured modules usual script ≡ lines_of (
    codes "item 0" ∷
    codes "html <div><button id=\"b\"></button><button id=\"r\"></button><button id=\"n\"></button><p>0</p><p>1-2</p></div>" ∷
    codes "item 1" ∷
    codes "html <div><button id=\"b\"></button><button id=\"r\"></button><button id=\"n\"></button><p>0</p><p>1-2</p></div>" ∷
    codes "item 2" ∷
    codes "html <div><button id=\"b\"></button><button id=\"r\"></button><button id=\"n\"></button><p>1</p><p>1-2</p></div>" ∷
    codes "item 3" ∷
    codes "html <div><button id=\"b\"></button><button id=\"r\"></button><button id=\"n\"></button><p>2</p><p>1-2</p></div>" ∷
    codes "item 4" ∷
    codes "html <div><button id=\"b\"></button><button id=\"r\"></button><button id=\"n\"></button><p>2</p><p>1-2</p></div>" ∷
    codes "item 5" ∷
    codes "html <div><button id=\"b\"></button><button id=\"r\"></button><button id=\"n\"></button><p>2</p><p>1-2</p></div>" ∷
    [])
shown_captured = refl

-- with 3 turns
with_3 : printed_needed_captured modules (record { turns = 3; levels = 48 }) script ≡ lines_of (
    codes "item 0" ∷
    codes "html <div><button id=\"b\"></button><button id=\"r\"></button><button id=\"n\"></button><p>0</p><p>1-2</p></div>" ∷
    codes "item 1" ∷
    codes "html <div><button id=\"b\"></button><button id=\"r\"></button><button id=\"n\"></button><p>0</p><p>1-2</p></div>" ∷
    codes "item 2" ∷
    codes "html <div><button id=\"b\"></button><button id=\"r\"></button><button id=\"n\"></button><p>1</p><p>1-2</p></div>" ∷
    codes "item 3" ∷
    codes "html <div><button id=\"b\"></button><button id=\"r\"></button><button id=\"n\"></button><p>2</p><p>1-2</p></div>" ∷
    codes "item 4" ∷
    codes "html <div><button id=\"b\"></button><button id=\"r\"></button><button id=\"n\"></button><p>2</p><p>1-2</p></div>" ∷
    codes "item 5" ∷
    codes "html <div><button id=\"b\"></button><button id=\"r\"></button><button id=\"n\"></button><p>2</p><p>1-2</p></div>" ∷
    [])
with_3 = refl

-- with 2 turns
with_2 : printed_needed_captured modules (record { turns = 2; levels = 48 }) script ≡ lines_of (
    codes "item 0" ∷
    codes "html <div><button id=\"b\"></button><button id=\"r\"></button><button id=\"n\"></button><p>0</p><p>1-2</p></div>" ∷
    codes "ended 1" ∷
    [])
with_2 = refl
