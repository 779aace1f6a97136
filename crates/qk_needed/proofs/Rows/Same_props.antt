-- A parent that is executed again hands its child the same props, and the child keeps its view.
use Rattle.std.specs.Prelude.{◌≡◌, refl, List, [], ◌∷◌, codes, true, None}
use Rattle.qk_ast.specs.declared.Module.{Module}
use Rattle.qk_ast.specs.declared.Bin.{Bin}
use Rattle.qk_ast.specs.declared.AssignOp.{AssignOp}
use Rattle.qk_ast.specs.Sources.{Named_module}
use Rattle.qk_meaning.specs.Run.{Line, Happens}
use Rattle.qk_meaning_rows.specs.Trees.{int, name, text, record_of, chain, post, dot, call, assign, step, gives, block, plain, arrow, element, component, const, do_it, give_back, importing, item}
use Rattle.qk_meaning_rows.specs.Common.{usual, printed, lines_of}
use Rattle.qk_needed.proofs.Rows.Printed.{printed_needed, printed_needed_captured}

abbrev root_module : Module
root_module = record {
  imports = importing
      ("$" ∷ "Slot" ∷ "component$" ∷ "createContextId" ∷ "noSerialize" ∷ "useComputed$" ∷ "useContext" ∷ "useContextProvider" ∷ "useSignal" ∷ "useStore" ∷ "useTask$" ∷ []) "@builder.io/qwik" ∷ [];
  items =
      item true "Child"
      (post (name "component$")
      (call (arrow 0 (plain "props" ∷ [])
      (gives (element "button"
      (("id", text "c") ∷ ("onClick$", post (name "props") (dot "f" ∷ [])) ∷ [])
      (post (name "props") (dot "t" ∷ []) ∷ post (name "props") (dot "o" ∷ dot "k" ∷ []) ∷ []))) ∷ []) ∷ [])) ∷
      item true "App"
      (post (name "component$")
      (call (arrow 1 []
      (block (
      const (plain "n") (post (name "useSignal") (call (int 0 ∷ []) ∷ [])) ∷
      const (plain "o") (post (name "useStore") (call (record_of (("k", int 1) ∷ []) ∷ []) ∷ [])) ∷
      const (plain "k") (post (name "n") (dot "value" ∷ [])) ∷
      give_back (element "div" []
      (
      element "button"
      (("id", text "n") ∷ ("onClick$", arrow 2 [] (block (do_it (step true (post (name "n") (dot "value" ∷ []))) ∷ []))) ∷ []) (name "k" ∷ []) ∷
      component "Child"
      (
      ("t", text "x") ∷
      ("o", name "o") ∷ (
        "f",
        post (name "$")
            (call (arrow 3 []
            (block (do_it (assign AssignOp.Set (post (name "o") (dot "k" ∷ []))
            (chain (post (name "o") (dot "k" ∷ [])) ((Bin.Add, int 10) ∷ []))) ∷ [])) ∷ []) ∷ []),
      ) ∷
      []) [] ∷
      [])) ∷
      [])) ∷ []) ∷ [])) ∷
      [];
}

abbrev modules : List Named_module
modules = (codes "root", root_module) ∷ []

abbrev script : List Line
script = Happens (record { kind = codes "click"; id = codes "n"; value = None }) ∷ Happens (record { kind = codes "click"; id = codes "c"; value = None }) ∷ Happens (record { kind = codes "click"; id = codes "n"; value = None }) ∷ Happens (record { kind = codes "click"; id = codes "c"; value = None }) ∷ []

-- rendered whole
whole : printed modules usual script ≡ lines_of (
    codes "item 0" ∷
    codes "html <div><button id=\"n\">0</button><button id=\"c\">x1</button></div>" ∷
    codes "item 1" ∷
    codes "html <div><button id=\"n\">1</button><button id=\"c\">x1</button></div>" ∷
    codes "item 2" ∷
    codes "html <div><button id=\"n\">1</button><button id=\"c\">x11</button></div>" ∷
    codes "item 3" ∷
    codes "html <div><button id=\"n\">2</button><button id=\"c\">x11</button></div>" ∷
    codes "item 4" ∷
    codes "html <div><button id=\"n\">2</button><button id=\"c\">x21</button></div>" ∷
    [])
whole = refl

-- only what is needed, in the reading with whole scopes
shown : printed_needed modules usual script ≡ lines_of (
    codes "item 0" ∷
    codes "html <div><button id=\"n\">0</button><button id=\"c\">x1</button></div>" ∷
    codes "item 1" ∷
    codes "html <div><button id=\"n\">1</button><button id=\"c\">x1</button></div>" ∷
    codes "item 2" ∷
    codes "html <div><button id=\"n\">1</button><button id=\"c\">x11</button></div>" ∷
    codes "item 3" ∷
    codes "html <div><button id=\"n\">2</button><button id=\"c\">x11</button></div>" ∷
    codes "item 4" ∷
    codes "html <div><button id=\"n\">2</button><button id=\"c\">x21</button></div>" ∷
    [])
shown = refl

-- and in the reading with captured values
shown_captured : printed_needed_captured modules usual script ≡ lines_of (
    codes "item 0" ∷
    codes "html <div><button id=\"n\">0</button><button id=\"c\">x1</button></div>" ∷
    codes "item 1" ∷
    codes "html <div><button id=\"n\">1</button><button id=\"c\">x1</button></div>" ∷
    codes "item 2" ∷
    codes "html <div><button id=\"n\">1</button><button id=\"c\">x11</button></div>" ∷
    codes "item 3" ∷
    codes "html <div><button id=\"n\">2</button><button id=\"c\">x11</button></div>" ∷
    codes "item 4" ∷
    codes "html <div><button id=\"n\">2</button><button id=\"c\">x21</button></div>" ∷
    [])
shown_captured = refl

-- with 2 turns
with_2 : printed_needed_captured modules (record { turns = 2; levels = 48 }) script ≡ lines_of (
    codes "item 0" ∷
    codes "html <div><button id=\"n\">0</button><button id=\"c\">x1</button></div>" ∷
    codes "item 1" ∷
    codes "html <div><button id=\"n\">1</button><button id=\"c\">x1</button></div>" ∷
    codes "item 2" ∷
    codes "html <div><button id=\"n\">1</button><button id=\"c\">x11</button></div>" ∷
    codes "item 3" ∷
    codes "html <div><button id=\"n\">2</button><button id=\"c\">x11</button></div>" ∷
    codes "item 4" ∷
    codes "html <div><button id=\"n\">2</button><button id=\"c\">x21</button></div>" ∷
    [])
with_2 = refl

-- with 1 turn
with_1 : printed_needed_captured modules (record { turns = 1; levels = 48 }) script ≡ lines_of (
    codes "ended 0" ∷
    [])
with_1 = refl
