-- A task writes what kept components before and behind it have read.
use Rattle.std.specs.Prelude.{◌≡◌, refl, List, [], ◌∷◌, codes, true, None}
use Rattle.qk_ast.specs.declared.Module.{Module}
use Rattle.qk_ast.specs.declared.Bin.{Bin}
use Rattle.qk_ast.specs.declared.AssignOp.{AssignOp}
use Rattle.qk_ast.specs.Sources.{Named_module}
use Rattle.qk_meaning.specs.Run.{Line, Happens}
use Rattle.qk_meaning_rows.specs.Trees.{int, name, text, chain, post, dot, call, assign, step, gives, block, plain, fields, arrow, element, component, const, do_it, give_back, importing, item}
use Rattle.qk_meaning_rows.specs.Common.{usual, printed, lines_of}
use Rattle.qk_needed.proofs.Rows.Printed.{printed_needed, printed_needed_captured}

abbrev root_module : Module
root_module = record {
  imports = importing
      ("$" ∷ "Slot" ∷ "component$" ∷ "createContextId" ∷ "noSerialize" ∷ "useComputed$" ∷ "useContext" ∷ "useContextProvider" ∷ "useSignal" ∷ "useStore" ∷ "useTask$" ∷ []) "@builder.io/qwik" ∷ [];
  items =
      item true "Shows"
      (post (name "component$")
      (call (arrow 0 (plain "props" ∷ []) (gives (element "i" [] (post (name "props") (dot "t" ∷ dot "value" ∷ []) ∷ []))) ∷ []) ∷ [])) ∷
      item true "Writes"
      (post (name "component$")
      (call (arrow 1 (plain "props" ∷ [])
      (block (
      do_it (post (name "useTask$")
      (call (arrow 2 (fields ("track" ∷ []) ∷ [])
      (block (
      const (plain "v")
      (post (name "track") (call (arrow 3 [] (gives (post (name "props") (dot "s" ∷ dot "value" ∷ []))) ∷ []) ∷ [])) ∷
      do_it (assign AssignOp.Set (post (name "props") (dot "t" ∷ dot "value" ∷ [])) (chain (name "v") ((Bin.Mul, int 2) ∷ []))) ∷
      [])) ∷ []) ∷ [])) ∷
      give_back (element "b" [] (text "w" ∷ [])) ∷
      [])) ∷ []) ∷ [])) ∷
      item true "App"
      (post (name "component$")
      (call (arrow 4 []
      (block (
      const (plain "s") (post (name "useSignal") (call (int 1 ∷ []) ∷ [])) ∷
      const (plain "t") (post (name "useSignal") (call (int 0 ∷ []) ∷ [])) ∷
      give_back (element "div" []
      (
      component "Shows" (("t", name "t") ∷ []) [] ∷
      component "Writes" (("s", name "s") ∷ ("t", name "t") ∷ []) [] ∷
      component "Shows" (("t", name "t") ∷ []) [] ∷
      element "button"
      (("id", text "b") ∷ ("onClick$", arrow 5 [] (block (do_it (step true (post (name "s") (dot "value" ∷ []))) ∷ []))) ∷ []) [] ∷
      [])) ∷
      [])) ∷ []) ∷ [])) ∷
      [];
}

abbrev modules : List Named_module
modules = (codes "root", root_module) ∷ []

abbrev script : List Line
script = Happens (record { kind = codes "click"; id = codes "b"; value = None }) ∷ Happens (record { kind = codes "click"; id = codes "b"; value = None }) ∷ []

-- rendered whole
whole : printed modules usual script ≡ lines_of (
    codes "item 0" ∷
    codes "html <div><i>2</i><b>w</b><i>2</i><button id=\"b\"></button></div>" ∷
    codes "item 1" ∷
    codes "html <div><i>4</i><b>w</b><i>4</i><button id=\"b\"></button></div>" ∷
    codes "item 2" ∷
    codes "html <div><i>6</i><b>w</b><i>6</i><button id=\"b\"></button></div>" ∷
    [])
whole = refl

-- only what is needed, in the reading with whole scopes
shown : printed_needed modules usual script ≡ lines_of (
    codes "item 0" ∷
    codes "html <div><i>2</i><b>w</b><i>2</i><button id=\"b\"></button></div>" ∷
    codes "item 1" ∷
    codes "html <div><i>4</i><b>w</b><i>4</i><button id=\"b\"></button></div>" ∷
    codes "item 2" ∷
    codes "html <div><i>6</i><b>w</b><i>6</i><button id=\"b\"></button></div>" ∷
    [])
shown = refl

-- and in the reading with captured values
shown_captured : printed_needed_captured modules usual script ≡ lines_of (
    codes "item 0" ∷
    codes "html <div><i>2</i><b>w</b><i>2</i><button id=\"b\"></button></div>" ∷
    codes "item 1" ∷
    codes "html <div><i>4</i><b>w</b><i>4</i><button id=\"b\"></button></div>" ∷
    codes "item 2" ∷
    codes "html <div><i>6</i><b>w</b><i>6</i><button id=\"b\"></button></div>" ∷
    [])
shown_captured = refl

-- with 7 turns
with_7 : printed_needed_captured modules (record { turns = 7; levels = 48 }) script ≡ lines_of (
    codes "item 0" ∷
    codes "html <div><i>2</i><b>w</b><i>2</i><button id=\"b\"></button></div>" ∷
    codes "item 1" ∷
    codes "html <div><i>4</i><b>w</b><i>4</i><button id=\"b\"></button></div>" ∷
    codes "item 2" ∷
    codes "html <div><i>6</i><b>w</b><i>6</i><button id=\"b\"></button></div>" ∷
    [])
with_7 = refl

-- with 6 turns
with_6 : printed_needed_captured modules (record { turns = 6; levels = 48 }) script ≡ lines_of (
    codes "ended 0" ∷
    [])
with_6 = refl
