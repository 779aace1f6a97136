-- Computeds are read by listeners first and by a pass later; a pause forgets them.
use Rattle.std.specs.Prelude.{◌≡◌, refl, List, [], ◌∷◌, codes, true, false, None}
use Rattle.qk_ast.specs.declared.Module.{Module}
use Rattle.qk_ast.specs.declared.Expr.{Expr}
use Rattle.qk_ast.specs.declared.Bin.{Bin}
use Rattle.qk_ast.specs.declared.Un.{Un}
use Rattle.qk_ast.specs.declared.AssignOp.{AssignOp}
use Rattle.qk_ast.specs.declared.Known.{Known}
use Rattle.qk_ast.specs.Sources.{Named_module}
use Rattle.qk_meaning.specs.Run.{Line, Happens, Pauses}
use Rattle.qk_meaning_rows.specs.Trees.{int, name, text, unary, chain, choice, post, dot, call, assign, step, known, gives, block, plain, arrow, element, component, const, do_it, give_back, importing, item}
use Rattle.qk_meaning_rows.specs.Common.{usual, printed, lines_of}
use Rattle.qk_needed.proofs.Rows.Printed.{printed_needed, printed_needed_captured}

abbrev root_module : Module
root_module = record {
  imports = importing
      ("$" ∷ "Slot" ∷ "component$" ∷ "createContextId" ∷ "noSerialize" ∷ "useComputed$" ∷ "useContext" ∷ "useContextProvider" ∷ "useSignal" ∷ "useStore" ∷ "useTask$" ∷ []) "@builder.io/qwik" ∷ [];
  items =
      item true "Shows"
      (post (name "component$")
      (call (arrow 0 (plain "props" ∷ [])
      (gives (element "i" []
      (choice (post (name "props") (dot "on" ∷ dot "value" ∷ [])) (post (name "props") (dot "c" ∷ dot "value" ∷ [])) (text "-") ∷ []))) ∷ []) ∷ [])) ∷
      item true "App"
      (post (name "component$")
      (call (arrow 1 []
      (block (
      const (plain "s") (post (name "useSignal") (call (int 2 ∷ []) ∷ [])) ∷
      const (plain "on") (post (name "useSignal") (call (Expr.Bool false ∷ []) ∷ [])) ∷
      const (plain "c")
      (post (name "useComputed$")
      (call (arrow 2 [] (gives (chain (post (name "s") (dot "value" ∷ [])) ((Bin.Mul, int 3) ∷ []))) ∷ []) ∷ [])) ∷
      const (plain "d")
      (post (name "useComputed$")
      (call (arrow 3 [] (gives (chain (post (name "c") (dot "value" ∷ [])) ((Bin.Add, int 1) ∷ []))) ∷ []) ∷ [])) ∷
      give_back (element "div" []
      (
      component "Shows" (("c", name "d") ∷ ("on", name "on") ∷ []) [] ∷
      element "button"
      (
      ("id", text "r") ∷
      ("onClick$", arrow 4 [] (block (do_it (known Known.Log (post (name "d") (dot "value" ∷ []) ∷ [])) ∷ []))) ∷
      []) [] ∷
      element "button"
      (
      ("id", text "o") ∷ (
        "onClick$",
        arrow 5 []
            (block (
            do_it (known Known.Log (post (name "d") (dot "value" ∷ []) ∷ [])) ∷
            do_it (step true (post (name "s") (dot "value" ∷ []))) ∷
            do_it (known Known.Log (post (name "c") (dot "value" ∷ []) ∷ [])) ∷
            do_it (assign AssignOp.Set (post (name "on") (dot "value" ∷ [])) (unary Un.Not (post (name "on") (dot "value" ∷ [])))) ∷
            [])),
      ) ∷
      []) [] ∷
      [])) ∷
      [])) ∷ []) ∷ [])) ∷
      [];
}

abbrev modules : List Named_module
modules = (codes "root", root_module) ∷ []

abbrev script : List Line
script = Happens (record { kind = codes "click"; id = codes "r"; value = None }) ∷ Happens (record { kind = codes "click"; id = codes "r"; value = None }) ∷ Happens (record { kind = codes "click"; id = codes "o"; value = None }) ∷ Pauses ∷ Happens (record { kind = codes "click"; id = codes "o"; value = None }) ∷ Happens (record { kind = codes "click"; id = codes "o"; value = None }) ∷ []

-- rendered whole
whole : printed modules usual script ≡ lines_of (
    codes "item 0" ∷
    codes "html <div><i>-</i><button id=\"r\"></button><button id=\"o\"></button></div>" ∷
    codes "item 1" ∷
    codes "log 7" ∷
    codes "html <div><i>-</i><button id=\"r\"></button><button id=\"o\"></button></div>" ∷
    codes "item 2" ∷
    codes "log 7" ∷
    codes "html <div><i>-</i><button id=\"r\"></button><button id=\"o\"></button></div>" ∷
    codes "item 3" ∷
    codes "log 7" ∷
    codes "log 9" ∷
    codes "html <div><i>10</i><button id=\"r\"></button><button id=\"o\"></button></div>" ∷
    codes "item 4" ∷
    codes "paused" ∷
    codes "item 5" ∷
    codes "log 10" ∷
    codes "log 12" ∷
    codes "html <div><i>-</i><button id=\"r\"></button><button id=\"o\"></button></div>" ∷
    codes "item 6" ∷
    codes "log 13" ∷
    codes "log 15" ∷
    codes "html <div><i>16</i><button id=\"r\"></button><button id=\"o\"></button></div>" ∷
    [])
whole = refl

-- only what is needed, in the reading with whole scopes
shown : printed_needed modules usual script ≡ lines_of (
    codes "item 0" ∷
    codes "html <div><i>-</i><button id=\"r\"></button><button id=\"o\"></button></div>" ∷
    codes "item 1" ∷
    codes "log 7" ∷
    codes "html <div><i>-</i><button id=\"r\"></button><button id=\"o\"></button></div>" ∷
    codes "item 2" ∷
    codes "log 7" ∷
    codes "html <div><i>-</i><button id=\"r\"></button><button id=\"o\"></button></div>" ∷
    codes "item 3" ∷
    codes "log 7" ∷
    codes "log 9" ∷
    codes "html <div><i>10</i><button id=\"r\"></button><button id=\"o\"></button></div>" ∷
    codes "item 4" ∷
    codes "paused" ∷
    codes "item 5" ∷
    codes "log 10" ∷
    codes "log 12" ∷
    codes "html <div><i>-</i><button id=\"r\"></button><button id=\"o\"></button></div>" ∷
    codes "item 6" ∷
    codes "log 13" ∷
    codes "log 15" ∷
    codes "html <div><i>16</i><button id=\"r\"></button><button id=\"o\"></button></div>" ∷
    [])
shown = refl

-- and in the reading with captured values
shown_captured : printed_needed_captured modules usual script ≡ lines_of (
    codes "item 0" ∷
    codes "html <div><i>-</i><button id=\"r\"></button><button id=\"o\"></button></div>" ∷
    codes "item 1" ∷
    codes "log 7" ∷
    codes "html <div><i>-</i><button id=\"r\"></button><button id=\"o\"></button></div>" ∷
    codes "item 2" ∷
    codes "log 7" ∷
    codes "html <div><i>-</i><button id=\"r\"></button><button id=\"o\"></button></div>" ∷
    codes "item 3" ∷
    codes "log 7" ∷
    codes "log 9" ∷
    codes "html <div><i>10</i><button id=\"r\"></button><button id=\"o\"></button></div>" ∷
    codes "item 4" ∷
    codes "paused" ∷
    codes "item 5" ∷
    codes "log 10" ∷
    codes "log 12" ∷
    codes "html <div><i>-</i><button id=\"r\"></button><button id=\"o\"></button></div>" ∷
    codes "item 6" ∷
    codes "log 13" ∷
    codes "log 15" ∷
    codes "html <div><i>16</i><button id=\"r\"></button><button id=\"o\"></button></div>" ∷
    [])
shown_captured = refl

-- with 5 turns
with_5 : printed_needed_captured modules (record { turns = 5; levels = 48 }) script ≡ lines_of (
    codes "item 0" ∷
    codes "html <div><i>-</i><button id=\"r\"></button><button id=\"o\"></button></div>" ∷
    codes "item 1" ∷
    codes "log 7" ∷
    codes "html <div><i>-</i><button id=\"r\"></button><button id=\"o\"></button></div>" ∷
    codes "item 2" ∷
    codes "log 7" ∷
    codes "html <div><i>-</i><button id=\"r\"></button><button id=\"o\"></button></div>" ∷
    codes "item 3" ∷
    codes "log 7" ∷
    codes "log 9" ∷
    codes "html <div><i>10</i><button id=\"r\"></button><button id=\"o\"></button></div>" ∷
    codes "item 4" ∷
    codes "paused" ∷
    codes "item 5" ∷
    codes "log 10" ∷
    codes "log 12" ∷
    codes "html <div><i>-</i><button id=\"r\"></button><button id=\"o\"></button></div>" ∷
    codes "item 6" ∷
    codes "log 13" ∷
    codes "log 15" ∷
    codes "html <div><i>16</i><button id=\"r\"></button><button id=\"o\"></button></div>" ∷
    [])
with_5 = refl

-- with 4 turns
with_4 : printed_needed_captured modules (record { turns = 4; levels = 48 }) script ≡ lines_of (
    codes "item 0" ∷
    codes "html <div><i>-</i><button id=\"r\"></button><button id=\"o\"></button></div>" ∷
    codes "item 1" ∷
    codes "log 7" ∷
    codes "html <div><i>-</i><button id=\"r\"></button><button id=\"o\"></button></div>" ∷
    codes "item 2" ∷
    codes "log 7" ∷
    codes "html <div><i>-</i><button id=\"r\"></button><button id=\"o\"></button></div>" ∷
    codes "item 3" ∷
    codes "log 7" ∷
    codes "log 9" ∷
    codes "html <div><i>10</i><button id=\"r\"></button><button id=\"o\"></button></div>" ∷
    codes "item 4" ∷
    codes "paused" ∷
    codes "ended 5" ∷
    [])
with_4 = refl

-- with 3 turns
with_3 : printed_needed_captured modules (record { turns = 3; levels = 48 }) script ≡ lines_of (
    codes "item 0" ∷
    codes "html <div><i>-</i><button id=\"r\"></button><button id=\"o\"></button></div>" ∷
    codes "item 1" ∷
    codes "log 7" ∷
    codes "html <div><i>-</i><button id=\"r\"></button><button id=\"o\"></button></div>" ∷
    codes "item 2" ∷
    codes "log 7" ∷
    codes "html <div><i>-</i><button id=\"r\"></button><button id=\"o\"></button></div>" ∷
    codes "ended 3" ∷
    [])
with_3 = refl
