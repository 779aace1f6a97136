-- A component that is mounted late writes what was shown before it, and is not executed a second time.
use Rattle.std.specs.Prelude.{◌≡◌, refl, List, [], ◌∷◌, codes, true}
use Rattle.qk_ast.specs.declared.Module.{Module}
use Rattle.qk_ast.specs.declared.AssignOp.{AssignOp}
use Rattle.qk_ast.specs.Sources.{Named_module}
use Rattle.qk_meaning.specs.Run.{Line}
use Rattle.qk_meaning_rows.specs.Trees.{int, name, post, dot, call, assign, block, plain, arrow, element, component, const, do_it, give_back, importing, item}
use Rattle.qk_meaning_rows.specs.Common.{usual, printed, lines_of}
use Rattle.qk_needed.proofs.Rows.Printed.{printed_needed, printed_needed_captured}

abbrev root_module : Module
root_module = record {
  imports = importing
      ("$" ∷ "Slot" ∷ "component$" ∷ "createContextId" ∷ "noSerialize" ∷ "useComputed$" ∷ "useContext" ∷ "useContextProvider" ∷ "useSignal" ∷ "useStore" ∷ "useTask$" ∷ []) "@builder.io/qwik" ∷ [];
  items =
      item true "Late"
      (post (name "component$")
      (call (arrow 0 (plain "props" ∷ [])
      (block (
      do_it (post (name "useTask$")
      (call (arrow 1 [] (block (do_it (assign AssignOp.Set (post (name "props") (dot "s" ∷ dot "value" ∷ [])) (int 7)) ∷ [])) ∷ []) ∷ [])) ∷
      give_back (element "i" [] (post (name "props") (dot "s" ∷ dot "value" ∷ []) ∷ [])) ∷
      [])) ∷ []) ∷ [])) ∷
      item true "App"
      (post (name "component$")
      (call (arrow 2 []
      (block (
      const (plain "s") (post (name "useSignal") (call (int 0 ∷ []) ∷ [])) ∷
      give_back (element "div" [] (element "b" [] (post (name "s") (dot "value" ∷ []) ∷ []) ∷ component "Late" (("s", name "s") ∷ []) [] ∷ [])) ∷
      [])) ∷ []) ∷ [])) ∷
      [];
}

abbrev modules : List Named_module
modules = (codes "root", root_module) ∷ []

abbrev script : List Line
script = []

-- rendered whole
whole : printed modules usual script ≡ lines_of (
    codes "item 0" ∷
    codes "html <div><b>7</b><i>7</i></div>" ∷
    [])
whole = refl

-- only what is needed, in the reading with whole scopes
shown : printed_needed modules usual script ≡ lines_of (
    codes "item 0" ∷
    codes "html <div><b>7</b><i>7</i></div>" ∷
    [])
shown = refl

-- and in the reading with captured values
shown_captured : printed_needed_captured modules usual script ≡ lines_of (
    codes "item 0" ∷
    codes "html <div><b>7</b><i>7</i></div>" ∷
    [])
shown_captured = refl

-- with 4 turns
with_4 : printed_needed_captured modules (record { turns = 4; levels = 48 }) script ≡ lines_of (
    codes "item 0" ∷
    codes "html <div><b>7</b><i>7</i></div>" ∷
    [])
with_4 = refl

-- with 3 turns
with_3 : printed_needed_captured modules (record { turns = 3; levels = 48 }) script ≡ lines_of (
    codes "ended 0" ∷
    [])
with_3 = refl
