-- A component without a key is numbered among the items without keys: it stays the same instance where one with a key before it goes.
use Rattle.std.specs.Prelude.{◌≡◌, refl, true, false, List, [], ◌∷◌, codes, None}
use Rattle.qk_ast.specs.declared.Module.{Module}
use Rattle.qk_ast.specs.declared.AssignOp.{AssignOp}
use Rattle.qk_ast.specs.declared.Expr.{Expr}
use Rattle.qk_ast.specs.Sources.{Named_module}
use Rattle.qk_meaning.specs.Run.{Line, Happens}
use Rattle.qk_meaning_rows.specs.Trees.{int, name, text, list_of, choice, post, dot, call, assign, step, gives, block, plain, arrow, element, component, const, do_it, give_back, importing, item}
use Rattle.qk_meaning_rows.specs.Common.{usual, printed, printed_captured, lines_of}

abbrev root_module : Module
root_module = record {
  imports = importing ("component$" ∷ "useSignal" ∷ []) "@builder.io/qwik" ∷ [];
  items =
      item true "Cell"
      (post (name "component$")
      (call (arrow 0 (plain "props" ∷ [])
      (block (
      const (plain "n") (post (name "useSignal") (call (int 0 ∷ []) ∷ [])) ∷
      give_back (element "button"
      (("id", post (name "props") (dot "k" ∷ [])) ∷ ("onClick$", arrow 1 [] (gives (step true (post (name "n") (dot "value" ∷ []))))) ∷ [])
      (post (name "n") (dot "value" ∷ []) ∷ [])) ∷
      [])) ∷ []) ∷ [])) ∷
      item true "App"
      (post (name "component$")
      (call (arrow 2 []
      (block (
      const (plain "on") (post (name "useSignal") (call (Expr.Bool true ∷ []) ∷ [])) ∷
      give_back (element "div" [] (
      choice (post (name "on") (dot "value" ∷ []))
      (list_of (component "Cell" (("key", text "k") ∷ ("k", text "a") ∷ []) [] ∷ component "Cell" (("k", text "b") ∷ []) [] ∷ []))
      (list_of (component "Cell" (("k", text "b") ∷ []) [] ∷ [])) ∷
      element "i" (("id", text "t") ∷ ("onClick$", arrow 3 [] (block (do_it (assign AssignOp.Set (post (name "on") (dot "value" ∷ [])) (Expr.Bool false)) ∷ []))) ∷ []) [] ∷
      [])) ∷
      [])) ∷ []) ∷ [])) ∷
      [];
}

abbrev modules : List Named_module
modules = (codes "root", root_module) ∷ []

abbrev script : List Line
script = Happens (record { kind = codes "click"; id = codes "b"; value = None }) ∷ Happens (record { kind = codes "click"; id = codes "t"; value = None }) ∷ []

shown : printed modules usual script ≡ lines_of (
    codes "item 0" ∷
    codes "html <div><button id=\"a\">0</button><button id=\"b\">0</button><i id=\"t\"></i></div>" ∷
    codes "item 1" ∷
    codes "html <div><button id=\"a\">0</button><button id=\"b\">1</button><i id=\"t\"></i></div>" ∷
    codes "item 2" ∷
    codes "html <div><button id=\"b\">1</button><i id=\"t\"></i></div>" ∷
    [])
shown = refl

shown_captured : printed_captured modules usual script ≡ printed modules usual script
shown_captured = refl
