-- One object in two signals.
use Rattle.std.specs.Prelude.{◌≡◌, refl, true, List, [], ◌∷◌, codes, None}
use Rattle.qk_ast.specs.declared.Module.{Module}
use Rattle.qk_ast.specs.declared.Expr.{Expr}
use Rattle.qk_ast.specs.declared.AssignOp.{AssignOp}
use Rattle.qk_meaning.specs.Value.{Text}
use Rattle.qk_ast.specs.Sources.{Named_module}
use Rattle.qk_meaning.specs.Run.{Line, Happens, Pauses}
use Rattle.qk_meaning_rows.specs.Trees.{int, name, text, list_of, record_of, post, dot, call, assign, block, plain, scope, arrow, element, const, do_it, give_back, importing, item}
use Rattle.qk_meaning_rows.specs.Common.{usual, printed, printed_captured, printed_built, lines_of, last_page, last_page_captured, last_page_built}

abbrev pub root_module : Module
root_module = record {
  imports = importing
      ("$" ∷ "Slot" ∷ "component$" ∷ "createContextId" ∷ "noSerialize" ∷ "useComputed$" ∷ "useContext" ∷ "useContextProvider" ∷ "useSignal" ∷ "useStore" ∷ "useTask$" ∷ []) "@builder.io/qwik" ∷ [];
  items = item true "App"
      (post (name "component$")
      (call (arrow 0 []
      (block (
      const (plain "a") (post (name "useSignal") (call (Expr.Null ∷ []) ∷ [])) ∷
      const (plain "b") (post (name "useSignal") (call (Expr.Null ∷ []) ∷ [])) ∷
      do_it (post (name "useTask$")
      (call (arrow 1 []
      (block (
      const (plain "o") (record_of (("n", int 1) ∷ [])) ∷
      do_it (assign AssignOp.Set (post (name "a") (dot "value" ∷ [])) (name "o")) ∷
      do_it (assign AssignOp.Set (post (name "b") (dot "value" ∷ [])) (name "o")) ∷
      [])) ∷ []) ∷ [])) ∷
      give_back (element "button"
      (
      ("id", text "b") ∷
      ("onClick$", arrow 2 [] (block (do_it (assign AssignOp.Set (post (name "a") (dot "value" ∷ dot "n" ∷ [])) (int 5)) ∷ []))) ∷
      []) (post (name "b") (dot "value" ∷ dot "n" ∷ []) ∷ [])) ∷
      [])) ∷ []) ∷ [])) ∷ [];
}

abbrev pub modules : List Named_module
modules = (codes "root", root_module) ∷ []

abbrev pub script : List Line
script = Pauses ∷ Happens (record { kind = codes "click"; id = codes "b"; value = None }) ∷ []

abbrev pub built_root : Module
built_root = record {
  imports = importing ("componentQrl" ∷ "qrl" ∷ []) "@builder.io/qwik" ∷ [];
  items = item true "App" (post (name "componentQrl") (call (post (name "qrl") (call (text "root_s1" ∷ list_of [] ∷ []) ∷ []) ∷ []) ∷ [])) ∷ [];
}

abbrev pub built_root_s1 : Module
built_root_s1 = record {
  imports = importing ("qrl" ∷ "useSignal" ∷ "useTaskQrl" ∷ []) "@builder.io/qwik" ∷ [];
  items = item true "root_s1"
      (arrow 0 []
      (block (
      const (plain "a") (post (name "useSignal") (call (Expr.Null ∷ []) ∷ [])) ∷
      const (plain "b") (post (name "useSignal") (call (Expr.Null ∷ []) ∷ [])) ∷
      do_it (post (name "useTaskQrl") (call (post (name "qrl") (call (text "root_s2" ∷ list_of (name "a" ∷ name "b" ∷ []) ∷ []) ∷ []) ∷ []) ∷ [])) ∷
      give_back (element "button"
      (("id", text "b") ∷ ("onClick$", post (name "qrl") (call (text "root_s3" ∷ list_of (name "a" ∷ []) ∷ []) ∷ [])) ∷ []) (post (name "b") (dot "value" ∷ dot "n" ∷ []) ∷ [])) ∷
      []))) ∷ [];
}

abbrev pub built_root_s2 : Module
built_root_s2 = record {
  imports = importing ("useLexicalScope" ∷ []) "@builder.io/qwik" ∷ [];
  items = item true "root_s2"
      (arrow 0 []
      (block (
      const (scope ("a" ∷ "b" ∷ [])) (post (name "useLexicalScope") (call [] ∷ [])) ∷
      const (plain "o") (record_of (("n", int 1) ∷ [])) ∷
      do_it (assign AssignOp.Set (post (name "a") (dot "value" ∷ [])) (name "o")) ∷
      do_it (assign AssignOp.Set (post (name "b") (dot "value" ∷ [])) (name "o")) ∷
      []))) ∷ [];
}

abbrev pub built_root_s3 : Module
built_root_s3 = record {
  imports = importing ("useLexicalScope" ∷ []) "@builder.io/qwik" ∷ [];
  items = item true "root_s3"
      (arrow 0 []
      (block (
      const (scope ("a" ∷ [])) (post (name "useLexicalScope") (call [] ∷ [])) ∷
      do_it (assign AssignOp.Set (post (name "a") (dot "value" ∷ dot "n" ∷ [])) (int 5)) ∷
      []))) ∷ [];
}

abbrev pub built : List Named_module
built = (codes "root", built_root) ∷ (codes "root_s1", built_root_s1) ∷ (codes "root_s2", built_root_s2) ∷ (codes "root_s3", built_root_s3) ∷ []

-- the symbols of kind task
abbrev pub tasks : List Text
tasks = codes "root_s2" ∷ []

-- what is printed, in the reading with whole scopes
shown : printed modules usual script ≡ lines_of (
    codes "item 0" ∷
    codes "html <button id=\"b\">1</button>" ∷
    codes "item 1" ∷
    codes "paused" ∷
    codes "item 2" ∷
    codes "html <button id=\"b\">5</button>" ∷
    [])
shown = refl

-- the same in the reading with captured values
shown_captured : printed_captured modules usual script ≡ lines_of (
    codes "item 0" ∷
    codes "html <button id=\"b\">1</button>" ∷
    codes "item 1" ∷
    codes "paused" ∷
    codes "item 2" ∷
    codes "html <button id=\"b\">5</button>" ∷
    [])
shown_captured = refl

-- the same of the built files
shown_built : printed_built tasks built usual script ≡ lines_of (
    codes "item 0" ∷
    codes "html <button id=\"b\">1</button>" ∷
    codes "item 1" ∷
    codes "paused" ∷
    codes "item 2" ∷
    codes "html <button id=\"b\">5</button>" ∷
    [])
shown_built = refl

-- the page of the last world
abbrev pub page_shown : Text
page_shown = codes "<div q:container=\"paused\" q:version=\"1\" q:base=\"build/\"><!--qi 0--><button id=\"b\" on:click=\"root_s3.js#root_s3[0]\">5</button><!--/qi--><script type=\"qwik/json\">{\"caps\":[[\"r\",1]],\"heap\":[[\"p\"],[\"s\",[\"r\",3]],[\"s\",[\"r\",3]],[\"o\",\"n\",5]],\"inst\":[[\"root_s1\",0,[[\"v\",[\"r\",1]],[\"v\",[\"r\",2]],[\"t\",[\"f\",\"root_s2\",[\"r\",1],[\"r\",2]],[]]],[\"e\",\"button\",null,\"\",[\"id\",\"b\",\"onClick$\",[\"f\",\"root_s3\",[\"r\",1]]],[5]],[[2,\"value\"],[3,\"n\"]]]]}</script></div>\n"

paged : last_page modules script ≡ page_shown
paged = refl

paged_captured : last_page_captured modules script ≡ page_shown
paged_captured = refl

paged_built : last_page_built tasks built script ≡ page_shown
paged_built = refl
