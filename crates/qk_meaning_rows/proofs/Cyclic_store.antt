-- A store that holds a function which calls itself through the store.
use Rattle.std.specs.Prelude.{◌≡◌, refl, true, List, [], ◌∷◌, codes, None}
use Rattle.qk_ast.specs.declared.Module.{Module}
use Rattle.qk_ast.specs.declared.Expr.{Expr}
use Rattle.qk_ast.specs.declared.Bin.{Bin}
use Rattle.qk_ast.specs.declared.AssignOp.{AssignOp}
use Rattle.qk_meaning.specs.Value.{Text}
use Rattle.qk_ast.specs.Sources.{Named_module}
use Rattle.qk_meaning.specs.Run.{Line, Happens, Pauses}
use Rattle.qk_meaning_rows.specs.Trees.{int, name, text, list_of, record_of, chain, choice, post, dot, call, assign, gives, block, plain, scope, arrow, element, const, do_it, give_back, importing, item}
use Rattle.qk_meaning_rows.specs.Common.{usual, printed, printed_captured, printed_built, lines_of, last_page, last_page_captured, last_page_built}

abbrev pub root_module : Module
root_module = record {
  imports = importing
      ("$" ∷ "Slot" ∷ "component$" ∷ "createContextId" ∷ "noSerialize" ∷ "useComputed$" ∷ "useContext" ∷ "useContextProvider" ∷ "useSignal" ∷ "useStore" ∷ "useTask$" ∷ []) "@builder.io/qwik" ∷ [];
  items = item true "App"
      (post (name "component$")
      (call (arrow 0 []
      (block (
      const (plain "st") (post (name "useStore") (call (record_of (("fact", Expr.Null) ∷ ("out", int 0) ∷ []) ∷ []) ∷ [])) ∷
      do_it (post (name "useTask$")
      (call (arrow 1 []
      (block (do_it (assign AssignOp.Set (post (name "st") (dot "fact" ∷ []))
      (post (name "$")
      (call (arrow 2 (plain "k" ∷ [])
      (gives (choice (chain (name "k") ((Bin.Less, int 2) ∷ [])) (int 1)
      (chain (name "k")
      ((Bin.Mul, post (name "st") (dot "fact" ∷ call (chain (name "k") ((Bin.Sub, int 1) ∷ []) ∷ []) ∷ [])) ∷ [])))) ∷ []) ∷ []))) ∷ [])) ∷ []) ∷ [])) ∷
      give_back (element "button"
      (
      ("id", text "b") ∷ (
        "onClick$",
        arrow 3 []
            (block (do_it (assign AssignOp.Set (post (name "st") (dot "out" ∷ [])) (post (name "st") (dot "fact" ∷ call (int 5 ∷ []) ∷ []))) ∷ [])),
      ) ∷
      []) (post (name "st") (dot "out" ∷ []) ∷ [])) ∷
      [])) ∷ []) ∷ [])) ∷ [];
}

abbrev pub modules : List Named_module
modules = (codes "root", root_module) ∷ []

abbrev pub script : List Line
script = Pauses ∷ Happens (record { kind = codes "click"; id = codes "b"; value = None }) ∷ []

abbrev pub built_root : Module
built_root = record {
  imports = importing ("componentQrl" ∷ "qrl" ∷ []) "@builder.io/qwik" ∷ [];
  items = item true "App" (post (name "componentQrl") (call (post (name "qrl") (call (text "root_s1" ∷ list_of [] ∷ []) ∷ []) ∷ []) ∷ [])) ∷ [];
}

abbrev pub built_root_s1 : Module
built_root_s1 = record {
  imports = importing ("qrl" ∷ "useStore" ∷ "useTaskQrl" ∷ []) "@builder.io/qwik" ∷ [];
  items = item true "root_s1"
      (arrow 0 []
      (block (
      const (plain "st") (post (name "useStore") (call (record_of (("fact", Expr.Null) ∷ ("out", int 0) ∷ []) ∷ []) ∷ [])) ∷
      do_it (post (name "useTaskQrl") (call (post (name "qrl") (call (text "root_s2" ∷ list_of (name "st" ∷ []) ∷ []) ∷ []) ∷ []) ∷ [])) ∷
      give_back (element "button"
      (("id", text "b") ∷ ("onClick$", post (name "qrl") (call (text "root_s4" ∷ list_of (name "st" ∷ []) ∷ []) ∷ [])) ∷ []) (post (name "st") (dot "out" ∷ []) ∷ [])) ∷
      []))) ∷ [];
}

abbrev pub built_root_s2 : Module
built_root_s2 = record {
  imports = importing ("qrl" ∷ "useLexicalScope" ∷ []) "@builder.io/qwik" ∷ [];
  items = item true "root_s2"
      (arrow 0 []
      (block (
      const (scope ("st" ∷ [])) (post (name "useLexicalScope") (call [] ∷ [])) ∷
      do_it (assign AssignOp.Set (post (name "st") (dot "fact" ∷ []))
      (post (name "qrl") (call (text "root_s3" ∷ list_of (name "st" ∷ []) ∷ []) ∷ []))) ∷
      []))) ∷ [];
}

abbrev pub built_root_s3 : Module
built_root_s3 = record {
  imports = importing ("useLexicalScope" ∷ []) "@builder.io/qwik" ∷ [];
  items = item true "root_s3"
      (arrow 0 (plain "k" ∷ [])
      (block (
      const (scope ("st" ∷ [])) (post (name "useLexicalScope") (call [] ∷ [])) ∷
      give_back (choice (chain (name "k") ((Bin.Less, int 2) ∷ [])) (int 1)
      (chain (name "k") ((Bin.Mul, post (name "st") (dot "fact" ∷ call (chain (name "k") ((Bin.Sub, int 1) ∷ []) ∷ []) ∷ [])) ∷ []))) ∷
      []))) ∷ [];
}

abbrev pub built_root_s4 : Module
built_root_s4 = record {
  imports = importing ("useLexicalScope" ∷ []) "@builder.io/qwik" ∷ [];
  items = item true "root_s4"
      (arrow 0 []
      (block (
      const (scope ("st" ∷ [])) (post (name "useLexicalScope") (call [] ∷ [])) ∷
      do_it (assign AssignOp.Set (post (name "st") (dot "out" ∷ [])) (post (name "st") (dot "fact" ∷ call (int 5 ∷ []) ∷ []))) ∷
      []))) ∷ [];
}

abbrev pub built : List Named_module
built = (codes "root", built_root) ∷ (codes "root_s1", built_root_s1) ∷ (codes "root_s2", built_root_s2) ∷ (codes "root_s3", built_root_s3) ∷ (codes "root_s4", built_root_s4) ∷ []

-- the symbols of kind task
abbrev pub tasks : List Text
tasks = codes "root_s2" ∷ []

-- what is printed, in the reading with whole scopes
shown : printed modules usual script ≡ lines_of (
    codes "item 0" ∷
    codes "html <button id=\"b\">0</button>" ∷
    codes "item 1" ∷
    codes "paused" ∷
    codes "item 2" ∷
    codes "html <button id=\"b\">120</button>" ∷
    [])
shown = refl

-- the same in the reading with captured values
shown_captured : printed_captured modules usual script ≡ lines_of (
    codes "item 0" ∷
    codes "html <button id=\"b\">0</button>" ∷
    codes "item 1" ∷
    codes "paused" ∷
    codes "item 2" ∷
    codes "html <button id=\"b\">120</button>" ∷
    [])
shown_captured = refl

-- the same of the built files
shown_built : printed_built tasks built usual script ≡ lines_of (
    codes "item 0" ∷
    codes "html <button id=\"b\">0</button>" ∷
    codes "item 1" ∷
    codes "paused" ∷
    codes "item 2" ∷
    codes "html <button id=\"b\">120</button>" ∷
    [])
shown_built = refl

-- six levels suffice
with_six_levels : printed modules (record { turns = 100000; levels = 6 }) script ≡ lines_of (
    codes "item 0" ∷
    codes "html <button id=\"b\">0</button>" ∷
    codes "item 1" ∷
    codes "paused" ∷
    codes "item 2" ∷
    codes "html <button id=\"b\">120</button>" ∷
    [])
with_six_levels = refl

-- five levels don't
with_five_levels : printed modules (record { turns = 100000; levels = 5 }) script ≡ lines_of (
    codes "item 0" ∷
    codes "html <button id=\"b\">0</button>" ∷
    codes "item 1" ∷
    codes "paused" ∷
    codes "ended 2" ∷
    [])
with_five_levels = refl

-- the page of the last world
abbrev pub page_shown : Text
page_shown = codes "<div q:container=\"paused\" q:version=\"1\" q:base=\"build/\"><!--qi 0--><button id=\"b\" on:click=\"root_s4.js#root_s4[0]\">120</button><!--/qi--><script type=\"qwik/json\">{\"caps\":[[\"r\",1]],\"heap\":[[\"p\"],[\"o\",\"fact\",[\"f\",\"root_s3\",[\"r\",1]],\"out\",120]],\"inst\":[[\"root_s1\",0,[[\"v\",[\"r\",1]],[\"t\",[\"f\",\"root_s2\",[\"r\",1]],[]]],[\"e\",\"button\",null,\"\",[\"id\",\"b\",\"onClick$\",[\"f\",\"root_s4\",[\"r\",1]]],[120]],[[1,\"out\"]]]]}</script></div>\n"

paged : last_page modules script ≡ page_shown
paged = refl

paged_captured : last_page_captured modules script ≡ page_shown
paged_captured = refl

paged_built : last_page_built tasks built script ≡ page_shown
paged_built = refl
