-- Props that outlive their instance.
use Rattle.std.specs.Prelude.{◌≡◌, refl, true, false, List, [], ◌∷◌, codes, None}
use Rattle.qk_ast.specs.declared.Module.{Module}
use Rattle.qk_ast.specs.declared.Expr.{Expr}
use Rattle.qk_ast.specs.declared.AssignOp.{AssignOp}
use Rattle.qk_ast.specs.declared.Known.{Known}
use Rattle.qk_meaning.specs.Value.{Text}
use Rattle.qk_ast.specs.Sources.{Named_module}
use Rattle.qk_meaning.specs.Run.{Line, Happens, Pauses}
use Rattle.qk_meaning_rows.specs.Trees.{int, name, text, list_of, record_of, choice, post, dot, call, assign, known, gives, block, plain, scope, arrow, element, component, const, do_it, give_back, importing, item}
use Rattle.qk_meaning_rows.specs.Common.{usual, printed, printed_captured, printed_built, lines_of, last_page, last_page_captured, last_page_built}

abbrev pub root_module : Module
root_module = record {
  imports = importing
      ("$" ∷ "Slot" ∷ "component$" ∷ "createContextId" ∷ "noSerialize" ∷ "useComputed$" ∷ "useContext" ∷ "useContextProvider" ∷ "useSignal" ∷ "useStore" ∷ "useTask$" ∷ []) "@builder.io/qwik" ∷ [];
  items =
      item true "K"
      (post (name "component$")
      (call (arrow 0 (plain "props" ∷ [])
      (block (
      do_it (post (name "useTask$")
      (call (arrow 1 []
      (block (do_it (assign AssignOp.Set (post (name "props") (dot "h" ∷ dot "f" ∷ []))
      (post (name "$") (call (arrow 2 [] (gives (post (name "props") (dot "n" ∷ []))) ∷ []) ∷ []))) ∷ [])) ∷ []) ∷ [])) ∷
      give_back (element "i" [] []) ∷
      [])) ∷ []) ∷ [])) ∷
      item true "App"
      (post (name "component$")
      (call (arrow 3 []
      (block (
      const (plain "h") (post (name "useStore") (call (record_of (("f", Expr.Null) ∷ []) ∷ []) ∷ [])) ∷
      const (plain "on") (post (name "useSignal") (call (Expr.Bool true ∷ []) ∷ [])) ∷
      give_back (element "div" []
      (
      choice (post (name "on") (dot "value" ∷ [])) (component "K" (("h", name "h") ∷ ("n", int 5) ∷ []) []) Expr.Null ∷
      element "b"
      (
      ("id", text "t") ∷
      ("onClick$", arrow 4 [] (block (do_it (assign AssignOp.Set (post (name "on") (dot "value" ∷ [])) (Expr.Bool false)) ∷ []))) ∷
      []) [] ∷
      element "u"
      (
      ("id", text "c") ∷
      ("onClick$", arrow 5 [] (block (do_it (known Known.Log (post (name "h") (dot "f" ∷ call [] ∷ []) ∷ [])) ∷ []))) ∷
      []) [] ∷
      [])) ∷
      [])) ∷ []) ∷ [])) ∷
      [];
}

abbrev pub modules : List Named_module
modules = (codes "root", root_module) ∷ []

abbrev pub script : List Line
script = Happens (record { kind = codes "click"; id = codes "t"; value = None }) ∷ Pauses ∷ Happens (record { kind = codes "click"; id = codes "c"; value = None }) ∷ []

abbrev pub built_root : Module
built_root = record {
  imports = importing ("componentQrl" ∷ "qrl" ∷ []) "@builder.io/qwik" ∷ [];
  items =
      item true "K" (post (name "componentQrl") (call (post (name "qrl") (call (text "root_s1" ∷ list_of [] ∷ []) ∷ []) ∷ []) ∷ [])) ∷
      item true "App" (post (name "componentQrl") (call (post (name "qrl") (call (text "root_s4" ∷ list_of [] ∷ []) ∷ []) ∷ []) ∷ [])) ∷
      [];
}

abbrev pub built_root_s1 : Module
built_root_s1 = record {
  imports = importing ("qrl" ∷ "useTaskQrl" ∷ []) "@builder.io/qwik" ∷ [];
  items = item true "root_s1"
      (arrow 0 (plain "props" ∷ [])
      (block (
      do_it (post (name "useTaskQrl") (call (post (name "qrl") (call (text "root_s2" ∷ list_of (name "props" ∷ []) ∷ []) ∷ []) ∷ []) ∷ [])) ∷
      give_back (element "i" [] []) ∷
      []))) ∷ [];
}

abbrev pub built_root_s2 : Module
built_root_s2 = record {
  imports = importing ("qrl" ∷ "useLexicalScope" ∷ []) "@builder.io/qwik" ∷ [];
  items = item true "root_s2"
      (arrow 0 []
      (block (
      const (scope ("props" ∷ [])) (post (name "useLexicalScope") (call [] ∷ [])) ∷
      do_it (assign AssignOp.Set (post (name "props") (dot "h" ∷ dot "f" ∷ []))
      (post (name "qrl") (call (text "root_s3" ∷ list_of (name "props" ∷ []) ∷ []) ∷ []))) ∷
      []))) ∷ [];
}

abbrev pub built_root_s3 : Module
built_root_s3 = record {
  imports = importing ("useLexicalScope" ∷ []) "@builder.io/qwik" ∷ [];
  items = item true "root_s3"
      (arrow 0 []
      (block (const (scope ("props" ∷ [])) (post (name "useLexicalScope") (call [] ∷ [])) ∷ give_back (post (name "props") (dot "n" ∷ [])) ∷ []))) ∷ [];
}

abbrev pub built_root_s4 : Module
built_root_s4 = record {
  imports = importing ("qrl" ∷ "useSignal" ∷ "useStore" ∷ []) "@builder.io/qwik" ∷ importing ("K" ∷ []) "./root.js" ∷ [];
  items = item true "root_s4"
      (arrow 0 []
      (block (
      const (plain "h") (post (name "useStore") (call (record_of (("f", Expr.Null) ∷ []) ∷ []) ∷ [])) ∷
      const (plain "on") (post (name "useSignal") (call (Expr.Bool true ∷ []) ∷ [])) ∷
      give_back (element "div" []
      (
      choice (post (name "on") (dot "value" ∷ [])) (component "K" (("h", name "h") ∷ ("n", int 5) ∷ []) []) Expr.Null ∷
      element "b" (("id", text "t") ∷ ("onClick$", post (name "qrl") (call (text "root_s5" ∷ list_of (name "on" ∷ []) ∷ []) ∷ [])) ∷ []) [] ∷
      element "u" (("id", text "c") ∷ ("onClick$", post (name "qrl") (call (text "root_s6" ∷ list_of (name "h" ∷ []) ∷ []) ∷ [])) ∷ []) [] ∷
      [])) ∷
      []))) ∷ [];
}

abbrev pub built_root_s5 : Module
built_root_s5 = record {
  imports = importing ("useLexicalScope" ∷ []) "@builder.io/qwik" ∷ [];
  items = item true "root_s5"
      (arrow 0 []
      (block (
      const (scope ("on" ∷ [])) (post (name "useLexicalScope") (call [] ∷ [])) ∷
      do_it (assign AssignOp.Set (post (name "on") (dot "value" ∷ [])) (Expr.Bool false)) ∷
      []))) ∷ [];
}

abbrev pub built_root_s6 : Module
built_root_s6 = record {
  imports = importing ("useLexicalScope" ∷ []) "@builder.io/qwik" ∷ [];
  items = item true "root_s6"
      (arrow 0 []
      (block (
      const (scope ("h" ∷ [])) (post (name "useLexicalScope") (call [] ∷ [])) ∷
      do_it (known Known.Log (post (name "h") (dot "f" ∷ call [] ∷ []) ∷ [])) ∷
      []))) ∷ [];
}

abbrev pub built : List Named_module
built = (codes "root", built_root) ∷ (codes "root_s1", built_root_s1) ∷ (codes "root_s2", built_root_s2) ∷ (codes "root_s3", built_root_s3) ∷ (codes "root_s4", built_root_s4) ∷ (codes "root_s5", built_root_s5) ∷ (codes "root_s6", built_root_s6) ∷ []

-- the symbols of kind task
abbrev pub tasks : List Text
tasks = codes "root_s2" ∷ []

-- what is printed, in the reading with whole scopes
shown : printed modules usual script ≡ lines_of (
    codes "item 0" ∷
    codes "html <div><i></i><b id=\"t\"></b><u id=\"c\"></u></div>" ∷
    codes "item 1" ∷
    codes "html <div><b id=\"t\"></b><u id=\"c\"></u></div>" ∷
    codes "item 2" ∷
    codes "paused" ∷
    codes "item 3" ∷
    codes "log 5" ∷
    codes "html <div><b id=\"t\"></b><u id=\"c\"></u></div>" ∷
    [])
shown = refl

-- the same in the reading with captured values
shown_captured : printed_captured modules usual script ≡ lines_of (
    codes "item 0" ∷
    codes "html <div><i></i><b id=\"t\"></b><u id=\"c\"></u></div>" ∷
    codes "item 1" ∷
    codes "html <div><b id=\"t\"></b><u id=\"c\"></u></div>" ∷
    codes "item 2" ∷
    codes "paused" ∷
    codes "item 3" ∷
    codes "log 5" ∷
    codes "html <div><b id=\"t\"></b><u id=\"c\"></u></div>" ∷
    [])
shown_captured = refl

-- the same of the built files
shown_built : printed_built tasks built usual script ≡ lines_of (
    codes "item 0" ∷
    codes "html <div><i></i><b id=\"t\"></b><u id=\"c\"></u></div>" ∷
    codes "item 1" ∷
    codes "html <div><b id=\"t\"></b><u id=\"c\"></u></div>" ∷
    codes "item 2" ∷
    codes "paused" ∷
    codes "item 3" ∷
    codes "log 5" ∷
    codes "html <div><b id=\"t\"></b><u id=\"c\"></u></div>" ∷
    [])
shown_built = refl

-- the page of the last world
abbrev pub page_shown : Text
page_shown = codes "<div q:container=\"paused\" q:version=\"1\" q:base=\"build/\"><!--qi 0--><div><b id=\"t\" on:click=\"root_s5.js#root_s5[0]\"></b><u id=\"c\" on:click=\"root_s6.js#root_s6[1]\"></u></div><!--/qi--><script type=\"qwik/json\">{\"caps\":[[\"r\",2],[\"r\",1]],\"heap\":[[\"p\"],[\"o\",\"f\",[\"f\",\"root_s3\",[\"r\",3]]],[\"s\",false],[\"p\",\"h\",[\"r\",1],\"n\",5]],\"inst\":[[\"root_s4\",0,[[\"v\",[\"r\",1]],[\"v\",[\"r\",2]]],[\"e\",\"div\",null,\"\",[],[null,[\"e\",\"b\",null,\"\",[\"id\",\"t\",\"onClick$\",[\"f\",\"root_s5\",[\"r\",2]]],[]],[\"e\",\"u\",null,\"\",[\"id\",\"c\",\"onClick$\",[\"f\",\"root_s6\",[\"r\",1]]],[]]]],[[2,\"value\"]]]]}</script></div>\n"

paged : last_page modules script ≡ page_shown
paged = refl

paged_captured : last_page_captured modules script ≡ page_shown
paged_captured = refl

paged_built : last_page_built tasks built script ≡ page_shown
paged_built = refl
