-- A list of things to do, in two modules.
use Rattle.std.specs.Prelude.{◌≡◌, refl, true, false, List, [], ◌∷◌, codes, Some, None}
use Rattle.qk_ast.specs.declared.Module.{Module}
use Rattle.qk_ast.specs.declared.Expr.{Expr}
use Rattle.qk_ast.specs.declared.Bin.{Bin}
use Rattle.qk_ast.specs.declared.Un.{Un}
use Rattle.qk_ast.specs.declared.AssignOp.{AssignOp}
use Rattle.qk_meaning.specs.Value.{Text}
use Rattle.qk_ast.specs.Sources.{Named_module}
use Rattle.qk_meaning.specs.Run.{Line, Happens, Pauses}
use Rattle.qk_meaning_rows.specs.Trees.{int, name, text, list_of, record_of, template, unary, chain, post, dot, call, assign, step, gives, block, plain, scope, arrow, element, component, const, do_it, give_back, go_back, if_else, importing, item}
use Rattle.qk_meaning_rows.specs.Common.{usual, printed, printed_captured, printed_built, lines_of, last_page, last_page_captured, last_page_built}

abbrev pub item_module : Module
item_module = record {
  imports = importing ("component$" ∷ []) "@builder.io/qwik" ∷ [];
  items = item true "Item"
      (post (name "component$")
      (call (arrow 0 (plain "props" ∷ [])
      (gives (element "li" []
      (
      element "input"
      (
      ("id", template ("i" ∷ "" ∷ []) (post (name "props") (dot "todo" ∷ dot "id" ∷ []) ∷ [])) ∷
      ("type", text "checkbox") ∷
      ("checked", post (name "props") (dot "todo" ∷ dot "done" ∷ [])) ∷ (
        "onClick$",
        arrow 1 []
            (block (do_it (assign AssignOp.Set (post (name "props") (dot "todo" ∷ dot "done" ∷ []))
            (unary Un.Not (post (name "props") (dot "todo" ∷ dot "done" ∷ [])))) ∷ [])),
      ) ∷
      []) [] ∷
      post (name "props") (dot "todo" ∷ dot "text" ∷ []) ∷
      []))) ∷ []) ∷ [])) ∷ [];
}

abbrev pub root_module : Module
root_module = record {
  imports = importing ("component$" ∷ "useComputed$" ∷ "useSignal" ∷ "useStore" ∷ []) "@builder.io/qwik" ∷ importing ("Item" ∷ []) "./item.jsx" ∷ [];
  items = item true "App"
      (post (name "component$")
      (call (arrow 0 []
      (block (
      const (plain "draft") (post (name "useSignal") (call (text "" ∷ []) ∷ [])) ∷
      const (plain "st") (post (name "useStore") (call (record_of (("items", list_of []) ∷ ("next", int 1) ∷ []) ∷ []) ∷ [])) ∷
      const (plain "left")
      (post (name "useComputed$")
      (call (arrow 1 []
      (gives (post (name "st")
      (
      dot "items" ∷
      dot "filter" ∷
      call (arrow 2 (plain "t" ∷ []) (gives (unary Un.Not (post (name "t") (dot "done" ∷ [])))) ∷ []) ∷
      dot "length" ∷
      []))) ∷ []) ∷ [])) ∷
      give_back (element "main" (("class", text "todo") ∷ [])
      (
      element "input"
      (
      ("id", text "in") ∷
      ("value", post (name "draft") (dot "value" ∷ [])) ∷ (
        "onInput$",
        arrow 3 (plain "e" ∷ plain "el" ∷ [])
            (block (do_it (assign AssignOp.Set (post (name "draft") (dot "value" ∷ [])) (post (name "el") (dot "value" ∷ []))) ∷ [])),
      ) ∷
      []) [] ∷
      element "button"
      (
      ("id", text "add") ∷ (
        "onClick$",
        arrow 4 []
            (block (
            if_else (chain (post (name "draft") (dot "value" ∷ [])) ((Bin.Same, text "") ∷ [])) (go_back ∷ []) [] ∷
            do_it (post (name "st")
            (
            dot "items" ∷
            dot "push" ∷
            call (record_of (
            ("id", post (name "st") (dot "next" ∷ [])) ∷
            ("text", post (name "draft") (dot "value" ∷ [])) ∷
            ("done", Expr.Bool false) ∷
            []) ∷ []) ∷
            [])) ∷
            do_it (step true (post (name "st") (dot "next" ∷ []))) ∷
            do_it (assign AssignOp.Set (post (name "draft") (dot "value" ∷ [])) (text "")) ∷
            [])),
      ) ∷
      []) (text "Add" ∷ []) ∷
      element "ul" []
      (post (name "st")
      (
      dot "items" ∷
      dot "map" ∷
      call (arrow 5 (plain "t" ∷ [])
      (gives (component "Item" (("key", post (name "t") (dot "id" ∷ [])) ∷ ("todo", name "t") ∷ []) [])) ∷ []) ∷
      []) ∷ []) ∷
      element "p" [] (post (name "left") (dot "value" ∷ []) ∷ text " left" ∷ []) ∷
      [])) ∷
      [])) ∷ []) ∷ [])) ∷ [];
}

abbrev pub modules : List Named_module
modules = (codes "item", item_module) ∷ (codes "root", root_module) ∷ []

abbrev pub script : List Line
script = Happens (record { kind = codes "input"; id = codes "in"; value = Some (codes "milk") }) ∷ Happens (record { kind = codes "click"; id = codes "add"; value = None }) ∷ Pauses ∷ Happens (record { kind = codes "click"; id = codes "i1"; value = None }) ∷ []

abbrev pub built_item : Module
built_item = record {
  imports = importing ("componentQrl" ∷ "qrl" ∷ []) "@builder.io/qwik" ∷ [];
  items = item true "Item" (post (name "componentQrl") (call (post (name "qrl") (call (text "item_s1" ∷ list_of [] ∷ []) ∷ []) ∷ []) ∷ [])) ∷ [];
}

abbrev pub built_item_s1 : Module
built_item_s1 = record {
  imports = importing ("qrl" ∷ []) "@builder.io/qwik" ∷ [];
  items = item true "item_s1"
      (arrow 0 (plain "props" ∷ [])
      (gives (element "li" []
      (
      element "input"
      (
      ("id", template ("i" ∷ "" ∷ []) (post (name "props") (dot "todo" ∷ dot "id" ∷ []) ∷ [])) ∷
      ("type", text "checkbox") ∷
      ("checked", post (name "props") (dot "todo" ∷ dot "done" ∷ [])) ∷
      ("onClick$", post (name "qrl") (call (text "item_s2" ∷ list_of (name "props" ∷ []) ∷ []) ∷ [])) ∷
      []) [] ∷
      post (name "props") (dot "todo" ∷ dot "text" ∷ []) ∷
      [])))) ∷ [];
}

abbrev pub built_item_s2 : Module
built_item_s2 = record {
  imports = importing ("useLexicalScope" ∷ []) "@builder.io/qwik" ∷ [];
  items = item true "item_s2"
      (arrow 0 []
      (block (
      const (scope ("props" ∷ [])) (post (name "useLexicalScope") (call [] ∷ [])) ∷
      do_it (assign AssignOp.Set (post (name "props") (dot "todo" ∷ dot "done" ∷ []))
      (unary Un.Not (post (name "props") (dot "todo" ∷ dot "done" ∷ [])))) ∷
      []))) ∷ [];
}

abbrev pub built_root : Module
built_root = record {
  imports = importing ("componentQrl" ∷ "qrl" ∷ []) "@builder.io/qwik" ∷ [];
  items = item true "App" (post (name "componentQrl") (call (post (name "qrl") (call (text "root_s1" ∷ list_of [] ∷ []) ∷ []) ∷ []) ∷ [])) ∷ [];
}

abbrev pub built_root_s1 : Module
built_root_s1 = record {
  imports = importing ("qrl" ∷ "useComputedQrl" ∷ "useSignal" ∷ "useStore" ∷ []) "@builder.io/qwik" ∷ importing ("Item" ∷ []) "./item.js" ∷ [];
  items = item true "root_s1"
      (arrow 0 []
      (block (
      const (plain "draft") (post (name "useSignal") (call (text "" ∷ []) ∷ [])) ∷
      const (plain "st") (post (name "useStore") (call (record_of (("items", list_of []) ∷ ("next", int 1) ∷ []) ∷ []) ∷ [])) ∷
      const (plain "left")
      (post (name "useComputedQrl") (call (post (name "qrl") (call (text "root_s2" ∷ list_of (name "st" ∷ []) ∷ []) ∷ []) ∷ []) ∷ [])) ∷
      give_back (element "main" (("class", text "todo") ∷ [])
      (
      element "input"
      (
      ("id", text "in") ∷
      ("value", post (name "draft") (dot "value" ∷ [])) ∷
      ("onInput$", post (name "qrl") (call (text "root_s3" ∷ list_of (name "draft" ∷ []) ∷ []) ∷ [])) ∷
      []) [] ∷
      element "button"
      (
      ("id", text "add") ∷
      ("onClick$", post (name "qrl") (call (text "root_s4" ∷ list_of (name "draft" ∷ name "st" ∷ []) ∷ []) ∷ [])) ∷
      []) (text "Add" ∷ []) ∷
      element "ul" []
      (post (name "st")
      (
      dot "items" ∷
      dot "map" ∷
      call (arrow 1 (plain "t" ∷ []) (gives (component "Item" (("key", post (name "t") (dot "id" ∷ [])) ∷ ("todo", name "t") ∷ []) [])) ∷ []) ∷
      []) ∷ []) ∷
      element "p" [] (post (name "left") (dot "value" ∷ []) ∷ text " left" ∷ []) ∷
      [])) ∷
      []))) ∷ [];
}

abbrev pub built_root_s2 : Module
built_root_s2 = record {
  imports = importing ("useLexicalScope" ∷ []) "@builder.io/qwik" ∷ [];
  items = item true "root_s2"
      (arrow 0 []
      (block (
      const (scope ("st" ∷ [])) (post (name "useLexicalScope") (call [] ∷ [])) ∷
      give_back (post (name "st")
      (
      dot "items" ∷
      dot "filter" ∷
      call (arrow 1 (plain "t" ∷ []) (gives (unary Un.Not (post (name "t") (dot "done" ∷ [])))) ∷ []) ∷
      dot "length" ∷
      [])) ∷
      []))) ∷ [];
}

abbrev pub built_root_s3 : Module
built_root_s3 = record {
  imports = importing ("useLexicalScope" ∷ []) "@builder.io/qwik" ∷ [];
  items = item true "root_s3"
      (arrow 0 (plain "e" ∷ plain "el" ∷ [])
      (block (
      const (scope ("draft" ∷ [])) (post (name "useLexicalScope") (call [] ∷ [])) ∷
      do_it (assign AssignOp.Set (post (name "draft") (dot "value" ∷ [])) (post (name "el") (dot "value" ∷ []))) ∷
      []))) ∷ [];
}

abbrev pub built_root_s4 : Module
built_root_s4 = record {
  imports = importing ("useLexicalScope" ∷ []) "@builder.io/qwik" ∷ [];
  items = item true "root_s4"
      (arrow 0 []
      (block (
      const (scope ("draft" ∷ "st" ∷ [])) (post (name "useLexicalScope") (call [] ∷ [])) ∷
      if_else (chain (post (name "draft") (dot "value" ∷ [])) ((Bin.Same, text "") ∷ [])) (go_back ∷ []) [] ∷
      do_it (post (name "st")
      (
      dot "items" ∷
      dot "push" ∷
      call (record_of (("id", post (name "st") (dot "next" ∷ [])) ∷ ("text", post (name "draft") (dot "value" ∷ [])) ∷ ("done", Expr.Bool false) ∷ []) ∷ []) ∷
      [])) ∷
      do_it (step true (post (name "st") (dot "next" ∷ []))) ∷
      do_it (assign AssignOp.Set (post (name "draft") (dot "value" ∷ [])) (text "")) ∷
      []))) ∷ [];
}

abbrev pub built : List Named_module
built = (codes "item", built_item) ∷ (codes "item_s1", built_item_s1) ∷ (codes "item_s2", built_item_s2) ∷ (codes "root", built_root) ∷ (codes "root_s1", built_root_s1) ∷ (codes "root_s2", built_root_s2) ∷ (codes "root_s3", built_root_s3) ∷ (codes "root_s4", built_root_s4) ∷ []

-- the symbols of kind task
abbrev pub tasks : List Text
tasks = []

-- what is printed, in the reading with whole scopes
shown : printed modules usual script ≡ lines_of (
    codes "item 0" ∷
    codes "html <main class=\"todo\"><input id=\"in\" value=\"\"><button id=\"add\">Add</button><ul></ul><p>0 left</p></main>" ∷
    codes "item 1" ∷
    codes "html <main class=\"todo\"><input id=\"in\" value=\"milk\"><button id=\"add\">Add</button><ul></ul><p>0 left</p></main>" ∷
    codes "item 2" ∷
    codes "html <main class=\"todo\"><input id=\"in\" value=\"\"><button id=\"add\">Add</button><ul><li><input id=\"i1\" type=\"checkbox\">milk</li></ul><p>1 left</p></main>" ∷
    codes "item 3" ∷
    codes "paused" ∷
    codes "item 4" ∷
    codes "html <main class=\"todo\"><input id=\"in\" value=\"\"><button id=\"add\">Add</button><ul><li><input id=\"i1\" type=\"checkbox\" checked=\"\">milk</li></ul><p>0 left</p></main>" ∷
    [])
shown = refl

-- the same in the reading with captured values
shown_captured : printed_captured modules usual script ≡ lines_of (
    codes "item 0" ∷
    codes "html <main class=\"todo\"><input id=\"in\" value=\"\"><button id=\"add\">Add</button><ul></ul><p>0 left</p></main>" ∷
    codes "item 1" ∷
    codes "html <main class=\"todo\"><input id=\"in\" value=\"milk\"><button id=\"add\">Add</button><ul></ul><p>0 left</p></main>" ∷
    codes "item 2" ∷
    codes "html <main class=\"todo\"><input id=\"in\" value=\"\"><button id=\"add\">Add</button><ul><li><input id=\"i1\" type=\"checkbox\">milk</li></ul><p>1 left</p></main>" ∷
    codes "item 3" ∷
    codes "paused" ∷
    codes "item 4" ∷
    codes "html <main class=\"todo\"><input id=\"in\" value=\"\"><button id=\"add\">Add</button><ul><li><input id=\"i1\" type=\"checkbox\" checked=\"\">milk</li></ul><p>0 left</p></main>" ∷
    [])
shown_captured = refl

-- the same of the built files
shown_built : printed_built tasks built usual script ≡ lines_of (
    codes "item 0" ∷
    codes "html <main class=\"todo\"><input id=\"in\" value=\"\"><button id=\"add\">Add</button><ul></ul><p>0 left</p></main>" ∷
    codes "item 1" ∷
    codes "html <main class=\"todo\"><input id=\"in\" value=\"milk\"><button id=\"add\">Add</button><ul></ul><p>0 left</p></main>" ∷
    codes "item 2" ∷
    codes "html <main class=\"todo\"><input id=\"in\" value=\"\"><button id=\"add\">Add</button><ul><li><input id=\"i1\" type=\"checkbox\">milk</li></ul><p>1 left</p></main>" ∷
    codes "item 3" ∷
    codes "paused" ∷
    codes "item 4" ∷
    codes "html <main class=\"todo\"><input id=\"in\" value=\"\"><button id=\"add\">Add</button><ul><li><input id=\"i1\" type=\"checkbox\" checked=\"\">milk</li></ul><p>0 left</p></main>" ∷
    [])
shown_built = refl

-- the page of the last world
abbrev pub page_shown : Text
page_shown = codes "<div q:container=\"paused\" q:version=\"1\" q:base=\"build/\"><!--qi 0--><main class=\"todo\"><input id=\"in\" value=\"\" on:input=\"root_s3.js#root_s3[0]\"><button id=\"add\" on:click=\"root_s4.js#root_s4[1 2]\">Add</button><ul><!--qi 1--><li><input id=\"i1\" type=\"checkbox\" checked=\"\" on:click=\"item_s2.js#item_s2[3]\">milk</li><!--/qi--></ul><p>0 left</p></main><!--/qi--><script type=\"qwik/json\">{\"caps\":[[\"r\",1],[\"r\",1],[\"r\",2],[\"r\",5]],\"heap\":[[\"p\"],[\"s\",\"\"],[\"o\",\"items\",[\"r\",6],\"next\",2],[\"m\",\"root_s2\",[\"r\",2]],[\"o\",\"id\",1,\"text\",\"milk\",\"done\",true],[\"p\",\"todo\",[\"r\",4]],[\"a\",[\"r\",4]]],\"inst\":[[\"root_s1\",0,[[\"v\",[\"r\",1]],[\"v\",[\"r\",2]],[\"v\",[\"r\",3]]],[\"e\",\"main\",null,\"\",[\"class\",\"todo\"],[[\"e\",\"input\",null,\"\",[\"id\",\"in\",\"value\",\"\",\"onInput$\",[\"f\",\"root_s3\",[\"r\",1]]],[]],[\"e\",\"button\",null,\"\",[\"id\",\"add\",\"onClick$\",[\"f\",\"root_s4\",[\"r\",1],[\"r\",2]]],[\"Add\"]],[\"e\",\"ul\",null,\"\",[],[[\"l\",[\"c\",\"item_s1\",\"1\",\"\",[\"todo\",[\"r\",4]],[]]]]],[\"e\",\"p\",null,\"\",[],[0,\" left\"]]]],[[1,\"value\"],[2,\"items\"],[4,\"done\"],[4,\"id\"],[6,true],[6,0]]],[\"item_s1\",5,[],[\"e\",\"li\",null,\"\",[],[[\"e\",\"input\",null,\"\",[\"id\",\"i1\",\"type\",\"checkbox\",\"checked\",true,\"onClick$\",[\"f\",\"item_s2\",[\"r\",5]]],[]],\"milk\"]],[[4,\"done\"],[4,\"id\"],[4,\"text\"],[5,\"todo\"]]]]}</script></div>\n"

paged : last_page modules script ≡ page_shown
paged = refl

paged_captured : last_page_captured modules script ≡ page_shown
paged_captured = refl

paged_built : last_page_built tasks built script ≡ page_shown
paged_built = refl
