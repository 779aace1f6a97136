-- A keyed list: instances move with their keys, and one that went is mounted anew.
use Rattle.std.specs.Prelude.{◌≡◌, refl, true, List, [], ◌∷◌, codes, None}
use Rattle.qk_ast.specs.declared.Module.{Module}
use Rattle.qk_ast.specs.declared.AssignOp.{AssignOp}
use Rattle.qk_meaning.specs.Value.{Text}
use Rattle.qk_ast.specs.Sources.{Named_module}
use Rattle.qk_meaning.specs.Run.{Line, Happens, Pauses}
use Rattle.qk_meaning_rows.specs.Trees.{int, name, text, list_of, record_of, post, dot, call, assign, step, gives, block, plain, scope, arrow, element, component, const, do_it, give_back, importing, item}
use Rattle.qk_meaning_rows.specs.Common.{usual, printed, printed_captured, printed_built, lines_of, last_page, last_page_captured, last_page_built}

abbrev pub root_module : Module
root_module = record {
  imports = importing
      ("$" ∷ "Slot" ∷ "component$" ∷ "createContextId" ∷ "noSerialize" ∷ "useComputed$" ∷ "useContext" ∷ "useContextProvider" ∷ "useSignal" ∷ "useStore" ∷ "useTask$" ∷ []) "@builder.io/qwik" ∷ [];
  items =
      item true "Cell"
      (post (name "component$")
      (call (arrow 0 (plain "props" ∷ [])
      (block (
      const (plain "n") (post (name "useSignal") (call (int 0 ∷ []) ∷ [])) ∷
      give_back (element "button"
      (
      ("id", post (name "props") (dot "k" ∷ [])) ∷
      ("onClick$", arrow 1 [] (gives (step true (post (name "n") (dot "value" ∷ []))))) ∷
      []) (post (name "n") (dot "value" ∷ []) ∷ [])) ∷
      [])) ∷ []) ∷ [])) ∷
      item true "App"
      (post (name "component$")
      (call (arrow 2 []
      (block (
      const (plain "st") (post (name "useStore") (call (record_of (("order", list_of (text "a" ∷ text "b" ∷ [])) ∷ []) ∷ []) ∷ [])) ∷
      give_back (element "div" []
      (
      post (name "st")
      (
      dot "order" ∷
      dot "map" ∷
      call (arrow 3 (plain "k" ∷ []) (gives (component "Cell" (("key", name "k") ∷ ("k", name "k") ∷ []) [])) ∷ []) ∷
      []) ∷
      element "i"
      (
      ("id", text "r") ∷ (
        "onClick$",
        arrow 4 []
            (block (do_it (assign AssignOp.Set (post (name "st") (dot "order" ∷ [])) (list_of (text "b" ∷ text "a" ∷ []))) ∷ [])),
      ) ∷
      []) [] ∷
      element "i"
      (
      ("id", text "d") ∷
      ("onClick$", arrow 5 [] (block (do_it (assign AssignOp.Set (post (name "st") (dot "order" ∷ [])) (list_of (text "b" ∷ []))) ∷ []))) ∷
      []) [] ∷
      [])) ∷
      [])) ∷ []) ∷ [])) ∷
      [];
}

abbrev pub modules : List Named_module
modules = (codes "root", root_module) ∷ []

abbrev pub script : List Line
script = Happens (record { kind = codes "click"; id = codes "a"; value = None }) ∷ Happens (record { kind = codes "click"; id = codes "r"; value = None }) ∷ Pauses ∷ Happens (record { kind = codes "click"; id = codes "d"; value = None }) ∷ Happens (record { kind = codes "click"; id = codes "r"; value = None }) ∷ []

abbrev pub built_root : Module
built_root = record {
  imports = importing ("componentQrl" ∷ "qrl" ∷ []) "@builder.io/qwik" ∷ [];
  items =
      item true "Cell" (post (name "componentQrl") (call (post (name "qrl") (call (text "root_s1" ∷ list_of [] ∷ []) ∷ []) ∷ []) ∷ [])) ∷
      item true "App" (post (name "componentQrl") (call (post (name "qrl") (call (text "root_s3" ∷ list_of [] ∷ []) ∷ []) ∷ []) ∷ [])) ∷
      [];
}

abbrev pub built_root_s1 : Module
built_root_s1 = record {
  imports = importing ("qrl" ∷ "useSignal" ∷ []) "@builder.io/qwik" ∷ [];
  items = item true "root_s1"
      (arrow 0 (plain "props" ∷ [])
      (block (
      const (plain "n") (post (name "useSignal") (call (int 0 ∷ []) ∷ [])) ∷
      give_back (element "button"
      (
      ("id", post (name "props") (dot "k" ∷ [])) ∷
      ("onClick$", post (name "qrl") (call (text "root_s2" ∷ list_of (name "n" ∷ []) ∷ []) ∷ [])) ∷
      []) (post (name "n") (dot "value" ∷ []) ∷ [])) ∷
      []))) ∷ [];
}

abbrev pub built_root_s2 : Module
built_root_s2 = record {
  imports = importing ("useLexicalScope" ∷ []) "@builder.io/qwik" ∷ [];
  items = item true "root_s2"
      (arrow 0 []
      (block (const (scope ("n" ∷ [])) (post (name "useLexicalScope") (call [] ∷ [])) ∷ give_back (step true (post (name "n") (dot "value" ∷ []))) ∷ []))) ∷ [];
}

abbrev pub built_root_s3 : Module
built_root_s3 = record {
  imports = importing ("qrl" ∷ "useStore" ∷ []) "@builder.io/qwik" ∷ importing ("Cell" ∷ []) "./root.js" ∷ [];
  items = item true "root_s3"
      (arrow 0 []
      (block (
      const (plain "st") (post (name "useStore") (call (record_of (("order", list_of (text "a" ∷ text "b" ∷ [])) ∷ []) ∷ []) ∷ [])) ∷
      give_back (element "div" []
      (
      post (name "st")
      (
      dot "order" ∷
      dot "map" ∷
      call (arrow 1 (plain "k" ∷ []) (gives (component "Cell" (("key", name "k") ∷ ("k", name "k") ∷ []) [])) ∷ []) ∷
      []) ∷
      element "i" (("id", text "r") ∷ ("onClick$", post (name "qrl") (call (text "root_s4" ∷ list_of (name "st" ∷ []) ∷ []) ∷ [])) ∷ []) [] ∷
      element "i" (("id", text "d") ∷ ("onClick$", post (name "qrl") (call (text "root_s5" ∷ list_of (name "st" ∷ []) ∷ []) ∷ [])) ∷ []) [] ∷
      [])) ∷
      []))) ∷ [];
}

abbrev pub built_root_s4 : Module
built_root_s4 = record {
  imports = importing ("useLexicalScope" ∷ []) "@builder.io/qwik" ∷ [];
  items = item true "root_s4"
      (arrow 0 []
      (block (
      const (scope ("st" ∷ [])) (post (name "useLexicalScope") (call [] ∷ [])) ∷
      do_it (assign AssignOp.Set (post (name "st") (dot "order" ∷ [])) (list_of (text "b" ∷ text "a" ∷ []))) ∷
      []))) ∷ [];
}

abbrev pub built_root_s5 : Module
built_root_s5 = record {
  imports = importing ("useLexicalScope" ∷ []) "@builder.io/qwik" ∷ [];
  items = item true "root_s5"
      (arrow 0 []
      (block (
      const (scope ("st" ∷ [])) (post (name "useLexicalScope") (call [] ∷ [])) ∷
      do_it (assign AssignOp.Set (post (name "st") (dot "order" ∷ [])) (list_of (text "b" ∷ []))) ∷
      []))) ∷ [];
}

abbrev pub built : List Named_module
built = (codes "root", built_root) ∷ (codes "root_s1", built_root_s1) ∷ (codes "root_s2", built_root_s2) ∷ (codes "root_s3", built_root_s3) ∷ (codes "root_s4", built_root_s4) ∷ (codes "root_s5", built_root_s5) ∷ []

-- the symbols of kind task
abbrev pub tasks : List Text
tasks = []

-- what is printed, in the reading with whole scopes
shown : printed modules usual script ≡ lines_of (
    codes "item 0" ∷
    codes "html <div><button id=\"a\">0</button><button id=\"b\">0</button><i id=\"r\"></i><i id=\"d\"></i></div>" ∷
    codes "item 1" ∷
    codes "html <div><button id=\"a\">1</button><button id=\"b\">0</button><i id=\"r\"></i><i id=\"d\"></i></div>" ∷
    codes "item 2" ∷
    codes "html <div><button id=\"b\">0</button><button id=\"a\">1</button><i id=\"r\"></i><i id=\"d\"></i></div>" ∷
    codes "item 3" ∷
    codes "paused" ∷
    codes "item 4" ∷
    codes "html <div><button id=\"b\">0</button><i id=\"r\"></i><i id=\"d\"></i></div>" ∷
    codes "item 5" ∷
    codes "html <div><button id=\"b\">0</button><button id=\"a\">0</button><i id=\"r\"></i><i id=\"d\"></i></div>" ∷
    [])
shown = refl

-- the same in the reading with captured values
shown_captured : printed_captured modules usual script ≡ lines_of (
    codes "item 0" ∷
    codes "html <div><button id=\"a\">0</button><button id=\"b\">0</button><i id=\"r\"></i><i id=\"d\"></i></div>" ∷
    codes "item 1" ∷
    codes "html <div><button id=\"a\">1</button><button id=\"b\">0</button><i id=\"r\"></i><i id=\"d\"></i></div>" ∷
    codes "item 2" ∷
    codes "html <div><button id=\"b\">0</button><button id=\"a\">1</button><i id=\"r\"></i><i id=\"d\"></i></div>" ∷
    codes "item 3" ∷
    codes "paused" ∷
    codes "item 4" ∷
    codes "html <div><button id=\"b\">0</button><i id=\"r\"></i><i id=\"d\"></i></div>" ∷
    codes "item 5" ∷
    codes "html <div><button id=\"b\">0</button><button id=\"a\">0</button><i id=\"r\"></i><i id=\"d\"></i></div>" ∷
    [])
shown_captured = refl

-- the same of the built files
shown_built : printed_built tasks built usual script ≡ lines_of (
    codes "item 0" ∷
    codes "html <div><button id=\"a\">0</button><button id=\"b\">0</button><i id=\"r\"></i><i id=\"d\"></i></div>" ∷
    codes "item 1" ∷
    codes "html <div><button id=\"a\">1</button><button id=\"b\">0</button><i id=\"r\"></i><i id=\"d\"></i></div>" ∷
    codes "item 2" ∷
    codes "html <div><button id=\"b\">0</button><button id=\"a\">1</button><i id=\"r\"></i><i id=\"d\"></i></div>" ∷
    codes "item 3" ∷
    codes "paused" ∷
    codes "item 4" ∷
    codes "html <div><button id=\"b\">0</button><i id=\"r\"></i><i id=\"d\"></i></div>" ∷
    codes "item 5" ∷
    codes "html <div><button id=\"b\">0</button><button id=\"a\">0</button><i id=\"r\"></i><i id=\"d\"></i></div>" ∷
    [])
shown_built = refl

-- the page of the last world
abbrev pub page_shown : Text
page_shown = codes "<div q:container=\"paused\" q:version=\"1\" q:base=\"build/\"><!--qi 0--><div><!--qi 1--><button id=\"b\" on:click=\"root_s2.js#root_s2[0]\">0</button><!--/qi--><!--qi 2--><button id=\"a\" on:click=\"root_s2.js#root_s2[1]\">0</button><!--/qi--><i id=\"r\" on:click=\"root_s4.js#root_s4[2]\"></i><i id=\"d\" on:click=\"root_s5.js#root_s5[3]\"></i></div><!--/qi--><script type=\"qwik/json\">{\"caps\":[[\"r\",3],[\"r\",5],[\"r\",1],[\"r\",1]],\"heap\":[[\"p\"],[\"o\",\"order\",[\"r\",6]],[\"p\",\"k\",\"b\"],[\"s\",0],[\"p\",\"k\",\"a\"],[\"s\",0],[\"a\",\"b\",\"a\"]],\"inst\":[[\"root_s3\",0,[[\"v\",[\"r\",1]]],[\"e\",\"div\",null,\"\",[],[[\"l\",[\"c\",\"root_s1\",\"b\",\"\",[\"k\",\"b\"],[]],[\"c\",\"root_s1\",\"a\",\"\",[\"k\",\"a\"],[]]],[\"e\",\"i\",null,\"\",[\"id\",\"r\",\"onClick$\",[\"f\",\"root_s4\",[\"r\",1]]],[]],[\"e\",\"i\",null,\"\",[\"id\",\"d\",\"onClick$\",[\"f\",\"root_s5\",[\"r\",1]]],[]]]],[[1,\"order\"],[6,true],[6,0],[6,1]]],[\"root_s1\",2,[[\"v\",[\"r\",3]]],[\"e\",\"button\",null,\"\",[\"id\",\"b\",\"onClick$\",[\"f\",\"root_s2\",[\"r\",3]]],[0]],[[2,\"k\"],[3,\"value\"]]],[\"root_s1\",4,[[\"v\",[\"r\",5]]],[\"e\",\"button\",null,\"\",[\"id\",\"a\",\"onClick$\",[\"f\",\"root_s2\",[\"r\",5]]],[0]],[[4,\"k\"],[5,\"value\"]]]]}</script></div>\n"

paged : last_page modules script ≡ page_shown
paged = refl

paged_captured : last_page_captured modules script ≡ page_shown
paged_captured = refl

paged_built : last_page_built tasks built script ≡ page_shown
paged_built = refl
