-- Names that shadow others: a local named `track` around a task, a parameter, the name of a loop, a local of a listener.
use Rattle.std.specs.Prelude.{◌≡◌, refl, true, false, List, [], ◌∷◌, codes, None}
use Rattle.qk_ast.specs.declared.Module.{Module}
use Rattle.qk_ast.specs.declared.Bin.{Bin}
use Rattle.qk_ast.specs.declared.AssignOp.{AssignOp}
use Rattle.qk_ast.specs.declared.Known.{Known}
use Rattle.qk_meaning.specs.Value.{Text}
use Rattle.qk_ast.specs.Sources.{Named_module}
use Rattle.qk_meaning.specs.Run.{Line, Happens}
use Rattle.qk_meaning_rows.specs.Trees.{int, name, text, list_of, template, chain, post, dot, call, assign, known, gives, block, plain, fields, scope, arrow, element, const, do_it, give_back, for_of, importing, item}
use Rattle.qk_meaning_rows.specs.Common.{usual, printed, printed_captured, printed_built, lines_of, last_page, last_page_captured, last_page_built}

abbrev pub root_module : Module
root_module = record {
  imports = importing ("$" ∷ "component$" ∷ "useSignal" ∷ "useTask$" ∷ []) "@builder.io/qwik" ∷ [];
  items =
      item false "x" (int 1) ∷
      item false "k" (int 100) ∷
      item true "App"
      (post (name "component$")
      (call (arrow 0 []
      (block (
      const (plain "n") (post (name "useSignal") (call (int 0 ∷ []) ∷ [])) ∷
      const (plain "track") (int 7) ∷
      do_it (post (name "useTask$")
      (call (arrow 1 (fields ("track" ∷ []) ∷ [])
      (block (
      do_it (post (name "track") (call (arrow 2 [] (gives (post (name "n") (dot "value" ∷ []))) ∷ []) ∷ [])) ∷
      do_it (known Known.Log (template ("n " ∷ "" ∷ []) (post (name "n") (dot "value" ∷ []) ∷ []) ∷ [])) ∷
      [])) ∷ []) ∷ [])) ∷
      give_back (element "div" []
      (
      element "button"
      (
      ("id", text "b") ∷
      ("onClick$", arrow 3 [] (block (do_it (assign AssignOp.Add (post (name "n") (dot "value" ∷ [])) (name "track")) ∷ []))) ∷
      []) (post (name "n") (dot "value" ∷ []) ∷ []) ∷
      element "button"
      (
      ("id", text "c") ∷ (
        "onClick$",
        arrow 4 []
            (block (
            const (plain "x") (int 4) ∷
            const (plain "f")
            (post (name "$")
            (call (arrow 5 (plain "k" ∷ [])
            (block (
            for_of "x" (list_of (name "k" ∷ int 10 ∷ []))
            (do_it (assign AssignOp.Add (post (name "n") (dot "value" ∷ [])) (name "x")) ∷ []) ∷
            do_it (assign AssignOp.Add (post (name "n") (dot "value" ∷ [])) (name "x")) ∷
            [])) ∷ []) ∷ [])) ∷
            do_it (post (name "f") (call (int 3 ∷ []) ∷ [])) ∷
            [])),
      ) ∷
      []) (chain (name "x") ((Bin.Add, name "k") ∷ []) ∷ []) ∷
      [])) ∷
      [])) ∷ []) ∷ [])) ∷
      [];
}

abbrev pub modules : List Named_module
modules = (codes "root", root_module) ∷ []

abbrev pub script : List Line
script = Happens (record { kind = codes "click"; id = codes "b"; value = None }) ∷ Happens (record { kind = codes "click"; id = codes "c"; value = None }) ∷ []

abbrev pub built_root : Module
built_root = record {
  imports = importing ("componentQrl" ∷ "qrl" ∷ []) "@builder.io/qwik" ∷ [];
  items =
      item true "x" (int 1) ∷
      item true "k" (int 100) ∷
      item true "App" (post (name "componentQrl") (call (post (name "qrl") (call (text "root_s1" ∷ list_of [] ∷ []) ∷ []) ∷ []) ∷ [])) ∷
      [];
}

abbrev pub built_root_s1 : Module
built_root_s1 = record {
  imports = importing ("qrl" ∷ "useSignal" ∷ "useTaskQrl" ∷ []) "@builder.io/qwik" ∷ importing ("k" ∷ "x" ∷ []) "./root.js" ∷ [];
  items = item true "root_s1"
      (arrow 0 []
      (block (
      const (plain "n") (post (name "useSignal") (call (int 0 ∷ []) ∷ [])) ∷
      const (plain "track") (int 7) ∷
      do_it (post (name "useTaskQrl") (call (post (name "qrl") (call (text "root_s2" ∷ list_of (name "n" ∷ []) ∷ []) ∷ []) ∷ []) ∷ [])) ∷
      give_back (element "div" []
      (
      element "button"
      (("id", text "b") ∷ ("onClick$", post (name "qrl") (call (text "root_s3" ∷ list_of (name "n" ∷ name "track" ∷ []) ∷ []) ∷ [])) ∷ []) (post (name "n") (dot "value" ∷ []) ∷ []) ∷
      element "button"
      (("id", text "c") ∷ ("onClick$", post (name "qrl") (call (text "root_s4" ∷ list_of (name "n" ∷ []) ∷ []) ∷ [])) ∷ []) (chain (name "x") ((Bin.Add, name "k") ∷ []) ∷ []) ∷
      [])) ∷
      []))) ∷ [];
}

abbrev pub built_root_s2 : Module
built_root_s2 = record {
  imports = importing ("useLexicalScope" ∷ []) "@builder.io/qwik" ∷ [];
  items = item true "root_s2"
      (arrow 0 (fields ("track" ∷ []) ∷ [])
      (block (
      const (scope ("n" ∷ [])) (post (name "useLexicalScope") (call [] ∷ [])) ∷
      do_it (post (name "track") (call (arrow 1 [] (gives (post (name "n") (dot "value" ∷ []))) ∷ []) ∷ [])) ∷
      do_it (known Known.Log (template ("n " ∷ "" ∷ []) (post (name "n") (dot "value" ∷ []) ∷ []) ∷ [])) ∷
      []))) ∷ [];
}

abbrev pub built_root_s3 : Module
built_root_s3 = record {
  imports = importing ("useLexicalScope" ∷ []) "@builder.io/qwik" ∷ [];
  items = item true "root_s3"
      (arrow 0 []
      (block (
      const (scope ("n" ∷ "track" ∷ [])) (post (name "useLexicalScope") (call [] ∷ [])) ∷
      do_it (assign AssignOp.Add (post (name "n") (dot "value" ∷ [])) (name "track")) ∷
      []))) ∷ [];
}

abbrev pub built_root_s4 : Module
built_root_s4 = record {
  imports = importing ("qrl" ∷ "useLexicalScope" ∷ []) "@builder.io/qwik" ∷ [];
  items = item true "root_s4"
      (arrow 0 []
      (block (
      const (scope ("n" ∷ [])) (post (name "useLexicalScope") (call [] ∷ [])) ∷
      const (plain "x") (int 4) ∷
      const (plain "f") (post (name "qrl") (call (text "root_s5" ∷ list_of (name "n" ∷ name "x" ∷ []) ∷ []) ∷ [])) ∷
      do_it (post (name "f") (call (int 3 ∷ []) ∷ [])) ∷
      []))) ∷ [];
}

abbrev pub built_root_s5 : Module
built_root_s5 = record {
  imports = importing ("useLexicalScope" ∷ []) "@builder.io/qwik" ∷ [];
  items = item true "root_s5"
      (arrow 0 (plain "k" ∷ [])
      (block (
      const (scope ("n" ∷ "x" ∷ [])) (post (name "useLexicalScope") (call [] ∷ [])) ∷
      for_of "x" (list_of (name "k" ∷ int 10 ∷ [])) (do_it (assign AssignOp.Add (post (name "n") (dot "value" ∷ [])) (name "x")) ∷ []) ∷
      do_it (assign AssignOp.Add (post (name "n") (dot "value" ∷ [])) (name "x")) ∷
      []))) ∷ [];
}

abbrev pub built : List Named_module
built = (codes "root", built_root) ∷ (codes "root_s1", built_root_s1) ∷ (codes "root_s2", built_root_s2) ∷ (codes "root_s3", built_root_s3) ∷ (codes "root_s4", built_root_s4) ∷ (codes "root_s5", built_root_s5) ∷ []

-- the symbols of kind task
abbrev pub tasks : List Text
tasks = codes "root_s2" ∷ []

-- what is printed, in the reading with whole scopes
shown : printed modules usual script ≡ lines_of (
    codes "item 0" ∷
    codes "log n 0" ∷
    codes "html <div><button id=\"b\">0</button><button id=\"c\">101</button></div>" ∷
    codes "item 1" ∷
    codes "log n 7" ∷
    codes "html <div><button id=\"b\">7</button><button id=\"c\">101</button></div>" ∷
    codes "item 2" ∷
    codes "log n 24" ∷
    codes "html <div><button id=\"b\">24</button><button id=\"c\">101</button></div>" ∷
    [])
shown = refl

-- the same in the reading with captured values
shown_captured : printed_captured modules usual script ≡ lines_of (
    codes "item 0" ∷
    codes "log n 0" ∷
    codes "html <div><button id=\"b\">0</button><button id=\"c\">101</button></div>" ∷
    codes "item 1" ∷
    codes "log n 7" ∷
    codes "html <div><button id=\"b\">7</button><button id=\"c\">101</button></div>" ∷
    codes "item 2" ∷
    codes "log n 24" ∷
    codes "html <div><button id=\"b\">24</button><button id=\"c\">101</button></div>" ∷
    [])
shown_captured = refl

-- the same of the built files
shown_built : printed_built tasks built usual script ≡ lines_of (
    codes "item 0" ∷
    codes "log n 0" ∷
    codes "html <div><button id=\"b\">0</button><button id=\"c\">101</button></div>" ∷
    codes "item 1" ∷
    codes "log n 7" ∷
    codes "html <div><button id=\"b\">7</button><button id=\"c\">101</button></div>" ∷
    codes "item 2" ∷
    codes "log n 24" ∷
    codes "html <div><button id=\"b\">24</button><button id=\"c\">101</button></div>" ∷
    [])
shown_built = refl

-- the page of the last world
abbrev pub page_shown : Text
page_shown = codes "<div q:container=\"paused\" q:version=\"1\" q:base=\"build/\"><!--qi 0--><div><button id=\"b\" on:click=\"root_s3.js#root_s3[0 1]\">24</button><button id=\"c\" on:click=\"root_s4.js#root_s4[2]\">101</button></div><!--/qi--><script type=\"qwik/json\">{\"caps\":[[\"r\",1],7,[\"r\",1]],\"heap\":[[\"p\"],[\"s\",24]],\"inst\":[[\"root_s1\",0,[[\"v\",[\"r\",1]],[\"t\",[\"f\",\"root_s2\",[\"r\",1]],[[1,\"value\"]]]],[\"e\",\"div\",null,\"\",[],[[\"e\",\"button\",null,\"\",[\"id\",\"b\",\"onClick$\",[\"f\",\"root_s3\",[\"r\",1],7]],[24]],[\"e\",\"button\",null,\"\",[\"id\",\"c\",\"onClick$\",[\"f\",\"root_s4\",[\"r\",1]]],[101]]]],[[1,\"value\"]]]]}</script></div>\n"

paged : last_page modules script ≡ page_shown
paged = refl

paged_captured : last_page_captured modules script ≡ page_shown
paged_captured = refl

paged_built : last_page_built tasks built script ≡ page_shown
paged_built = refl
