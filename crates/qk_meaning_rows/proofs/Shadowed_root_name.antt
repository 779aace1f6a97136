-- A local that shadows a root name is captured by listeners, and by a plain function inside one.
use Rattle.std.specs.Prelude.{◌≡◌, refl, true, false, List, [], ◌∷◌, codes, None}
use Rattle.qk_ast.specs.declared.Module.{Module}
use Rattle.qk_ast.specs.declared.Bin.{Bin}
use Rattle.qk_ast.specs.declared.AssignOp.{AssignOp}
use Rattle.qk_meaning.specs.Value.{Text}
use Rattle.qk_ast.specs.Sources.{Named_module}
use Rattle.qk_meaning.specs.Run.{Line, Happens}
use Rattle.qk_meaning_rows.specs.Trees.{int, name, text, list_of, chain, post, dot, call, assign, gives, block, plain, scope, arrow, element, const, do_it, give_back, inner_block, importing, item}
use Rattle.qk_meaning_rows.specs.Common.{usual, printed, printed_captured, printed_built, lines_of, last_page, last_page_captured, last_page_built}

abbrev pub root_module : Module
root_module = record {
  imports = importing ("component$" ∷ "useSignal" ∷ []) "@builder.io/qwik" ∷ [];
  items =
      item false "x" (int 1) ∷
      item false "y" (int 5) ∷
      item true "App"
      (post (name "component$")
      (call (arrow 0 []
      (block (
      const (plain "n") (post (name "useSignal") (call (int 0 ∷ []) ∷ [])) ∷
      const (plain "x") (int 2) ∷
      give_back (element "div" []
      (
      element "button"
      (
      ("id", text "b") ∷ (
        "onClick$",
        arrow 1 []
            (block (do_it (assign AssignOp.Set (post (name "n") (dot "value" ∷ []))
            (chain (post (name "n") (dot "value" ∷ [])) ((Bin.Add, name "x") ∷ []))) ∷ [])),
      ) ∷
      []) (post (name "n") (dot "value" ∷ []) ∷ []) ∷
      element "button"
      (
      ("id", text "c") ∷ (
        "onClick$",
        arrow 2 []
            (block (
            const (plain "up")
            (arrow 3 (plain "k" ∷ []) (gives (chain (name "k") ((Bin.Add, name "x") ∷ (Bin.Add, name "y") ∷ [])))) ∷
            do_it (assign AssignOp.Set (post (name "n") (dot "value" ∷ []))
            (post (name "up") (call (post (name "n") (dot "value" ∷ []) ∷ []) ∷ []))) ∷
            inner_block (
            const (plain "y") (int 30) ∷
            do_it (assign AssignOp.Add (post (name "n") (dot "value" ∷ [])) (chain (name "y") ((Bin.Add, name "x") ∷ []))) ∷
            []) ∷
            [])),
      ) ∷
      []) (chain (name "x") ((Bin.Add, name "y") ∷ []) ∷ []) ∷
      [])) ∷
      [])) ∷ []) ∷ [])) ∷
      [];
}

abbrev pub modules : List Named_module
modules = (codes "root", root_module) ∷ []

abbrev pub script : List Line
script = Happens (record { kind = codes "click"; id = codes "b"; value = None }) ∷ Happens (record { kind = codes "click"; id = codes "c"; value = None }) ∷ []

abbrev pub built_root : Module
built_root = record {
  imports = importing ("componentQrl" ∷ "qrl" ∷ []) "@builder.io/qwik" ∷ [];
  items =
      item false "x" (int 1) ∷
      item true "y" (int 5) ∷
      item true "App" (post (name "componentQrl") (call (post (name "qrl") (call (text "root_s1" ∷ list_of [] ∷ []) ∷ []) ∷ []) ∷ [])) ∷
      [];
}

abbrev pub built_root_s1 : Module
built_root_s1 = record {
  imports = importing ("qrl" ∷ "useSignal" ∷ []) "@builder.io/qwik" ∷ importing ("y" ∷ []) "./root.js" ∷ [];
  items = item true "root_s1"
      (arrow 0 []
      (block (
      const (plain "n") (post (name "useSignal") (call (int 0 ∷ []) ∷ [])) ∷
      const (plain "x") (int 2) ∷
      give_back (element "div" []
      (
      element "button"
      (("id", text "b") ∷ ("onClick$", post (name "qrl") (call (text "root_s2" ∷ list_of (name "n" ∷ name "x" ∷ []) ∷ []) ∷ [])) ∷ []) (post (name "n") (dot "value" ∷ []) ∷ []) ∷
      element "button"
      (("id", text "c") ∷ ("onClick$", post (name "qrl") (call (text "root_s3" ∷ list_of (name "x" ∷ name "n" ∷ []) ∷ []) ∷ [])) ∷ []) (chain (name "x") ((Bin.Add, name "y") ∷ []) ∷ []) ∷
      [])) ∷
      []))) ∷ [];
}

abbrev pub built_root_s2 : Module
built_root_s2 = record {
  imports = importing ("useLexicalScope" ∷ []) "@builder.io/qwik" ∷ [];
  items = item true "root_s2"
      (arrow 0 []
      (block (
      const (scope ("n" ∷ "x" ∷ [])) (post (name "useLexicalScope") (call [] ∷ [])) ∷
      do_it (assign AssignOp.Set (post (name "n") (dot "value" ∷ [])) (chain (post (name "n") (dot "value" ∷ [])) ((Bin.Add, name "x") ∷ []))) ∷
      []))) ∷ [];
}

abbrev pub built_root_s3 : Module
built_root_s3 = record {
  imports = importing ("useLexicalScope" ∷ []) "@builder.io/qwik" ∷ importing ("y" ∷ []) "./root.js" ∷ [];
  items = item true "root_s3"
      (arrow 0 []
      (block (
      const (scope ("x" ∷ "n" ∷ [])) (post (name "useLexicalScope") (call [] ∷ [])) ∷
      const (plain "up") (arrow 1 (plain "k" ∷ []) (gives (chain (name "k") ((Bin.Add, name "x") ∷ (Bin.Add, name "y") ∷ [])))) ∷
      do_it (assign AssignOp.Set (post (name "n") (dot "value" ∷ [])) (post (name "up") (call (post (name "n") (dot "value" ∷ []) ∷ []) ∷ []))) ∷
      inner_block (
      const (plain "y") (int 30) ∷
      do_it (assign AssignOp.Add (post (name "n") (dot "value" ∷ [])) (chain (name "y") ((Bin.Add, name "x") ∷ []))) ∷
      []) ∷
      []))) ∷ [];
}

abbrev pub built : List Named_module
built = (codes "root", built_root) ∷ (codes "root_s1", built_root_s1) ∷ (codes "root_s2", built_root_s2) ∷ (codes "root_s3", built_root_s3) ∷ []

-- the symbols of kind task
abbrev pub tasks : List Text
tasks = []

-- what is printed, in the reading with whole scopes
shown : printed modules usual script ≡ lines_of (
    codes "item 0" ∷
    codes "html <div><button id=\"b\">0</button><button id=\"c\">7</button></div>" ∷
    codes "item 1" ∷
    codes "html <div><button id=\"b\">2</button><button id=\"c\">7</button></div>" ∷
    codes "item 2" ∷
    codes "html <div><button id=\"b\">41</button><button id=\"c\">7</button></div>" ∷
    [])
shown = refl

-- the same in the reading with captured values
shown_captured : printed_captured modules usual script ≡ lines_of (
    codes "item 0" ∷
    codes "html <div><button id=\"b\">0</button><button id=\"c\">7</button></div>" ∷
    codes "item 1" ∷
    codes "html <div><button id=\"b\">2</button><button id=\"c\">7</button></div>" ∷
    codes "item 2" ∷
    codes "html <div><button id=\"b\">41</button><button id=\"c\">7</button></div>" ∷
    [])
shown_captured = refl

-- the same of the built files
shown_built : printed_built tasks built usual script ≡ lines_of (
    codes "item 0" ∷
    codes "html <div><button id=\"b\">0</button><button id=\"c\">7</button></div>" ∷
    codes "item 1" ∷
    codes "html <div><button id=\"b\">2</button><button id=\"c\">7</button></div>" ∷
    codes "item 2" ∷
    codes "html <div><button id=\"b\">41</button><button id=\"c\">7</button></div>" ∷
    [])
shown_built = refl

-- the page of the last world
abbrev pub page_shown : Text
page_shown = codes "<div q:container=\"paused\" q:version=\"1\" q:base=\"build/\"><!--qi 0--><div><button id=\"b\" on:click=\"root_s2.js#root_s2[0 1]\">41</button><button id=\"c\" on:click=\"root_s3.js#root_s3[2 3]\">7</button></div><!--/qi--><script type=\"qwik/json\">{\"caps\":[[\"r\",1],2,2,[\"r\",1]],\"heap\":[[\"p\"],[\"s\",41]],\"inst\":[[\"root_s1\",0,[[\"v\",[\"r\",1]]],[\"e\",\"div\",null,\"\",[],[[\"e\",\"button\",null,\"\",[\"id\",\"b\",\"onClick$\",[\"f\",\"root_s2\",[\"r\",1],2]],[41]],[\"e\",\"button\",null,\"\",[\"id\",\"c\",\"onClick$\",[\"f\",\"root_s3\",2,[\"r\",1]]],[7]]]],[[1,\"value\"]]]]}</script></div>\n"

paged : last_page modules script ≡ page_shown
paged = refl

paged_captured : last_page_captured modules script ≡ page_shown
paged_captured = refl

paged_built : last_page_built tasks built script ≡ page_shown
paged_built = refl
