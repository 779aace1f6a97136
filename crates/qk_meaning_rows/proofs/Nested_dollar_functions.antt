-- A function made in a listener keeps what that listener captured and made.
use Rattle.std.specs.Prelude.{◌≡◌, refl, true, List, [], ◌∷◌, codes, None}
use Rattle.qk_ast.specs.declared.Module.{Module}
use Rattle.qk_ast.specs.declared.Expr.{Expr}
use Rattle.qk_ast.specs.declared.Bin.{Bin}
use Rattle.qk_ast.specs.declared.AssignOp.{AssignOp}
use Rattle.qk_ast.specs.declared.Known.{Known}
use Rattle.qk_meaning.specs.Value.{Text}
use Rattle.qk_ast.specs.Sources.{Named_module}
use Rattle.qk_meaning.specs.Run.{Line, Happens, Pauses}
use Rattle.qk_meaning_rows.specs.Trees.{int, name, text, list_of, chain, post, dot, call, assign, known, gives, block, plain, scope, arrow, element, const, do_it, give_back, importing, item}
use Rattle.qk_meaning_rows.specs.Common.{usual, printed, printed_captured, printed_built, lines_of, last_page, last_page_captured, last_page_built}

abbrev pub root_module : Module
root_module = record {
  imports = importing
      ("$" ∷ "Slot" ∷ "component$" ∷ "createContextId" ∷ "noSerialize" ∷ "useComputed$" ∷ "useContext" ∷ "useContextProvider" ∷ "useSignal" ∷ "useStore" ∷ "useTask$" ∷ []) "@builder.io/qwik" ∷ [];
  items = item true "App"
      (post (name "component$")
      (call (arrow 0 []
      (block (
      const (plain "f") (post (name "useSignal") (call (Expr.Null ∷ []) ∷ [])) ∷
      const (plain "x") (post (name "useSignal") (call (int 10 ∷ []) ∷ [])) ∷
      give_back (element "div" []
      (
      element "i"
      (
      ("id", text "m") ∷ (
        "onClick$",
        arrow 1 []
            (block (
            const (plain "k") (post (name "x") (dot "value" ∷ [])) ∷
            do_it (assign AssignOp.Set (post (name "f") (dot "value" ∷ []))
            (post (name "$")
            (call (arrow 2 (plain "d" ∷ [])
            (gives (chain (post (name "x") (dot "value" ∷ [])) ((Bin.Add, name "k") ∷ (Bin.Add, name "d") ∷ []))) ∷ []) ∷ []))) ∷
            do_it (assign AssignOp.Set (post (name "x") (dot "value" ∷ [])) (int 20)) ∷
            [])),
      ) ∷
      []) [] ∷
      element "i"
      (
      ("id", text "c") ∷
      ("onClick$", arrow 3 [] (block (do_it (known Known.Log (post (name "f") (dot "value" ∷ call (int 1 ∷ []) ∷ []) ∷ [])) ∷ []))) ∷
      []) [] ∷
      [])) ∷
      [])) ∷ []) ∷ [])) ∷ [];
}

abbrev pub modules : List Named_module
modules = (codes "root", root_module) ∷ []

abbrev pub script : List Line
script = Happens (record { kind = codes "click"; id = codes "m"; value = None }) ∷ Pauses ∷ Happens (record { kind = codes "click"; id = codes "c"; value = None }) ∷ []

abbrev pub built_root : Module
built_root = record {
  imports = importing ("componentQrl" ∷ "qrl" ∷ []) "@builder.io/qwik" ∷ [];
  items = item true "App" (post (name "componentQrl") (call (post (name "qrl") (call (text "root_s1" ∷ list_of [] ∷ []) ∷ []) ∷ []) ∷ [])) ∷ [];
}

abbrev pub built_root_s1 : Module
built_root_s1 = record {
  imports = importing ("qrl" ∷ "useSignal" ∷ []) "@builder.io/qwik" ∷ [];
  items = item true "root_s1"
      (arrow 0 []
      (block (
      const (plain "f") (post (name "useSignal") (call (Expr.Null ∷ []) ∷ [])) ∷
      const (plain "x") (post (name "useSignal") (call (int 10 ∷ []) ∷ [])) ∷
      give_back (element "div" []
      (
      element "i"
      (("id", text "m") ∷ ("onClick$", post (name "qrl") (call (text "root_s2" ∷ list_of (name "x" ∷ name "f" ∷ []) ∷ []) ∷ [])) ∷ []) [] ∷
      element "i" (("id", text "c") ∷ ("onClick$", post (name "qrl") (call (text "root_s4" ∷ list_of (name "f" ∷ []) ∷ []) ∷ [])) ∷ []) [] ∷
      [])) ∷
      []))) ∷ [];
}

abbrev pub built_root_s2 : Module
built_root_s2 = record {
  imports = importing ("qrl" ∷ "useLexicalScope" ∷ []) "@builder.io/qwik" ∷ [];
  items = item true "root_s2"
      (arrow 0 []
      (block (
      const (scope ("x" ∷ "f" ∷ [])) (post (name "useLexicalScope") (call [] ∷ [])) ∷
      const (plain "k") (post (name "x") (dot "value" ∷ [])) ∷
      do_it (assign AssignOp.Set (post (name "f") (dot "value" ∷ []))
      (post (name "qrl") (call (text "root_s3" ∷ list_of (name "x" ∷ name "k" ∷ []) ∷ []) ∷ []))) ∷
      do_it (assign AssignOp.Set (post (name "x") (dot "value" ∷ [])) (int 20)) ∷
      []))) ∷ [];
}

abbrev pub built_root_s3 : Module
built_root_s3 = record {
  imports = importing ("useLexicalScope" ∷ []) "@builder.io/qwik" ∷ [];
  items = item true "root_s3"
      (arrow 0 (plain "d" ∷ [])
      (block (
      const (scope ("x" ∷ "k" ∷ [])) (post (name "useLexicalScope") (call [] ∷ [])) ∷
      give_back (chain (post (name "x") (dot "value" ∷ [])) ((Bin.Add, name "k") ∷ (Bin.Add, name "d") ∷ [])) ∷
      []))) ∷ [];
}

abbrev pub built_root_s4 : Module
built_root_s4 = record {
  imports = importing ("useLexicalScope" ∷ []) "@builder.io/qwik" ∷ [];
  items = item true "root_s4"
      (arrow 0 []
      (block (
      const (scope ("f" ∷ [])) (post (name "useLexicalScope") (call [] ∷ [])) ∷
      do_it (known Known.Log (post (name "f") (dot "value" ∷ call (int 1 ∷ []) ∷ []) ∷ [])) ∷
      []))) ∷ [];
}

abbrev pub built : List Named_module
built = (codes "root", built_root) ∷ (codes "root_s1", built_root_s1) ∷ (codes "root_s2", built_root_s2) ∷ (codes "root_s3", built_root_s3) ∷ (codes "root_s4", built_root_s4) ∷ []

-- the symbols of kind task
abbrev pub tasks : List Text
tasks = []

-- what is printed, in the reading with whole scopes
shown : printed modules usual script ≡ lines_of (
    codes "item 0" ∷
    codes "html <div><i id=\"m\"></i><i id=\"c\"></i></div>" ∷
    codes "item 1" ∷
    codes "html <div><i id=\"m\"></i><i id=\"c\"></i></div>" ∷
    codes "item 2" ∷
    codes "paused" ∷
    codes "item 3" ∷
    codes "log 31" ∷
    codes "html <div><i id=\"m\"></i><i id=\"c\"></i></div>" ∷
    [])
shown = refl

-- the same in the reading with captured values
shown_captured : printed_captured modules usual script ≡ lines_of (
    codes "item 0" ∷
    codes "html <div><i id=\"m\"></i><i id=\"c\"></i></div>" ∷
    codes "item 1" ∷
    codes "html <div><i id=\"m\"></i><i id=\"c\"></i></div>" ∷
    codes "item 2" ∷
    codes "paused" ∷
    codes "item 3" ∷
    codes "log 31" ∷
    codes "html <div><i id=\"m\"></i><i id=\"c\"></i></div>" ∷
    [])
shown_captured = refl

-- the same of the built files
shown_built : printed_built tasks built usual script ≡ lines_of (
    codes "item 0" ∷
    codes "html <div><i id=\"m\"></i><i id=\"c\"></i></div>" ∷
    codes "item 1" ∷
    codes "html <div><i id=\"m\"></i><i id=\"c\"></i></div>" ∷
    codes "item 2" ∷
    codes "paused" ∷
    codes "item 3" ∷
    codes "log 31" ∷
    codes "html <div><i id=\"m\"></i><i id=\"c\"></i></div>" ∷
    [])
shown_built = refl

-- the page of the last world
abbrev pub page_shown : Text
page_shown = codes "<div q:container=\"paused\" q:version=\"1\" q:base=\"build/\"><!--qi 0--><div><i id=\"m\" on:click=\"root_s2.js#root_s2[0 1]\"></i><i id=\"c\" on:click=\"root_s4.js#root_s4[2]\"></i></div><!--/qi--><script type=\"qwik/json\">{\"caps\":[[\"r\",2],[\"r\",1],[\"r\",1]],\"heap\":[[\"p\"],[\"s\",[\"f\",\"root_s3\",[\"r\",2],10]],[\"s\",20]],\"inst\":[[\"root_s1\",0,[[\"v\",[\"r\",1]],[\"v\",[\"r\",2]]],[\"e\",\"div\",null,\"\",[],[[\"e\",\"i\",null,\"\",[\"id\",\"m\",\"onClick$\",[\"f\",\"root_s2\",[\"r\",2],[\"r\",1]]],[]],[\"e\",\"i\",null,\"\",[\"id\",\"c\",\"onClick$\",[\"f\",\"root_s4\",[\"r\",1]]],[]]]],[]]]}</script></div>\n"

paged : last_page modules script ≡ page_shown
paged = refl

paged_captured : last_page_captured modules script ≡ page_shown
paged_captured = refl

paged_built : last_page_built tasks built script ≡ page_shown
paged_built = refl
