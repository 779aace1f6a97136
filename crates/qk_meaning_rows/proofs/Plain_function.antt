-- A plain function in props can't be paused with.
use Rattle.std.specs.Prelude.{◌≡◌, refl, true, List, [], ◌∷◌, codes, None}
use Rattle.qk_ast.specs.declared.Module.{Module}
use Rattle.qk_ast.specs.declared.Expr.{Expr}
use Rattle.qk_ast.specs.declared.Bin.{Bin}
use Rattle.qk_ast.specs.declared.Un.{Un}
use Rattle.qk_ast.specs.declared.AssignOp.{AssignOp}
use Rattle.qk_meaning.specs.Value.{Text}
use Rattle.qk_ast.specs.Sources.{Named_module}
use Rattle.qk_meaning.specs.Run.{Line, Happens, Pauses}
use Rattle.qk_meaning_rows.specs.Trees.{int, name, text, unary, chain, choice, post, dot, call, assign, gives, block, plain, arrow, element, component, const, do_it, give_back, importing, item}
use Rattle.qk_meaning_rows.specs.Common.{usual, printed, printed_captured, lines_of, last_page, last_page_captured}

abbrev pub root_module : Module
root_module = record {
  imports = importing
      ("$" ∷ "Slot" ∷ "component$" ∷ "createContextId" ∷ "noSerialize" ∷ "useComputed$" ∷ "useContext" ∷ "useContextProvider" ∷ "useSignal" ∷ "useStore" ∷ "useTask$" ∷ []) "@builder.io/qwik" ∷ [];
  items =
      item true "C"
      (post (name "component$")
      (call (arrow 0 (plain "props" ∷ [])
      (gives (element "b" [] (choice (post (name "props") (dot "f" ∷ [])) (post (name "props") (dot "f" ∷ call (int 1 ∷ []) ∷ [])) (int 0) ∷ []))) ∷ []) ∷ [])) ∷
      item true "App"
      (post (name "component$")
      (call (arrow 1 []
      (block (
      const (plain "on") (post (name "useSignal") (call (Expr.Bool true ∷ []) ∷ [])) ∷
      give_back (element "div" []
      (
      component "C"
      ((
        "f",
        choice (post (name "on") (dot "value" ∷ []))
            (arrow 2 (plain "x" ∷ []) (gives (chain (name "x") ((Bin.Add, int 1) ∷ [])))) Expr.Undefined,
      ) ∷ []) [] ∷
      element "i"
      (
      ("id", text "t") ∷ (
        "onClick$",
        arrow 3 []
            (block (do_it (assign AssignOp.Set (post (name "on") (dot "value" ∷ [])) (unary Un.Not (post (name "on") (dot "value" ∷ [])))) ∷ [])),
      ) ∷
      []) [] ∷
      [])) ∷
      [])) ∷ []) ∷ [])) ∷
      [];
}

abbrev pub modules : List Named_module
modules = (codes "root", root_module) ∷ []

abbrev pub script : List Line
script = Pauses ∷ Happens (record { kind = codes "click"; id = codes "t"; value = None }) ∷ Pauses ∷ []

-- what is printed, in the reading with whole scopes
shown : printed modules usual script ≡ lines_of (
    codes "item 0" ∷
    codes "html <div><b>2</b><i id=\"t\"></i></div>" ∷
    codes "item 1" ∷
    codes "kept function" ∷
    codes "item 2" ∷
    codes "html <div><b>0</b><i id=\"t\"></i></div>" ∷
    codes "item 3" ∷
    codes "paused" ∷
    [])
shown = refl

-- the same in the reading with captured values
shown_captured : printed_captured modules usual script ≡ lines_of (
    codes "item 0" ∷
    codes "html <div><b>2</b><i id=\"t\"></i></div>" ∷
    codes "item 1" ∷
    codes "kept function" ∷
    codes "item 2" ∷
    codes "html <div><b>0</b><i id=\"t\"></i></div>" ∷
    codes "item 3" ∷
    codes "paused" ∷
    [])
shown_captured = refl

-- the page of the last world
abbrev pub page_shown : Text
page_shown = codes "<div q:container=\"paused\" q:version=\"1\" q:base=\"build/\"><!--qi 0--><div><!--qi 1--><b>0</b><!--/qi--><i id=\"t\" on:click=\"root_s3.js#root_s3[0]\"></i></div><!--/qi--><script type=\"qwik/json\">{\"caps\":[[\"r\",1]],\"heap\":[[\"p\"],[\"s\",false],[\"p\",\"f\",[\"u\"]]],\"inst\":[[\"root_s2\",0,[[\"v\",[\"r\",1]]],[\"e\",\"div\",null,\"\",[],[[\"c\",\"root_s1\",null,\"\",[\"f\",[\"u\"]],[]],[\"e\",\"i\",null,\"\",[\"id\",\"t\",\"onClick$\",[\"f\",\"root_s3\",[\"r\",1]]],[]]]],[[1,\"value\"]]],[\"root_s1\",2,[],[\"e\",\"b\",null,\"\",[],[0]],[[2,\"f\"]]]]}</script></div>\n"

paged : last_page modules script ≡ page_shown
paged = refl

paged_captured : last_page_captured modules script ≡ page_shown
paged_captured = refl
