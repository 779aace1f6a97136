-- A component that is mounted late writes what was shown before it.
use Rattle.std.specs.Prelude.{◌≡◌, refl, true, List, [], ◌∷◌, codes}
use Rattle.qk_ast.specs.declared.Module.{Module}
use Rattle.qk_ast.specs.declared.AssignOp.{AssignOp}
use Rattle.qk_meaning.specs.Value.{Text}
use Rattle.qk_ast.specs.Sources.{Named_module}
use Rattle.qk_meaning.specs.Run.{Line}
use Rattle.qk_meaning_rows.specs.Trees.{int, name, post, dot, call, assign, block, plain, arrow, element, component, const, do_it, give_back, importing, item}
use Rattle.qk_meaning_rows.specs.Common.{usual, printed, printed_captured, lines_of, last_page, last_page_captured}

abbrev pub root_module : Module
root_module = record {
  imports = importing
      ("$" ∷ "Slot" ∷ "component$" ∷ "createContextId" ∷ "noSerialize" ∷ "useComputed$" ∷ "useContext" ∷ "useContextProvider" ∷ "useSignal" ∷ "useStore" ∷ "useTask$" ∷ []) "@builder.io/qwik" ∷ [];
  items =
      item true "Late"
      (post (name "component$")
      (call (arrow 0 (plain "props" ∷ [])
      (block (
      do_it (post (name "useTask$")
      (call (arrow 1 [] (block (do_it (assign AssignOp.Set (post (name "props") (dot "s" ∷ dot "value" ∷ [])) (int 7)) ∷ [])) ∷ []) ∷ [])) ∷
      give_back (element "i" [] (post (name "props") (dot "s" ∷ dot "value" ∷ []) ∷ [])) ∷
      [])) ∷ []) ∷ [])) ∷
      item true "App"
      (post (name "component$")
      (call (arrow 2 []
      (block (
      const (plain "s") (post (name "useSignal") (call (int 0 ∷ []) ∷ [])) ∷
      give_back (element "div" [] (element "b" [] (post (name "s") (dot "value" ∷ []) ∷ []) ∷ component "Late" (("s", name "s") ∷ []) [] ∷ [])) ∷
      [])) ∷ []) ∷ [])) ∷
      [];
}

abbrev pub modules : List Named_module
modules = (codes "root", root_module) ∷ []

abbrev pub script : List Line
script = []

-- what is printed, in the reading with whole scopes
shown : printed modules usual script ≡ lines_of (
    codes "item 0" ∷
    codes "html <div><b>7</b><i>7</i></div>" ∷
    [])
shown = refl

-- the same in the reading with captured values
shown_captured : printed_captured modules usual script ≡ lines_of (
    codes "item 0" ∷
    codes "html <div><b>7</b><i>7</i></div>" ∷
    [])
shown_captured = refl

-- whole renders take five turns
in_five_turns : printed modules (record { turns = 5; levels = 48 }) script ≡ lines_of (
    codes "item 0" ∷
    codes "html <div><b>7</b><i>7</i></div>" ∷
    [])
in_five_turns = refl

-- four don't suffice
not_in_four_turns : printed modules (record { turns = 4; levels = 48 }) script ≡ lines_of (
    codes "ended 0" ∷
    [])
not_in_four_turns = refl

-- the page of the last world
abbrev pub page_shown : Text
page_shown = codes "<div q:container=\"paused\" q:version=\"1\" q:base=\"build/\"><!--qi 0--><div><b>7</b><!--qi 1--><i>7</i><!--/qi--></div><!--/qi--><script type=\"qwik/json\">{\"caps\":[],\"heap\":[[\"p\"],[\"s\",7],[\"p\",\"s\",[\"r\",1]]],\"inst\":[[\"root_s3\",0,[[\"v\",[\"r\",1]]],[\"e\",\"div\",null,\"\",[],[[\"e\",\"b\",null,\"\",[],[7]],[\"c\",\"root_s1\",null,\"\",[\"s\",[\"r\",1]],[]]]],[[1,\"value\"]]],[\"root_s1\",2,[[\"t\",[\"f\",\"root_s2\",[\"r\",2]],[]]],[\"e\",\"i\",null,\"\",[],[7]],[[1,\"value\"],[2,\"s\"]]]]}</script></div>\n"

paged : last_page modules script ≡ page_shown
paged = refl

paged_captured : last_page_captured modules script ≡ page_shown
paged_captured = refl
