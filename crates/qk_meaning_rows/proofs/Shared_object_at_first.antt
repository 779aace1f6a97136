-- One object in two signals, and no event: the page's heap has it once.
use Rattle.std.specs.Prelude.{◌≡◌, refl, true, List, [], ◌∷◌, codes}
use Rattle.qk_ast.specs.declared.Module.{Module}
use Rattle.qk_ast.specs.declared.Expr.{Expr}
use Rattle.qk_ast.specs.declared.AssignOp.{AssignOp}
use Rattle.qk_meaning.specs.Value.{Text}
use Rattle.qk_ast.specs.Sources.{Named_module}
use Rattle.qk_meaning.specs.Run.{Line}
use Rattle.qk_meaning_rows.specs.Trees.{int, name, text, record_of, post, dot, call, assign, block, plain, arrow, element, const, do_it, give_back, importing, item}
use Rattle.qk_meaning_rows.specs.Common.{usual, printed, printed_captured, lines_of, last_page, last_page_captured}

abbrev pub root_module : Module
root_module = record {
  imports = importing
      ("$" ∷ "Slot" ∷ "component$" ∷ "createContextId" ∷ "noSerialize" ∷ "useComputed$" ∷ "useContext" ∷ "useContextProvider" ∷ "useSignal" ∷ "useStore" ∷ "useTask$" ∷ []) "@builder.io/qwik" ∷ [];
  items = item true "App"
      (post (name "component$")
      (call (arrow 0 []
      (block (
      const (plain "a") (post (name "useSignal") (call (Expr.Null ∷ []) ∷ [])) ∷
      const (plain "b") (post (name "useSignal") (call (Expr.Null ∷ []) ∷ [])) ∷
      do_it (post (name "useTask$")
      (call (arrow 1 []
      (block (
      const (plain "o") (record_of (("n", int 1) ∷ [])) ∷
      do_it (assign AssignOp.Set (post (name "a") (dot "value" ∷ [])) (name "o")) ∷
      do_it (assign AssignOp.Set (post (name "b") (dot "value" ∷ [])) (name "o")) ∷
      [])) ∷ []) ∷ [])) ∷
      give_back (element "button"
      (
      ("id", text "b") ∷
      ("onClick$", arrow 2 [] (block (do_it (assign AssignOp.Set (post (name "a") (dot "value" ∷ dot "n" ∷ [])) (int 5)) ∷ []))) ∷
      []) (post (name "b") (dot "value" ∷ dot "n" ∷ []) ∷ [])) ∷
      [])) ∷ []) ∷ [])) ∷ [];
}

abbrev pub modules : List Named_module
modules = (codes "root", root_module) ∷ []

abbrev pub script : List Line
script = []

-- what is printed, in the reading with whole scopes
shown : printed modules usual script ≡ lines_of (
    codes "item 0" ∷
    codes "html <button id=\"b\">1</button>" ∷
    [])
shown = refl

-- the same in the reading with captured values
shown_captured : printed_captured modules usual script ≡ lines_of (
    codes "item 0" ∷
    codes "html <button id=\"b\">1</button>" ∷
    [])
shown_captured = refl

-- the page of the last world
abbrev pub page_shown : Text
page_shown = codes "<div q:container=\"paused\" q:version=\"1\" q:base=\"build/\"><!--qi 0--><button id=\"b\" on:click=\"root_s3.js#root_s3[0]\">1</button><!--/qi--><script type=\"qwik/json\">{\"caps\":[[\"r\",1]],\"heap\":[[\"p\"],[\"s\",[\"r\",3]],[\"s\",[\"r\",3]],[\"o\",\"n\",1]],\"inst\":[[\"root_s1\",0,[[\"v\",[\"r\",1]],[\"v\",[\"r\",2]],[\"t\",[\"f\",\"root_s2\",[\"r\",1],[\"r\",2]],[]]],[\"e\",\"button\",null,\"\",[\"id\",\"b\",\"onClick$\",[\"f\",\"root_s3\",[\"r\",1]]],[1]],[[2,\"value\"],[3,\"n\"]]]]}</script></div>\n"

paged : last_page modules script ≡ page_shown
paged = refl

paged_captured : last_page_captured modules script ≡ page_shown
paged_captured = refl
