-- Slots and contexts.
use Rattle.std.specs.Prelude.{◌≡◌, refl, true, List, [], ◌∷◌, codes}
use Rattle.qk_ast.specs.declared.Module.{Module}
use Rattle.qk_meaning.specs.Value.{Text}
use Rattle.qk_ast.specs.Sources.{Named_module}
use Rattle.qk_meaning.specs.Run.{Line}
use Rattle.qk_meaning_rows.specs.Trees.{name, text, list_of, record_of, post, dot, call, gives, block, plain, arrow, element, component, const, do_it, give_back, importing, item}
use Rattle.qk_meaning_rows.specs.Common.{usual, printed, printed_captured, printed_built, lines_of, last_page, last_page_captured, last_page_built}

abbrev pub root_module : Module
root_module = record {
  imports = importing
      ("$" ∷ "Slot" ∷ "component$" ∷ "createContextId" ∷ "noSerialize" ∷ "useComputed$" ∷ "useContext" ∷ "useContextProvider" ∷ "useSignal" ∷ "useStore" ∷ "useTask$" ∷ []) "@builder.io/qwik" ∷ [];
  items =
      item true "Theme" (post (name "createContextId") (call (text "theme" ∷ []) ∷ [])) ∷
      item true "Card"
      (post (name "component$")
      (call (arrow 0 []
      (gives (element "section" [] (element "h1" [] (component "Slot" (("name", text "t") ∷ []) [] ∷ []) ∷ component "Slot" [] [] ∷ []))) ∷ []) ∷ [])) ∷
      item true "Who"
      (post (name "component$")
      (call (arrow 1 []
      (block (
      const (plain "t") (post (name "useContext") (call (name "Theme" ∷ []) ∷ [])) ∷
      give_back (element "u" [] (post (name "t") (dot "name" ∷ []) ∷ [])) ∷
      [])) ∷ []) ∷ [])) ∷
      item true "App"
      (post (name "component$")
      (call (arrow 2 []
      (block (
      const (plain "st") (post (name "useStore") (call (record_of (("name", text "x") ∷ []) ∷ []) ∷ [])) ∷
      do_it (post (name "useContextProvider") (call (name "Theme" ∷ name "st" ∷ []) ∷ [])) ∷
      give_back (component "Card" [] (component "Who" [] [] ∷ text " and " ∷ element "b" (("q:slot", text "t") ∷ []) (text "T" ∷ []) ∷ [])) ∷
      [])) ∷ []) ∷ [])) ∷
      [];
}

abbrev pub modules : List Named_module
modules = (codes "root", root_module) ∷ []

abbrev pub script : List Line
script = []

abbrev pub built_root : Module
built_root = record {
  imports = importing ("componentQrl" ∷ "createContextId" ∷ "qrl" ∷ []) "@builder.io/qwik" ∷ [];
  items =
      item true "Theme" (post (name "createContextId") (call (text "theme" ∷ []) ∷ [])) ∷
      item true "Card" (post (name "componentQrl") (call (post (name "qrl") (call (text "root_s1" ∷ list_of [] ∷ []) ∷ []) ∷ []) ∷ [])) ∷
      item true "Who" (post (name "componentQrl") (call (post (name "qrl") (call (text "root_s2" ∷ list_of [] ∷ []) ∷ []) ∷ []) ∷ [])) ∷
      item true "App" (post (name "componentQrl") (call (post (name "qrl") (call (text "root_s3" ∷ list_of [] ∷ []) ∷ []) ∷ []) ∷ [])) ∷
      [];
}

abbrev pub built_root_s1 : Module
built_root_s1 = record {
  imports = importing ("Slot" ∷ []) "@builder.io/qwik" ∷ [];
  items = item true "root_s1"
      (arrow 0 [] (gives (element "section" [] (element "h1" [] (component "Slot" (("name", text "t") ∷ []) [] ∷ []) ∷ component "Slot" [] [] ∷ [])))) ∷ [];
}

abbrev pub built_root_s2 : Module
built_root_s2 = record {
  imports = importing ("useContext" ∷ []) "@builder.io/qwik" ∷ importing ("Theme" ∷ []) "./root.js" ∷ [];
  items = item true "root_s2"
      (arrow 0 []
      (block (
      const (plain "t") (post (name "useContext") (call (name "Theme" ∷ []) ∷ [])) ∷
      give_back (element "u" [] (post (name "t") (dot "name" ∷ []) ∷ [])) ∷
      []))) ∷ [];
}

abbrev pub built_root_s3 : Module
built_root_s3 = record {
  imports = importing ("useContextProvider" ∷ "useStore" ∷ []) "@builder.io/qwik" ∷ importing ("Card" ∷ "Theme" ∷ "Who" ∷ []) "./root.js" ∷ [];
  items = item true "root_s3"
      (arrow 0 []
      (block (
      const (plain "st") (post (name "useStore") (call (record_of (("name", text "x") ∷ []) ∷ []) ∷ [])) ∷
      do_it (post (name "useContextProvider") (call (name "Theme" ∷ name "st" ∷ []) ∷ [])) ∷
      give_back (component "Card" [] (component "Who" [] [] ∷ text " and " ∷ element "b" (("q:slot", text "t") ∷ []) (text "T" ∷ []) ∷ [])) ∷
      []))) ∷ [];
}

abbrev pub built : List Named_module
built = (codes "root", built_root) ∷ (codes "root_s1", built_root_s1) ∷ (codes "root_s2", built_root_s2) ∷ (codes "root_s3", built_root_s3) ∷ []

-- the symbols of kind task
abbrev pub tasks : List Text
tasks = []

-- what is printed, in the reading with whole scopes
shown : printed modules usual script ≡ lines_of (
    codes "item 0" ∷
    codes "html <section><h1><b>T</b></h1><u>x</u> and </section>" ∷
    [])
shown = refl

-- the same in the reading with captured values
shown_captured : printed_captured modules usual script ≡ lines_of (
    codes "item 0" ∷
    codes "html <section><h1><b>T</b></h1><u>x</u> and </section>" ∷
    [])
shown_captured = refl

-- the same of the built files
shown_built : printed_built tasks built usual script ≡ lines_of (
    codes "item 0" ∷
    codes "html <section><h1><b>T</b></h1><u>x</u> and </section>" ∷
    [])
shown_built = refl

-- the page of the last world
abbrev pub page_shown : Text
page_shown = codes "<div q:container=\"paused\" q:version=\"1\" q:base=\"build/\"><!--qi 0--><!--qi 1--><section><h1><b>T</b></h1><!--qi 2--><u>x</u><!--/qi--> and </section><!--/qi--><!--/qi--><script type=\"qwik/json\">{\"caps\":[],\"heap\":[[\"p\"],[\"o\",\"name\",\"x\"],[\"p\"],[\"p\"]],\"inst\":[[\"root_s3\",0,[[\"v\",[\"r\",1]],[\"x\",\"theme\",[\"r\",1]]],[\"c\",\"root_s1\",null,\"\",[],[[\"c\",\"root_s2\",null,\"\",[],[]],\" and \",[\"e\",\"b\",null,\"t\",[],[\"T\"]]]],[]],[\"root_s1\",2,[],[\"e\",\"section\",null,\"\",[],[[\"e\",\"h1\",null,\"\",[],[[\"s\",\"t\"]]],[\"s\",\"\"]]],[]],[\"root_s2\",3,[[\"v\",[\"r\",1]]],[\"e\",\"u\",null,\"\",[],[\"x\"]],[[1,\"name\"]]]]}</script></div>\n"

paged : last_page modules script ≡ page_shown
paged = refl

paged_captured : last_page_captured modules script ≡ page_shown
paged_captured = refl

paged_built : last_page_built tasks built script ≡ page_shown
paged_built = refl
