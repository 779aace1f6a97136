-- Characters that are escaped in texts, attributes and the state script.
use Rattle.std.specs.Prelude.{◌≡◌, refl, true, List, [], ◌∷◌, codes, Some}
use Rattle.qk_ast.specs.declared.Module.{Module}
use Rattle.qk_ast.specs.declared.AssignOp.{AssignOp}
use Rattle.qk_meaning.specs.Value.{Text}
use Rattle.qk_ast.specs.Sources.{Named_module}
use Rattle.qk_meaning.specs.Run.{Line, Happens, Pauses}
use Rattle.qk_meaning_rows.specs.Trees.{name, text, post, dot, call, assign, block, plain, arrow, element, const, do_it, give_back, importing, item}
use Rattle.qk_meaning_rows.specs.Common.{usual, printed, printed_captured, lines_of, last_page, last_page_captured}

abbrev pub root_module : Module
root_module = record {
  imports = importing
      ("$" ∷ "Slot" ∷ "component$" ∷ "createContextId" ∷ "noSerialize" ∷ "useComputed$" ∷ "useContext" ∷ "useContextProvider" ∷ "useSignal" ∷ "useStore" ∷ "useTask$" ∷ []) "@builder.io/qwik" ∷ [];
  items = item true "App"
      (post (name "component$")
      (call (arrow 0 []
      (block (
      const (plain "s") (post (name "useSignal") (call (text "" ∷ []) ∷ [])) ∷
      give_back (element "p"
      (
      ("id", text "p") ∷
      ("title", post (name "s") (dot "value" ∷ [])) ∷ (
        "onInput$",
        arrow 1 (plain "e" ∷ [])
            (block (do_it (assign AssignOp.Set (post (name "s") (dot "value" ∷ [])) (post (name "e") (dot "value" ∷ []))) ∷ [])),
      ) ∷
      [])
      (post (name "s") (dot "value" ∷ dot "length" ∷ []) ∷ text ":" ∷ post (name "s") (dot "value" ∷ []) ∷ [])) ∷
      [])) ∷ []) ∷ [])) ∷ [];
}

abbrev pub modules : List Named_module
modules = (codes "root", root_module) ∷ []

abbrev pub script : List Line
script = Happens (record { kind = codes "input"; id = codes "p"; value = Some (60 ∷ 47 ∷ 115 ∷ 99 ∷ 114 ∷ 105 ∷ 112 ∷ 116 ∷ 62 ∷ 38 ∷ 34 ∷ 240 ∷ 159 ∷ 152 ∷ 128 ∷ []) }) ∷ Pauses ∷ Happens (record { kind = codes "input"; id = codes "p"; value = Some (34 ∷ 240 ∷ 159 ∷ 152 ∷ 128 ∷ []) }) ∷ []

-- what is printed, in the reading with whole scopes
shown : printed modules usual script ≡ lines_of (
    codes "item 0" ∷
    codes "html <p id=\"p\" title=\"\">0:</p>" ∷
    codes "item 1" ∷
    (104 ∷ 116 ∷ 109 ∷ 108 ∷ 32 ∷ 60 ∷ 112 ∷ 32 ∷ 105 ∷ 100 ∷ 61 ∷ 34 ∷ 112 ∷ 34 ∷ 32 ∷ 116 ∷ 105 ∷ 116 ∷ 108 ∷ 101 ∷ 61 ∷ 34 ∷ 38 ∷ 108 ∷ 116 ∷ 59 ∷ 47 ∷ 115 ∷ 99 ∷ 114 ∷ 105 ∷ 112 ∷ 116 ∷ 38 ∷ 103 ∷ 116 ∷ 59 ∷ 38 ∷ 97 ∷ 109 ∷ 112 ∷ 59 ∷ 38 ∷ 113 ∷ 117 ∷ 111 ∷ 116 ∷ 59 ∷ 240 ∷ 159 ∷ 152 ∷ 128 ∷ 34 ∷ 62 ∷ 49 ∷ 51 ∷ 58 ∷ 38 ∷ 108 ∷ 116 ∷ 59 ∷ 47 ∷ 115 ∷ 99 ∷ 114 ∷ 105 ∷ 112 ∷ 116 ∷ 38 ∷ 103 ∷ 116 ∷ 59 ∷ 38 ∷ 97 ∷ 109 ∷ 112 ∷ 59 ∷ 34 ∷ 240 ∷ 159 ∷ 152 ∷ 128 ∷ 60 ∷ 47 ∷ 112 ∷ 62 ∷ []) ∷
    codes "item 2" ∷
    codes "paused" ∷
    codes "item 3" ∷
    (104 ∷ 116 ∷ 109 ∷ 108 ∷ 32 ∷ 60 ∷ 112 ∷ 32 ∷ 105 ∷ 100 ∷ 61 ∷ 34 ∷ 112 ∷ 34 ∷ 32 ∷ 116 ∷ 105 ∷ 116 ∷ 108 ∷ 101 ∷ 61 ∷ 34 ∷ 38 ∷ 113 ∷ 117 ∷ 111 ∷ 116 ∷ 59 ∷ 240 ∷ 159 ∷ 152 ∷ 128 ∷ 34 ∷ 62 ∷ 51 ∷ 58 ∷ 34 ∷ 240 ∷ 159 ∷ 152 ∷ 128 ∷ 60 ∷ 47 ∷ 112 ∷ 62 ∷ []) ∷
    [])
shown = refl

-- the same in the reading with captured values
shown_captured : printed_captured modules usual script ≡ lines_of (
    codes "item 0" ∷
    codes "html <p id=\"p\" title=\"\">0:</p>" ∷
    codes "item 1" ∷
    (104 ∷ 116 ∷ 109 ∷ 108 ∷ 32 ∷ 60 ∷ 112 ∷ 32 ∷ 105 ∷ 100 ∷ 61 ∷ 34 ∷ 112 ∷ 34 ∷ 32 ∷ 116 ∷ 105 ∷ 116 ∷ 108 ∷ 101 ∷ 61 ∷ 34 ∷ 38 ∷ 108 ∷ 116 ∷ 59 ∷ 47 ∷ 115 ∷ 99 ∷ 114 ∷ 105 ∷ 112 ∷ 116 ∷ 38 ∷ 103 ∷ 116 ∷ 59 ∷ 38 ∷ 97 ∷ 109 ∷ 112 ∷ 59 ∷ 38 ∷ 113 ∷ 117 ∷ 111 ∷ 116 ∷ 59 ∷ 240 ∷ 159 ∷ 152 ∷ 128 ∷ 34 ∷ 62 ∷ 49 ∷ 51 ∷ 58 ∷ 38 ∷ 108 ∷ 116 ∷ 59 ∷ 47 ∷ 115 ∷ 99 ∷ 114 ∷ 105 ∷ 112 ∷ 116 ∷ 38 ∷ 103 ∷ 116 ∷ 59 ∷ 38 ∷ 97 ∷ 109 ∷ 112 ∷ 59 ∷ 34 ∷ 240 ∷ 159 ∷ 152 ∷ 128 ∷ 60 ∷ 47 ∷ 112 ∷ 62 ∷ []) ∷
    codes "item 2" ∷
    codes "paused" ∷
    codes "item 3" ∷
    (104 ∷ 116 ∷ 109 ∷ 108 ∷ 32 ∷ 60 ∷ 112 ∷ 32 ∷ 105 ∷ 100 ∷ 61 ∷ 34 ∷ 112 ∷ 34 ∷ 32 ∷ 116 ∷ 105 ∷ 116 ∷ 108 ∷ 101 ∷ 61 ∷ 34 ∷ 38 ∷ 113 ∷ 117 ∷ 111 ∷ 116 ∷ 59 ∷ 240 ∷ 159 ∷ 152 ∷ 128 ∷ 34 ∷ 62 ∷ 51 ∷ 58 ∷ 34 ∷ 240 ∷ 159 ∷ 152 ∷ 128 ∷ 60 ∷ 47 ∷ 112 ∷ 62 ∷ []) ∷
    [])
shown_captured = refl

-- the page of the last world
abbrev pub page_shown : Text
page_shown = 60 ∷ 100 ∷ 105 ∷ 118 ∷ 32 ∷ 113 ∷ 58 ∷ 99 ∷ 111 ∷ 110 ∷ 116 ∷ 97 ∷ 105 ∷ 110 ∷ 101 ∷ 114 ∷ 61 ∷ 34 ∷ 112 ∷ 97 ∷ 117 ∷ 115 ∷ 101 ∷ 100 ∷ 34 ∷ 32 ∷ 113 ∷ 58 ∷ 118 ∷ 101 ∷ 114 ∷ 115 ∷ 105 ∷ 111 ∷ 110 ∷ 61 ∷ 34 ∷ 49 ∷ 34 ∷ 32 ∷ 113 ∷ 58 ∷ 98 ∷ 97 ∷ 115 ∷ 101 ∷ 61 ∷ 34 ∷ 98 ∷ 117 ∷ 105 ∷ 108 ∷ 100 ∷ 47 ∷ 34 ∷ 62 ∷ 60 ∷ 33 ∷ 45 ∷ 45 ∷ 113 ∷ 105 ∷ 32 ∷ 48 ∷ 45 ∷ 45 ∷ 62 ∷ 60 ∷ 112 ∷ 32 ∷ 105 ∷ 100 ∷ 61 ∷ 34 ∷ 112 ∷ 34 ∷ 32 ∷ 116 ∷ 105 ∷ 116 ∷ 108 ∷ 101 ∷ 61 ∷ 34 ∷ 38 ∷ 113 ∷ 117 ∷ 111 ∷ 116 ∷ 59 ∷ 240 ∷ 159 ∷ 152 ∷ 128 ∷ 34 ∷ 32 ∷ 111 ∷ 110 ∷ 58 ∷ 105 ∷ 110 ∷ 112 ∷ 117 ∷ 116 ∷ 61 ∷ 34 ∷ 114 ∷ 111 ∷ 111 ∷ 116 ∷ 95 ∷ 115 ∷ 50 ∷ 46 ∷ 106 ∷ 115 ∷ 35 ∷ 114 ∷ 111 ∷ 111 ∷ 116 ∷ 95 ∷ 115 ∷ 50 ∷ 91 ∷ 48 ∷ 93 ∷ 34 ∷ 62 ∷ 51 ∷ 58 ∷ 34 ∷ 240 ∷ 159 ∷ 152 ∷ 128 ∷ 60 ∷ 47 ∷ 112 ∷ 62 ∷ 60 ∷ 33 ∷ 45 ∷ 45 ∷ 47 ∷ 113 ∷ 105 ∷ 45 ∷ 45 ∷ 62 ∷ 60 ∷ 115 ∷ 99 ∷ 114 ∷ 105 ∷ 112 ∷ 116 ∷ 32 ∷ 116 ∷ 121 ∷ 112 ∷ 101 ∷ 61 ∷ 34 ∷ 113 ∷ 119 ∷ 105 ∷ 107 ∷ 47 ∷ 106 ∷ 115 ∷ 111 ∷ 110 ∷ 34 ∷ 62 ∷ 123 ∷ 34 ∷ 99 ∷ 97 ∷ 112 ∷ 115 ∷ 34 ∷ 58 ∷ 91 ∷ 91 ∷ 34 ∷ 114 ∷ 34 ∷ 44 ∷ 49 ∷ 93 ∷ 93 ∷ 44 ∷ 34 ∷ 104 ∷ 101 ∷ 97 ∷ 112 ∷ 34 ∷ 58 ∷ 91 ∷ 91 ∷ 34 ∷ 112 ∷ 34 ∷ 93 ∷ 44 ∷ 91 ∷ 34 ∷ 115 ∷ 34 ∷ 44 ∷ 34 ∷ 92 ∷ 34 ∷ 240 ∷ 159 ∷ 152 ∷ 128 ∷ 34 ∷ 93 ∷ 93 ∷ 44 ∷ 34 ∷ 105 ∷ 110 ∷ 115 ∷ 116 ∷ 34 ∷ 58 ∷ 91 ∷ 91 ∷ 34 ∷ 114 ∷ 111 ∷ 111 ∷ 116 ∷ 95 ∷ 115 ∷ 49 ∷ 34 ∷ 44 ∷ 48 ∷ 44 ∷ 91 ∷ 91 ∷ 34 ∷ 118 ∷ 34 ∷ 44 ∷ 91 ∷ 34 ∷ 114 ∷ 34 ∷ 44 ∷ 49 ∷ 93 ∷ 93 ∷ 93 ∷ 44 ∷ 91 ∷ 34 ∷ 101 ∷ 34 ∷ 44 ∷ 34 ∷ 112 ∷ 34 ∷ 44 ∷ 110 ∷ 117 ∷ 108 ∷ 108 ∷ 44 ∷ 34 ∷ 34 ∷ 44 ∷ 91 ∷ 34 ∷ 105 ∷ 100 ∷ 34 ∷ 44 ∷ 34 ∷ 112 ∷ 34 ∷ 44 ∷ 34 ∷ 116 ∷ 105 ∷ 116 ∷ 108 ∷ 101 ∷ 34 ∷ 44 ∷ 34 ∷ 92 ∷ 34 ∷ 240 ∷ 159 ∷ 152 ∷ 128 ∷ 34 ∷ 44 ∷ 34 ∷ 111 ∷ 110 ∷ 73 ∷ 110 ∷ 112 ∷ 117 ∷ 116 ∷ 36 ∷ 34 ∷ 44 ∷ 91 ∷ 34 ∷ 102 ∷ 34 ∷ 44 ∷ 34 ∷ 114 ∷ 111 ∷ 111 ∷ 116 ∷ 95 ∷ 115 ∷ 50 ∷ 34 ∷ 44 ∷ 91 ∷ 34 ∷ 114 ∷ 34 ∷ 44 ∷ 49 ∷ 93 ∷ 93 ∷ 93 ∷ 44 ∷ 91 ∷ 51 ∷ 44 ∷ 34 ∷ 58 ∷ 34 ∷ 44 ∷ 34 ∷ 92 ∷ 34 ∷ 240 ∷ 159 ∷ 152 ∷ 128 ∷ 34 ∷ 93 ∷ 93 ∷ 44 ∷ 91 ∷ 91 ∷ 49 ∷ 44 ∷ 34 ∷ 118 ∷ 97 ∷ 108 ∷ 117 ∷ 101 ∷ 34 ∷ 93 ∷ 93 ∷ 93 ∷ 93 ∷ 125 ∷ 60 ∷ 47 ∷ 115 ∷ 99 ∷ 114 ∷ 105 ∷ 112 ∷ 116 ∷ 62 ∷ 60 ∷ 47 ∷ 100 ∷ 105 ∷ 118 ∷ 62 ∷ 10 ∷ []

paged : last_page modules script ≡ page_shown
paged = refl

paged_captured : last_page_captured modules script ≡ page_shown
paged_captured = refl
