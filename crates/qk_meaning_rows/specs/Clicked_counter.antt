-- A counter that is clicked three times, with what is printed of it.
use Rattle.std.specs.Prelude.{◌≡◌, true, List, [], ◌∷◌, codes, None}
use Rattle.qk_ast.specs.declared.Module.{Module}
use Rattle.qk_meaning.specs.Value.{Text}
use Rattle.qk_ast.specs.Sources.{Named_module}
use Rattle.qk_meaning.specs.Run.{Line, Happens}
use Rattle.qk_meaning_rows.specs.Trees.{int, name, text, list_of, post, dot, call, step, gives, block, plain, scope, arrow, element, const, give_back, importing, item}
use Rattle.qk_meaning_rows.specs.Common.{usual, printed, printed_captured, printed_built, lines_of}

abbrev pub root_module : Module
root_module = record {
  imports = importing
      ("$" ∷ "Slot" ∷ "component$" ∷ "createContextId" ∷ "noSerialize" ∷ "useComputed$" ∷ "useContext" ∷ "useContextProvider" ∷ "useSignal" ∷ "useStore" ∷ "useTask$" ∷ []) "@builder.io/qwik" ∷ [];
  items = item true "App"
      (post (name "component$")
      (call (arrow 0 []
      (block (
      const (plain "n") (post (name "useSignal") (call (int 0 ∷ []) ∷ [])) ∷
      give_back (element "button"
      (("id", text "b") ∷ ("onClick$", arrow 1 [] (gives (step true (post (name "n") (dot "value" ∷ []))))) ∷ []) (post (name "n") (dot "value" ∷ []) ∷ [])) ∷
      [])) ∷ []) ∷ [])) ∷ [];
}

abbrev pub modules : List Named_module
modules = (codes "root", root_module) ∷ []

abbrev pub script : List Line
script = Happens (record { kind = codes "click"; id = codes "b"; value = None }) ∷ Happens (record { kind = codes "click"; id = codes "b"; value = None }) ∷ Happens (record { kind = codes "click"; id = codes "b"; value = None }) ∷ []

abbrev pub built_root : Module
built_root = record {
  imports = importing ("componentQrl" ∷ "qrl" ∷ []) "@builder.io/qwik" ∷ [];
  items = item true "App" (post (name "componentQrl") (call (post (name "qrl") (call (text "root_s1" ∷ list_of [] ∷ []) ∷ []) ∷ []) ∷ [])) ∷ [];
}

abbrev pub built_root_s1 : Module
built_root_s1 = record {
  imports = importing ("qrl" ∷ "useSignal" ∷ []) "@builder.io/qwik" ∷ [];
  items = item true "root_s1"
      (arrow 0 []
      (block (
      const (plain "n") (post (name "useSignal") (call (int 0 ∷ []) ∷ [])) ∷
      give_back (element "button"
      (("id", text "b") ∷ ("onClick$", post (name "qrl") (call (text "root_s2" ∷ list_of (name "n" ∷ []) ∷ []) ∷ [])) ∷ []) (post (name "n") (dot "value" ∷ []) ∷ [])) ∷
      []))) ∷ [];
}

abbrev pub built_root_s2 : Module
built_root_s2 = record {
  imports = importing ("useLexicalScope" ∷ []) "@builder.io/qwik" ∷ [];
  items = item true "root_s2"
      (arrow 0 []
      (block (const (scope ("n" ∷ [])) (post (name "useLexicalScope") (call [] ∷ [])) ∷ give_back (step true (post (name "n") (dot "value" ∷ []))) ∷ []))) ∷ [];
}

abbrev pub built : List Named_module
built = (codes "root", built_root) ∷ (codes "root_s1", built_root_s1) ∷ (codes "root_s2", built_root_s2) ∷ []

-- the symbols of kind task
abbrev pub tasks : List Text
tasks = []

-- what is printed
abbrev pub blocks : Text
blocks = lines_of (
    codes "item 0" ∷
    codes "html <button id=\"b\">0</button>" ∷
    codes "item 1" ∷
    codes "html <button id=\"b\">1</button>" ∷
    codes "item 2" ∷
    codes "html <button id=\"b\">2</button>" ∷
    codes "item 3" ∷
    codes "html <button id=\"b\">3</button>" ∷
    [])

-- printed with whole scopes, with captured values, and of the built files
abbrev pub CounterIsShown : Type 0
CounterIsShown = (printed modules usual script ≡ blocks) × (printed_captured modules usual script ≡ blocks) × (printed_built tasks built usual script ≡ blocks)
