-- The files of a counter.
use Rattle.std.specs.Prelude.{◌≡◌, refl, true, List, [], ◌∷◌, codes}
use Rattle.std.specs.Fmt.{digits}
use Rattle.qk_ast.specs.declared.Module.{Module}
use Rattle.qk_ast.specs.Sources.{Named_module}
use Rattle.qk_lifting.specs.Files.{built_files}
use Rattle.qk_lifting.proofs.Rows.Keeping.{keeps}
use Rattle.qk_meaning_rows.specs.Trees.{int, name, text, post, dot, call, step, gives, block, plain, arrow, element, const, give_back, importing, item}
use Rattle.qk_lifting.proofs.Rows.Written.{file}

abbrev root_module : Module
root_module = record {
  imports = importing
      ("$" ∷ "Slot" ∷ "component$" ∷ "createContextId" ∷ "noSerialize" ∷ "useComputed$" ∷ "useContext" ∷ "useContextProvider" ∷ "useSignal" ∷ "useStore" ∷ "useTask$" ∷ []) "@builder.io/qwik" ∷ [];
  items = item true "App"
      (post (name "component$")
      (call (arrow 0 []
      (block (
      const (plain "n") (post (name "useSignal") (call (int 0 ∷ []) ∷ [])) ∷
      give_back (element "button"
      (("id", text "b") ∷ ("onClick$", arrow 1 [] (gives (step true (post (name "n") (dot "value" ∷ []))))) ∷ []) (post (name "n") (dot "value" ∷ []) ∷ [])) ∷
      [])) ∷ []) ∷ [])) ∷ [];
}

abbrev pub modules : List Named_module
modules = (codes "root", root_module) ∷ []

built : built_files modules ≡
    file "build/root.js" "import { componentQrl, qrl } from \"@builder.io/qwik\";\nexport const App = componentQrl(qrl(\"root_s1\", []));\n" ∷
    file "build/root_s1.js" "import { qrl, useSignal } from \"@builder.io/qwik\";\nexport const root_s1 = () => { const n = useSignal(0); return <button id={\"b\"} onClick$={qrl(\"root_s2\", [n])}>{n.value}</button>; };\n" ∷
    file "build/root_s2.js" "import { useLexicalScope } from \"@builder.io/qwik\";\nexport const root_s2 = () => { const [n] = useLexicalScope(); return n.value++; };\n" ∷
    file "build/index.json" "{\"app\":\"root_s1\",\"symbols\":{\"root_s1\":[\"component\",0,\"s\"],\"root_s2\":[\"fn\",1,\"\"]},\"version\":1}" ∷
    []
unfolding digits
built = refl

kept : keeps modules ≡ true
kept = refl
