-- Imports that one arrow alone uses, exports that a segment needs, a component that stands twice.
use Rattle.std.specs.Prelude.{◌≡◌, refl, true, false, List, [], ◌∷◌, codes}
use Rattle.std.specs.Fmt.{digits}
use Rattle.qk_ast.specs.declared.Module.{Module}
use Rattle.qk_ast.specs.declared.Bin.{Bin}
use Rattle.qk_ast.specs.declared.Un.{Un}
use Rattle.qk_ast.specs.declared.AssignOp.{AssignOp}
use Rattle.qk_ast.specs.declared.Known.{Known}
use Rattle.qk_ast.specs.Sources.{Named_module}
use Rattle.qk_lifting.specs.Files.{built_files}
use Rattle.qk_lifting.proofs.Rows.Keeping.{keeps}
use Rattle.qk_meaning_rows.specs.Trees.{int, name, text, list_of, record_of, template, unary, chain, choice, post, dot, call, assign, step, known, gives, block, plain, arrow, element, component, fragment, const, do_it, give_back, importing, item}
use Rattle.qk_lifting.proofs.Rows.Written.{file}

abbrev root_module : Module
root_module = record {
  imports =
      importing ("component$" ∷ "useSignal" ∷ "Slot" ∷ []) "@builder.io/qwik" ∷
      importing ("Cell" ∷ "step" ∷ []) "./cell.jsx" ∷
      importing ("limit" ∷ "unused" ∷ []) "./a.jsx" ∷
      [];
  items =
      item false "unseen" (int 7) ∷
      item false "start" (record_of (("at", int 3) ∷ ("list", list_of (int 1 ∷ unary Un.Neg (int 2) ∷ [])) ∷ [])) ∷
      item true "shown" (text "a\"b") ∷
      item true "App"
      (post (name "component$")
      (call (arrow 0 []
      (block (
      const (plain "n") (post (name "useSignal") (call (post (name "start") (dot "at" ∷ []) ∷ []) ∷ [])) ∷
      give_back (element "main" (("class", text "x") ∷ [])
      (
      component "Cell" (("n", name "n") ∷ []) [] ∷
      component "Cell" (("n", name "n") ∷ []) (element "b" (("q:slot", text "s") ∷ []) (name "shown" ∷ []) ∷ []) ∷
      element "button"
      ((
        "onClick$",
        arrow 1 []
            (block (do_it (assign AssignOp.Set (post (name "n") (dot "value" ∷ []))
            (post (name "step") (call (post (name "n") (dot "value" ∷ []) ∷ name "limit" ∷ []) ∷ []))) ∷ [])),
      ) ∷ []) [] ∷
      [])) ∷
      [])) ∷ []) ∷ [])) ∷
      [];
}

abbrev cell_module : Module
cell_module = record {
  imports = importing ("component$" ∷ "Slot" ∷ "useComputed$" ∷ []) "@builder.io/qwik" ∷ importing ("limit" ∷ []) "./a.jsx" ∷ [];
  items =
      item false "by" (arrow 0 (plain "n" ∷ []) (gives (chain (name "n") ((Bin.Add, int 1) ∷ [])))) ∷
      item true "step"
      (arrow 1 (plain "n" ∷ plain "m" ∷ [])
      (gives (choice (chain (name "n") ((Bin.Less, name "m") ∷ [])) (post (name "by") (call (name "n" ∷ []) ∷ [])) (name "limit")))) ∷
      item true "Cell"
      (post (name "component$")
      (call (arrow 2 (plain "props" ∷ [])
      (block (
      const (plain "half")
      (post (name "useComputed$")
      (call (arrow 3 [] (gives (known Known.Trunc (post (name "props") (dot "n" ∷ dot "value" ∷ []) ∷ int 2 ∷ []))) ∷ []) ∷ [])) ∷
      give_back (fragment (
      element "p"
      (("id", text "c") ∷ ("onClick$", arrow 4 [] (gives (step true (post (name "props") (dot "n" ∷ dot "value" ∷ []))))) ∷ [])
      (post (name "half") (dot "value" ∷ []) ∷ text " of " ∷ template ("" ∷ "" ∷ []) (name "limit" ∷ []) ∷ []) ∷
      component "Slot" (("name", text "s") ∷ []) [] ∷
      [])) ∷
      [])) ∷ []) ∷ [])) ∷
      [];
}

abbrev a_module : Module
a_module = record { imports = []; items = item true "limit" (int 10) ∷ item true "unused" (list_of []) ∷ [] }

abbrev pub modules : List Named_module
modules = (codes "root", root_module) ∷ (codes "cell", cell_module) ∷ (codes "a", a_module) ∷ []

built : built_files modules ≡
    file "build/root.js" "import { componentQrl, qrl } from \"@builder.io/qwik\";\nconst unseen = 7;\nexport const start = { \"at\": 3, \"list\": [1, -2] };\nexport const shown = \"a\\\"b\";\nexport const App = componentQrl(qrl(\"root_s1\", []));\n" ∷
    file "build/root_s1.js" "import { qrl, useSignal } from \"@builder.io/qwik\";\nimport { Cell } from \"./cell.js\";\nimport { shown, start } from \"./root.js\";\nexport const root_s1 = () => { const n = useSignal(start.at); return <main class={\"x\"}><Cell n={n}/><Cell n={n}><b q:slot={\"s\"}>{shown}</b></Cell><button onClick$={qrl(\"root_s2\", [n])}/></main>; };\n" ∷
    file "build/root_s2.js" "import { useLexicalScope } from \"@builder.io/qwik\";\nimport { limit } from \"./a.js\";\nimport { step } from \"./cell.js\";\nexport const root_s2 = () => { const [n] = useLexicalScope(); n.value = step(n.value, limit); };\n" ∷
    file "build/cell.js" "import { componentQrl, qrl } from \"@builder.io/qwik\";\nimport { limit } from \"./a.js\";\nconst by = (n) => n + 1;\nexport const step = (n, m) => (n < m) ? by(n) : limit;\nexport const Cell = componentQrl(qrl(\"cell_s1\", []));\n" ∷
    file "build/cell_s1.js" "import { Slot, qrl, useComputedQrl } from \"@builder.io/qwik\";\nimport { limit } from \"./a.js\";\nexport const cell_s1 = (props) => { const half = useComputedQrl(qrl(\"cell_s2\", [props])); return <><p id={\"c\"} onClick$={qrl(\"cell_s3\", [props])}>{half.value}{\" of \"}{`${limit}`}</p><Slot name={\"s\"}/></>; };\n" ∷
    file "build/cell_s2.js" "import { useLexicalScope } from \"@builder.io/qwik\";\nexport const cell_s2 = () => { const [props] = useLexicalScope(); return Math.trunc(props.n.value / 2); };\n" ∷
    file "build/cell_s3.js" "import { useLexicalScope } from \"@builder.io/qwik\";\nexport const cell_s3 = () => { const [props] = useLexicalScope(); return props.n.value++; };\n" ∷
    file "build/a.js" "export const limit = 10;\nexport const unused = [];\n" ∷
    file "build/index.json" "{\"app\":\"root_s1\",\"symbols\":{\"cell_s1\":[\"component\",0,\"m\"],\"cell_s2\":[\"computed\",1,\"\"],\"cell_s3\":[\"fn\",1,\"\"],\"root_s1\":[\"component\",0,\"s\"],\"root_s2\":[\"fn\",1,\"\"]},\"version\":1}" ∷
    []
unfolding digits
built = refl

kept : keeps modules ≡ true
kept = refl
