-- Tasks, computeds and contexts.
use Rattle.std.specs.Prelude.{◌≡◌, refl, true, false, List, [], ◌∷◌, codes}
use Rattle.std.specs.Fmt.{digits}
use Rattle.qk_ast.specs.declared.Module.{Module}
use Rattle.qk_ast.specs.declared.Bin.{Bin}
use Rattle.qk_ast.specs.declared.AssignOp.{AssignOp}
use Rattle.qk_ast.specs.declared.Known.{Known}
use Rattle.qk_ast.specs.Sources.{Named_module}
use Rattle.qk_lifting.specs.Files.{built_files}
use Rattle.qk_lifting.proofs.Rows.Keeping.{keeps}
use Rattle.qk_meaning_rows.specs.Trees.{int, name, text, record_of, chain, post, dot, call, assign, step, known, gives, block, plain, fields, arrow, element, component, const, do_it, give_back, importing, item}
use Rattle.qk_lifting.proofs.Rows.Written.{file}

abbrev root_module : Module
root_module = record {
  imports = importing
      ("$" ∷ "component$" ∷ "createContextId" ∷ "noSerialize" ∷ "useComputed$" ∷ "useContext" ∷ "useContextProvider" ∷ "useSignal" ∷ "useStore" ∷ "useTask$" ∷ []) "@builder.io/qwik" ∷ [];
  items =
      item true "Ctx" (post (name "createContextId") (call (text "ctx" ∷ []) ∷ [])) ∷
      item false "Other" (post (name "createContextId") (call (text "other" ∷ []) ∷ [])) ∷
      item false "Inner"
      (post (name "component$")
      (call (arrow 0 []
      (block (
      const (plain "s") (post (name "useContext") (call (name "Ctx" ∷ []) ∷ [])) ∷
      const (plain "o") (post (name "useContext") (call (name "Other" ∷ []) ∷ [])) ∷
      give_back (element "p" [] (post (name "s") (dot "value" ∷ []) ∷ post (name "o") (dot "n" ∷ []) ∷ [])) ∷
      [])) ∷ []) ∷ [])) ∷
      item true "App"
      (post (name "component$")
      (call (arrow 1 []
      (block (
      const (plain "s") (post (name "useSignal") (call (int 0 ∷ []) ∷ [])) ∷
      const (plain "seen") (post (name "useStore") (call (record_of (("n", int 0) ∷ []) ∷ []) ∷ [])) ∷
      do_it (post (name "useContextProvider") (call (name "Ctx" ∷ name "s" ∷ []) ∷ [])) ∷
      do_it (post (name "useContextProvider") (call (name "Other" ∷ name "seen" ∷ []) ∷ [])) ∷
      do_it (post (name "useTask$")
      (call (arrow 2 (fields ("track" ∷ []) ∷ [])
      (block (
      const (plain "v") (post (name "track") (call (arrow 3 [] (gives (post (name "s") (dot "value" ∷ []))) ∷ []) ∷ [])) ∷
      do_it (assign AssignOp.Set (post (name "seen") (dot "n" ∷ [])) (name "v")) ∷
      do_it (assign AssignOp.Set (post (name "seen") (dot "f" ∷ []))
      (post (name "noSerialize") (call (arrow 4 [] (gives (name "v")) ∷ []) ∷ []))) ∷
      [])) ∷ []) ∷ [])) ∷
      do_it (post (name "useTask$") (call (arrow 5 [] (block (do_it (known Known.Log (text "mounted" ∷ [])) ∷ [])) ∷ []) ∷ [])) ∷
      const (plain "c")
      (post (name "useComputed$")
      (call (arrow 6 [] (gives (chain (post (name "s") (dot "value" ∷ [])) ((Bin.Add, post (name "seen") (dot "n" ∷ [])) ∷ []))) ∷ []) ∷ [])) ∷
      give_back (element "button"
      (("id", text "b") ∷ ("onClick$", arrow 7 [] (gives (step true (post (name "s") (dot "value" ∷ []))))) ∷ [])
      (post (name "c") (dot "value" ∷ []) ∷ component "Inner" [] [] ∷ [])) ∷
      [])) ∷ []) ∷ [])) ∷
      [];
}

abbrev pub modules : List Named_module
modules = (codes "root", root_module) ∷ []

built : built_files modules ≡
    file "build/root.js" "import { componentQrl, createContextId, qrl } from \"@builder.io/qwik\";\nexport const Ctx = createContextId(\"ctx\");\nexport const Other = createContextId(\"other\");\nexport const Inner = componentQrl(qrl(\"root_s1\", []));\nexport const App = componentQrl(qrl(\"root_s2\", []));\n" ∷
    file "build/root_s1.js" "import { useContext } from \"@builder.io/qwik\";\nimport { Ctx, Other } from \"./root.js\";\nexport const root_s1 = () => { const s = useContext(Ctx); const o = useContext(Other); return <p>{s.value}{o.n}</p>; };\n" ∷
    file "build/root_s2.js" "import { qrl, useComputedQrl, useContextProvider, useSignal, useStore, useTaskQrl } from \"@builder.io/qwik\";\nimport { Ctx, Inner, Other } from \"./root.js\";\nexport const root_s2 = () => { const s = useSignal(0); const seen = useStore({ \"n\": 0 }); useContextProvider(Ctx, s); useContextProvider(Other, seen); useTaskQrl(qrl(\"root_s3\", [s, seen])); useTaskQrl(qrl(\"root_s4\", [])); const c = useComputedQrl(qrl(\"root_s5\", [s, seen])); return <button id={\"b\"} onClick$={qrl(\"root_s6\", [s])}>{c.value}<Inner/></button>; };\n" ∷
    file "build/root_s3.js" "import { noSerialize, useLexicalScope } from \"@builder.io/qwik\";\nexport const root_s3 = ({ track }) => { const [s, seen] = useLexicalScope(); const v = track(() => s.value); seen.n = v; seen.f = noSerialize(() => v); };\n" ∷
    file "build/root_s4.js" "export const root_s4 = () => { console.log(\"mounted\"); };\n" ∷
    file "build/root_s5.js" "import { useLexicalScope } from \"@builder.io/qwik\";\nexport const root_s5 = () => { const [s, seen] = useLexicalScope(); return s.value + seen.n; };\n" ∷
    file "build/root_s6.js" "import { useLexicalScope } from \"@builder.io/qwik\";\nexport const root_s6 = () => { const [s] = useLexicalScope(); return s.value++; };\n" ∷
    file "build/index.json" "{\"app\":\"root_s2\",\"symbols\":{\"root_s1\":[\"component\",0,\"gg\"],\"root_s2\":[\"component\",0,\"soxxttm\"],\"root_s3\":[\"task\",2,\"\"],\"root_s4\":[\"task\",0,\"\"],\"root_s5\":[\"computed\",2,\"\"],\"root_s6\":[\"fn\",1,\"\"]},\"version\":1}" ∷
    []
unfolding digits
built = refl

kept : keeps modules ≡ true
kept = refl
