-- A dollar function in a listener.
use Rattle.std.specs.Prelude.{◌≡◌, refl, true, List, [], ◌∷◌, codes}
use Rattle.std.specs.Fmt.{digits}
use Rattle.qk_ast.specs.declared.Module.{Module}
use Rattle.qk_ast.specs.declared.Expr.{Expr}
use Rattle.qk_ast.specs.declared.Bin.{Bin}
use Rattle.qk_ast.specs.declared.AssignOp.{AssignOp}
use Rattle.qk_ast.specs.declared.Known.{Known}
use Rattle.qk_ast.specs.Sources.{Named_module}
use Rattle.qk_lifting.specs.Files.{built_files}
use Rattle.qk_lifting.proofs.Rows.Keeping.{keeps}
use Rattle.qk_meaning_rows.specs.Trees.{int, name, text, chain, post, dot, call, assign, known, gives, block, plain, arrow, element, const, do_it, give_back, importing, item}
use Rattle.qk_lifting.proofs.Rows.Written.{file}

abbrev root_module : Module
root_module = record {
  imports = importing
      ("$" ∷ "Slot" ∷ "component$" ∷ "createContextId" ∷ "noSerialize" ∷ "useComputed$" ∷ "useContext" ∷ "useContextProvider" ∷ "useSignal" ∷ "useStore" ∷ "useTask$" ∷ []) "@builder.io/qwik" ∷ [];
  items = item true "App"
      (post (name "component$")
      (call (arrow 0 []
      (block (
      const (plain "f") (post (name "useSignal") (call (Expr.Null ∷ []) ∷ [])) ∷
      const (plain "x") (post (name "useSignal") (call (int 10 ∷ []) ∷ [])) ∷
      give_back (element "div" []
      (
      element "i"
      (
      ("id", text "m") ∷ (
        "onClick$",
        arrow 1 []
            (block (
            const (plain "k") (post (name "x") (dot "value" ∷ [])) ∷
            do_it (assign AssignOp.Set (post (name "f") (dot "value" ∷ []))
            (post (name "$")
            (call (arrow 2 (plain "d" ∷ [])
            (gives (chain (post (name "x") (dot "value" ∷ [])) ((Bin.Add, name "k") ∷ (Bin.Add, name "d") ∷ []))) ∷ []) ∷ []))) ∷
            do_it (assign AssignOp.Set (post (name "x") (dot "value" ∷ [])) (int 20)) ∷
            [])),
      ) ∷
      []) [] ∷
      element "i"
      (
      ("id", text "c") ∷
      ("onClick$", arrow 3 [] (block (do_it (known Known.Log (post (name "f") (dot "value" ∷ call (int 1 ∷ []) ∷ []) ∷ [])) ∷ []))) ∷
      []) [] ∷
      [])) ∷
      [])) ∷ []) ∷ [])) ∷ [];
}

abbrev pub modules : List Named_module
modules = (codes "root", root_module) ∷ []

built : built_files modules ≡
    file "build/root.js" "import { componentQrl, qrl } from \"@builder.io/qwik\";\nexport const App = componentQrl(qrl(\"root_s1\", []));\n" ∷
    file "build/root_s1.js" "import { qrl, useSignal } from \"@builder.io/qwik\";\nexport const root_s1 = () => { const f = useSignal(null); const x = useSignal(10); return <div><i id={\"m\"} onClick$={qrl(\"root_s2\", [x, f])}/><i id={\"c\"} onClick$={qrl(\"root_s4\", [f])}/></div>; };\n" ∷
    file "build/root_s2.js" "import { qrl, useLexicalScope } from \"@builder.io/qwik\";\nexport const root_s2 = () => { const [x, f] = useLexicalScope(); const k = x.value; f.value = qrl(\"root_s3\", [x, k]); x.value = 20; };\n" ∷
    file "build/root_s3.js" "import { useLexicalScope } from \"@builder.io/qwik\";\nexport const root_s3 = (d) => { const [x, k] = useLexicalScope(); return x.value + k + d; };\n" ∷
    file "build/root_s4.js" "import { useLexicalScope } from \"@builder.io/qwik\";\nexport const root_s4 = () => { const [f] = useLexicalScope(); console.log(f.value(1)); };\n" ∷
    file "build/index.json" "{\"app\":\"root_s1\",\"symbols\":{\"root_s1\":[\"component\",0,\"ss\"],\"root_s2\":[\"fn\",2,\"\"],\"root_s3\":[\"fn\",2,\"\"],\"root_s4\":[\"fn\",1,\"\"]},\"version\":1}" ∷
    []
unfolding digits
built = refl

kept : keeps modules ≡ true
kept = refl
