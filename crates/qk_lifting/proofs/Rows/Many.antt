-- More than nine symbols, and bodies of all forms.
use Rattle.std.specs.Prelude.{◌≡◌, refl, true, false, List, [], ◌∷◌, codes}
use Rattle.std.specs.Fmt.{digits}
use Rattle.qk_ast.specs.declared.Module.{Module}
use Rattle.qk_ast.specs.declared.Expr.{Expr}
use Rattle.qk_ast.specs.declared.Bin.{Bin}
use Rattle.qk_ast.specs.declared.AssignOp.{AssignOp}
use Rattle.qk_ast.specs.Sources.{Named_module}
use Rattle.qk_lifting.specs.Files.{built_files}
use Rattle.qk_lifting.proofs.Rows.Keeping.{keeps}
use Rattle.qk_meaning_rows.specs.Trees.{int, name, record_of, chain, post, dot, call, assign, gives, block, plain, fields, arrow, element, component, const, do_it, give_back, go_back, importing, item}
use Rattle.qk_lifting.proofs.Rows.Written.{file}

abbrev root_module : Module
root_module = record {
  imports = importing ("$" ∷ "component$" ∷ "useSignal" ∷ []) "@builder.io/qwik" ∷ [];
  items =
      item false "help" (arrow 0 (plain "n" ∷ []) (gives (name "n"))) ∷
      item false "Row" (post (name "component$") (call (arrow 1 [] (gives (element "i" [] [])) ∷ []) ∷ [])) ∷
      item true "App"
      (post (name "component$")
      (call (arrow 2 []
      (block (
      const (plain "s") (post (name "useSignal") (call (int 0 ∷ []) ∷ [])) ∷
      const (plain "a")
      (arrow 3 []
      (gives (chain
      (post (name "$") (call (arrow 4 [] (gives (post (name "s") (dot "value" ∷ []))) ∷ []) ∷ call [] ∷ []))
      ((
        Bin.Add,
        post (name "$")
            (call (arrow 5 (plain "n" ∷ []) (gives (post (name "help") (call (name "n" ∷ []) ∷ []))) ∷ []) ∷ call (int 2 ∷ []) ∷ []),
      ) ∷ [])))) ∷
      give_back (element "div"
      (
      ("onClick$", arrow 6 [] (gives (record_of (("a", post (name "s") (dot "value" ∷ [])) ∷ [])))) ∷
      ("onInput$", post (name "$") (call (arrow 7 [] (gives (post (name "s") (dot "value" ∷ []))) ∷ []) ∷ [])) ∷
      ("onBlur$", Expr.Null) ∷
      [])
      (
      element "i" (("onA$", arrow 8 [] (gives (post (name "s") (dot "value" ∷ [])))) ∷ []) [] ∷
      element "i" (("onA$", arrow 9 [] (gives (int 1))) ∷ []) [] ∷
      element "i" (("onA$", arrow 10 [] (block [])) ∷ []) [] ∷
      element "i" (("onA$", arrow 11 [] (gives (element "b" [] []))) ∷ []) [] ∷
      element "i"
      (("onA$", arrow 12 (plain "e" ∷ []) (block (do_it (assign AssignOp.Set (post (name "s") (dot "value" ∷ [])) (name "e")) ∷ []))) ∷ []) [] ∷
      element "i" (("onA$", arrow 13 [] (block (go_back ∷ []))) ∷ []) [] ∷
      element "i"
      (("onA$", arrow 14 (fields ("a" ∷ "b" ∷ []) ∷ plain "el" ∷ []) (gives (chain (name "a") ((Bin.Add, name "b") ∷ [])))) ∷ []) [] ∷
      post (name "a") (call [] ∷ []) ∷
      component "Row" [] [] ∷
      component "Row" [] [] ∷
      [])) ∷
      [])) ∷ []) ∷ [])) ∷
      [];
}

abbrev pub modules : List Named_module
modules = (codes "root", root_module) ∷ []

built : built_files modules ≡
    file "build/root.js" "import { componentQrl, qrl } from \"@builder.io/qwik\";\nexport const help = (n) => n;\nexport const Row = componentQrl(qrl(\"root_s1\", []));\nexport const App = componentQrl(qrl(\"root_s2\", []));\n" ∷
    file "build/root_s1.js" "export const root_s1 = () => <i/>;\n" ∷
    file "build/root_s2.js" "import { qrl, useSignal } from \"@builder.io/qwik\";\nimport { Row } from \"./root.js\";\nexport const root_s2 = () => { const s = useSignal(0); const a = () => qrl(\"root_s3\", [s])() + qrl(\"root_s4\", [])(2); return <div onClick$={qrl(\"root_s5\", [s])} onInput$={qrl(\"root_s6\", [s])} onBlur$={null}><i onA$={qrl(\"root_s7\", [s])}/><i onA$={qrl(\"root_s8\", [])}/><i onA$={qrl(\"root_s9\", [])}/><i onA$={qrl(\"root_s10\", [])}/><i onA$={qrl(\"root_s11\", [s])}/><i onA$={qrl(\"root_s12\", [])}/><i onA$={qrl(\"root_s13\", [])}/>{a()}<Row/><Row/></div>; };\n" ∷
    file "build/root_s3.js" "import { useLexicalScope } from \"@builder.io/qwik\";\nexport const root_s3 = () => { const [s] = useLexicalScope(); return s.value; };\n" ∷
    file "build/root_s4.js" "import { help } from \"./root.js\";\nexport const root_s4 = (n) => help(n);\n" ∷
    file "build/root_s5.js" "import { useLexicalScope } from \"@builder.io/qwik\";\nexport const root_s5 = () => { const [s] = useLexicalScope(); return { \"a\": s.value }; };\n" ∷
    file "build/root_s6.js" "import { useLexicalScope } from \"@builder.io/qwik\";\nexport const root_s6 = () => { const [s] = useLexicalScope(); return s.value; };\n" ∷
    file "build/root_s7.js" "import { useLexicalScope } from \"@builder.io/qwik\";\nexport const root_s7 = () => { const [s] = useLexicalScope(); return s.value; };\n" ∷
    file "build/root_s8.js" "export const root_s8 = () => 1;\n" ∷
    file "build/root_s9.js" "export const root_s9 = () => { };\n" ∷
    file "build/root_s10.js" "export const root_s10 = () => <b/>;\n" ∷
    file "build/root_s11.js" "import { useLexicalScope } from \"@builder.io/qwik\";\nexport const root_s11 = (e) => { const [s] = useLexicalScope(); s.value = e; };\n" ∷
    file "build/root_s12.js" "export const root_s12 = () => { return; };\n" ∷
    file "build/root_s13.js" "export const root_s13 = ({ a, b }, el) => a + b;\n" ∷
    file "build/index.json" "{\"app\":\"root_s2\",\"symbols\":{\"root_s1\":[\"component\",0,\"\"],\"root_s10\":[\"fn\",0,\"\"],\"root_s11\":[\"fn\",1,\"\"],\"root_s12\":[\"fn\",0,\"\"],\"root_s13\":[\"fn\",0,\"\"],\"root_s2\":[\"component\",0,\"s\"],\"root_s3\":[\"fn\",1,\"\"],\"root_s4\":[\"fn\",0,\"\"],\"root_s5\":[\"fn\",1,\"\"],\"root_s6\":[\"fn\",1,\"\"],\"root_s7\":[\"fn\",1,\"\"],\"root_s8\":[\"fn\",0,\"\"],\"root_s9\":[\"fn\",0,\"\"]},\"version\":1}" ∷
    []
unfolding digits
built = refl

kept : keeps modules ≡ true
kept = refl
