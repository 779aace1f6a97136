-- Dollar functions in one another, plain arrows in them, and names that hide others.
use Rattle.std.specs.Prelude.{◌≡◌, refl, true, false, List, [], ◌∷◌, codes}
use Rattle.std.specs.Fmt.{digits}
use Rattle.qk_ast.specs.declared.Module.{Module}
use Rattle.qk_ast.specs.declared.Bin.{Bin}
use Rattle.qk_ast.specs.declared.AssignOp.{AssignOp}
use Rattle.qk_ast.specs.Sources.{Named_module}
use Rattle.qk_lifting.specs.Files.{built_files}
use Rattle.qk_lifting.proofs.Rows.Keeping.{keeps}
use Rattle.qk_meaning_rows.specs.Trees.{int, name, text, list_of, record_of, chain, post, dot, call, assign, gives, block, plain, arrow, element, const, do_it, give_back, if_else, for_of, importing, item}
use Rattle.qk_lifting.proofs.Rows.Written.{file}

abbrev root_module : Module
root_module = record {
  imports = importing ("$" ∷ "component$" ∷ "useSignal" ∷ "useStore" ∷ []) "@builder.io/qwik" ∷ [];
  items =
      item false "twice" (arrow 0 (plain "n" ∷ []) (gives (chain (name "n") ((Bin.Mul, int 2) ∷ [])))) ∷
      item true "App"
      (post (name "component$")
      (call (arrow 1 (plain "props" ∷ [])
      (block (
      const (plain "x") (post (name "useSignal") (call (int 1 ∷ []) ∷ [])) ∷
      const (plain "st")
      (post (name "useStore") (call (record_of (("list", list_of (int 1 ∷ int 2 ∷ [])) ∷ ("a-b", record_of []) ∷ []) ∷ []) ∷ [])) ∷
      give_back (element "div" []
      (element "button"
      (
      ("id", text "b") ∷ (
        "onClick$",
        arrow 2 (plain "e" ∷ [])
            (block (
            const (plain "y") (post (name "x") (dot "value" ∷ [])) ∷
            const (plain "add")
            (arrow 3 (plain "x" ∷ [])
            (gives (chain (name "x") ((Bin.Add, name "y") ∷ (Bin.Add, post (name "twice") (call (name "x" ∷ []) ∷ [])) ∷ [])))) ∷
            for_of "n" (post (name "st") (dot "list" ∷ []))
            (
            const (plain "x") (name "n") ∷
            if_else (chain (name "x") ((Bin.More, int 1) ∷ []))
            (do_it (assign AssignOp.Set (post (name "st") (dot "sum" ∷ [])) (post (name "add") (call (name "x" ∷ []) ∷ []))) ∷ [])
            (do_it (assign AssignOp.Set (post (name "st") (dot "sum" ∷ [])) (int 0)) ∷ []) ∷
            []) ∷
            do_it (assign AssignOp.Set (post (name "st") (dot "f" ∷ []))
            (post (name "$")
            (call (arrow 4 (plain "k" ∷ [])
            (block (
            const (plain "z") (name "k") ∷
            give_back (post (name "$")
            (call (arrow 5 []
            (gives (record_of (
            ("y", name "y") ∷
            ("z", name "z") ∷ (
              "w",
              post (list_of (int 1 ∷ []))
                  (
                  dot "map" ∷
                  call (arrow 6 (plain "y" ∷ [])
                  (gives (chain (name "y")
                  ((Bin.Add, post (name "x") (dot "value" ∷ [])) ∷ (Bin.Add, name "z") ∷ []))) ∷ []) ∷
                  []),
            ) ∷
            []))) ∷ []) ∷ [])) ∷
            [])) ∷ []) ∷ []))) ∷
            [])),
      ) ∷
      [])
      (post (name "st")
      (
      dot "list" ∷
      dot "map" ∷
      call (arrow 7 (plain "n" ∷ [])
      (gives (element "i"
      (
      ("key", name "n") ∷
      ("onClick$", arrow 8 [] (gives (chain (name "n") ((Bin.Add, post (name "x") (dot "value" ∷ [])) ∷ [])))) ∷
      []) (name "n" ∷ []))) ∷ []) ∷
      []) ∷ []) ∷ [])) ∷
      [])) ∷ []) ∷ [])) ∷
      [];
}

abbrev pub modules : List Named_module
modules = (codes "root", root_module) ∷ []

built : built_files modules ≡
    file "build/root.js" "import { componentQrl, qrl } from \"@builder.io/qwik\";\nexport const twice = (n) => n * 2;\nexport const App = componentQrl(qrl(\"root_s1\", []));\n" ∷
    file "build/root_s1.js" "import { qrl, useSignal, useStore } from \"@builder.io/qwik\";\nexport const root_s1 = (props) => { const x = useSignal(1); const st = useStore({ \"list\": [1, 2], \"a-b\": { } }); return <div><button id={\"b\"} onClick$={qrl(\"root_s2\", [x, st])}>{st.list.map((n) => <i key={n} onClick$={qrl(\"root_s5\", [n, x])}>{n}</i>)}</button></div>; };\n" ∷
    file "build/root_s2.js" "import { qrl, useLexicalScope } from \"@builder.io/qwik\";\nimport { twice } from \"./root.js\";\nexport const root_s2 = (e) => { const [x, st] = useLexicalScope(); const y = x.value; const add = (x) => x + y + twice(x); for (const n of st.list) { const x = n; if (x > 1) { st.sum = add(x); } else { st.sum = 0; } } st.f = qrl(\"root_s3\", [y, x]); };\n" ∷
    file "build/root_s3.js" "import { qrl, useLexicalScope } from \"@builder.io/qwik\";\nexport const root_s3 = (k) => { const [y, x] = useLexicalScope(); const z = k; return qrl(\"root_s4\", [y, z, x]); };\n" ∷
    file "build/root_s4.js" "import { useLexicalScope } from \"@builder.io/qwik\";\nexport const root_s4 = () => { const [y, z, x] = useLexicalScope(); return { \"y\": y, \"z\": z, \"w\": [1].map((y) => y + x.value + z) }; };\n" ∷
    file "build/root_s5.js" "import { useLexicalScope } from \"@builder.io/qwik\";\nexport const root_s5 = () => { const [n, x] = useLexicalScope(); return n + x.value; };\n" ∷
    file "build/index.json" "{\"app\":\"root_s1\",\"symbols\":{\"root_s1\":[\"component\",0,\"so\"],\"root_s2\":[\"fn\",2,\"\"],\"root_s3\":[\"fn\",2,\"\"],\"root_s4\":[\"fn\",3,\"\"],\"root_s5\":[\"fn\",2,\"\"]},\"version\":1}" ∷
    []
unfolding digits
built = refl

kept : keeps modules ≡ true
kept = refl
