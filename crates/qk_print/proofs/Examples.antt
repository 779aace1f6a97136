-- Small modules and their texts.
use Rattle.std.specs.Prelude.{◌≡◌, refl, pos, true, false, List, [], ◌∷◌, Some, None, codes}
use Rattle.qk_ast.specs.declared.Body.TheBlock.{shape-the_row-Expr-0, hidden-the_row-Expr-0, hidden-the_row-Expr-2, hidden-the_row-Stmt-1, hidden-the_row-Field-3, hidden-the_row-Operand-4, hidden-the_row-Link-5, shape-the_row-Arrow-6, hidden-the_row-Arrow-6, shape-the_row-Jsx-7, hidden-the_row-Jsx-7}
use denote.Hole.Carrier.{hidden, roll}
use Rattle.std.specs.Fmt.{digits}
use Rattle.qk_ast.specs.declared.Import.{Import}
use Rattle.qk_ast.specs.declared.Expr.{Expr}
use Rattle.qk_ast.specs.declared.Expr.TheVariants as e
use Rattle.qk_ast.specs.declared.Stmt.TheVariants as s
use Rattle.qk_ast.specs.declared.Link.TheVariants as l
use Rattle.qk_ast.specs.declared.Body.TheVariants as b
use Rattle.qk_ast.specs.declared.Body.{Body}
use Rattle.qk_ast.specs.declared.Pattern.{Pattern}
use Rattle.qk_ast.specs.declared.Pattern.TheVariants as p
use Rattle.qk_ast.specs.declared.Tag.{Tag}
use Rattle.qk_ast.specs.declared.Tag.TheVariants as t
use Rattle.qk_ast.specs.declared.Bin.{Bin}
use Rattle.qk_ast.specs.declared.Bin.TheVariants as bin
use Rattle.qk_ast.specs.declared.Un.TheVariants as un
use Rattle.qk_ast.specs.declared.AssignOp.TheVariants as assign
use Rattle.qk_ast.specs.declared.Known.TheVariants as known
use Rattle.qk_ast.specs.declared.Field.{Field}
use Rattle.qk_ast.specs.declared.Jsx.{roll-Jsx}
use Rattle.qk_print.specs.Letters.{Text}
use Rattle.qk_print.specs.Printing.{print_text, expression_text, statement_text}

abbrev arrow : List Pattern → Body → Expr
arrow ps body = e.Arrow (record { place = 0; params = ps; body = body })

abbrev jsx : Tag → List Field → List Expr → Expr
jsx tag fs xs = e.Jsx (roll-Jsx (record { tag = tag; attrs = fs; children = xs }))

abbrev named : Text → Expr
named a = e.Name a

abbrev after : Expr → Bin → Expr → Expr
after x op y = e.Chain x (record { op = op; value = y } ∷ [])

abbrev of : Expr → Text → Expr
of x a = e.Post x (l.Prop a ∷ [])

abbrev called : Text → List Expr → Expr
called f xs = e.Post (named f) (l.Call xs ∷ [])

abbrev empty_element : Expr
empty_element = jsx (t.Element (codes "a")) [] []

-- `const a = 10 - (3 - 1);`
operands_row : print_text (record { imports = []; items = record { exported = false; name = codes "a"; init = after (e.Int (pos 10)) bin.Sub (after (e.Int (pos 3)) bin.Sub (e.Int (pos 1))) } ∷ [] }) ≡ codes "const a = 10 - (3 - 1);\n"
unfolding shape-the_row-Expr-0 hidden-the_row-Expr-0 hidden-the_row-Operand-4 hidden digits
operands_row = refl

abbrev qwik : List Text → List Import
qwik names = record { names = names; from = codes "@builder.io/qwik" } ∷ []

-- the three built files of the counter
counter_remainder : print_text (record {
  imports = qwik (codes "componentQrl" ∷ codes "qrl" ∷ []);
  items = record {
    exported = true;
    name = codes "App";
    init = called (codes "componentQrl") (called (codes "qrl") (e.Text (codes "root_s1") ∷ e.List [] ∷ []) ∷ []);
  } ∷ [];
})
    ≡ codes "import { componentQrl, qrl } from \"@builder.io/qwik\";\nexport const App = componentQrl(qrl(\"root_s1\", []));\n"
unfolding shape-the_row-Expr-0 hidden-the_row-Expr-0 hidden-the_row-Expr-2 hidden-the_row-Link-5 hidden
counter_remainder = refl

counter_component : print_text (record {
  imports = qwik (codes "qrl" ∷ codes "useSignal" ∷ []);
  items = record {
    exported = true;
    name = codes "root_s1";
    init = arrow [] (b.Block (s.Const (p.Name (codes "n")) (called (codes "useSignal") (e.Int (pos 0) ∷ [])) ∷ s.Return (Some (jsx (t.Element (codes "button"))
        (record { key = codes "id"; value = e.Text (codes "b") } ∷ record { key = codes "onClick$"; value = called (codes "qrl") (e.Text (codes "root_s2") ∷ e.List (named (codes "n") ∷ []) ∷ []) } ∷ [])
        (of (named (codes "n")) (codes "value") ∷ []))) ∷ []));
  } ∷ [];
})
    ≡ codes "import { qrl, useSignal } from \"@builder.io/qwik\";\nexport const root_s1 = () => { const n = useSignal(0); return <button id={\"b\"} onClick$={qrl(\"root_s2\", [n])}>{n.value}</button>; };\n"
unfolding shape-the_row-Expr-0 hidden-the_row-Expr-0 hidden-the_row-Expr-2 hidden-the_row-Stmt-1 hidden-the_row-Field-3 hidden-the_row-Link-5 shape-the_row-Arrow-6 hidden-the_row-Arrow-6 shape-the_row-Jsx-7 hidden-the_row-Jsx-7 roll-Jsx hidden roll digits
counter_component = refl

counter_listener : print_text (record {
  imports = qwik (codes "useLexicalScope" ∷ []);
  items = record {
    exported = true;
    name = codes "root_s2";
    init = arrow [] (b.Block (s.Const (p.Scope (codes "n" ∷ [])) (called (codes "useLexicalScope") []) ∷ s.Return (Some (e.Step true (of (named (codes "n")) (codes "value")))) ∷ []));
  } ∷ [];
})
    ≡ codes "import { useLexicalScope } from \"@builder.io/qwik\";\nexport const root_s2 = () => { const [n] = useLexicalScope(); return n.value++; };\n"
unfolding shape-the_row-Expr-0 hidden-the_row-Expr-0 hidden-the_row-Expr-2 hidden-the_row-Stmt-1 hidden-the_row-Link-5 shape-the_row-Arrow-6 hidden-the_row-Arrow-6 hidden
counter_listener = refl

-- parentheses of operands
abbrev signs : Expr
signs = e.Cond (after (e.Unary un.Neg (named (codes "a"))) bin.Less (of (named (codes "b")) (codes "return")))
    (after (of (named (codes "a")) (codes "return")) bin.LessEq (after (of (named (codes "a")) (codes "return")) bin.More (e.Unary un.Not (e.Unary un.Not (e.Bool true)))))
    (e.Known known.Trunc (empty_element ∷ e.Record [] ∷ []))

signs_row : expression_text signs ≡ codes "((-a) < b.return) ? ((a.return) <= (a.return > (!(!true)))) : Math.trunc((<a/>) / ({ }))"
unfolding shape-the_row-Expr-0 hidden-the_row-Expr-0 hidden-the_row-Expr-2 hidden-the_row-Field-3 hidden-the_row-Operand-4 hidden-the_row-Link-5 shape-the_row-Jsx-7 hidden-the_row-Jsx-7 roll-Jsx hidden roll
signs_row = refl

-- heads of postfix forms
abbrev heads : Expr
heads = e.List (e.Post (named (codes "console")) (l.Prop (codes "log") ∷ l.Call (e.Null ∷ e.Undefined ∷ []) ∷ []) ∷ of (e.Known known.Log (named (codes "x") ∷ [])) (codes "y")
    ∷ of (of (named (codes "a")) (codes "b")) (codes "c") ∷ e.Post (e.Record (record { key = codes "k"; value = empty_element } ∷ [])) (l.Index (e.Int (pos 0)) ∷ []) ∷ of (e.Int (pos 1)) (codes "x") ∷ [])

heads_row : expression_text heads ≡ codes "[(console).log(null, undefined), console.log(x).y, (a.b).c, ({ \"k\": <a/> })[0], 1.x]"
unfolding shape-the_row-Expr-0 hidden-the_row-Expr-0 hidden-the_row-Expr-2 hidden-the_row-Field-3 hidden-the_row-Link-5 shape-the_row-Jsx-7 hidden-the_row-Jsx-7 roll-Jsx hidden roll digits
heads_row = refl

-- each escape, in a text and in a template
abbrev characters : Text
characters = 10 ∷ 13 ∷ 9 ∷ 0 ∷ 31 ∷ codes "\"'\\`$~"

texts_row : expression_text (e.List (e.Text characters ∷ e.Template (characters ∷ codes "x" ∷ []) (empty_element ∷ []) ∷ []))
    ≡ codes "[\"\\n\\r\\t\\u0000\\u001f\\\"'\\\\`$~\", `\\n\\r\\t\\u0000\\u001f\"'\\\\\\`\\$~${(<a/>)}x`]"
unfolding shape-the_row-Expr-0 hidden-the_row-Expr-0 hidden-the_row-Expr-2 hidden-the_row-Field-3 shape-the_row-Jsx-7 hidden-the_row-Jsx-7 roll-Jsx hidden roll
texts_row = refl

-- fragments and components; a child that is an element, a text, a record
abbrev elements : Expr
elements = jsx t.Fragment [] (jsx (t.Component (codes "Item")) (record { key = codes "key"; value = e.Bool true } ∷ []) [] ∷ e.Text (codes "x") ∷ e.Record [] ∷ jsx t.Fragment [] [] ∷ [])

elements_row : expression_text elements ≡ codes "<><Item key={true}/>{\"x\"}{{ }}<></></>"
unfolding hidden-the_row-Expr-2 hidden-the_row-Field-3 shape-the_row-Jsx-7 hidden-the_row-Jsx-7 roll-Jsx hidden roll
elements_row = refl

-- bodies, statements and blocks
statements_row : statement_text (s.Block (s.If (named (codes "a")) (s.Do (e.Record []) ∷ []) [] ∷ s.If (named (codes "a")) [] (s.Do empty_element ∷ []) ∷ s.While (e.Bool true) (s.Break ∷ s.Continue ∷ [])
    ∷ s.ForOf (codes "x") empty_element (s.Do (e.Assign assign.Add (named (codes "x")) empty_element) ∷ s.Do (e.Assign assign.Set (named (codes "x")) empty_element) ∷ [])
    ∷ s.Delete (of (named (codes "a")) (codes "b")) ∷ s.Let (codes "f") (arrow (p.Name (codes "p") ∷ p.Fields (codes "q" ∷ codes "r" ∷ []) ∷ []) (b.Value (e.Record []))) ∷ s.Return None ∷ s.Block [] ∷ []))
    ≡ codes "{ if (a) { ({ }); } if (a) { } else { (<a/>); } while (true) { break; continue; } for (const x of (<a/>)) { x += (<a/>); x = <a/>; } delete a.b; let f = (p, { q, r }) => ({ }); return; { } }"
unfolding shape-the_row-Expr-0 hidden-the_row-Expr-0 hidden-the_row-Expr-2 hidden-the_row-Stmt-1 hidden-the_row-Field-3 hidden-the_row-Link-5 shape-the_row-Arrow-6 hidden-the_row-Arrow-6 shape-the_row-Jsx-7 hidden-the_row-Jsx-7 roll-Jsx hidden roll
statements_row = refl
