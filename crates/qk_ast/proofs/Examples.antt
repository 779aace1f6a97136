-- Small texts and the modules that they derive.
use Rattle.std.specs.Prelude.{refl, ℕ, zero, suc, true, false, map, List, [], ◌∷◌, pos, codes, Option, Some, None}
use Rattle.std.specs.Char.{encode_utf8}
use native.Mathlib.Omega.{arith}
use Rattle.qk_ast.specs.declared.Form.TheVariants.{Source, Built}
use Rattle.qk_ast.specs.declared.Module.{Module}
use Rattle.qk_ast.specs.declared.Bin.TheVariants as bin
use Rattle.qk_ast.specs.declared.Expr.TheVariants as e
use Rattle.qk_ast.specs.Tokens.{Token, Piece, Edge, Written, Blank, tokens_of, stands}
use Rattle.qk_ast.specs.declared.Body.TheVariants as b
use Rattle.qk_ast.specs.declared.Tag.TheVariants as t
use Rattle.qk_ast.specs.declared.Link.TheVariants as l
use Rattle.qk_ast.specs.declared.Stmt.TheVariants as s
use Rattle.qk_ast.specs.declared.Pattern.TheVariants as p
use Rattle.qk_ast.specs.declared.Known.TheVariants as known
use Rattle.qk_ast.specs.declared.Jsx.{roll-Jsx}
use Rattle.qk_ast.specs.Grammar.{Module_text, Expression, Operands, Parameters, Bindings, Body, Step, Element, Attributes, Children, Link, Links, Word, Names, Statement, Statements, Part, Holes, Binding}
use Rattle.qk_ast.specs.Tree.{module_tree}
use Rattle.qk_ast.specs.First.{First_text, First_attribute, Shape, HasFirstForm, module_of}
use Rattle.qk_ast.specs.Derives.{Derives}

-- one space
abbrev _s : List Blank
_s = Blank.Space 32 ∷ []

-- the empty text
abbrev nothing_text : Module_text
nothing_text = record { imports = []; items = [] }

pub nothing_derives : Derives Source [] (record { imports = []; items = [] })
nothing_derives = record {
  characters = [];
  scalars = refl;
  encoded = refl;
  short = omega arith;
  tokens = [];
  read = record { written_as = Written.End []; spells = refl; stand = search; read = refl };
  parse = record { text = nothing_text; spells = refl; keeps = search; means = refl };
  flat = omega arith;
}

-- tokens with the gaps before them, and no gap at the end
abbrev row : List (List Blank × Token) → Written
row [] = Written.End []
row (t ∷ ts) = Written.Then t.0 t.1 (row ts)

-- a token with nothing before it, and one after a space
abbrev at : Token → List Blank × Token
at t = ([], t)

abbrev sp : Token → List Blank × Token
sp t = (_s, t)

-- const a = 10 - (3 - 1);
abbrev difference_written : Written
difference_written = row (at (Token.Reserved (codes "const")) ∷ sp (Token.Name (codes "a")) ∷ sp (Token.Punct (codes "="))
    ∷ sp (Token.Int (codes "10")) ∷ sp (Token.Punct (codes "-")) ∷ sp (Token.Punct (codes "("))
    ∷ at (Token.Int (codes "3")) ∷ sp (Token.Punct (codes "-")) ∷ sp (Token.Int (codes "1"))
    ∷ at (Token.Punct (codes ")")) ∷ at (Token.Punct (codes ";")) ∷ [])

abbrev difference_text : Module_text
difference_text = record {
  imports = [];
  items = record {
    exported = false;
    name = codes "a";
    value =
        Expression.Chain (Expression.Number (codes "10")) bin.Sub (Expression.Bracketed (Expression.Chain (Expression.Number (codes "3")) bin.Sub (Expression.Number (codes "1")) Operands.No_operand)) Operands.No_operand;
  } ∷ [];
}

abbrev difference : Module
difference = record {
  imports = [];
  items = record {
    exported = false;
    name = codes "a";
    init =
        e.Chain (e.Int (pos 10)) (record { op = bin.Sub; value = e.Chain (e.Int (pos 3)) (record { op = bin.Sub; value = e.Int (pos 1) } ∷ []) } ∷ []);
  } ∷ [];
}

difference_stands : stands [] None difference_written []
difference_stands = search

difference_derives : Derives Source (codes "const a = 10 - (3 - 1);") difference
unfolding encode_utf8
difference_derives = record {
  characters = codes "const a = 10 - (3 - 1);";
  scalars = refl;
  encoded = refl;
  short = omega arith;
  tokens = tokens_of difference_written;
  read = record { written_as = difference_written; spells = refl; stand = difference_stands; read = refl };
  parse = record { text = difference_text; spells = refl; keeps = search; means = refl };
  flat = omega arith;
}

-- const App = () => <p id="x">Hi {n.value}</p>;
abbrev markup_written : Written
markup_written = row (at (Token.Reserved (codes "const")) ∷ sp (Token.Name (codes "App")) ∷ sp (Token.Punct (codes "="))
    ∷ sp (Token.Punct (codes "(")) ∷ at (Token.Punct (codes ")")) ∷ sp (Token.Punct (codes "=>")) ∷ sp (Token.Begin (codes "<")) ∷ at (Token.Name (codes "p"))
    ∷ sp (Token.Name (codes "id")) ∷ at (Token.Punct (codes "=")) ∷ at (Token.Attribute 34 (codes "x")) ∷ at (Token.Punct (codes ">"))
    ∷ at (Token.JsxText (codes "Hi ")) ∷ at (Token.Punct (codes "{")) ∷ at (Token.Name (codes "n")) ∷ at (Token.Punct (codes ".")) ∷ at (Token.Name (codes "value"))
    ∷ at (Token.Punct (codes "}")) ∷ at (Token.Punct (codes "</")) ∷ at (Token.Name (codes "p")) ∷ at (Token.Punct (codes ">")) ∷ at (Token.Punct (codes ";")) ∷ [])

abbrev markup_text : Module_text
markup_text = record {
  imports = [];
  items = record {
    exported = false;
    name = codes "App";
    value =
        Expression.Function (Parameters.In_brackets Bindings.No_binding) (Body.Step_body (Step.Plain_step (Expression.Markup (Element.Open (codes "p")
        (Attributes.Set_text (codes "id") 34 (codes "x") Attributes.No_attribute)
        (Children.Text_child (codes "Hi ") (Children.Value_child (Expression.Postfix (Expression.Named (codes "n")) (Link.Dot (Word.Free (codes "value"))) Links.No_link) Children.No_child))
        (codes "p")))));
  } ∷ [];
}

abbrev markup : Module
markup = record {
  imports = [];
  items = record {
    exported = false;
    name = codes "App";
    init =
        e.Arrow (record {
          place = 0;
          params = [];
          body = b.Value (e.Jsx (roll-Jsx (record {
            tag = t.Element (codes "p");
            attrs = record { key = codes "id"; value = e.Text (codes "x") } ∷ [];
            children = e.Text (codes "Hi ") ∷ e.Post (e.Name (codes "n")) (l.Prop (codes "value") ∷ []) ∷ [];
          })));
        });
  } ∷ [];
}

markup_derives : Derives Source (codes "const App = () => <p id=\"x\">Hi {n.value}</p>;") markup
unfolding encode_utf8
markup_derives = record {
  characters = codes "const App = () => <p id=\"x\">Hi {n.value}</p>;";
  scalars = refl;
  encoded = refl;
  short = omega arith;
  tokens = tokens_of markup_written;
  read = record { written_as = markup_written; spells = refl; stand = search; read = refl };
  parse = record { text = markup_text; spells = refl; keeps = search; means = refl };
  flat = omega arith;
}

-- a number in so many brackets
abbrev bracketed : ℕ → Expression
bracketed zero = Expression.Number (codes "1")
bracketed (suc n) = Expression.Bracketed (bracketed n)

abbrev bracketed_text : ℕ → Module_text
bracketed_text n = record { imports = []; items = record { exported = false; name = codes "a"; value = bracketed n } ∷ [] }

abbrev bracketed_row : ℕ → List (List Blank × Token) → List (List Blank × Token)
bracketed_row zero more = at (Token.Int (codes "1")) ∷ more
bracketed_row (suc n) more = at (Token.Punct (codes "(")) ∷ bracketed_row n (at (Token.Punct (codes ")")) ∷ more)

abbrev bracketed_written : ℕ → Written
bracketed_written n = row (at (Token.Reserved (codes "const")) ∷ sp (Token.Name (codes "a")) ∷ sp (Token.Punct (codes "=")) ∷ (_s, Token.Punct (codes "(")) ∷
    bracketed_row n (at (Token.Punct (codes ")")) ∷ at (Token.Punct (codes ";")) ∷ []))

abbrev one : Module
one = record { imports = []; items = record { exported = false; name = codes "a"; init = e.Int (pos 1) } ∷ [] }

bracketed_stands : (n : ℕ) (before : Option Token) (more : List (List Blank × Token)) → stands [] (Some (Token.Punct (codes ")"))) (row more) []
    → stands [] before (row (bracketed_row n (at (Token.Punct (codes ")")) ∷ more))) []
bracketed_stands zero before more h = (refl, search, (refl, search, h))
bracketed_stands (suc n) before more h = (refl, search, bracketed_stands n _ (at (Token.Punct (codes ")")) ∷ more) (refl, search, h))

-- thirty-two brackets
deep_derives : Derives Source (codes "const a = ((((((((((((((((((((((((((((((((1))))))))))))))))))))))))))))))));") one
unfolding encode_utf8
deep_derives = record {
  characters = codes "const a = ((((((((((((((((((((((((((((((((1))))))))))))))))))))))))))))))));";
  scalars = refl;
  encoded = refl;
  short = omega arith;
  tokens = tokens_of (bracketed_written 31);
  read = record {
    written_as = bracketed_written 31;
    spells = refl;
    read = refl;
    stand = (refl, search, (refl, search, (refl, search, (refl, search, bracketed_stands 31 None (at (Token.Punct (codes ";")) ∷ []) (refl, search, refl)))));
  };
  parse = record { text = bracketed_text 32; spells = refl; keeps = search; means = refl };
  flat = omega arith;
}

-- const f = (a) => { const [x] = useLexicalScope(); if (a) return; else if (x) delete a.b; console.log(`q${a}r`); };
abbrev lifted_written : Written
lifted_written = row (at (Token.Reserved (codes "const")) ∷ sp (Token.Name (codes "f")) ∷ sp (Token.Punct (codes "=")) ∷ sp (Token.Punct (codes "(")) ∷ at (Token.Name (codes "a")) ∷ at (Token.Punct (codes ")")) ∷ sp (Token.Punct (codes "=>")) ∷ sp (Token.Punct (codes "{")) ∷ sp (Token.Reserved (codes "const")) ∷ sp (Token.Punct (codes "[")) ∷ at (Token.Name (codes "x")) ∷ at (Token.Punct (codes "]")) ∷ sp (Token.Punct (codes "=")) ∷ sp (Token.Name (codes "useLexicalScope")) ∷ at (Token.Punct (codes "(")) ∷ at (Token.Punct (codes ")")) ∷ at (Token.Punct (codes ";")) ∷ sp (Token.Reserved (codes "if")) ∷ sp (Token.Punct (codes "(")) ∷ at (Token.Name (codes "a")) ∷ at (Token.Punct (codes ")")) ∷ sp (Token.Reserved (codes "return")) ∷ at (Token.Punct (codes ";")) ∷ sp (Token.Reserved (codes "else")) ∷ sp (Token.Reserved (codes "if")) ∷ sp (Token.Punct (codes "(")) ∷ at (Token.Name (codes "x")) ∷ at (Token.Punct (codes ")")) ∷ sp (Token.Reserved (codes "delete")) ∷ sp (Token.Name (codes "a")) ∷ at (Token.Punct (codes ".")) ∷ at (Token.Name (codes "b")) ∷ at (Token.Punct (codes ";")) ∷ sp (Token.Name (codes "console")) ∷ at (Token.Punct (codes ".")) ∷ at (Token.Name (codes "log")) ∷ at (Token.Punct (codes "(")) ∷ at (Token.Template Edge.Backquote (Piece.Plain 113 ∷ []) Edge.Hole) ∷ at (Token.Name (codes "a")) ∷ at (Token.Template Edge.Hole (Piece.Plain 114 ∷ []) Edge.Backquote) ∷ at (Token.Punct (codes ")")) ∷ at (Token.Punct (codes ";")) ∷ sp (Token.Punct (codes "}")) ∷ at (Token.Punct (codes ";")) ∷ [])

abbrev lifted_text : Module_text
lifted_text = record {
  imports = [];
  items = record {
    exported = false;
    name = codes "f";
    value =
        Expression.Function (Parameters.In_brackets (Bindings.Only_binding (Binding.Plain (codes "a")))) (Body.Block_body
        (Statements.Then (Statement.Scope (codes "x") [])
        (Statements.Then (Statement.If_else (Expression.Named (codes "a")) (Part.Statement_part Statement.Return)
        (Part.Statement_part (Statement.If (Expression.Named (codes "x")) (Part.Statement_part (Statement.Delete
        (Expression.Postfix (Expression.Named (codes "a")) (Link.Dot (Word.Free (codes "b"))) Links.No_link))))))
        (Statements.Then (Statement.Do (Step.Plain_step (Expression.Log
        (Expression.Holed (Piece.Plain 113 ∷ []) (Expression.Named (codes "a")) (Holes.Last_part (Piece.Plain 114 ∷ [])))))) Statements.No_statement))));
  } ∷ [];
}

abbrev lifted : Module
lifted = record {
  imports = [];
  items = record {
    exported = false;
    name = codes "f";
    init = e.Arrow (record {
      place = 0;
      params = p.Name (codes "a") ∷ [];
      body = b.Block (
          s.Const (p.Scope (codes "x" ∷ [])) (e.Post (e.Name (codes "useLexicalScope")) (l.Call [] ∷ []))
          ∷ s.If (e.Name (codes "a")) (s.Return None ∷ []) (s.If (e.Name (codes "x")) (s.Delete (e.Post (e.Name (codes "a")) (l.Prop (codes "b") ∷ [])) ∷ []) [] ∷ [])
          ∷ s.Do (e.Known known.Log (e.Template (codes "q" ∷ codes "r" ∷ []) (e.Name (codes "a") ∷ []) ∷ [])) ∷ []);
    });
  } ∷ [];
}

lifted_stands : stands [] None lifted_written []
lifted_stands = (refl, search, (refl, search, (refl, search, (refl, search, (refl, search, (refl, search, (refl, search, (refl, search, (refl, search, (refl, search, (refl, search, (refl, search, (refl, search, (refl, search, (refl, search, (refl, search, (refl, search, (refl, search, (refl, search, (refl, search, (refl, search, (refl, search, (refl, search, (refl, search, (refl, search, (refl, search, (refl, search, (refl, search, (refl, search, (refl, search, (refl, search, (refl, search, (refl, search, (refl, search, (refl, search, (refl, search, (refl, search, (refl, search, (refl, search, (refl, search, (refl, search, (refl, search, (refl, search, (refl, search, refl))))))))))))))))))))))))))))))))))))))))))))

lifted_derives : Derives Built (codes "const f = (a) => { const [x] = useLexicalScope(); if (a) return; else if (x) delete a.b; console.log(`q${a}r`); };") lifted
unfolding encode_utf8
lifted_derives = record {
  characters = codes "const f = (a) => { const [x] = useLexicalScope(); if (a) return; else if (x) delete a.b; console.log(`q${a}r`); };";
  scalars = refl;
  encoded = refl;
  short = omega arith;
  tokens = tokens_of lifted_written;
  read = record { written_as = lifted_written; spells = refl; stand = lifted_stands; read = refl };
  parse = record { text = lifted_text; spells = refl; keeps = search; means = refl };
  flat = omega arith;
}

-- the counter has the first form
abbrev nl : Token → List Blank × Token
nl t = (Blank.Space 10 ∷ [], t)

abbrev counter_written : Written
counter_written = row (at (Token.Reserved (codes "import")) ∷ sp (Token.Punct (codes "{")) ∷ sp (Token.Name (codes "component$")) ∷ at (Token.Punct (codes ",")) ∷ sp (Token.Name (codes "useSignal")) ∷ sp (Token.Punct (codes "}")) ∷ sp (Token.Name (codes "from")) ∷ sp (Token.Text 34 (map Piece.Plain (codes "@builder.io/qwik"))) ∷ at (Token.Punct (codes ";")) ∷ nl (Token.Reserved (codes "export")) ∷ sp (Token.Reserved (codes "const")) ∷ sp (Token.Name (codes "App")) ∷ sp (Token.Punct (codes "=")) ∷ sp (Token.Name (codes "component$")) ∷ at (Token.Punct (codes "(")) ∷ at (Token.Punct (codes "(")) ∷ at (Token.Punct (codes ")")) ∷ sp (Token.Punct (codes "=>")) ∷ sp (Token.Punct (codes "{")) ∷ sp (Token.Reserved (codes "const")) ∷ sp (Token.Name (codes "n")) ∷ sp (Token.Punct (codes "=")) ∷ sp (Token.Name (codes "useSignal")) ∷ at (Token.Punct (codes "(")) ∷ at (Token.Int (codes "0")) ∷ at (Token.Punct (codes ")")) ∷ at (Token.Punct (codes ";")) ∷ sp (Token.Reserved (codes "return")) ∷ sp (Token.Begin (codes "<")) ∷ at (Token.Name (codes "button")) ∷ sp (Token.Name (codes "id")) ∷ at (Token.Punct (codes "=")) ∷ at (Token.Attribute 34 (codes "b")) ∷ sp (Token.Name (codes "onClick$")) ∷ at (Token.Punct (codes "=")) ∷ at (Token.Punct (codes "{")) ∷ at (Token.Punct (codes "(")) ∷ at (Token.Punct (codes ")")) ∷ sp (Token.Punct (codes "=>")) ∷ sp (Token.Name (codes "n")) ∷ at (Token.Punct (codes ".")) ∷ at (Token.Name (codes "value")) ∷ at (Token.Punct (codes "++")) ∷ at (Token.Punct (codes "}")) ∷ at (Token.Punct (codes ">")) ∷ at (Token.Punct (codes "{")) ∷ at (Token.Name (codes "n")) ∷ at (Token.Punct (codes ".")) ∷ at (Token.Name (codes "value")) ∷ at (Token.Punct (codes "}")) ∷ at (Token.Punct (codes "</")) ∷ at (Token.Name (codes "button")) ∷ at (Token.Punct (codes ">")) ∷ at (Token.Punct (codes ";")) ∷ sp (Token.Punct (codes "}")) ∷ at (Token.Punct (codes ")")) ∷ at (Token.Punct (codes ";")) ∷ [])

abbrev counter : First_text
counter = record {
  imported = Names.Next_name (codes "component$") (Names.Last_name (codes "useSignal"));
  name = codes "n";
  initial = Some (codes "0");
  tag = codes "button";
  attributes = First_attribute.Id (codes "b") ∷ First_attribute.On_click true ∷ [];
  shape = Shape.Shown;
}

counter_stands : stands [] None counter_written []
counter_stands = (refl, search, (refl, search, (refl, search, (refl, search, (refl, search, (refl, search, (refl, search, (refl, search, (refl, search, (refl, search, (refl, search, (refl, search, (refl, search, (refl, search, (refl, search, (refl, search, (refl, search, (refl, search, (refl, search, (refl, search, (refl, search, (refl, search, (refl, search, (refl, search, (refl, search, (refl, search, (refl, search, (refl, search, (refl, search, (refl, search, (refl, search, (refl, search, (refl, search, (refl, search, (refl, search, (refl, search, (refl, search, (refl, search, (refl, search, (refl, search, (refl, search, (refl, search, (refl, search, (refl, search, (refl, search, (refl, search, (refl, search, (refl, search, (refl, search, (refl, search, (refl, search, (refl, search, (refl, search, (refl, search, (refl, search, (refl, search, (refl, search, refl)))))))))))))))))))))))))))))))))))))))))))))))))))))))))

counter_first : HasFirstForm (codes "import { component$, useSignal } from \"@builder.io/qwik\";\nexport const App = component$(() => { const n = useSignal(0); return <button id=\"b\" onClick$={() => n.value++}>{n.value}</button>; });") (module_tree (module_of counter))
unfolding encode_utf8
counter_first = record {
  characters = codes "import { component$, useSignal } from \"@builder.io/qwik\";\nexport const App = component$(() => { const n = useSignal(0); return <button id=\"b\" onClick$={() => n.value++}>{n.value}</button>; });";
  scalars = refl;
  encoded = refl;
  short = omega arith;
  writing = counter_written;
  spells = refl;
  stand = counter_stands;
  plain = refl;
  text = counter;
  fits = record { qwik = refl; named = refl; tagged = refl; attributed = refl; state = refl };
  read = refl;
  means = refl;
}
