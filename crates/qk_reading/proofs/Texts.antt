-- What the reader answers to the tokens of small texts, each named by what it shows.
use Rattle.std.specs.Prelude.{◌≡◌, refl, ℕ, zero, suc, List, [], ◌∷◌, Option, Some, None, Result, Ok, Err, codes}
use Rattle.qk_ast.specs.declared.Form.TheVariants.{Source, Built}
use Rattle.qk_ast.specs.declared.Module.{Module}
use Rattle.std.specs.Char.{encode_utf8}
use Rattle.qk_ast.specs.Characters.{Characters}
use Rattle.qk_ast.specs.Tokens.{Token, Piece, Edge}
use Rattle.qk_reading.specs.Input.{Fault, Syntax, TooDeep, sees, after, expect, name_that, number, enter, many_from, many, sparse_from, sparse, separated_from, separated, collected_from, collected}
use Rattle.qk_reading.specs.Ahead.{operator_at, operator, assign_sign, bump_sign, finds_arrow, arrow_ahead, known_ahead}
use Rattle.qk_reading.specs.Parts.{names, pattern, params, arrow_head, fresh, part, divides, operand, chain, comma_name, scope}
use Rattle.qk_reading.specs.Forms.{args, field_value, field, fields, holes_from, holes, bracketed, atom, trunc, called, head, link, links_from, links, postfix, unary, product, sum, order, equality, conjunction, logic, choice, arrow, whole, attribute, child, children, tagged, untagged}
use Rattle.qk_reading.specs.Statements.{step, body, held, condition, declared, constant, variable, returned, conditional, looping, each, deleted, done, statement, statements_from, block, single, group}
use Rattle.qk_reading.specs.Reader.{read_module, nesting, import_line, next_import, item, next_item, module_of}

abbrev fault_of : Result Module Fault → Option Fault
fault_of (Ok m) = None
fault_of (Err f) = Some f

abbrev name : Characters → Token
name text = Token.Name text

abbrev word : Characters → Token
word text = Token.Reserved text

abbrev int : Characters → Token
int text = Token.Int text

abbrev sign : Characters → Token
sign text = Token.Punct text

abbrev begin : Characters → Token
begin text = Token.Begin text

-- the token so many times before the rest
abbrev times : ℕ → Token → List Token → List Token
times zero token rest = rest
times (suc n) token rest = token ∷ times n token rest

-- a fault's number is that of the tokens from its place on
record Texts : Type 0 where
  -- the empty text
  empty_text : fault_of (read_module Source 32 ([])) ≡ None
  -- const a = ;
  no_value : fault_of (read_module Source 32 (word (codes "const") ∷ name (codes "a") ∷ sign (codes "=") ∷ sign (codes ";") ∷ [])) ≡ Some (Syntax 1)
  -- const a = 1
  ends_too_early : fault_of (read_module Source 32 (word (codes "const") ∷ name (codes "a") ∷ sign (codes "=") ∷ int (codes "1") ∷ [])) ≡ Some (Syntax 0)
  -- const a = ((((((((((((((((((((((((((((((((1))))))))))))))))))))))))))))))));
  thirty_two_brackets : fault_of (read_module Source 32 (word (codes "const") ∷ name (codes "a") ∷ sign (codes "=") ∷ times 32 (sign (codes "(")) (int (codes "1") ∷ times 32 (sign (codes ")")) (sign (codes ";") ∷ [])))) ≡ None
  -- const a = (((((((((((((((((((((((((((((((((1)))))))))))))))))))))))))))))))));
  thirty_three_brackets : fault_of (read_module Source 32 (word (codes "const") ∷ name (codes "a") ∷ sign (codes "=") ∷ times 33 (sign (codes "(")) (int (codes "1") ∷ times 33 (sign (codes ")")) (sign (codes ";") ∷ [])))) ≡ Some (TooDeep 36)
  -- const a = 10 - (3 - 1);
  difference_in_brackets : fault_of (read_module Source 32 (word (codes "const") ∷ name (codes "a") ∷ sign (codes "=") ∷ int (codes "10") ∷ sign (codes "-") ∷ sign (codes "(") ∷ int (codes "3") ∷ sign (codes "-") ∷ int (codes "1") ∷ sign (codes ")") ∷ sign (codes ";") ∷ [])) ≡ None
  -- import { component$, useSignal } from "@builder.io/qwik"; export const App = component$(() => { const n = useSignal(0); return <button id="b" onClick$={() => { n.value++; }}>{n.value}</button>; });
  counter : fault_of (read_module Source 32 (word (codes "import") ∷ sign (codes "{") ∷ name (codes "component$") ∷ sign (codes ",") ∷ name (codes "useSignal") ∷ sign (codes "}") ∷ name (codes "from") ∷ Token.Text 34 (Piece.Plain 64 ∷ Piece.Plain 98 ∷ Piece.Plain 117 ∷ Piece.Plain 105 ∷ Piece.Plain 108 ∷ Piece.Plain 100 ∷ Piece.Plain 101 ∷ Piece.Plain 114 ∷ Piece.Plain 46 ∷ Piece.Plain 105 ∷ Piece.Plain 111 ∷ Piece.Plain 47 ∷ Piece.Plain 113 ∷ Piece.Plain 119 ∷ Piece.Plain 105 ∷ Piece.Plain 107 ∷ []) ∷ sign (codes ";") ∷ word (codes "export") ∷ word (codes "const") ∷ name (codes "App") ∷ sign (codes "=") ∷ name (codes "component$") ∷ sign (codes "(") ∷ sign (codes "(") ∷ sign (codes ")") ∷ sign (codes "=>") ∷ sign (codes "{") ∷ word (codes "const") ∷ name (codes "n") ∷ sign (codes "=") ∷ name (codes "useSignal") ∷ sign (codes "(") ∷ int (codes "0") ∷ sign (codes ")") ∷ sign (codes ";") ∷ word (codes "return") ∷ begin (codes "<") ∷ name (codes "button") ∷ name (codes "id") ∷ sign (codes "=") ∷ Token.Attribute 34 (codes "b") ∷ name (codes "onClick$") ∷ sign (codes "=") ∷ sign (codes "{") ∷ sign (codes "(") ∷ sign (codes ")") ∷ sign (codes "=>") ∷ sign (codes "{") ∷ name (codes "n") ∷ sign (codes ".") ∷ name (codes "value") ∷ sign (codes "++") ∷ sign (codes ";") ∷ sign (codes "}") ∷ sign (codes "}") ∷ sign (codes ">") ∷ sign (codes "{") ∷ name (codes "n") ∷ sign (codes ".") ∷ name (codes "value") ∷ sign (codes "}") ∷ sign (codes "</") ∷ name (codes "button") ∷ sign (codes ">") ∷ sign (codes ";") ∷ sign (codes "}") ∷ sign (codes ")") ∷ sign (codes ";") ∷ [])) ≡ None
  -- export const App = component$(() => <p class="x" q:slot={a}> Hi <b/> {} {x}<>t</></p>);
  elements : fault_of (read_module Source 32 (word (codes "export") ∷ word (codes "const") ∷ name (codes "App") ∷ sign (codes "=") ∷ name (codes "component$") ∷ sign (codes "(") ∷ sign (codes "(") ∷ sign (codes ")") ∷ sign (codes "=>") ∷ begin (codes "<") ∷ name (codes "p") ∷ name (codes "class") ∷ sign (codes "=") ∷ Token.Attribute 34 (codes "x") ∷ name (codes "q:slot") ∷ sign (codes "=") ∷ sign (codes "{") ∷ name (codes "a") ∷ sign (codes "}") ∷ sign (codes ">") ∷ Token.JsxText (codes " Hi ") ∷ begin (codes "<") ∷ name (codes "b") ∷ sign (codes "/>") ∷ Token.JsxText (codes " ") ∷ sign (codes "{") ∷ sign (codes "}") ∷ Token.JsxText (codes " ") ∷ sign (codes "{") ∷ name (codes "x") ∷ sign (codes "}") ∷ begin (codes "<>") ∷ Token.JsxText (codes "t") ∷ sign (codes "</>") ∷ sign (codes "</") ∷ name (codes "p") ∷ sign (codes ">") ∷ sign (codes ")") ∷ sign (codes ";") ∷ [])) ≡ None
  -- const a = (a, b, ) => (a)(-1);
  arrow_of_patterns_and_call : fault_of (read_module Source 32 (word (codes "const") ∷ name (codes "a") ∷ sign (codes "=") ∷ sign (codes "(") ∷ name (codes "a") ∷ sign (codes ",") ∷ name (codes "b") ∷ sign (codes ",") ∷ sign (codes ")") ∷ sign (codes "=>") ∷ sign (codes "(") ∷ name (codes "a") ∷ sign (codes ")") ∷ sign (codes "(") ∷ sign (codes "-") ∷ int (codes "1") ∷ sign (codes ")") ∷ sign (codes ";") ∷ [])) ≡ None
  -- const a = ({a, b}, c) => a + b;
  arrow_of_fields : fault_of (read_module Source 32 (word (codes "const") ∷ name (codes "a") ∷ sign (codes "=") ∷ sign (codes "(") ∷ sign (codes "{") ∷ name (codes "a") ∷ sign (codes ",") ∷ name (codes "b") ∷ sign (codes "}") ∷ sign (codes ",") ∷ name (codes "c") ∷ sign (codes ")") ∷ sign (codes "=>") ∷ name (codes "a") ∷ sign (codes "+") ∷ name (codes "b") ∷ sign (codes ";") ∷ [])) ≡ None
  -- const a = ({a, b: 1});
  record_in_brackets : fault_of (read_module Source 32 (word (codes "const") ∷ name (codes "a") ∷ sign (codes "=") ∷ sign (codes "(") ∷ sign (codes "{") ∷ name (codes "a") ∷ sign (codes ",") ∷ name (codes "b") ∷ sign (codes ":") ∷ int (codes "1") ∷ sign (codes "}") ∷ sign (codes ")") ∷ sign (codes ";") ∷ [])) ≡ None
  -- const a = ();
  no_expression_in_brackets : fault_of (read_module Source 32 (word (codes "const") ∷ name (codes "a") ∷ sign (codes "=") ∷ sign (codes "(") ∷ sign (codes ")") ∷ sign (codes ";") ∷ [])) ≡ Some (Syntax 1)
  -- const a = (a, a -
  operand_missing_in_brackets : fault_of (read_module Source 32 (word (codes "const") ∷ name (codes "a") ∷ sign (codes "=") ∷ sign (codes "(") ∷ name (codes "a") ∷ sign (codes ",") ∷ name (codes "a") ∷ sign (codes "-") ∷ [])) ≡ Some (Syntax 1)
  -- const a = ({a, a}) => 1;
  field_twice_in_a_pattern : fault_of (read_module Source 32 (word (codes "const") ∷ name (codes "a") ∷ sign (codes "=") ∷ sign (codes "(") ∷ sign (codes "{") ∷ name (codes "a") ∷ sign (codes ",") ∷ name (codes "a") ∷ sign (codes "}") ∷ sign (codes ")") ∷ sign (codes "=>") ∷ int (codes "1") ∷ sign (codes ";") ∷ [])) ≡ None
  -- const a = ({a, a}).b;
  field_twice_in_a_record : fault_of (read_module Source 32 (word (codes "const") ∷ name (codes "a") ∷ sign (codes "=") ∷ sign (codes "(") ∷ sign (codes "{") ∷ name (codes "a") ∷ sign (codes ",") ∷ name (codes "a") ∷ sign (codes "}") ∷ sign (codes ")") ∷ sign (codes ".") ∷ name (codes "b") ∷ sign (codes ";") ∷ [])) ≡ Some (Syntax 3)
  -- const a = ({a, b}, c + 1);
  pattern_that_is_none : fault_of (read_module Source 32 (word (codes "const") ∷ name (codes "a") ∷ sign (codes "=") ∷ sign (codes "(") ∷ sign (codes "{") ∷ name (codes "a") ∷ sign (codes ",") ∷ name (codes "b") ∷ sign (codes "}") ∷ sign (codes ",") ∷ name (codes "c") ∷ sign (codes "+") ∷ int (codes "1") ∷ sign (codes ")") ∷ sign (codes ";") ∷ [])) ≡ Some (Syntax 4)
  -- const a = x => y => ({a: x, b});
  arrow_in_arrow : fault_of (read_module Source 32 (word (codes "const") ∷ name (codes "a") ∷ sign (codes "=") ∷ name (codes "x") ∷ sign (codes "=>") ∷ name (codes "y") ∷ sign (codes "=>") ∷ sign (codes "(") ∷ sign (codes "{") ∷ name (codes "a") ∷ sign (codes ":") ∷ name (codes "x") ∷ sign (codes ",") ∷ name (codes "b") ∷ sign (codes "}") ∷ sign (codes ")") ∷ sign (codes ";") ∷ [])) ≡ None
  -- const a = () => { a: 1 };
  block_that_is_no_record : fault_of (read_module Source 32 (word (codes "const") ∷ name (codes "a") ∷ sign (codes "=") ∷ sign (codes "(") ∷ sign (codes ")") ∷ sign (codes "=>") ∷ sign (codes "{") ∷ name (codes "a") ∷ sign (codes ":") ∷ int (codes "1") ∷ sign (codes "}") ∷ sign (codes ";") ∷ [])) ≡ Some (Syntax 4)
  -- const f = () => { console.log(1); console.log(1, 2); console.log(1,); Object.keys(a).b; Math.trunc(a * b / -c).d; Math.trunc(a); Math.trunc(); Math.trunc(a, b); String(x)(y); String(x, y); };
  known_calls : fault_of (read_module Source 32 (word (codes "const") ∷ name (codes "f") ∷ sign (codes "=") ∷ sign (codes "(") ∷ sign (codes ")") ∷ sign (codes "=>") ∷ sign (codes "{") ∷ name (codes "console") ∷ sign (codes ".") ∷ name (codes "log") ∷ sign (codes "(") ∷ int (codes "1") ∷ sign (codes ")") ∷ sign (codes ";") ∷ name (codes "console") ∷ sign (codes ".") ∷ name (codes "log") ∷ sign (codes "(") ∷ int (codes "1") ∷ sign (codes ",") ∷ int (codes "2") ∷ sign (codes ")") ∷ sign (codes ";") ∷ name (codes "console") ∷ sign (codes ".") ∷ name (codes "log") ∷ sign (codes "(") ∷ int (codes "1") ∷ sign (codes ",") ∷ sign (codes ")") ∷ sign (codes ";") ∷ name (codes "Object") ∷ sign (codes ".") ∷ name (codes "keys") ∷ sign (codes "(") ∷ name (codes "a") ∷ sign (codes ")") ∷ sign (codes ".") ∷ name (codes "b") ∷ sign (codes ";") ∷ name (codes "Math") ∷ sign (codes ".") ∷ name (codes "trunc") ∷ sign (codes "(") ∷ name (codes "a") ∷ sign (codes "*") ∷ name (codes "b") ∷ sign (codes "/") ∷ sign (codes "-") ∷ name (codes "c") ∷ sign (codes ")") ∷ sign (codes ".") ∷ name (codes "d") ∷ sign (codes ";") ∷ name (codes "Math") ∷ sign (codes ".") ∷ name (codes "trunc") ∷ sign (codes "(") ∷ name (codes "a") ∷ sign (codes ")") ∷ sign (codes ";") ∷ name (codes "Math") ∷ sign (codes ".") ∷ name (codes "trunc") ∷ sign (codes "(") ∷ sign (codes ")") ∷ sign (codes ";") ∷ name (codes "Math") ∷ sign (codes ".") ∷ name (codes "trunc") ∷ sign (codes "(") ∷ name (codes "a") ∷ sign (codes ",") ∷ name (codes "b") ∷ sign (codes ")") ∷ sign (codes ";") ∷ name (codes "String") ∷ sign (codes "(") ∷ name (codes "x") ∷ sign (codes ")") ∷ sign (codes "(") ∷ name (codes "y") ∷ sign (codes ")") ∷ sign (codes ";") ∷ name (codes "String") ∷ sign (codes "(") ∷ name (codes "x") ∷ sign (codes ",") ∷ name (codes "y") ∷ sign (codes ")") ∷ sign (codes ";") ∷ sign (codes "}") ∷ sign (codes ";") ∷ [])) ≡ None
  -- const f = Math.trunc(a + b / c);
  sum_as_dividend : fault_of (read_module Source 32 (word (codes "const") ∷ name (codes "f") ∷ sign (codes "=") ∷ name (codes "Math") ∷ sign (codes ".") ∷ name (codes "trunc") ∷ sign (codes "(") ∷ name (codes "a") ∷ sign (codes "+") ∷ name (codes "b") ∷ sign (codes "/") ∷ name (codes "c") ∷ sign (codes ")") ∷ sign (codes ";") ∷ [])) ≡ Some (Syntax 4)
  -- const f = Math.trunc(a / b * c);
  product_as_divisor : fault_of (read_module Source 32 (word (codes "const") ∷ name (codes "f") ∷ sign (codes "=") ∷ name (codes "Math") ∷ sign (codes ".") ∷ name (codes "trunc") ∷ sign (codes "(") ∷ name (codes "a") ∷ sign (codes "/") ∷ name (codes "b") ∷ sign (codes "*") ∷ name (codes "c") ∷ sign (codes ")") ∷ sign (codes ";") ∷ [])) ≡ Some (Syntax 4)
  -- const f = (Math).trunc(a / b);
  bracketed_math : fault_of (read_module Source 32 (word (codes "const") ∷ name (codes "f") ∷ sign (codes "=") ∷ sign (codes "(") ∷ name (codes "Math") ∷ sign (codes ")") ∷ sign (codes ".") ∷ name (codes "trunc") ∷ sign (codes "(") ∷ name (codes "a") ∷ sign (codes "/") ∷ name (codes "b") ∷ sign (codes ")") ∷ sign (codes ";") ∷ [])) ≡ Some (Syntax 4)
  -- const f = Math.trunc(a / b, c);
  comma_after_division : fault_of (read_module Source 32 (word (codes "const") ∷ name (codes "f") ∷ sign (codes "=") ∷ name (codes "Math") ∷ sign (codes ".") ∷ name (codes "trunc") ∷ sign (codes "(") ∷ name (codes "a") ∷ sign (codes "/") ∷ name (codes "b") ∷ sign (codes ",") ∷ name (codes "c") ∷ sign (codes ")") ∷ sign (codes ";") ∷ [])) ≡ Some (Syntax 4)
  -- const f = a ?? b ?? c;
  coalesced : fault_of (read_module Source 32 (word (codes "const") ∷ name (codes "f") ∷ sign (codes "=") ∷ name (codes "a") ∷ sign (codes "??") ∷ name (codes "b") ∷ sign (codes "??") ∷ name (codes "c") ∷ sign (codes ";") ∷ [])) ≡ None
  -- const f = a || b && c === d < e + f * !g;
  all_levels : fault_of (read_module Source 32 (word (codes "const") ∷ name (codes "f") ∷ sign (codes "=") ∷ name (codes "a") ∷ sign (codes "||") ∷ name (codes "b") ∷ sign (codes "&&") ∷ name (codes "c") ∷ sign (codes "===") ∷ name (codes "d") ∷ sign (codes "<") ∷ name (codes "e") ∷ sign (codes "+") ∷ name (codes "f") ∷ sign (codes "*") ∷ sign (codes "!") ∷ name (codes "g") ∷ sign (codes ";") ∷ [])) ≡ None
  -- const f = a ?? b || c;
  or_after_coalesced : fault_of (read_module Source 32 (word (codes "const") ∷ name (codes "f") ∷ sign (codes "=") ∷ name (codes "a") ∷ sign (codes "??") ∷ name (codes "b") ∷ sign (codes "||") ∷ name (codes "c") ∷ sign (codes ";") ∷ [])) ≡ Some (Syntax 3)
  -- const f = a && b ?? c;
  coalesced_after_and : fault_of (read_module Source 32 (word (codes "const") ∷ name (codes "f") ∷ sign (codes "=") ∷ name (codes "a") ∷ sign (codes "&&") ∷ name (codes "b") ∷ sign (codes "??") ∷ name (codes "c") ∷ sign (codes ";") ∷ [])) ≡ Some (Syntax 3)
  -- const f = a ?? b && c;
  and_after_coalesced : fault_of (read_module Source 32 (word (codes "const") ∷ name (codes "f") ∷ sign (codes "=") ∷ name (codes "a") ∷ sign (codes "??") ∷ name (codes "b") ∷ sign (codes "&&") ∷ name (codes "c") ∷ sign (codes ";") ∷ [])) ≡ Some (Syntax 3)
  -- const f = a ? b : c ? d : e;
  choice_in_two_levels : fault_of (read_module Source 2 (word (codes "const") ∷ name (codes "f") ∷ sign (codes "=") ∷ name (codes "a") ∷ sign (codes "?") ∷ name (codes "b") ∷ sign (codes ":") ∷ name (codes "c") ∷ sign (codes "?") ∷ name (codes "d") ∷ sign (codes ":") ∷ name (codes "e") ∷ sign (codes ";") ∷ [])) ≡ None
  -- const f = a ? b : c ? d : e;
  choice_past_one_level : fault_of (read_module Source 1 (word (codes "const") ∷ name (codes "f") ∷ sign (codes "=") ∷ name (codes "a") ∷ sign (codes "?") ∷ name (codes "b") ∷ sign (codes ":") ∷ name (codes "c") ∷ sign (codes "?") ∷ name (codes "d") ∷ sign (codes ":") ∷ name (codes "e") ∷ sign (codes ";") ∷ [])) ≡ Some (TooDeep 5)
  -- const f = () => a = 1;
  arrow_of_assignment : fault_of (read_module Source 32 (word (codes "const") ∷ name (codes "f") ∷ sign (codes "=") ∷ sign (codes "(") ∷ sign (codes ")") ∷ sign (codes "=>") ∷ name (codes "a") ∷ sign (codes "=") ∷ int (codes "1") ∷ sign (codes ";") ∷ [])) ≡ None
  -- const f = () => { a.b += 1; a[0]--; delete a.b; a = (b); };
  targets : fault_of (read_module Source 32 (word (codes "const") ∷ name (codes "f") ∷ sign (codes "=") ∷ sign (codes "(") ∷ sign (codes ")") ∷ sign (codes "=>") ∷ sign (codes "{") ∷ name (codes "a") ∷ sign (codes ".") ∷ name (codes "b") ∷ sign (codes "+=") ∷ int (codes "1") ∷ sign (codes ";") ∷ name (codes "a") ∷ sign (codes "[") ∷ int (codes "0") ∷ sign (codes "]") ∷ sign (codes "--") ∷ sign (codes ";") ∷ word (codes "delete") ∷ name (codes "a") ∷ sign (codes ".") ∷ name (codes "b") ∷ sign (codes ";") ∷ name (codes "a") ∷ sign (codes "=") ∷ sign (codes "(") ∷ name (codes "b") ∷ sign (codes ")") ∷ sign (codes ";") ∷ sign (codes "}") ∷ sign (codes ";") ∷ [])) ≡ None
  -- const f = () => { a = b = c; };
  assigned_twice : fault_of (read_module Source 32 (word (codes "const") ∷ name (codes "f") ∷ sign (codes "=") ∷ sign (codes "(") ∷ sign (codes ")") ∷ sign (codes "=>") ∷ sign (codes "{") ∷ name (codes "a") ∷ sign (codes "=") ∷ name (codes "b") ∷ sign (codes "=") ∷ name (codes "c") ∷ sign (codes ";") ∷ sign (codes "}") ∷ sign (codes ";") ∷ [])) ≡ Some (Syntax 5)
  -- const f = () => f() = 1;
  call_as_target : fault_of (read_module Source 32 (word (codes "const") ∷ name (codes "f") ∷ sign (codes "=") ∷ sign (codes "(") ∷ sign (codes ")") ∷ sign (codes "=>") ∷ name (codes "f") ∷ sign (codes "(") ∷ sign (codes ")") ∷ sign (codes "=") ∷ int (codes "1") ∷ sign (codes ";") ∷ [])) ≡ Some (Syntax 3)
  -- const f = () => (a) = 1;
  bracketed_target : fault_of (read_module Source 32 (word (codes "const") ∷ name (codes "f") ∷ sign (codes "=") ∷ sign (codes "(") ∷ sign (codes ")") ∷ sign (codes "=>") ∷ sign (codes "(") ∷ name (codes "a") ∷ sign (codes ")") ∷ sign (codes "=") ∷ int (codes "1") ∷ sign (codes ";") ∷ [])) ≡ Some (Syntax 3)
  -- const f = () => { delete a; };
  deleted_name : fault_of (read_module Source 32 (word (codes "const") ∷ name (codes "f") ∷ sign (codes "=") ∷ sign (codes "(") ∷ sign (codes ")") ∷ sign (codes "=>") ∷ sign (codes "{") ∷ word (codes "delete") ∷ name (codes "a") ∷ sign (codes ";") ∷ sign (codes "}") ∷ sign (codes ";") ∷ [])) ≡ Some (Syntax 3)
  -- const f = () => { while (a) { break; } for (const x of y) if (x) continue; else if (y) return x; };
  loops_and_else : fault_of (read_module Source 32 (word (codes "const") ∷ name (codes "f") ∷ sign (codes "=") ∷ sign (codes "(") ∷ sign (codes ")") ∷ sign (codes "=>") ∷ sign (codes "{") ∷ word (codes "while") ∷ sign (codes "(") ∷ name (codes "a") ∷ sign (codes ")") ∷ sign (codes "{") ∷ word (codes "break") ∷ sign (codes ";") ∷ sign (codes "}") ∷ word (codes "for") ∷ sign (codes "(") ∷ word (codes "const") ∷ name (codes "x") ∷ name (codes "of") ∷ name (codes "y") ∷ sign (codes ")") ∷ word (codes "if") ∷ sign (codes "(") ∷ name (codes "x") ∷ sign (codes ")") ∷ word (codes "continue") ∷ sign (codes ";") ∷ word (codes "else") ∷ word (codes "if") ∷ sign (codes "(") ∷ name (codes "y") ∷ sign (codes ")") ∷ word (codes "return") ∷ name (codes "x") ∷ sign (codes ";") ∷ sign (codes "}") ∷ sign (codes ";") ∷ [])) ≡ None
  -- const f = () => { break; };
  break_outside_loops : fault_of (read_module Source 32 (word (codes "const") ∷ name (codes "f") ∷ sign (codes "=") ∷ sign (codes "(") ∷ sign (codes ")") ∷ sign (codes "=>") ∷ sign (codes "{") ∷ word (codes "break") ∷ sign (codes ";") ∷ sign (codes "}") ∷ sign (codes ";") ∷ [])) ≡ Some (Syntax 4)
  -- const f = () => { while (a) { const g = () => { break; }; } };
  break_in_an_arrow_of_a_loop : fault_of (read_module Source 32 (word (codes "const") ∷ name (codes "f") ∷ sign (codes "=") ∷ sign (codes "(") ∷ sign (codes ")") ∷ sign (codes "=>") ∷ sign (codes "{") ∷ word (codes "while") ∷ sign (codes "(") ∷ name (codes "a") ∷ sign (codes ")") ∷ sign (codes "{") ∷ word (codes "const") ∷ name (codes "g") ∷ sign (codes "=") ∷ sign (codes "(") ∷ sign (codes ")") ∷ sign (codes "=>") ∷ sign (codes "{") ∷ word (codes "break") ∷ sign (codes ";") ∷ sign (codes "}") ∷ sign (codes ";") ∷ sign (codes "}") ∷ sign (codes "}") ∷ sign (codes ";") ∷ [])) ≡ Some (Syntax 7)
  -- const f = () => { if (a) const b = 1; };
  declaration_as_part : fault_of (read_module Source 32 (word (codes "const") ∷ name (codes "f") ∷ sign (codes "=") ∷ sign (codes "(") ∷ sign (codes ")") ∷ sign (codes "=>") ∷ sign (codes "{") ∷ word (codes "if") ∷ sign (codes "(") ∷ name (codes "a") ∷ sign (codes ")") ∷ word (codes "const") ∷ name (codes "b") ∷ sign (codes "=") ∷ int (codes "1") ∷ sign (codes ";") ∷ sign (codes "}") ∷ sign (codes ";") ∷ [])) ≡ Some (Syntax 7)
  -- const f = () => { if (a) if (b) c; else d; };
  else_of_the_nearest_if : fault_of (read_module Source 32 (word (codes "const") ∷ name (codes "f") ∷ sign (codes "=") ∷ sign (codes "(") ∷ sign (codes ")") ∷ sign (codes "=>") ∷ sign (codes "{") ∷ word (codes "if") ∷ sign (codes "(") ∷ name (codes "a") ∷ sign (codes ")") ∷ word (codes "if") ∷ sign (codes "(") ∷ name (codes "b") ∷ sign (codes ")") ∷ name (codes "c") ∷ sign (codes ";") ∷ word (codes "else") ∷ name (codes "d") ∷ sign (codes ";") ∷ sign (codes "}") ∷ sign (codes ";") ∷ [])) ≡ None
  -- const f = () => { if (a) b; };
  if_in_three_levels : fault_of (read_module Source 3 (word (codes "const") ∷ name (codes "f") ∷ sign (codes "=") ∷ sign (codes "(") ∷ sign (codes ")") ∷ sign (codes "=>") ∷ sign (codes "{") ∷ word (codes "if") ∷ sign (codes "(") ∷ name (codes "a") ∷ sign (codes ")") ∷ name (codes "b") ∷ sign (codes ";") ∷ sign (codes "}") ∷ sign (codes ";") ∷ [])) ≡ None
  -- const f = () => { if (a) b; };
  if_past_two_levels : fault_of (read_module Source 2 (word (codes "const") ∷ name (codes "f") ∷ sign (codes "=") ∷ sign (codes "(") ∷ sign (codes ")") ∷ sign (codes "=>") ∷ sign (codes "{") ∷ word (codes "if") ∷ sign (codes "(") ∷ name (codes "a") ∷ sign (codes ")") ∷ name (codes "b") ∷ sign (codes ";") ∷ sign (codes "}") ∷ sign (codes ";") ∷ [])) ≡ Some (TooDeep 8)
  -- const f = () => { if (a) b; else c; };
  else_past_three_levels : fault_of (read_module Source 3 (word (codes "const") ∷ name (codes "f") ∷ sign (codes "=") ∷ sign (codes "(") ∷ sign (codes ")") ∷ sign (codes "=>") ∷ sign (codes "{") ∷ word (codes "if") ∷ sign (codes "(") ∷ name (codes "a") ∷ sign (codes ")") ∷ name (codes "b") ∷ sign (codes ";") ∷ word (codes "else") ∷ name (codes "c") ∷ sign (codes ";") ∷ sign (codes "}") ∷ sign (codes ";") ∷ [])) ≡ Some (TooDeep 5)
  -- const f = {a: 1, "b": 2, class: 3, c};
  keys_of_a_record : fault_of (read_module Source 32 (word (codes "const") ∷ name (codes "f") ∷ sign (codes "=") ∷ sign (codes "{") ∷ name (codes "a") ∷ sign (codes ":") ∷ int (codes "1") ∷ sign (codes ",") ∷ Token.Text 34 (Piece.Plain 98 ∷ []) ∷ sign (codes ":") ∷ int (codes "2") ∷ sign (codes ",") ∷ word (codes "class") ∷ sign (codes ":") ∷ int (codes "3") ∷ sign (codes ",") ∷ name (codes "c") ∷ sign (codes "}") ∷ sign (codes ";") ∷ [])) ≡ None
  -- const f = {a: 1, "a": 2};
  quoted_key_twice : fault_of (read_module Source 32 (word (codes "const") ∷ name (codes "f") ∷ sign (codes "=") ∷ sign (codes "{") ∷ name (codes "a") ∷ sign (codes ":") ∷ int (codes "1") ∷ sign (codes ",") ∷ Token.Text 34 (Piece.Plain 97 ∷ []) ∷ sign (codes ":") ∷ int (codes "2") ∷ sign (codes "}") ∷ sign (codes ";") ∷ [])) ≡ Some (Syntax 5)
  -- const f = <a></b>;
  tags_that_differ : fault_of (read_module Source 32 (word (codes "const") ∷ name (codes "f") ∷ sign (codes "=") ∷ begin (codes "<") ∷ name (codes "a") ∷ sign (codes ">") ∷ sign (codes "</") ∷ name (codes "b") ∷ sign (codes ">") ∷ sign (codes ";") ∷ [])) ≡ Some (Syntax 3)
  -- const f = <a:b/>;
  tag_with_a_colon : fault_of (read_module Source 32 (word (codes "const") ∷ name (codes "f") ∷ sign (codes "=") ∷ begin (codes "<") ∷ name (codes "a:b") ∷ sign (codes "/>") ∷ sign (codes ";") ∷ [])) ≡ Some (Syntax 3)
  -- const f = () => { const [a, b] = useLexicalScope(); return a; };
  lexical_scope_of_a_built_file : fault_of (read_module Built 32 (word (codes "const") ∷ name (codes "f") ∷ sign (codes "=") ∷ sign (codes "(") ∷ sign (codes ")") ∷ sign (codes "=>") ∷ sign (codes "{") ∷ word (codes "const") ∷ sign (codes "[") ∷ name (codes "a") ∷ sign (codes ",") ∷ name (codes "b") ∷ sign (codes "]") ∷ sign (codes "=") ∷ name (codes "useLexicalScope") ∷ sign (codes "(") ∷ sign (codes ")") ∷ sign (codes ";") ∷ word (codes "return") ∷ name (codes "a") ∷ sign (codes ";") ∷ sign (codes "}") ∷ sign (codes ";") ∷ [])) ≡ None
  -- const f = () => { const [a, b] = useLexicalScope(); return a; };
  lexical_scope_of_a_source : fault_of (read_module Source 32 (word (codes "const") ∷ name (codes "f") ∷ sign (codes "=") ∷ sign (codes "(") ∷ sign (codes ")") ∷ sign (codes "=>") ∷ sign (codes "{") ∷ word (codes "const") ∷ sign (codes "[") ∷ name (codes "a") ∷ sign (codes ",") ∷ name (codes "b") ∷ sign (codes "]") ∷ sign (codes "=") ∷ name (codes "useLexicalScope") ∷ sign (codes "(") ∷ sign (codes ")") ∷ sign (codes ";") ∷ word (codes "return") ∷ name (codes "a") ∷ sign (codes ";") ∷ sign (codes "}") ∷ sign (codes ";") ∷ [])) ≡ Some (Syntax 15)
  -- const f = () => { g(); const [a] = useLexicalScope(); };
  lexical_scope_after_a_statement : fault_of (read_module Built 32 (word (codes "const") ∷ name (codes "f") ∷ sign (codes "=") ∷ sign (codes "(") ∷ sign (codes ")") ∷ sign (codes "=>") ∷ sign (codes "{") ∷ name (codes "g") ∷ sign (codes "(") ∷ sign (codes ")") ∷ sign (codes ";") ∷ word (codes "const") ∷ sign (codes "[") ∷ name (codes "a") ∷ sign (codes "]") ∷ sign (codes "=") ∷ name (codes "useLexicalScope") ∷ sign (codes "(") ∷ sign (codes ")") ∷ sign (codes ";") ∷ sign (codes "}") ∷ sign (codes ";") ∷ [])) ≡ Some (Syntax 10)
  -- const f = `a${b}c${d}e` + `x`;
  templates : fault_of (read_module Source 32 (word (codes "const") ∷ name (codes "f") ∷ sign (codes "=") ∷ Token.Template Edge.Backquote (Piece.Plain 97 ∷ []) Edge.Hole ∷ name (codes "b") ∷ Token.Template Edge.Hole (Piece.Plain 99 ∷ []) Edge.Hole ∷ name (codes "d") ∷ Token.Template Edge.Hole (Piece.Plain 101 ∷ []) Edge.Backquote ∷ sign (codes "+") ∷ Token.Template Edge.Backquote (Piece.Plain 120 ∷ []) Edge.Backquote ∷ sign (codes ";") ∷ [])) ≡ None
  -- const f = `a${b c}`;
  two_values_in_a_hole : fault_of (read_module Source 32 (word (codes "const") ∷ name (codes "f") ∷ sign (codes "=") ∷ Token.Template Edge.Backquote (Piece.Plain 97 ∷ []) Edge.Hole ∷ name (codes "b") ∷ name (codes "c") ∷ Token.Template Edge.Hole ([]) Edge.Backquote ∷ sign (codes ";") ∷ [])) ≡ Some (Syntax 3)
  -- const f = [];
  empty_list_past_the_limit : fault_of (read_module Source 0 (word (codes "const") ∷ name (codes "f") ∷ sign (codes "=") ∷ sign (codes "[") ∷ sign (codes "]") ∷ sign (codes ";") ∷ [])) ≡ Some (TooDeep 3)
  -- const f = [1];
  list_within_the_limit : fault_of (read_module Source 1 (word (codes "const") ∷ name (codes "f") ∷ sign (codes "=") ∷ sign (codes "[") ∷ int (codes "1") ∷ sign (codes "]") ∷ sign (codes ";") ∷ [])) ≡ None
  -- const f = (a, {b}) - ;
  field_past_the_limit : fault_of (read_module Source 1 (word (codes "const") ∷ name (codes "f") ∷ sign (codes "=") ∷ sign (codes "(") ∷ name (codes "a") ∷ sign (codes ",") ∷ sign (codes "{") ∷ name (codes "b") ∷ sign (codes "}") ∷ sign (codes ")") ∷ sign (codes "-") ∷ sign (codes ";") ∷ [])) ≡ Some (TooDeep 6)
  -- const f = ((1 2;
  brackets_past_the_limit : fault_of (read_module Source 1 (word (codes "const") ∷ name (codes "f") ∷ sign (codes "=") ∷ sign (codes "(") ∷ sign (codes "(") ∷ int (codes "1") ∷ int (codes "2") ∷ sign (codes ";") ∷ [])) ≡ Some (TooDeep 4)
  -- const f = (1 2 ((;
  misplaced_before_too_deep : fault_of (read_module Source 1 (word (codes "const") ∷ name (codes "f") ∷ sign (codes "=") ∷ sign (codes "(") ∷ int (codes "1") ∷ int (codes "2") ∷ sign (codes "(") ∷ sign (codes "(") ∷ sign (codes ";") ∷ [])) ≡ Some (Syntax 4)

texts : Texts
unfolding encode_utf8 sees after expect name_that number enter many_from many sparse_from sparse separated_from separated collected_from collected operator_at operator assign_sign bump_sign finds_arrow arrow_ahead known_ahead names pattern params arrow_head fresh args field_value field fields part holes_from holes bracketed atom divides trunc called head link links_from links postfix unary operand chain product sum order equality conjunction logic choice arrow whole attribute child children tagged untagged step body held condition comma_name scope declared constant variable returned conditional looping each deleted done statement statements_from block single group nesting import_line next_import item next_item module_of
texts = record {
  empty_text = refl;
  no_value = refl;
  ends_too_early = refl;
  thirty_two_brackets = refl;
  thirty_three_brackets = refl;
  difference_in_brackets = refl;
  counter = refl;
  elements = refl;
  arrow_of_patterns_and_call = refl;
  arrow_of_fields = refl;
  record_in_brackets = refl;
  no_expression_in_brackets = refl;
  operand_missing_in_brackets = refl;
  field_twice_in_a_pattern = refl;
  field_twice_in_a_record = refl;
  pattern_that_is_none = refl;
  arrow_in_arrow = refl;
  block_that_is_no_record = refl;
  known_calls = refl;
  sum_as_dividend = refl;
  product_as_divisor = refl;
  bracketed_math = refl;
  comma_after_division = refl;
  coalesced = refl;
  all_levels = refl;
  or_after_coalesced = refl;
  coalesced_after_and = refl;
  and_after_coalesced = refl;
  choice_in_two_levels = refl;
  choice_past_one_level = refl;
  arrow_of_assignment = refl;
  targets = refl;
  assigned_twice = refl;
  call_as_target = refl;
  bracketed_target = refl;
  deleted_name = refl;
  loops_and_else = refl;
  break_outside_loops = refl;
  break_in_an_arrow_of_a_loop = refl;
  declaration_as_part = refl;
  else_of_the_nearest_if = refl;
  if_in_three_levels = refl;
  if_past_two_levels = refl;
  else_past_three_levels = refl;
  keys_of_a_record = refl;
  quoted_key_twice = refl;
  tags_that_differ = refl;
  tag_with_a_colon = refl;
  lexical_scope_of_a_built_file = refl;
  lexical_scope_of_a_source = refl;
  lexical_scope_after_a_statement = refl;
  templates = refl;
  two_values_in_a_hole = refl;
  empty_list_past_the_limit = refl;
  list_within_the_limit = refl;
  field_past_the_limit = refl;
  brackets_past_the_limit = refl;
  misplaced_before_too_deep = refl;
}
