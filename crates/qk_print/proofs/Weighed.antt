-- The text of each form fits its writing, whatever that is.
use Rattle.std.specs.Prelude.{◌≡◌, refl, ℕ, ◌+◌, ◌-◌, ◌≤◌, Bool, true, false, None, List, [], ◌∷◌, ◌++◌, length, map, codes, flat_map, IsTrue}
use Rattle.std.proofs.Common.{ap, sym, ◌∙◌, arith}
use Rattle.std.proofs.lemmas.List.{append_assoc, append-nil, length-append}
use Rattle.std.proofs.lemmas.Str.{IsUtf8-append}
use Rattle.std.specs.Char.{encode_utf8}
use Rattle.std.specs.Str.{all_scalars}
use denote.Hole.Carrier.{hidden}
use Rattle.qk_ast.specs.declared.Body.TheBlock.{shape-the_row-Expr-0, hidden-the_row-Expr-0, hidden-the_row-Expr-2, hidden-the_row-Link-5}
use Rattle.qk_ast.specs.declared.Expr.{Expr}
use Rattle.qk_ast.specs.declared.Known.TheVariants as known
use Rattle.qk_ast.specs.declared.Tag.TheVariants as t
use Rattle.qk_ast.specs.declared.Un.{Un}
use Rattle.qk_ast.specs.declared.Un.TheVariants as un
use Rattle.qk_ast.specs.declared.Bin.{Bin}
use Rattle.qk_ast.specs.declared.Bin.TheVariants as bin
use Rattle.qk_ast.specs.declared.AssignOp.{AssignOp}
use Rattle.qk_ast.specs.declared.AssignOp.TheVariants as assign
use Rattle.qk_ast.specs.Characters.{Characters}
use Rattle.qk_ast.specs.JsxText.{jsx_text}
use Rattle.qk_ast.specs.Tokens.{Token, Edge}
use Rattle.qk_ast.specs.Tree.{bytes, value, arrows, tree, names_tree, binding_tree, bindings_tree, parameters_tree, operands_tree, holes_tree, link_tree, links_tree, arguments_tree, field_tree, fields_tree, element_tree, attributes_tree, children_tree, body_tree, step_tree, statement_tree, statements_tree, part_tree, import_tree, items_tree, module_tree, parts_tree, before_children, tag_tree, word_text}
use Rattle.qk_print.specs.Letters.{Text, between, commas, braced, quoted, template_part, parts_and_holes, un_sign, bin_sign, assign_sign, bump_sign, truth}
use Rattle.qk_print.specs.Printing.{expression_text, operand_text, operands_text, hole_text, field_text, attribute_text, child_text, link_text, body_text, statement_text, pattern_text, block_text, else_text, named_text, import_text, item_text, print_text, jsx_text as jsx}
use Rattle.qk_print.specs.Lists.{printed_of, keyed_of, operated_of}
use Rattle.qk_print.proofs.Equations as eq
use Rattle.qk_print.proofs.Laid_parts.{commas_more, tag_is}
use Rattle.qk_ast.specs.Grammar.{Names, Last_name, Last_comma, Next_name, Binding, Plain, Fields_of, Bindings, No_binding, Only_binding, Binding_comma, Parameters, Bare, In_brackets, Word, Free, Taken, Expression, Undefined, Null, Truth, Number, Quoted, Named, Whole, Holed, Bracketed, Listed, Recorded, Markup, Log, Keys, Str, Trunc, Postfix, Prefix, Chain, Choice, Function, Operands, No_operand, Operand, Holes, Last_part, Part_hole, Link, Dot, Index, Call, Links, No_link, Next_link, Arguments, No_argument, Only, Comma, Field, Key, Quoted_key, Short, Fields, No_field, Only_field, Field_comma, Element, Closed, Open, Fragment, Attributes, No_attribute, Set, Set_text, Set_value, Children, No_child, Text_child, Empty_child, Value_child, Element_child, Body, Block_body, Step_body, Step, Plain_step, Assign, Bump, Statement, Const, Scope, Let, Return, Return_step, If, If_else, While, For_of, Break, Continue, Delete, Block, Do, Statements, No_statement, Then, Part, Block_part, Statement_part, Import_line, Item_line, Module_text}
use Rattle.qk_ast.specs.Spelling as spell
use Rattle.qk_ast.specs.Spelling.{Writing, ◌⨾◌, nothing, one, sign, word, name, begin, comma, curly, tokens, names_tokens, binding_tokens, bindings_tokens, parameters_tokens, word_tokens, truth_word, scope_tokens, operands_tokens, holes_tokens, link_tokens, links_tokens, arguments_tokens, field_tokens, fields_tokens, element_tokens, attributes_tokens, children_tokens, body_tokens, step_tokens, statement_tokens, statements_tokens, part_tokens, import_tokens, imports_tokens, item_tokens, items_tokens}
use Rattle.qk_print.proofs.Weighing.{weight, weighty, IsSound, Fits, fits_nothing, ◌⊹◌, fits_so, enough, ascii_utf8, is_mark, mark, around, front, back, bare, silent, quoted_utf8, quoted_length, fits_name, fits_word, fits_key, fits_word_key, fits_short, fits_int, fits_quoted, fits_attribute, fits_part}

abbrev Text_of : ℕ → Expression → Text
Text_of n v = expression_text (tree n v)

-- ---- signs, words and names, each printed so

as_sign : (s : Characters) (l : Text) → is_mark l ≡ true → Fits (sign s) l (16 - length l)
as_sign s l h = mark (Token.Punct s) l h

as_word : (s : Characters) (l : Text) → is_mark l ≡ true → Fits (word s) l (16 - length l)
as_word s l h = mark (Token.Reserved s) l h

as_name : (s : Characters) (l : Text) → is_mark l ≡ true → Fits (name s) l (16 - length l)
as_name s l h = mark (Token.Name s) l h

un_fits : (op : Un) → Fits (spell.un_sign op) (un_sign op) 2
un_fits un.Not = enough 2 (as_sign _ (codes "!") refl) refl
un_fits un.Neg = enough 2 (as_sign _ (codes "-") refl) refl

bin_fits : (op : Bin) → Fits (spell.bin_sign op) (bin_sign op) 2
bin_fits bin.Or = enough 2 (as_sign _ (codes " || ") refl) refl
bin_fits bin.And = enough 2 (as_sign _ (codes " && ") refl) refl
bin_fits bin.Coalesce = enough 2 (as_sign _ (codes " ?? ") refl) refl
bin_fits bin.Same = enough 2 (as_sign _ (codes " === ") refl) refl
bin_fits bin.NotSame = enough 2 (as_sign _ (codes " !== ") refl) refl
bin_fits bin.Less = enough 2 (as_sign _ (codes " < ") refl) refl
bin_fits bin.LessEq = enough 2 (as_sign _ (codes " <= ") refl) refl
bin_fits bin.More = enough 2 (as_sign _ (codes " > ") refl) refl
bin_fits bin.MoreEq = enough 2 (as_sign _ (codes " >= ") refl) refl
bin_fits bin.Add = enough 2 (as_sign _ (codes " + ") refl) refl
bin_fits bin.Sub = enough 2 (as_sign _ (codes " - ") refl) refl
bin_fits bin.Mul = enough 2 (as_sign _ (codes " * ") refl) refl
bin_fits bin.Rem = enough 2 (as_sign _ (codes " % ") refl) refl

assign_fits : (op : AssignOp) → Fits (spell.assign_sign op) (assign_sign op) 2
assign_fits assign.Set = enough 2 (as_sign _ (codes " = ") refl) refl
assign_fits assign.Add = enough 2 (as_sign _ (codes " += ") refl) refl
assign_fits assign.Sub = enough 2 (as_sign _ (codes " -= ") refl) refl
assign_fits assign.Mul = enough 2 (as_sign _ (codes " *= ") refl) refl

bump_fits : (up : Bool) → Fits (spell.bump_sign up) (bump_sign up) 2
bump_fits true = enough 2 (as_sign _ (codes "++") refl) refl
bump_fits false = enough 2 (as_sign _ (codes "--") refl) refl

truth_fits : (b : Bool) → Fits (truth_word b) (truth b) 2
truth_fits true = enough 2 (as_word _ (codes "true") refl) refl
truth_fits false = enough 2 (as_word _ (codes "false") refl) refl

word_fits : (w : Word) → Fits (word_tokens w) (word_text w) 2
word_fits (Free a) = enough 2 (fits_name a) refl
word_fits (Taken a) = enough 2 (fits_word a) refl

key_fits : (w : Word) → Fits (word_tokens w) (quoted (word_text w)) 2
key_fits (Free a) = enough 2 (fits_key a) refl
key_fits (Taken a) = enough 2 (fits_word_key a) refl

-- ---- lists

-- another text before those between commas
commas_fit : {u v : Writing} {p : Text} (ps : List Text) → Fits u p 0 → Fits v (commas ps) 0 → Fits (u ⨾ comma ⨾ v) (commas (p ∷ ps)) 0
commas_fit [] x y = enough 0 (x ⊹ (as_sign _ [] refl ⊹ y)) refl
commas_fit {p = p} (q ∷ qs) x y = enough 0 (fits_so (commas_more p q qs) (x ⊹ (as_sign _ (codes ", ") refl ⊹ y))) refl

one_fits : {w : Writing} {p : Text} {g : ℕ} → Fits w p g → Fits w (commas (p ∷ [])) g
one_fits {p = p} x = fits_so (sym (append-nil p)) x

braced_fits : {w : Writing} (ps : List Text) → Fits w (commas ps) 0 → Fits (curly w) (braced ps) 2
braced_fits [] x = enough 2 (as_sign _ (codes "{ ") refl ⊹ (x ⊹ as_sign _ (codes "}") refl)) refl
braced_fits (p ∷ ps) x = enough 2 (as_sign _ (codes "{ ") refl ⊹ (x ⊹ as_sign _ (codes " }") refl)) refl

names_fit : (ns : Names) → Fits (names_tokens ns) (commas (names_tree ns)) 0
names_fit (Last_name a) = enough 0 (one_fits (fits_name a)) refl
names_fit (Last_comma a) = enough 0 (fits_name a ⊹ as_sign _ [] refl) refl
names_fit (Next_name a more) = commas_fit (names_tree more) (enough 0 (fits_name a) refl) (names_fit more)

binding_fits : (d : Binding) → Fits (binding_tokens d) (pattern_text (binding_tree d)) 0
binding_fits (Plain a) = enough 0 (fits_name a) refl
binding_fits (Fields_of names) = enough 0 (braced_fits (names_tree names) (names_fit names)) refl

bindings_fit : (bs : Bindings) → Fits (bindings_tokens bs) (commas (map pattern_text (bindings_tree bs))) 0
bindings_fit No_binding = fits_nothing
bindings_fit (Only_binding d) = one_fits (binding_fits d)
bindings_fit (Binding_comma d more) = commas_fit (map pattern_text (bindings_tree more)) (binding_fits d) (bindings_fit more)

parameters_fit : (ps : Parameters) → Fits (parameters_tokens ps) (codes "(" ++ (commas (map pattern_text (parameters_tree ps)) ++ codes ")")) 0
parameters_fit (Bare a) = enough 0 (around (codes "(") (codes ")") (one_fits (fits_name a)) refl) refl
parameters_fit (In_brackets bs) = enough 0 (as_sign _ (codes "(") refl ⊹ (bindings_fit bs ⊹ as_sign _ (codes ")") refl)) refl

scope_fits : (more : List Characters) → Fits (scope_tokens more) (flat_map (λ later. codes ", " ++ later) (map bytes more)) 0
scope_fits [] = fits_nothing
scope_fits (a ∷ more) = enough 0 ((as_sign _ (codes ", ") refl ⊹ fits_name a) ⊹ scope_fits more) refl

-- ---- equations

holed_is : (p q h : Text) → (codes "`" ++ (p ++ codes "${")) ++ (h ++ (codes "}" ++ (q ++ codes "`"))) ≡ codes "`" ++ ((p ++ (codes "${" ++ (h ++ (codes "}" ++ q)))) ++ codes "`")
holed_is p q h = ap (λ r. 96 ∷ r) (simp append_assoc refl)

later_is : (p q h : Text) → (codes "}" ++ (p ++ codes "${")) ++ (h ++ (codes "}" ++ (q ++ codes "`"))) ≡ codes "}" ++ ((p ++ (codes "${" ++ (h ++ (codes "}" ++ q)))) ++ codes "`")
later_is p q h = ap (λ r. 125 ∷ r) (simp append_assoc refl)

quotient_is : (p q : Text) → p ++ (codes " / " ++ q) ≡ between (codes " / ") (p ∷ q ∷ [])
quotient_is p q = ap (λ r. p ++ r) (sym (append-nil _))

function_is : (p q : Text) → (codes "(" ++ (p ++ codes ")")) ++ (codes " => " ++ q) ≡ codes "(" ++ (p ++ (codes ") => " ++ q))
function_is p q = ap (λ r. 40 ∷ r) (append_assoc p (codes ")") (codes " => " ++ q))

alone_is : (p : Text) → codes "{ " ++ (p ++ codes " }") ≡ block_text (p ∷ [])
alone_is p = ap (λ r. codes "{ " ++ r) (sym (append_assoc p (codes " ") (codes "}")) ∙ ap (λ r. r ++ codes "}") (sym (append-nil (p ++ codes " "))))

-- ---- JSX

value_child_fits : (c : Bool) {w : Writing} {p : Text} → Fits w p 2 → Fits (curly w) (elim c [ true ↦ p | false ↦ codes "{" ++ (p ++ codes "}") ]) 0
value_child_fits true {w} {p} x = enough 0 (as_sign _ [] refl ⊹ fits_so (append-nil p) (x ⊹ as_sign _ [] refl)) refl
value_child_fits false x = enough 0 (as_sign _ (codes "{") refl ⊹ (x ⊹ as_sign _ (codes "}") refl)) refl

text_fits : (token : Token) (cs : Characters) → length (bytes cs) ≤ weight token → (IsSound token → IsTrue (all_scalars cs)) → Fits (one token) (codes "{" ++ (quoted (bytes cs) ++ codes "}")) 0
text_fits token cs l s = record {
  weighs = λ R. let a = quoted_length (bytes cs) in let b = weighty token in let d = length-append (quoted (bytes cs)) (codes "}") in omega (arith, a, b, d, l);
  utf8 = λ R k. IsUtf8-append (codes "{") _ (ascii_utf8 (codes "{") refl) (IsUtf8-append (quoted (bytes cs)) (codes "}") (quoted_utf8 cs (s k.here)) (ascii_utf8 (codes "}") refl));
  onward = λ R k. k.later;
}

text_child_fits : (token : Token) (cs : Characters) (ts : List Expr) {w : Writing} → length (bytes cs) ≤ weight token → (IsSound token → IsTrue (all_scalars cs))
    → Fits w (flat_map (λ c. c) (map child_text (map printed_of ts))) 0 → Fits (one token ⨾ w) (flat_map (λ c. c) (map child_text (map printed_of (before_children cs ts)))) 0
text_child_fits token [] ts l s x = enough 0 (mark token [] refl ⊹ x) refl
text_child_fits token (c ∷ cs) ts l s x = text_fits token (c ∷ cs) l s ⊹ x

set_fits : (a : Characters) → Fits (name a) (codes " " ++ (bytes a ++ (codes "={" ++ (codes "true" ++ codes "}")))) 0
set_fits a = enough 0 (around (codes " ") (codes "={true}") (fits_name a) refl) refl

-- an attribute with its value, which may be short by the space before the name
attribute_fits : (a : Characters) {w : Writing} {p : Text} {g : ℕ} → Fits w p g → Fits (name a ⨾ w) (codes " " ++ (bytes a ++ p)) (14 + g)
attribute_fits a x = front (codes " ") (fits_name a) refl ⊹ x

-- the name stands in both tags, and weighs enough for both
opened_fits : (tag : Characters) (as' : Attributes) (cs : Children) (end : Characters) (ps qs : List Text) → Fits (attributes_tokens as') (flat_map (λ a. a) ps) 0 → Fits (children_tokens cs) (flat_map (λ c. c) qs) 0
    → Fits (element_tokens (Open tag as' cs end)) (named_text (bytes tag) ps qs) 2
opened_fits tag as' cs end ps [] x y = enough 2 (mark (Token.Begin (codes "<")) (codes "<") refl ⊹ (fits_name tag ⊹ (x ⊹ (as_sign _ (codes "/>") refl ⊹ (y ⊹ (as_sign _ [] refl ⊹ (as_name end [] refl ⊹ as_sign _ [] refl))))))) refl
opened_fits tag as' cs end ps (q ∷ qs) x y = record {
  weighs = λ R. let back = sign (codes "</") (name end (sign (codes ">") R)) in let a = x.weighs (sign (codes ">") (children_tokens cs back)) in let b = y.weighs back in
      let c = length-append (bytes tag) (flat_map (λ a. a) ps ++ (codes ">" ++ (flat_map (λ d. d) (q ∷ qs) ++ (codes "</" ++ (bytes tag ++ codes ">"))))) in
      let d = length-append (flat_map (λ a. a) ps) (codes ">" ++ (flat_map (λ d. d) (q ∷ qs) ++ (codes "</" ++ (bytes tag ++ codes ">")))) in
      let e = length-append (flat_map (λ d. d) (q ∷ qs)) (codes "</" ++ (bytes tag ++ codes ">")) in let f = length-append (bytes tag) (codes ">") in omega (arith, a, b, c, d, e, f);
  utf8 = λ R k. let name' = (fits_name tag).utf8 _ k.later in let more = x.onward _ k.later.later in
      IsUtf8-append (codes "<") _ (ascii_utf8 (codes "<") refl) (IsUtf8-append (bytes tag) _ name' (IsUtf8-append (flat_map (λ a. a) ps) _ (x.utf8 _ k.later.later) (IsUtf8-append (codes ">") _ (ascii_utf8 (codes ">") refl)
      (IsUtf8-append (flat_map (λ d. d) (q ∷ qs)) _ (y.utf8 _ more.later) (IsUtf8-append (codes "</") _ (ascii_utf8 (codes "</") refl) (IsUtf8-append (bytes tag) _ name' (ascii_utf8 (codes ">") refl)))))));
  onward = λ R k. (y.onward _ (x.onward _ k.later.later).later).later.later.later;
}

if_is : (p : Text) (ps : List Text) → codes "if (" ++ (p ++ (codes ") " ++ block_text ps)) ≡ codes "if (" ++ (p ++ (codes ") " ++ (block_text ps ++ else_text [])))
if_is p ps = ap (λ q. codes "if (" ++ (p ++ (codes ") " ++ q))) (sym (append-nil (block_text ps)))

else_fits : {w : Writing} (qs : List Text) → Fits w (block_text qs) 0 → Fits (word (codes "else") ⨾ w) (else_text qs) 0
else_fits [] x = enough 0 (as_word _ [] refl ⊹ silent x) refl
else_fits (q ∷ qs) x = enough 0 (as_word _ (codes " else ") refl ⊹ x) refl

scope_statement : (a : Characters) (more : List Characters) → Fits (statement_tokens (Scope a more)) (statement_text (statement_tree 0 (Scope a more))) 4
unfolding encode_utf8 shape-the_row-Expr-0 hidden-the_row-Expr-0 hidden-the_row-Expr-2 hidden-the_row-Link-5 hidden
scope_statement a more = enough 4 (as_word _ (codes "const ") refl ⊹ ((as_sign _ (codes "[") refl ⊹ ((fits_name a ⊹ scope_fits more) ⊹ as_sign _ (codes "]") refl)) ⊹ (as_sign _ (codes " = ") refl ⊹ ((as_name _ (codes "useLexicalScope") refl ⊹ (as_sign _ (codes "(") refl ⊹ as_sign _ (codes ")") refl)) ⊹ as_sign _ (codes ";") refl)))) refl

-- ---- the whole

mutual
  pub fits : (v : Expression) (n : ℕ) → Fits (tokens v) (Text_of n v) 2
  fits Undefined n = enough 2 (as_word _ (codes "undefined") refl) refl
  fits Null n = enough 2 (as_word _ (codes "null") refl) refl
  fits (Truth c) n = truth_fits c
  fits (Number digits) n = enough 2 (fits_int digits) refl
  fits (Quoted quote pieces) n = enough 2 (fits_quoted quote pieces) refl
  fits (Named a) n = enough 2 (fits_name a) refl
  fits (Whole pieces) n = enough 2 (fits_so (ap (λ p. codes "`" ++ (p ++ codes "`")) (sym (append-nil _)) ∙ sym (eq.text_of_template (value pieces ∷ []) [])) (fits_part Edge.Backquote pieces Edge.Backquote (codes "`") (codes "`") refl)) refl
  fits (Holed pieces v more) n = let m = n + arrows (tokens v) in
      enough 2 (fits_so (holed_is (template_part (value pieces)) (parts_and_holes (parts_tree more) (map hole_text (map printed_of (holes_tree m more)))) (hole_text (printed_of (tree n v)))
      ∙ sym (eq.text_of_template (value pieces ∷ parts_tree more) (tree n v ∷ holes_tree m more))) (fits_part Edge.Backquote pieces Edge.Hole (codes "`") (codes "${") refl ⊹ (bare _ (fits v n) ⊹ holes_fit more m))) refl
  fits (Bracketed v) n = enough 2 (as_sign _ [] refl ⊹ fits_so (append-nil _) (fits v n ⊹ as_sign _ [] refl)) refl
  fits (Listed arguments) n = enough 2 (fits_so (sym (eq.text_of_list (arguments_tree n arguments))) (as_sign _ (codes "[") refl ⊹ (arguments_fit arguments n ⊹ as_sign _ (codes "]") refl))) refl
  fits (Recorded fields) n = fits_so (sym (eq.text_of_record (fields_tree n fields))) (braced_fits _ (fields_fit fields n))
  fits (Markup element) n = fits_so (sym (eq.text_of_markup (element_tree n element))) (element_fits element n)
  fits (Log v) n = enough 2 (fits_so (sym (eq.text_of_known known.Log (tree n v ∷ []))) ((as_name _ (codes "console.log(") refl ⊹ (as_sign _ [] refl ⊹ (as_name _ [] refl ⊹ as_sign _ [] refl))) ⊹ (one_fits (fits v n) ⊹ as_sign _ (codes ")") refl))) refl
  fits (Keys v) n = enough 2 (fits_so (sym (eq.text_of_known known.Keys (tree n v ∷ []))) ((as_name _ (codes "Object.keys(") refl ⊹ (as_sign _ [] refl ⊹ (as_name _ [] refl ⊹ as_sign _ [] refl))) ⊹ (one_fits (fits v n) ⊹ as_sign _ (codes ")") refl))) refl
  fits (Str v) n = enough 2 (fits_so (sym (eq.text_of_known known.Str (tree n v ∷ []))) ((as_name _ (codes "String(") refl ⊹ as_sign _ [] refl) ⊹ (one_fits (fits v n) ⊹ as_sign _ (codes ")") refl))) refl
  fits (Trunc v w) n = let m = n + arrows (tokens v) in
      enough 2 (fits_so (ap (λ p. codes "Math.trunc(" ++ (p ++ codes ")")) (quotient_is (operand_text None (printed_of (tree n v))) (operand_text None (printed_of (tree m w)))) ∙ sym (eq.text_of_known known.Trunc (tree n v ∷ tree m w ∷ [])))
      ((as_name _ (codes "Math.trunc(") refl ⊹ (as_sign _ [] refl ⊹ (as_name _ [] refl ⊹ as_sign _ [] refl))) ⊹ ((bare _ (fits v n) ⊹ (as_sign _ (codes " / ") refl ⊹ bare _ (fits w m))) ⊹ as_sign _ (codes ")") refl))) refl
  fits (Postfix head link more) n = let m = n + arrows (tokens head) in let k = n + arrows (tokens head ⨾ link_tokens link) in
      enough 2 (fits_so (sym (eq.text_of_post (tree n head) (link_tree m link ∷ links_tree k more))) (bare _ (fits head n) ⊹ (link_fits link m ⊹ links_fit more k))) refl
  fits (Prefix op v) n = enough 2 (fits_so (sym (eq.text_of_unary op (tree n v))) (un_fits op ⊹ bare _ (fits v n))) refl
  fits (Chain v op w more) n = let m = n + arrows (tokens v) in let k = n + arrows (tokens v ⨾ tokens w) in
      enough 2 (fits_so (sym (eq.text_of_chain (tree n v) (record { op = op; value = tree m w } ∷ operands_tree k more))) (bare _ (fits v n) ⊹ (bin_fits op ⊹ (bare _ (fits w m) ⊹ operands_fit more k)))) refl
  fits (Choice v w z) n = let m = n + arrows (tokens v) in let k = n + arrows (tokens v ⨾ tokens w) in
      enough 2 (fits_so (sym (eq.text_of_choice (tree n v) (tree m w) (tree k z))) (bare _ (fits v n) ⊹ (as_sign _ (codes " ? ") refl ⊹ (bare _ (fits w m) ⊹ (as_sign _ (codes " : ") refl ⊹ bare _ (fits z k)))))) refl
  fits (Function parameters body) n =
      enough 2 (fits_so (function_is (commas (map pattern_text (parameters_tree parameters))) (body_text (body_tree (n + 1) body)) ∙ sym (eq.text_of_arrow n (parameters_tree parameters) (body_tree (n + 1) body)))
      (parameters_fit parameters ⊹ (as_sign _ (codes " => ") refl ⊹ body_fits body (n + 1)))) refl

  operands_fit : (os : Operands) (n : ℕ) → Fits (operands_tokens os) (operands_text (map operated_of (operands_tree n os))) 0
  operands_fit No_operand n = fits_nothing
  operands_fit (Operand op v more) n = enough 0 (bin_fits op ⊹ (bare _ (fits v n) ⊹ operands_fit more (n + arrows (tokens v)))) refl

  holes_fit : (hs : Holes) (n : ℕ) → Fits (holes_tokens hs) (codes "}" ++ (parts_and_holes (parts_tree hs) (map hole_text (map printed_of (holes_tree n hs))) ++ codes "`")) 0
  holes_fit (Last_part pieces) n = enough 0 (fits_so (ap (λ p. codes "}" ++ (p ++ codes "`")) (sym (append-nil _))) (fits_part Edge.Hole pieces Edge.Backquote (codes "}") (codes "`") refl)) refl
  holes_fit (Part_hole pieces v more) n = let m = n + arrows (tokens v) in
      enough 0 (fits_so (later_is (template_part (value pieces)) (parts_and_holes (parts_tree more) (map hole_text (map printed_of (holes_tree m more)))) (hole_text (printed_of (tree n v))))
      (fits_part Edge.Hole pieces Edge.Hole (codes "}") (codes "${") refl ⊹ (bare _ (fits v n) ⊹ holes_fit more m))) refl

  link_fits : (k : Link) (n : ℕ) → Fits (link_tokens k) (link_text (link_tree n k)) 2
  link_fits (Dot w) n = enough 2 (as_sign _ (codes ".") refl ⊹ word_fits w) refl
  link_fits (Index v) n = enough 2 (as_sign _ (codes "[") refl ⊹ (fits v n ⊹ as_sign _ (codes "]") refl)) refl
  link_fits (Call arguments) n = enough 2 (fits_so (sym (eq.text_of_call (arguments_tree n arguments))) (as_sign _ (codes "(") refl ⊹ (arguments_fit arguments n ⊹ as_sign _ (codes ")") refl))) refl

  links_fit : (ls : Links) (n : ℕ) → Fits (links_tokens ls) (flat_map link_text (links_tree n ls)) 0
  links_fit No_link n = fits_nothing
  links_fit (Next_link link more) n = enough 0 (link_fits link n ⊹ links_fit more (n + arrows (link_tokens link))) refl

  arguments_fit : (as' : Arguments) (n : ℕ) → Fits (arguments_tokens as') (commas (map expression_text (arguments_tree n as'))) 0
  arguments_fit No_argument n = fits_nothing
  arguments_fit (Only v) n = enough 0 (one_fits (fits v n)) refl
  arguments_fit (Comma v more) n = commas_fit (map expression_text (arguments_tree (n + arrows (tokens v)) more)) (enough 0 (fits v n) refl) (arguments_fit more (n + arrows (tokens v)))

  field_fits : (f : Field) (n : ℕ) → Fits (field_tokens f) (field_text (keyed_of (field_tree n f))) 0
  field_fits (Key w v) n = enough 0 (key_fits w ⊹ (as_sign _ (codes ": ") refl ⊹ fits v n)) refl
  field_fits (Quoted_key quote pieces v) n = enough 0 (fits_quoted quote pieces ⊹ (as_sign _ (codes ": ") refl ⊹ fits v n)) refl
  field_fits (Short a) n = enough 0 (fits_short a) refl

  fields_fit : (fs : Fields) (n : ℕ) → Fits (fields_tokens fs) (commas (map field_text (map keyed_of (fields_tree n fs)))) 0
  fields_fit No_field n = fits_nothing
  fields_fit (Only_field f) n = one_fits (field_fits f n)
  fields_fit (Field_comma f more) n = commas_fit (map field_text (map keyed_of (fields_tree (n + arrows (field_tokens f)) more))) (field_fits f n) (fields_fit more (n + arrows (field_tokens f)))

  element_fits : (el : Element) (n : ℕ) → Fits (element_tokens el) (jsx (element_tree n el)) 2
  element_fits (Closed tag attributes) n = enough 2 (fits_so (tag_is tag (map attribute_text (map keyed_of (attributes_tree n attributes))) [] ∙ sym (eq.text_of_element (tag_tree tag) (attributes_tree n attributes) []))
      (mark (Token.Begin (codes "<")) (codes "<") refl ⊹ (fits_name tag ⊹ (attributes_fit attributes n ⊹ as_sign _ (codes "/>") refl)))) refl
  element_fits (Open tag attributes children end) n = let m = n + arrows (attributes_tokens attributes) in let ps = map attribute_text (map keyed_of (attributes_tree n attributes)) in let qs = map child_text (map printed_of (children_tree m children)) in
      fits_so (tag_is tag ps qs ∙ sym (eq.text_of_element (tag_tree tag) (attributes_tree n attributes) (children_tree m children))) (opened_fits tag attributes children end ps qs (attributes_fit attributes n) (children_fit children m))
  element_fits (Fragment children) n = enough 2 (fits_so (sym (eq.text_of_element t.Fragment [] (children_tree n children))) (mark (Token.Begin (codes "<>")) (codes "<>") refl ⊹ (children_fit children n ⊹ as_sign _ (codes "</>") refl))) refl

  attributes_fit : (as' : Attributes) (n : ℕ) → Fits (attributes_tokens as') (flat_map (λ a. a) (map attribute_text (map keyed_of (attributes_tree n as')))) 0
  attributes_fit No_attribute n = fits_nothing
  attributes_fit (Set a more) n = enough 0 (set_fits a ⊹ attributes_fit more n) refl
  attributes_fit (Set_text a quote text more) n = enough 0 (attribute_fits a (as_sign _ (codes "={") refl ⊹ back (codes "}") (fits_attribute quote text) refl) ⊹ attributes_fit more n) refl
  attributes_fit (Set_value a v more) n = enough 0 (attribute_fits a (as_sign _ (codes "={") refl ⊹ (as_sign _ [] refl ⊹ (fits v n ⊹ as_sign _ (codes "}") refl))) ⊹ attributes_fit more (n + arrows (tokens v))) refl

  children_fit : (cs : Children) (n : ℕ) → Fits (children_tokens cs) (flat_map (λ c. c) (map child_text (map printed_of (children_tree n cs)))) 0
  children_fit No_child n = fits_nothing
  children_fit (Text_child text more) n = text_child_fits (Token.JsxText text) (jsx_text text) (children_tree n more) (omega arith) (λ s. s) (children_fit more n)
  children_fit (Empty_child more) n = enough 0 ((as_sign _ [] refl ⊹ (fits_nothing ⊹ as_sign _ [] refl)) ⊹ children_fit more n) refl
  children_fit (Value_child v more) n = value_child_fits _ (fits v n) ⊹ children_fit more (n + arrows (tokens v))
  children_fit (Element_child element more) n = enough 0 (fits_so (sym (eq.text_of_markup (element_tree n element))) (element_fits element n) ⊹ children_fit more (n + arrows (element_tokens element))) refl

  body_fits : (d : Body) (n : ℕ) → Fits (body_tokens d) (body_text (body_tree n d)) 0
  body_fits (Block_body block) n = enough 0 (fits_so (sym (eq.text_of_body (statements_tree n block))) (as_sign _ (codes "{ ") refl ⊹ (statements_fit block n ⊹ as_sign _ (codes "}") refl))) refl
  body_fits (Step_body step) n = fits_so (sym (eq.text_of_value (step_tree n step))) (bare _ (step_fits step n))

  step_fits : (k : Step) (n : ℕ) → Fits (step_tokens k) (expression_text (step_tree n k)) 2
  step_fits (Plain_step v) n = fits v n
  step_fits (Assign target op v) n = let m = n + arrows (tokens target) in enough 2 (fits_so (sym (eq.text_of_assign op (tree n target) (tree m v))) (fits target n ⊹ (assign_fits op ⊹ bare _ (fits v m)))) refl
  step_fits (Bump target up) n = enough 2 (fits_so (sym (eq.text_of_step up (tree n target))) (fits target n ⊹ bump_fits up)) refl

  statement_fits : (k : Statement) (n : ℕ) → Fits (statement_tokens k) (statement_text (statement_tree n k)) 4
  statement_fits (Const binding v) n = enough 4 (as_word _ (codes "const ") refl ⊹ (binding_fits binding ⊹ (as_sign _ (codes " = ") refl ⊹ (fits v n ⊹ as_sign _ (codes ";") refl)))) refl
  statement_fits (Scope a more) n = scope_statement a more
  statement_fits (Let a v) n = enough 4 (as_word _ (codes "let ") refl ⊹ (fits_name a ⊹ (as_sign _ (codes " = ") refl ⊹ (fits v n ⊹ as_sign _ (codes ";") refl)))) refl
  statement_fits Return n = enough 4 (as_word _ (codes "return") refl ⊹ as_sign _ (codes ";") refl) refl
  statement_fits (Return_step step) n = enough 4 (as_word _ (codes "return ") refl ⊹ (step_fits step n ⊹ as_sign _ (codes ";") refl)) refl
  statement_fits (If test yes') n = let m = n + arrows (tokens test) in
      enough 4 (fits_so (if_is (Text_of n test) (map statement_text (part_tree m yes')) ∙ sym (eq.text_of_if (tree n test) (part_tree m yes') [])) (as_word _ (codes "if (") refl ⊹ (as_sign _ [] refl ⊹ (fits test n ⊹ (as_sign _ (codes ") ") refl ⊹ part_fits yes' m))))) refl
  statement_fits (If_else test yes' no') n = let m = n + arrows (tokens test) in let k = n + arrows (tokens test ⨾ part_tokens yes') in
      enough 4 (fits_so (sym (eq.text_of_if (tree n test) (part_tree m yes') (part_tree k no'))) (as_word _ (codes "if (") refl ⊹ (as_sign _ [] refl ⊹ (fits test n ⊹ (as_sign _ (codes ") ") refl ⊹ (part_fits yes' m ⊹ else_fits _ (part_fits no' k))))))) refl
  statement_fits (While test part) n = let m = n + arrows (tokens test) in
      enough 4 (fits_so (sym (eq.text_of_while (tree n test) (part_tree m part))) (as_word _ (codes "while (") refl ⊹ (as_sign _ [] refl ⊹ (fits test n ⊹ (as_sign _ (codes ") ") refl ⊹ part_fits part m))))) refl
  statement_fits (For_of a v part) n = let m = n + arrows (tokens v) in
      enough 4 (fits_so (sym (eq.text_of_for (bytes a) (tree n v) (part_tree m part)))
      (as_word _ (codes "for (const ") refl ⊹ (as_sign _ [] refl ⊹ (as_word _ [] refl ⊹ (fits_name a ⊹ (as_name _ (codes " of ") refl ⊹ (bare _ (fits v n) ⊹ (as_sign _ (codes ") ") refl ⊹ part_fits part m)))))))) refl
  statement_fits Break n = enough 4 (as_word _ (codes "break") refl ⊹ as_sign _ (codes ";") refl) refl
  statement_fits Continue n = enough 4 (as_word _ (codes "continue") refl ⊹ as_sign _ (codes ";") refl) refl
  statement_fits (Delete target) n = enough 4 (as_word _ (codes "delete ") refl ⊹ (fits target n ⊹ as_sign _ (codes ";") refl)) refl
  statement_fits (Block block) n = enough 4 (fits_so (sym (eq.text_of_block (statements_tree n block))) (as_sign _ (codes "{ ") refl ⊹ (statements_fit block n ⊹ as_sign _ (codes "}") refl))) refl
  statement_fits (Do step) n = enough 4 (bare _ (step_fits step n) ⊹ as_sign _ (codes ";") refl) refl

  statements_fit : (ss : Statements) (n : ℕ) → Fits (statements_tokens ss) (flat_map (λ p. p ++ codes " ") (map statement_text (statements_tree n ss))) 0
  statements_fit No_statement n = fits_nothing
  statements_fit (Then statement more) n = enough 0 (back (codes " ") (statement_fits statement n) refl ⊹ statements_fit more (n + arrows (statement_tokens statement))) refl

  part_fits : (q : Part) (n : ℕ) → Fits (part_tokens q) (block_text (map statement_text (part_tree n q))) 0
  part_fits (Block_part block) n = enough 0 (as_sign _ (codes "{ ") refl ⊹ (statements_fit block n ⊹ as_sign _ (codes "}") refl)) refl
  part_fits (Statement_part statement) n = fits_so (alone_is _) (around (codes "{ ") (codes " }") (statement_fits statement n) refl)

-- ---- modules

import_fits : (i : Import_line) → Fits (import_tokens i) (import_text (import_tree i)) 0
import_fits i = enough 0 (as_word _ (codes "import ") refl ⊹ (braced_fits (names_tree i.names) (names_fit i.names) ⊹ (as_name _ (codes " from ") refl ⊹ (fits_quoted i.quote i.source ⊹ as_sign _ (codes ";\n") refl)))) refl

imports_fit : (is : List Import_line) → Fits (imports_tokens is) (flat_map import_text (map import_tree is)) 0
imports_fit [] = fits_nothing
imports_fit (i ∷ is) = import_fits i ⊹ imports_fit is

item_fits : (exported : Bool) (a : Characters) (v : Expression) (n : ℕ) → Fits (item_tokens (record { exported = exported; name = a; value = v })) (item_text (record { exported = exported; name = bytes a; init = tree n v })) 0
item_fits true a v n = enough 0 (as_word _ (codes "export ") refl ⊹ (as_word _ (codes "const ") refl ⊹ (fits_name a ⊹ (as_sign _ (codes " = ") refl ⊹ (fits v n ⊹ as_sign _ (codes ";\n") refl))))) refl
item_fits false a v n = enough 0 (as_word _ (codes "const ") refl ⊹ (fits_name a ⊹ (as_sign _ (codes " = ") refl ⊹ (fits v n ⊹ as_sign _ (codes ";\n") refl)))) refl

items_fit : (is : List Item_line) (n : ℕ) → Fits (items_tokens is) (flat_map item_text (items_tree n is)) 0
items_fit [] n = fits_nothing
items_fit (i ∷ is) n = item_fits i.exported i.name i.value n ⊹ items_fit is (n + arrows (tokens i.value))

pub module_fits : (m : Module_text) → Fits (imports_tokens m.imports ⨾ items_tokens m.items) (print_text (module_tree m)) 0
module_fits m = imports_fit m.imports ⊹ items_fit m.items 0
