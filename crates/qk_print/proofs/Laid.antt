-- The tokens of the printed writing, laid out with spaces, spell the text of the tree.
use Rattle.std.specs.Prelude.{◌≡◌, refl, ℕ, ◌+◌, Bool, true, false, not, Option, Some, None, List, [], ◌∷◌, ◌++◌, map, codes, flat_map}
use Rattle.std.proofs.Common.{ap, sym, ◌∙◌, subst}
use Rattle.std.proofs.lemmas.List.{append_assoc, append-nil}
use Rattle.std.specs.Char.{encode_utf8}
use denote.Hole.Carrier.{hidden}
use Rattle.qk_ast.specs.declared.Body.TheBlock.{shape-the_row-Expr-0, hidden-the_row-Expr-0, hidden-the_row-Expr-2, hidden-the_row-Link-5}
use Rattle.qk_ast.specs.declared.Expr.{Expr}
use Rattle.qk_ast.specs.declared.Expr.TheVariants as e
use Rattle.qk_ast.specs.declared.Known.TheVariants as known
use Rattle.qk_ast.specs.declared.Tag.TheVariants as t
use Rattle.qk_ast.specs.declared.Bin.{Bin}
use Rattle.qk_ast.specs.declared.AssignOp.{AssignOp}
use Rattle.qk_ast.specs.Characters.{Characters}
use Rattle.qk_ast.specs.JsxText.{jsx_text, decoded}
use Rattle.qk_ast.specs.Tokens.{Token, piece_value}
use Rattle.qk_ast.specs.Tree.{bytes, value, arrows, tree, operands_tree, holes_tree, link_tree, links_tree, arguments_tree, field_tree, fields_tree, element_tree, attributes_tree, children_tree, body_tree, step_tree, statement_tree, statements_tree, part_tree, parameters_tree, parts_tree, before_children, tag_tree, word_text}
use Rattle.qk_print.specs.Letters.{Text, between, commas, quoted, template_part, parts_and_holes}
use Rattle.qk_print.specs.Printing.{expression_text, operand_text, operands_text, first_operator, hole_text, field_text, attribute_text, child_text, link_text, body_text, statement_text, pattern_text, block_text, else_text, jsx_text as jsx}
use Rattle.qk_print.specs.Lists.{printed_of, keyed_of, operated_of}
use Rattle.qk_print.proofs.Equations as eq
use Rattle.qk_print.proofs.Standing_kept.{same_operand, same_head, same_record, same_markup, same_statement_form}
use Rattle.qk_print.proofs.Lines as lines
use Rattle.qk_print.proofs.Lines.{Line, ◌▹◌, no_field}
use Rattle.qk_print.proofs.Laying.{Lays_as, lays_nothing, lays_so, lays_space}
use Rattle.qk_print.proofs.Lettering as x
use Rattle.qk_ast.specs.Grammar.{Word, Free, Taken, Expression, Undefined, Null, Truth, Number, Quoted, Named, Whole, Holed, Bracketed, Listed, Recorded, Markup, Log, Keys, Str, Trunc, Postfix, Prefix, Chain, Choice, Function, Operands, No_operand, Operand, Holes, Last_part, Part_hole, Link, Dot, Index, Call, Links, No_link, Next_link, Arguments, No_argument, Only, Comma, Field, Key, Quoted_key, Short, Fields, No_field, Only_field, Field_comma, Element, Closed, Open, Fragment, Attributes, No_attribute, Set, Set_text, Set_value, Children, No_child, Text_child, Empty_child, Value_child, Element_child, Body, Block_body, Step_body, Step, Plain_step, Assign, Bump, Statement, Const, Scope, Let, Return, Return_step, If, If_else, While, For_of, Break, Continue, Delete, Block, Do, Statements, No_statement, Then, Part, Block_part, Statement_part}
use Rattle.qk_print.proofs.Rewriting.{as_operand, unless_markup, as_right_side, word_characters, text_child, value_child, first_of_operands, either_way, built, built_operands, built_holes, built_link, built_links, built_arguments, built_field, built_fields, built_element, built_attributes, built_children, built_body, built_step, built_statement, built_statements, built_part}
use Rattle.qk_ast.specs.Spelling.{Writing, ◌⨾◌, tokens, word_tokens, bin_sign, assign_sign, bump_sign, scope_tokens, operands_tokens, holes_tokens, link_tokens, links_tokens, arguments_tokens, field_tokens, fields_tokens, element_tokens, attributes_tokens, children_tokens, body_tokens, step_tokens, statement_tokens, statements_tokens, part_tokens, comma, sign, word, curly}
use Rattle.qk_print.proofs.Laid_parts.{Numbers, ◌⊹◌, un_numbers, bin_numbers, assign_numbers, bump_numbers, truth_numbers, word_numbers, binding_numbers, parameters_numbers, scope_numbers, lays_by, right_side_laid, Matched, comma_space, no_argument, then_arguments_laid, some_argument, then_fields_laid, some_field, lays_braced, binding_laid, parameters_laid, lays_child, no_child, lays_opened, tag_is}

abbrev Text_of : ℕ → Expression → Text
Text_of n v = expression_text (tree n v)

operand_laid : (next : Option Bin) (v : Expression) (n : ℕ) → Lays_as (lines.line (built v)) (tokens (built v)) (Text_of n v) → Lays_as (lines.line (as_operand next (built v))) (tokens (as_operand next (built v))) (operand_text next (printed_of (tree n v)))
operand_laid next v n h = lays_by _ _ (built v) _ (same_operand next v n) h

hole_laid : (v : Expression) (n : ℕ) → Lays_as (lines.line (built v)) (tokens (built v)) (Text_of n v) → Lays_as (lines.line (unless_markup (built v))) (tokens (unless_markup (built v))) (hole_text (printed_of (tree n v)))
hole_laid v n h = lays_by _ _ (built v) _ (ap not (same_markup v n)) h

first_of : (os : Operands) (n : ℕ) → first_of_operands os ≡ first_operator (map operated_of (operands_tree n os))
first_of No_operand n = refl
first_of (Operand op v more) n = refl

word_laid : (w : Word) → Lays_as (lines.word_line w) (word_tokens w) (word_text w)
word_laid (Free a) = x.lays_name a
word_laid (Taken a) = x.lays_reserved a

word_bytes : (w : Word) → bytes (word_characters w) ≡ word_text w
word_bytes (Free a) = refl
word_bytes (Taken a) = refl

holed_is : (p q h : Text) → (codes "`" ++ (p ++ codes "${")) ++ (h ++ (codes "}" ++ (q ++ codes "`"))) ≡ codes "`" ++ ((p ++ (codes "${" ++ (h ++ (codes "}" ++ q)))) ++ codes "`")
holed_is p q h = ap (λ r. 96 ∷ r) (simp append_assoc refl)

later_is : (p q h : Text) → (codes "}" ++ (p ++ codes "${")) ++ (h ++ (codes "}" ++ (q ++ codes "`"))) ≡ codes "}" ++ ((p ++ (codes "${" ++ (h ++ (codes "}" ++ q)))) ++ codes "`")
later_is p q h = ap (λ r. 125 ∷ r) (simp append_assoc refl)

quotient_is : (p q : Text) → p ++ (codes " / " ++ q) ≡ between (codes " / ") (p ∷ q ∷ [])
quotient_is p q = ap (λ r. p ++ r) (sym (append-nil _))

matched_cons : (c : Bool) (p : Text) (ps : List Text) → c ≡ false → Matched c (p ∷ ps)
matched_cons c p ps e = subst (λ d. Matched d (p ∷ ps)) (sym e) tt

text_child_laid : (text : Characters) (cs : Children) (ts : List Expr) → Lays_as (lines.children_line cs) (children_tokens cs) (flat_map (λ c. c) (map child_text (map printed_of ts)))
    → Lays_as (lines.children_line (text_child text cs)) (children_tokens (text_child text cs)) (flat_map (λ c. c) (map child_text (map printed_of (before_children text ts))))
text_child_laid [] cs ts h = h
text_child_laid (c ∷ text) cs ts h = (x.lays_brace ⊹ (x.lays_quoted (c ∷ text) ⊹ x.lays_end_brace)) ⊹ h

text_child_matched : (text : Characters) (cs : Children) (ts : List Expr) → Matched (no_child cs) (map child_text (map printed_of ts)) → Matched (no_child (text_child text cs)) (map child_text (map printed_of (before_children text ts)))
text_child_matched [] cs ts m = m
text_child_matched (c ∷ text) cs ts m = tt

value_child_matched : (y : Expression) (cs : Children) (p : Text) (ps : List Text) → Matched (no_child (value_child y cs)) (p ∷ ps)
value_child_matched Undefined cs p ps = tt
value_child_matched Null cs p ps = tt
value_child_matched (Truth a) cs p ps = tt
value_child_matched (Number a) cs p ps = tt
value_child_matched (Quoted a b') cs p ps = tt
value_child_matched (Named a) cs p ps = tt
value_child_matched (Whole a) cs p ps = tt
value_child_matched (Holed a b' c') cs p ps = tt
value_child_matched (Bracketed a) cs p ps = tt
value_child_matched (Listed a) cs p ps = tt
value_child_matched (Recorded a) cs p ps = tt
value_child_matched (Markup a) cs p ps = tt
value_child_matched (Log a) cs p ps = tt
value_child_matched (Keys a) cs p ps = tt
value_child_matched (Str a) cs p ps = tt
value_child_matched (Trunc a b') cs p ps = tt
value_child_matched (Postfix a b' c') cs p ps = tt
value_child_matched (Prefix a b') cs p ps = tt
value_child_matched (Chain a b' c' d') cs p ps = tt
value_child_matched (Choice a b' c') cs p ps = tt
value_child_matched (Function a b') cs p ps = tt

abbrev pub no_statement : Statements → Bool
no_statement No_statement = true
no_statement (Then k ks) = false

block_laid : {l : Line} (w : Writing) (ps : List Text) → Lays_as l w (flat_map (λ p. p ++ codes " ") ps) → Lays_as (lines.block l) (curly w) (block_text ps)
block_laid w ps h = (x.lays_brace ⊹ lays_space) ⊹ (h ⊹ x.lays_end_brace)

if_laid : Lays_as (lines.word (codes "if") ▹ lines.space ▹ lines.sign (codes "(")) (word (codes "if") ⨾ sign (codes "(")) (codes "if (")
if_laid = x.lays_if ⊹ (lays_space ⊹ x.lays_open)

if_is : (p : Text) (ps : List Text) → codes "if (" ++ (p ++ (codes ") " ++ block_text ps)) ≡ codes "if (" ++ (p ++ (codes ") " ++ (block_text ps ++ else_text [])))
if_is p ps = ap (λ q. codes "if (" ++ (p ++ (codes ") " ++ q))) (sym (append-nil (block_text ps)))

either_way_laid : (test : Expression) (ys ns : Statements) (p : Text) (ps qs : List Text) → Matched (no_statement ns) qs → Lays_as (lines.line test) (tokens test) p → Lays_as (lines.statements_line ys) (statements_tokens ys) (flat_map (λ r. r ++ codes " ") ps) → Lays_as (lines.statements_line ns) (statements_tokens ns) (flat_map (λ r. r ++ codes " ") qs)
    → Lays_as (lines.statement_line (either_way test ys ns)) (statement_tokens (either_way test ys ns)) (codes "if (" ++ (p ++ (codes ") " ++ (block_text ps ++ else_text qs))))
either_way_laid test ys No_statement p ps [] m h k l = lays_so _ _ _ (if_is p ps) (if_laid ⊹ (h ⊹ ((x.lays_close ⊹ lays_space) ⊹ block_laid _ ps k)))
either_way_laid test ys No_statement p ps (q ∷ qs) m h k l = absurd m
either_way_laid test ys (Then s' ss) p ps [] m h k l = absurd m
either_way_laid test ys (Then s' ss) p ps (q ∷ qs) m h k l = if_laid ⊹ (h ⊹ ((x.lays_close ⊹ lays_space) ⊹ (block_laid _ ps k ⊹ (x.lays_apart x.lays_else ⊹ block_laid _ (q ∷ qs) l))))

function_is : (p q : Text) → (codes "(" ++ (p ++ codes ")")) ++ (codes " => " ++ q) ≡ codes "(" ++ (p ++ (codes ") => " ++ q))
function_is p q = ap (λ r. 40 ∷ r) (append_assoc p (codes ")") (codes " => " ++ q))

scope_texts : (more : List Characters) → Lays_as (lines.scope_line more) (scope_tokens more) (flat_map (λ later. codes ", " ++ later) (map bytes more))
scope_texts [] = lays_nothing
scope_texts (a ∷ more) = (comma_space ⊹ x.lays_name a) ⊹ scope_texts more

scope_laid : (a : Characters) (more : List Characters) → Lays_as (lines.statement_line (Scope a more)) (statement_tokens (Scope a more)) (statement_text (statement_tree 0 (Scope a more)))
unfolding encode_utf8 shape-the_row-Expr-0 hidden-the_row-Expr-0 hidden-the_row-Expr-2 hidden-the_row-Link-5 hidden
scope_laid a more = (x.lays_const ⊹ lays_space) ⊹ ((x.lays_square ⊹ ((x.lays_name a ⊹ scope_texts more) ⊹ x.lays_end_square)) ⊹ (x.lays_apart x.lays_equals ⊹ ((x.lays_name (codes "useLexicalScope") ⊹ (x.lays_open ⊹ x.lays_close)) ⊹ x.lays_semicolon)))

assigned : (target : Expression) (op : AssignOp) (v : Expression) (n m : ℕ) → Lays_as (lines.line (built target)) (tokens (built target)) (Text_of n target) → Lays_as (lines.line (built v)) (tokens (built v)) (Text_of m v)
    → Lays_as (lines.line (built target) ▹ lines.assign_line op ▹ lines.line (as_right_side op (built v))) (tokens (built target) ⨾ assign_sign op ⨾ tokens (as_right_side op (built v))) (expression_text (e.Assign op (tree n target) (tree m v)))
assigned target op v n m h k = lays_so _ _ _ (sym (eq.text_of_assign op (tree n target) (tree m v))) (h ⊹ (x.lays_assign op ⊹ right_side_laid op v m k))

bumped : (target : Expression) (up : Bool) (n : ℕ) → Lays_as (lines.line (built target)) (tokens (built target)) (Text_of n target) → Lays_as (lines.line (built target) ▹ lines.bump_line up) (tokens (built target) ⨾ bump_sign up) (expression_text (e.Step up (tree n target)))
bumped target up n h = lays_so _ _ _ (sym (eq.text_of_step up (tree n target))) (h ⊹ x.lays_bump up)

-- ---- the whole

mutual
  pub laid : (v : Expression) (n : ℕ) (R : List Token) → Numbers (tokens v R) → Lays_as (lines.line (built v)) (tokens (built v)) (Text_of n v) × Numbers R
  laid Undefined n R g = (x.lays_undefined, g)
  laid Null n R g = (x.lays_null, g)
  laid (Truth c) n R g = (x.lays_truth c, truth_numbers c R g)
  laid (Number digits) n R g = (lays_so _ _ _ (sym g.0) (x.lays_int digits), g.1)
  laid (Quoted quote pieces) n R g = (x.lays_quoted (map piece_value pieces), g)
  laid (Named a) n R g = (x.lays_name a, g)
  laid (Whole pieces) n R g = (lays_so _ _ _ (ap (λ p. codes "`" ++ (p ++ codes "`")) (sym (append-nil _)) ∙ sym (eq.text_of_template (value pieces ∷ []) [])) (x.lays_whole (map piece_value pieces)), g)
  laid (Holed pieces v more) n R g = let a = laid v n (holes_tokens more R) g in let m = n + arrows (tokens v) in let d = holes_laid more m R a.1 in (
    lays_so _ _ _ (holed_is (template_part (value pieces)) (parts_and_holes (parts_tree more) (map hole_text (map printed_of (holes_tree m more)))) (hole_text (printed_of (tree n v)))
        ∙ sym (eq.text_of_template (value pieces ∷ parts_tree more) (tree n v ∷ holes_tree m more))) (x.lays_first_part (map piece_value pieces) ⊹ (hole_laid v n a.0 ⊹ d.0)),
    d.1,
  )
  laid (Bracketed v) n R g = let a = laid v n (Token.Punct (codes ")") ∷ R) g in (a.0, a.1)
  laid (Listed arguments) n R g = let a = arguments_laid arguments n (Token.Punct (codes "]") ∷ R) g in (lays_so _ _ _ (sym (eq.text_of_list (arguments_tree n arguments))) (x.lays_square ⊹ (a.0 ⊹ x.lays_end_square)), a.2)
  laid (Recorded fields) n R g = let a = fields_laid fields n (Token.Punct (codes "}") ∷ R) g in (lays_so _ _ _ (sym (eq.text_of_record (fields_tree n fields))) (lays_braced _ _ _ a.1 a.0), a.2)
  laid (Markup element) n R g = let a = element_laid element n R g in (lays_so _ _ _ (sym (eq.text_of_markup (element_tree n element))) a.0, a.1)
  laid (Log v) n R g = let a = laid v n (Token.Punct (codes ")") ∷ R) g in
      (lays_so _ _ _ (sym (eq.text_of_known known.Log (tree n v ∷ []))) ((x.lays_console ⊹ (x.lays_dot ⊹ (x.lays_log ⊹ x.lays_open))) ⊹ (lays_so _ _ _ (sym (append-nil _)) a.0 ⊹ x.lays_close)), a.1)
  laid (Keys v) n R g = let a = laid v n (Token.Punct (codes ")") ∷ R) g in
      (lays_so _ _ _ (sym (eq.text_of_known known.Keys (tree n v ∷ []))) ((x.lays_Object ⊹ (x.lays_dot ⊹ (x.lays_keys ⊹ x.lays_open))) ⊹ (lays_so _ _ _ (sym (append-nil _)) a.0 ⊹ x.lays_close)), a.1)
  laid (Str v) n R g = let a = laid v n (Token.Punct (codes ")") ∷ R) g in
      (lays_so _ _ _ (sym (eq.text_of_known known.Str (tree n v ∷ []))) ((x.lays_String ⊹ x.lays_open) ⊹ (lays_so _ _ _ (sym (append-nil _)) a.0 ⊹ x.lays_close)), a.1)
  laid (Trunc v w) n R g = let a = laid v n (sign (codes "/") (tokens w (Token.Punct (codes ")") ∷ R))) g in let m = n + arrows (tokens v) in let c = laid w m (Token.Punct (codes ")") ∷ R) a.1 in (
    lays_so _ _ _ (ap (λ p. codes "Math.trunc(" ++ (p ++ codes ")")) (quotient_is (operand_text None (printed_of (tree n v))) (operand_text None (printed_of (tree m w)))) ∙ sym (eq.text_of_known known.Trunc (tree n v ∷ tree m w ∷ [])))
        ((x.lays_Math ⊹ (x.lays_dot ⊹ (x.lays_trunc ⊹ x.lays_open))) ⊹ ((operand_laid None v n a.0 ⊹ (x.lays_apart x.lays_slash ⊹ operand_laid None w m c.0)) ⊹ x.lays_close)),
    c.1,
  )
  laid (Postfix head link more) n R g = let a = laid head n (link_tokens link (links_tokens more R)) g in let m = n + arrows (tokens head) in let c = link_laid link m (links_tokens more R) a.1 in
      let k = n + arrows (tokens head ⨾ link_tokens link) in let d = links_laid more k R c.1 in
      (lays_so _ _ _ (sym (eq.text_of_post (tree n head) (link_tree m link ∷ links_tree k more))) (lays_by _ _ (built head) _ (same_head head n) a.0 ⊹ (c.0 ⊹ d.0)), d.1)
  laid (Prefix op v) n R g = let a = laid v n R (un_numbers op (tokens v R) g) in (lays_so _ _ _ (sym (eq.text_of_unary op (tree n v))) (x.lays_un op ⊹ operand_laid None v n a.0), a.1)
  laid (Chain v op w more) n R g = let a = laid v n (bin_sign op (tokens w (operands_tokens more R))) g in let m = n + arrows (tokens v) in let c = laid w m (operands_tokens more R) (bin_numbers op _ a.1) in
      let k = n + arrows (tokens v ⨾ tokens w) in let d = operands_laid more k R c.1 in (
        lays_so _ _ _ (sym (eq.text_of_chain (tree n v) (record { op = op; value = tree m w } ∷ operands_tree k more)))
            (operand_laid (Some op) v n a.0 ⊹ (x.lays_bin op ⊹ (lays_so _ _ _ (ap (λ o. operand_text o (printed_of (tree m w))) (first_of more k)) (operand_laid (first_of_operands more) w m c.0) ⊹ d.0))),
        d.1,
      )
  laid (Choice v w z) n R g = let a = laid v n (sign (codes "?") (tokens w (sign (codes ":") (tokens z R)))) g in let m = n + arrows (tokens v) in let c = laid w m (sign (codes ":") (tokens z R)) a.1 in
      let k = n + arrows (tokens v ⨾ tokens w) in let d = laid z k R c.1 in
      (lays_so _ _ _ (sym (eq.text_of_choice (tree n v) (tree m w) (tree k z))) (operand_laid None v n a.0 ⊹ (x.lays_apart x.lays_question ⊹ (operand_laid None w m c.0 ⊹ (x.lays_apart x.lays_colon ⊹ operand_laid None z k d.0)))), d.1)
  laid (Function parameters body) n R g = let a = body_laid body (n + 1) R (parameters_numbers parameters _ g) in (
    lays_so _ _ _ (function_is (commas (map pattern_text (parameters_tree parameters))) (body_text (body_tree (n + 1) body)) ∙ sym (eq.text_of_arrow n (parameters_tree parameters) (body_tree (n + 1) body)))
        (parameters_laid parameters ⊹ (x.lays_apart x.lays_arrow ⊹ a.0)),
    a.1,
  )

  pub operands_laid : (os : Operands) (n : ℕ) (R : List Token) → Numbers (operands_tokens os R) → Lays_as (lines.operands_line (built_operands os)) (operands_tokens (built_operands os)) (operands_text (map operated_of (operands_tree n os))) × Numbers R
  operands_laid No_operand n R g = (lays_nothing, g)
  operands_laid (Operand op v more) n R g = let a = laid v n (operands_tokens more R) (bin_numbers op _ g) in let m = n + arrows (tokens v) in let d = operands_laid more m R a.1 in
      (x.lays_bin op ⊹ (lays_so _ _ _ (ap (λ o. operand_text o (printed_of (tree n v))) (first_of more m)) (operand_laid (first_of_operands more) v n a.0) ⊹ d.0), d.1)

  pub holes_laid : (hs : Holes) (n : ℕ) (R : List Token) → Numbers (holes_tokens hs R) → Lays_as (lines.holes_line (built_holes hs)) (holes_tokens (built_holes hs)) (codes "}" ++ (parts_and_holes (parts_tree hs) (map hole_text (map printed_of (holes_tree n hs))) ++ codes "`")) × Numbers R
  holes_laid (Last_part pieces) n R g = (lays_so _ _ _ (ap (λ p. codes "}" ++ (p ++ codes "`")) (sym (append-nil _))) (x.lays_last_part (map piece_value pieces)), g)
  holes_laid (Part_hole pieces v more) n R g = let a = laid v n (holes_tokens more R) g in let m = n + arrows (tokens v) in let d = holes_laid more m R a.1 in (
    lays_so _ _ _ (later_is (template_part (value pieces)) (parts_and_holes (parts_tree more) (map hole_text (map printed_of (holes_tree m more)))) (hole_text (printed_of (tree n v))))
        (x.lays_later_part (map piece_value pieces) ⊹ (hole_laid v n a.0 ⊹ d.0)),
    d.1,
  )

  pub link_laid : (k : Link) (n : ℕ) (R : List Token) → Numbers (link_tokens k R) → Lays_as (lines.link_line (built_link k)) (link_tokens (built_link k)) (link_text (link_tree n k)) × Numbers R
  link_laid (Dot w) n R g = (x.lays_dot ⊹ word_laid w, word_numbers w R g)
  link_laid (Index v) n R g = let a = laid v n (Token.Punct (codes "]") ∷ R) g in (x.lays_square ⊹ (a.0 ⊹ x.lays_end_square), a.1)
  link_laid (Call arguments) n R g = let a = arguments_laid arguments n (Token.Punct (codes ")") ∷ R) g in (lays_so _ _ _ (sym (eq.text_of_call (arguments_tree n arguments))) (x.lays_open ⊹ (a.0 ⊹ x.lays_close)), a.2)

  pub links_laid : (ls : Links) (n : ℕ) (R : List Token) → Numbers (links_tokens ls R) → Lays_as (lines.links_line (built_links ls)) (links_tokens (built_links ls)) (flat_map link_text (links_tree n ls)) × Numbers R
  links_laid No_link n R g = (lays_nothing, g)
  links_laid (Next_link link more) n R g = let a = link_laid link n (links_tokens more R) g in let d = links_laid more (n + arrows (link_tokens link)) R a.1 in (a.0 ⊹ d.0, d.1)

  pub arguments_laid : (as' : Arguments) (n : ℕ) (R : List Token) → Numbers (arguments_tokens as' R) → Lays_as (lines.arguments_line (built_arguments as')) (arguments_tokens (built_arguments as')) (commas (map expression_text (arguments_tree n as')))
      × Matched (no_argument (built_arguments as')) (map expression_text (arguments_tree n as')) × Numbers R
  arguments_laid No_argument n R g = (lays_nothing, tt, g)
  arguments_laid (Only v) n R g = let a = laid v n R g in (lays_so _ _ _ (sym (append-nil _)) a.0, tt, a.1)
  arguments_laid (Comma v more) n R g = let a = laid v n (comma (arguments_tokens more R)) g in let d = arguments_laid more (n + arrows (tokens v)) R a.1 in
      (then_arguments_laid (built v) (built_arguments more) _ _ d.1 a.0 d.0, matched_cons _ _ _ (some_argument (built v) (built_arguments more)), d.2)

  pub field_laid : (f : Field) (n : ℕ) (R : List Token) → Numbers (field_tokens f R) → Lays_as (lines.field_line (built_field f)) (field_tokens (built_field f)) (field_text (keyed_of (field_tree n f))) × Numbers R
  field_laid (Key w v) n R g = let a = laid v n R (word_numbers w _ g) in (lays_so _ _ _ (ap quoted (word_bytes w)) (x.lays_quoted (word_characters w)) ⊹ ((x.lays_colon ⊹ lays_space) ⊹ a.0), a.1)
  field_laid (Quoted_key quote pieces v) n R g = let a = laid v n R g in (x.lays_quoted (map piece_value pieces) ⊹ ((x.lays_colon ⊹ lays_space) ⊹ a.0), a.1)
  field_laid (Short a) n R g = (x.lays_quoted a ⊹ ((x.lays_colon ⊹ lays_space) ⊹ x.lays_name a), g)

  pub fields_laid : (fs : Fields) (n : ℕ) (R : List Token) → Numbers (fields_tokens fs R) → Lays_as (lines.fields_line (built_fields fs)) (fields_tokens (built_fields fs)) (commas (map field_text (map keyed_of (fields_tree n fs))))
      × Matched (no_field (built_fields fs)) (map field_text (map keyed_of (fields_tree n fs))) × Numbers R
  fields_laid No_field n R g = (lays_nothing, tt, g)
  fields_laid (Only_field f) n R g = let a = field_laid f n R g in (lays_so _ _ _ (sym (append-nil _)) a.0, tt, a.1)
  fields_laid (Field_comma f more) n R g = let a = field_laid f n (comma (fields_tokens more R)) g in let d = fields_laid more (n + arrows (field_tokens f)) R a.1 in
      (then_fields_laid (built_field f) (built_fields more) _ _ d.1 a.0 d.0, matched_cons _ _ _ (some_field (built_field f) (built_fields more)), d.2)

  pub element_laid : (el : Element) (n : ℕ) (R : List Token) → Numbers (element_tokens el R) → Lays_as (lines.element_line (built_element el)) (element_tokens (built_element el)) (jsx (element_tree n el)) × Numbers R
  element_laid (Closed tag attributes) n R g = let a = attributes_laid attributes n (Token.Punct (codes "/>") ∷ R) g in
      (lays_so _ _ _ (tag_is tag (map attribute_text (map keyed_of (attributes_tree n attributes))) [] ∙ sym (eq.text_of_element (tag_tree tag) (attributes_tree n attributes) [])) (x.lays_tag ⊹ (x.lays_name tag ⊹ (a.0 ⊹ x.lays_tag_closed))), a.1)
  element_laid (Open tag attributes children end) n R g = let a = attributes_laid attributes n (sign (codes ">") (children_tokens children (Token.Punct (codes "</") ∷ Token.Name end ∷ Token.Punct (codes ">") ∷ R))) g in
      let m = n + arrows (attributes_tokens attributes) in let d = children_laid children m (Token.Punct (codes "</") ∷ Token.Name end ∷ Token.Punct (codes ">") ∷ R) a.1 in
      (lays_so _ _ _ (tag_is tag (map attribute_text (map keyed_of (attributes_tree n attributes))) (map child_text (map printed_of (children_tree m children))) ∙ sym (eq.text_of_element (tag_tree tag) (attributes_tree n attributes) (children_tree m children))) (lays_opened tag (built_attributes attributes) (built_children children) (map attribute_text (map keyed_of (attributes_tree n attributes))) (map child_text (map printed_of (children_tree m children))) d.1 a.0 d.0), d.2)
  element_laid (Fragment children) n R g = let d = children_laid children n (Token.Punct (codes "</>") ∷ R) g in
      (lays_so _ _ _ (sym (eq.text_of_element t.Fragment [] (children_tree n children))) (x.lays_fragment ⊹ (d.0 ⊹ x.lays_fragment_closing)), d.2)

  pub attributes_laid : (as' : Attributes) (n : ℕ) (R : List Token) → Numbers (attributes_tokens as' R) → Lays_as (lines.attributes_line (built_attributes as')) (attributes_tokens (built_attributes as')) (flat_map (λ a. a) (map attribute_text (map keyed_of (attributes_tree n as')))) × Numbers R
  attributes_laid No_attribute n R g = (lays_nothing, g)
  attributes_laid (Set a more) n R g = let d = attributes_laid more n R g in ((lays_space ⊹ (x.lays_name a ⊹ ((x.lays_equals ⊹ x.lays_brace) ⊹ (x.lays_true ⊹ x.lays_end_brace)))) ⊹ d.0, d.1)
  attributes_laid (Set_text a quote text more) n R g = let d = attributes_laid more n R g in ((lays_space ⊹ (x.lays_name a ⊹ ((x.lays_equals ⊹ x.lays_brace) ⊹ (x.lays_quoted (decoded text) ⊹ x.lays_end_brace)))) ⊹ d.0, d.1)
  attributes_laid (Set_value a v more) n R g = let c = laid v n (sign (codes "}") (attributes_tokens more R)) g in let d = attributes_laid more (n + arrows (tokens v)) R c.1 in
      ((lays_space ⊹ (x.lays_name a ⊹ ((x.lays_equals ⊹ x.lays_brace) ⊹ (c.0 ⊹ x.lays_end_brace)))) ⊹ d.0, d.1)

  pub children_laid : (cs : Children) (n : ℕ) (R : List Token) → Numbers (children_tokens cs R) → Lays_as (lines.children_line (built_children cs)) (children_tokens (built_children cs)) (flat_map (λ c. c) (map child_text (map printed_of (children_tree n cs))))
      × Matched (no_child (built_children cs)) (map child_text (map printed_of (children_tree n cs))) × Numbers R
  children_laid No_child n R g = (lays_nothing, tt, g)
  children_laid (Text_child text more) n R g = let d = children_laid more n R g in (text_child_laid (jsx_text text) (built_children more) (children_tree n more) d.0, text_child_matched (jsx_text text) (built_children more) (children_tree n more) d.1, d.2)
  children_laid (Empty_child more) n R g = children_laid more n R g
  children_laid (Value_child v more) n R g = let a = laid v n (sign (codes "}") (children_tokens more R)) g in let d = children_laid more (n + arrows (tokens v)) R a.1 in
      (lays_child (built v) (built_children more) _ _ _ (same_markup v n) a.0 d.0, value_child_matched (built v) (built_children more) _ _, d.2)
  children_laid (Element_child element more) n R g = let a = element_laid element n (children_tokens more R) g in let d = children_laid more (n + arrows (element_tokens element)) R a.1 in
      (lays_so _ _ _ (sym (eq.text_of_markup (element_tree n element))) a.0 ⊹ d.0, tt, d.2)

  pub body_laid : (d : Body) (n : ℕ) (R : List Token) → Numbers (body_tokens d R) → Lays_as (lines.body_line (built_body d)) (body_tokens (built_body d)) (body_text (body_tree n d)) × Numbers R
  body_laid (Block_body block) n R g = let a = statements_laid block n (Token.Punct (codes "}") ∷ R) g in (lays_so _ _ _ (sym (eq.text_of_body (statements_tree n block))) ((x.lays_brace ⊹ lays_space) ⊹ (a.0 ⊹ x.lays_end_brace)), a.2)
  body_laid (Step_body (Plain_step v)) n R g = let a = laid v n R g in (lays_so _ _ _ (sym (eq.text_of_value (tree n v))) (lays_by _ _ (built v) _ (ap not (same_record v n)) a.0), a.1)
  body_laid (Step_body (Assign target op v)) n R g = let a = laid target n (assign_sign op (tokens v R)) g in let m = n + arrows (tokens target) in let c = laid v m R (assign_numbers op _ a.1) in (lays_so _ _ _ (sym (eq.text_of_value (e.Assign op (tree n target) (tree m v)))) (assigned target op v n m a.0 c.0), c.1)
  body_laid (Step_body (Bump target up)) n R g = let a = laid target n (bump_sign up R) g in (lays_so _ _ _ (sym (eq.text_of_value (e.Step up (tree n target)))) (bumped target up n a.0), bump_numbers up R a.1)

  pub step_laid : (k : Step) (n : ℕ) (R : List Token) → Numbers (step_tokens k R) → Lays_as (lines.step_line (built_step k)) (step_tokens (built_step k)) (expression_text (step_tree n k)) × Numbers R
  step_laid (Plain_step v) n R g = laid v n R g
  step_laid (Assign target op v) n R g = let a = laid target n (assign_sign op (tokens v R)) g in let m = n + arrows (tokens target) in let c = laid v m R (assign_numbers op _ a.1) in (assigned target op v n m a.0 c.0, c.1)
  step_laid (Bump target up) n R g = let a = laid target n (bump_sign up R) g in (bumped target up n a.0, bump_numbers up R a.1)

  pub statement_laid : (k : Statement) (n : ℕ) (R : List Token) → Numbers (statement_tokens k R) → Lays_as (lines.statement_line (built_statement k)) (statement_tokens (built_statement k)) (statement_text (statement_tree n k)) × Numbers R
  statement_laid (Const binding v) n R g = let a = laid v n (Token.Punct (codes ";") ∷ R) (binding_numbers binding _ g) in
      ((x.lays_const ⊹ lays_space) ⊹ (binding_laid binding ⊹ (x.lays_apart x.lays_equals ⊹ (a.0 ⊹ x.lays_semicolon))), a.1)
  statement_laid (Scope a more) n R g = (scope_laid a more, scope_numbers more _ g)
  statement_laid (Let a v) n R g = let c = laid v n (Token.Punct (codes ";") ∷ R) g in ((x.lays_let ⊹ lays_space) ⊹ (x.lays_name a ⊹ (x.lays_apart x.lays_equals ⊹ (c.0 ⊹ x.lays_semicolon))), c.1)
  statement_laid Return n R g = (x.lays_return ⊹ x.lays_semicolon, g)
  statement_laid (Return_step step) n R g = let a = step_laid step n (Token.Punct (codes ";") ∷ R) g in ((x.lays_return ⊹ lays_space) ⊹ (a.0 ⊹ x.lays_semicolon), a.1)
  statement_laid (If test yes') n R g = let a = laid test n (sign (codes ")") (part_tokens yes' R)) g in let m = n + arrows (tokens test) in let c = part_laid yes' m R a.1 in
      (lays_so _ _ _ (if_is (Text_of n test) (map statement_text (part_tree m yes')) ∙ sym (eq.text_of_if (tree n test) (part_tree m yes') [])) (if_laid ⊹ (a.0 ⊹ ((x.lays_close ⊹ lays_space) ⊹ block_laid _ (map statement_text (part_tree m yes')) c.0))), c.2)
  statement_laid (If_else test yes' no') n R g = let a = laid test n (sign (codes ")") (part_tokens yes' (word (codes "else") (part_tokens no' R)))) g in let m = n + arrows (tokens test) in
      let c = part_laid yes' m (word (codes "else") (part_tokens no' R)) a.1 in let k = n + arrows (tokens test ⨾ part_tokens yes') in let d = part_laid no' k R c.2 in
      (lays_so _ _ _ (sym (eq.text_of_if (tree n test) (part_tree m yes') (part_tree k no'))) (either_way_laid (built test) (built_part yes') (built_part no') (Text_of n test) (map statement_text (part_tree m yes')) (map statement_text (part_tree k no')) d.1 a.0 c.0 d.0), d.2)
  statement_laid (While test part) n R g = let a = laid test n (sign (codes ")") (part_tokens part R)) g in let m = n + arrows (tokens test) in let c = part_laid part m R a.1 in
      (lays_so _ _ _ (sym (eq.text_of_while (tree n test) (part_tree m part))) ((x.lays_while ⊹ (lays_space ⊹ x.lays_open)) ⊹ (a.0 ⊹ ((x.lays_close ⊹ lays_space) ⊹ block_laid _ (map statement_text (part_tree m part)) c.0))), c.2)
  statement_laid (For_of a v part) n R g = let c = laid v n (sign (codes ")") (part_tokens part R)) g in let m = n + arrows (tokens v) in let d = part_laid part m R c.1 in (
    lays_so _ _ _ (sym (eq.text_of_for (bytes a) (tree n v) (part_tree m part)))
        ((x.lays_for ⊹ (lays_space ⊹ (x.lays_open ⊹ (x.lays_const ⊹ lays_space)))) ⊹ (x.lays_name a ⊹ (x.lays_apart x.lays_of ⊹ (hole_laid v n c.0 ⊹ ((x.lays_close ⊹ lays_space) ⊹ block_laid _ (map statement_text (part_tree m part)) d.0))))),
    d.2,
  )
  statement_laid Break n R g = (x.lays_break ⊹ x.lays_semicolon, g)
  statement_laid Continue n R g = (x.lays_continue ⊹ x.lays_semicolon, g)
  statement_laid (Delete target) n R g = let a = laid target n (Token.Punct (codes ";") ∷ R) g in ((x.lays_delete ⊹ lays_space) ⊹ (a.0 ⊹ x.lays_semicolon), a.1)
  statement_laid (Block block) n R g = let a = statements_laid block n (Token.Punct (codes "}") ∷ R) g in (lays_so _ _ _ (sym (eq.text_of_block (statements_tree n block))) ((x.lays_brace ⊹ lays_space) ⊹ (a.0 ⊹ x.lays_end_brace)), a.2)
  statement_laid (Do (Plain_step v)) n R g = let a = laid v n (Token.Punct (codes ";") ∷ R) g in (lays_by _ _ (built v) _ (same_statement_form v n) a.0 ⊹ x.lays_semicolon, a.1)
  statement_laid (Do (Assign target op v)) n R g = let a = laid target n (assign_sign op (tokens v (Token.Punct (codes ";") ∷ R))) g in let m = n + arrows (tokens target) in let c = laid v m (Token.Punct (codes ";") ∷ R) (assign_numbers op _ a.1) in (assigned target op v n m a.0 c.0 ⊹ x.lays_semicolon, c.1)
  statement_laid (Do (Bump target up)) n R g = let a = laid target n (bump_sign up (Token.Punct (codes ";") ∷ R)) g in (bumped target up n a.0 ⊹ x.lays_semicolon, bump_numbers up (Token.Punct (codes ";") ∷ R) a.1)

  pub statements_laid : (ss : Statements) (n : ℕ) (R : List Token) → Numbers (statements_tokens ss R) → Lays_as (lines.statements_line (built_statements ss)) (statements_tokens (built_statements ss)) (flat_map (λ p. p ++ codes " ") (map statement_text (statements_tree n ss)))
      × Matched (no_statement (built_statements ss)) (map statement_text (statements_tree n ss)) × Numbers R
  statements_laid No_statement n R g = (lays_nothing, tt, g)
  statements_laid (Then statement more) n R g = let a = statement_laid statement n (statements_tokens more R) g in let d = statements_laid more (n + arrows (statement_tokens statement)) R a.1 in
      ((a.0 ⊹ lays_space) ⊹ d.0, tt, d.2)

  pub part_laid : (q : Part) (n : ℕ) (R : List Token) → Numbers (part_tokens q R) → Lays_as (lines.statements_line (built_part q)) (statements_tokens (built_part q)) (flat_map (λ p. p ++ codes " ") (map statement_text (part_tree n q)))
      × Matched (no_statement (built_part q)) (map statement_text (part_tree n q)) × Numbers R
  part_laid (Block_part block) n R g = let a = statements_laid block n (Token.Punct (codes "}") ∷ R) g in (a.0, a.1, a.2)
  part_laid (Statement_part statement) n R g = let a = statement_laid statement n R g in (lays_so _ _ _ (sym (append-nil _)) (a.0 ⊹ lays_space), tt, a.1)
