-- What is printed for a text whose tokens stand may stand.
use Rattle.std.specs.Prelude.{refl, Bool, true, false, Some, None, List, [], ◌∷◌, map, codes, IsTrue}
use Rattle.std.proofs.lemmas.Bool.{false≢true}
use Rattle.qk_ast.specs.declared.Form.TheVariants.{Source}
use Rattle.qk_ast.specs.declared.Un.{Un}
use Rattle.qk_ast.specs.declared.Un.TheVariants as un
use Rattle.qk_ast.specs.declared.Bin.{Bin}
use Rattle.qk_ast.specs.declared.Bin.TheVariants as bin
use Rattle.qk_ast.specs.declared.AssignOp.{AssignOp}
use Rattle.qk_ast.specs.declared.AssignOp.TheVariants as assign
use Rattle.qk_ast.specs.Characters.{Characters}
use Rattle.qk_ast.specs.JsxText.{jsx_text, decoded}
use Rattle.qk_ast.specs.Tokens.{Token, Around, Braces, In_hole, In_tag, Children as Child_region, is_code, piece_value, written}
use Rattle.qk_ast.specs.Rules.{keeps, operands_keep, holes_keep, link_keeps, links_keep, arguments_keep, field_keeps, fields_keep, element_keeps, attributes_keep, children_keep, body_keeps, step_keeps, statement_keeps, statements_keep, part_keeps}
use Rattle.qk_ast.specs.Grammar.{Names, Last_name, Last_comma, Next_name, Binding, Plain as Plain_name, Fields_of, Bindings, No_binding, Only_binding, Binding_comma, Parameters, Bare, In_brackets, Word, Free, Taken, Expression, Undefined, Null, Truth, Number, Quoted, Named, Whole, Holed, Bracketed, Listed, Recorded, Markup, Log, Keys, Str, Trunc, Postfix, Prefix, Chain, Choice, Function, Operands, No_operand, Operand, Holes, Last_part, Part_hole, Link, Dot, Index, Call, Links, No_link, Next_link, Arguments, No_argument, Only, Comma, Field, Key, Quoted_key, Short, Fields, No_field, Only_field, Field_comma, Element, Closed, Open, Fragment, Attributes, No_attribute, Set, Set_text, Set_value, Children, No_child, Text_child, Empty_child, Value_child, Element_child, Body, Block_body, Step_body, Step, Plain_step, Assign, Bump, Statement, Const, Scope, Let, Return, Return_step, If, If_else, While, For_of, Break, Continue, Delete, Block, Do, Statements, No_statement, Then, Part, Block_part, Statement_part, Level}
use Rattle.qk_ast.specs.Spelling.{tokens, names_tokens, binding_tokens, bindings_tokens, parameters_tokens, word_tokens, un_sign, bin_sign, assign_sign, bump_sign, truth_word, operands_tokens, holes_tokens, link_tokens, links_tokens, arguments_tokens, field_tokens, fields_tokens, element_tokens, attributes_tokens, children_tokens, body_tokens, step_tokens, statement_tokens, statements_tokens, part_tokens}
use Rattle.qk_print.proofs.Rewriting.{first_of_operands, word_characters, unless_record, built_names, built_binding, built_bindings, built_parameters, built, built_operands, built_holes, built_link, built_links, built_arguments, built_field, built_fields, built_element, built_attributes, built_children, built_body, built_step, built_statement, built_statements, built_part}
use Rattle.qk_print.proofs.Lines.{no_field, names_line, binding_line, bindings_line, parameters_line, arguments_line, field_line, fields_line, body_line, step_line, statement_line, statements_line}
use Rattle.qk_print.proofs.Fitting.{Fit, said, past, past_sign, past_brace}
use Rattle.qk_print.proofs.Pieces_stand.{template_stands}
use Rattle.qk_print.proofs.Neighbours.{spaced, code_token, keyword, name_apart, code_sign, code_apart, bin_stands, soft_bin}
use Rattle.qk_print.proofs.Stands_parts.{Plain, Inner, braced_stands, block_stands, comma_stands, then_bindings_stand, then_fields_stand, Stood, inside, bare, enclosed_stands, operand, calm_operand, head, calm_head, outside, as_a_statement, int_calm, un_stands, target_bare, member_bare, assigned_stands, bumped_stands, then_arguments_stand, Operands_stand, Link_stands, Links_stand, soft_link, last_link, next_link, taken_shuts, Element_stands, Attributes_stand, Children_stand, set_value_stands, closed_stands, opened_stands, fragment_stands, element_child_stands, value_child_stands, quoted_stands, text_child_stands, Holes_stand, soft_holes, either_way_stands, soft_operands, free_shuts, named_stands, key_stands, nothing_stands, then_stands, tested_stands}

-- ---- past signs of operators

past_un : (around : Around) (op : Un) (R : List Token) → IsTrue (is_code around) → Fit around (un_sign op R) → Fit around R
past_un around un.Not R c h = past_sign c refl refl h
past_un around un.Neg R c h = past_sign c refl refl h

past_bin : (around : Around) (op : Bin) (R : List Token) → IsTrue (is_code around) → Fit around (bin_sign op R) → Fit around R
past_bin around bin.Or R c h = past_sign c refl refl h
past_bin around bin.And R c h = past_sign c refl refl h
past_bin around bin.Coalesce R c h = past_sign c refl refl h
past_bin around bin.Same R c h = past_sign c refl refl h
past_bin around bin.NotSame R c h = past_sign c refl refl h
past_bin around bin.Less R c h = past_sign c refl refl h
past_bin around bin.LessEq R c h = past_sign c refl refl h
past_bin around bin.More R c h = past_sign c refl refl h
past_bin around bin.MoreEq R c h = past_sign c refl refl h
past_bin around bin.Add R c h = past_sign c refl refl h
past_bin around bin.Sub R c h = past_sign c refl refl h
past_bin around bin.Mul R c h = past_sign c refl refl h
past_bin around bin.Rem R c h = past_sign c refl refl h

past_assign : (around : Around) (op : AssignOp) (R : List Token) → IsTrue (is_code around) → Fit around (assign_sign op R) → Fit around R
past_assign around assign.Set R c h = past_sign c refl refl h
past_assign around assign.Add R c h = past_sign c refl refl h
past_assign around assign.Sub R c h = past_sign c refl refl h
past_assign around assign.Mul R c h = past_sign c refl refl h

past_bump : (around : Around) (up : Bool) (R : List Token) → IsTrue (is_code around) → Fit around (bump_sign up R) → Fit around R
past_bump around true R c h = past_sign c refl refl h
past_bump around false R c h = past_sign c refl refl h

past_truth : (around : Around) (b : Bool) (R : List Token) → Fit around (truth_word b R) → Fit around R
past_truth around true R h = past h
past_truth around false R h = past h

past_word : (around : Around) (w : Word) (R : List Token) → Fit around (word_tokens w R) → Fit around R
past_word around (Free a) R h = past h
past_word around (Taken a) R h = past h

true_stands : Stood (Truth true)
true_stands = record { here = λ a t Q d n k. code_token d (refl, n) (k _ refl); calm = λ q Q. (refl, refl) }

-- ---- names and patterns

pub names_stand : (ns : Names) (around : Around) (R : List Token) → IsTrue (is_code around) → Fit around (names_tokens ns R) → Plain (names_line (built_names ns)) × Fit around R
names_stand (Last_name a) around R c h = let f = said c h in (record { here = λ Q d n k. code_token d (f.0, f.1, n) (k _) }, past h)
names_stand (Last_comma a) around R c h = let f = said c h in (record { here = λ Q d n k. code_token d (f.0, f.1, n) (k _) }, past_sign c refl refl (past h))
names_stand (Next_name a more) around R c h = let f = said c h in let m = names_stand more around R c (past_sign c refl refl (past h)) in
    (record { here = λ Q d n k. code_token d (f.0, f.1, refl) (comma_stands d (m.0.here Q d n k)) }, m.1)

pub binding_stands : (d : Binding) (around : Around) (R : List Token) → IsTrue (is_code around) → Fit around (binding_tokens d R) → Plain (binding_line (built_binding d)) × Fit around R
binding_stands (Plain_name a) around R c h = let f = said c h in (record { here = λ Q d n k. code_token d (f.0, f.1, n) (k _) }, past h)
binding_stands (Fields_of names) around R c h = let m = names_stand names (Braces ∷ around) (Token.Punct (codes "}") ∷ R) refl (past_brace c h) in (braced_stands false _ m.0, past m.1)

bindings_stand : (bs : Bindings) (around : Around) (R : List Token) → IsTrue (is_code around) → Fit around (bindings_tokens bs R) → Plain (bindings_line (built_bindings bs)) × Fit around R
bindings_stand No_binding around R c h = (nothing_stands, h)
bindings_stand (Only_binding d) around R c h = binding_stands d around R c h
bindings_stand (Binding_comma d more) around R c h = let b = binding_stands d around (Token.Punct (codes ",") ∷ bindings_tokens more R) c h in let m = bindings_stand more around R c (past_sign c refl refl b.1) in
    (then_bindings_stand (built_binding d) (built_bindings more) b.0 m.0, m.1)

parameters_stand : (ps : Parameters) (around : Around) (R : List Token) → IsTrue (is_code around) → Fit around (parameters_tokens ps R) → Plain (parameters_line (built_parameters ps)) × Fit around R
parameters_stand (Bare a) around R c h = let f = said c h in (record { here = λ Q d n k. code_sign (codes "(") d refl refl refl (code_token d (f.0, f.1, refl) (code_sign (codes ")") d refl refl refl (k _))) }, past h)
parameters_stand (In_brackets bs) around R c h = let m = bindings_stand bs around (Token.Punct (codes ")") ∷ R) c (past_sign c refl refl h) in
    (record { here = λ Q d n k. code_sign (codes "(") d refl refl refl (m.0.here _ d refl (λ u. code_sign (codes ")") d refl refl refl (k _))) }, past_sign c refl refl m.1)

-- ---- the whole

mutual
  pub stood : (v : Expression) (around : Around) (R : List Token) → IsTrue (is_code around) → keeps Source v → Fit around (tokens v R) → Stood (built v) × Fit around R
  stood Undefined around R c p h = (record { here = λ a t Q d n k. code_token d (refl, n) (k _ refl); calm = λ q Q. (refl, refl) }, past h)
  stood Null around R c p h = (record { here = λ a t Q d n k. code_token d (refl, n) (k _ refl); calm = λ q Q. (refl, refl) }, past h)
  stood (Truth true) around R c p h = (true_stands, past h)
  stood (Truth false) around R c p h = (record { here = λ a t Q d n k. code_token d (refl, n) (k _ refl); calm = λ q Q. (refl, refl) }, past h)
  stood (Number digits) around R c p h = let f = said c h in (record { here = λ a t Q d n k. code_token d (f, n) (k _ refl); calm = λ q Q. int_calm digits (written Q []) f }, past h)
  stood (Quoted quote pieces) around R c p h = (quoted_stands (map piece_value pieces), past h)
  stood (Named a) around R c p h = let f = said c h in (named_stands a f.0 f.1, past h)
  stood (Whole pieces) around R c p h = (record { here = λ a t Q d n k. code_token d (template_stands (map piece_value pieces) _) (k _ refl); calm = λ q Q. (refl, refl) }, past h)
  stood (Holed pieces v more) around R c p h = let s = stood v (In_hole ∷ around) (holes_tokens more R) refl p.0 (past h) in let m = holes_stand more around R p.1 s.1 in
      (record { here = λ a t Q d n k. code_token d (template_stands (map piece_value pieces) _) (outside (built v) s.0 refl (soft_holes (built_holes more) Q) (λ u. m.0.here Q k)); calm = λ q Q. (refl, refl) }, m.1)
  stood (Bracketed v) around R c p h = let s = stood v around (Token.Punct (codes ")") ∷ R) c p (past_sign c refl refl h) in (s.0, past_sign c refl refl s.1)
  stood (Listed arguments) around R c p h = let s = arguments_stand arguments around (Token.Punct (codes "]") ∷ R) c p (past_sign c refl refl h) in
      (record { here = λ a t Q d n k. code_sign (codes "[") d refl refl refl (s.0.here _ d refl refl (λ u. code_sign (codes "]") d refl refl refl (k _ refl))); calm = λ q Q. (refl, refl) }, past_sign c refl refl s.1)
  stood (Recorded fields) around R c p h = let s = fields_stand fields [] (Braces ∷ around) (Token.Punct (codes "}") ∷ R) refl p (past_brace c h) in
      (record { here = λ a t Q d n k. (braced_stands (no_field (built_fields fields)) _ s.0).here Q d n (λ u. k u tt); calm = λ q Q. absurd (false≢true q) }, past s.1)
  stood (Markup element) around R c p h = let s = element_stands element around R p h in (record { here = λ a t Q d n k. s.0.here a t Q d (λ u. k u tt); calm = λ q Q. absurd (false≢true q) }, s.1)
  stood (Log v) around R c p h = let s = stood v around (Token.Punct (codes ")") ∷ R) c p (past_sign c refl refl (past (past_sign c refl refl (past h)))) in (
    record {
      here = λ a t Q d n k. code_token d (refl, refl, refl) (code_sign (codes ".") d refl refl refl (code_token d (refl, refl, refl) (code_sign (codes "(") d refl refl refl (inside (built v) s.0 d refl refl (λ u q. code_sign (codes ")") d refl refl refl (k _ refl))))));
      calm = λ q Q. (refl, refl);
    },
    past_sign c refl refl s.1,
  )
  stood (Keys v) around R c p h = let s = stood v around (Token.Punct (codes ")") ∷ R) c p (past_sign c refl refl (past (past_sign c refl refl (past h)))) in (
    record {
      here = λ a t Q d n k. code_token d (refl, refl, refl) (code_sign (codes ".") d refl refl refl (code_token d (refl, refl, refl) (code_sign (codes "(") d refl refl refl (inside (built v) s.0 d refl refl (λ u q. code_sign (codes ")") d refl refl refl (k _ refl))))));
      calm = λ q Q. (refl, refl);
    },
    past_sign c refl refl s.1,
  )
  stood (Str v) around R c p h = let s = stood v around (Token.Punct (codes ")") ∷ R) c p (past_sign c refl refl (past h)) in (
    record {
      here = λ a t Q d n k. code_token d (refl, refl, refl) (code_sign (codes "(") d refl refl refl (inside (built v) s.0 d refl refl (λ u q. code_sign (codes ")") d refl refl refl (k _ refl))));
      calm = λ q Q. (refl, refl);
    },
    past_sign c refl refl s.1,
  )
  stood (Trunc v w) around R c p h = let s = stood v around (Token.Punct (codes "/") ∷ tokens w (Token.Punct (codes ")") ∷ R)) c p.2 (past_sign c refl refl (past (past_sign c refl refl (past h)))) in
      let r = stood w around (Token.Punct (codes ")") ∷ R) c p.3 (past_sign c refl refl s.1) in (
        record {
          here = λ a t Q d n k. code_token d (refl, refl, refl) (code_sign (codes ".") d refl refl refl (code_token d (refl, refl, refl) (code_sign (codes "(") d refl refl refl
              (operand None (built v) s.0 d refl (λ u q. code_apart (codes "/") d refl refl (λ cs. refl) (operand None (built w) r.0 d refl (λ u q. code_sign (codes ")") d refl refl refl (k _ refl))))))));
          calm = λ q Q. (refl, refl);
        },
        past_sign c refl refl r.1,
      )
  stood (Postfix x link more) around R c p h = let s = stood x around (link_tokens link (links_tokens more R)) c p.2 h in let r = link_stands link around (links_tokens more R) c p.3 s.1 in
      let m = links_stand more around R c p.4 r.1 in let l = m.0 (built_link link) r.0 in
      (record { here = λ a t Q d n k. head (built x) s.0 d (soft_link (built_link link) _) (λ u. l.here Q d n k); calm = λ q Q. calm_head (built x) s.0 _ }, m.1)
  stood (Prefix op v) around R c p h = let s = stood v around R c p.1 (past_un around op _ c h) in
      (record { here = λ a t Q d n k. un_stands op d (calm_operand None (built v) s.0 _) (λ u. operand None (built v) s.0 d n (λ w q. k w tt)); calm = λ q Q. absurd (false≢true q) }, s.1)
  stood (Chain v op w more) around R c p h = let s = stood v around (bin_sign op (tokens w (operands_tokens more R))) c p.1 h in let r = stood w around (operands_tokens more R) c p.3 (past_bin around op _ c s.1) in
      let m = operands_stand more around R _ c p.4 r.1 in (
        record {
          here = λ a t Q d n k. operand (Some op) (built v) s.0 d (soft_bin op _) (λ u q. bin_stands op d q (λ u. operand (first_of_operands more) (built w) r.0 d (soft_operands (built_operands more) Q n) (λ u q. m.0.here Q d n q (λ u. k u tt))));
          calm = λ q Q. absurd (false≢true q);
        },
        m.1,
      )
  stood (Choice v w z) around R c p h = let s = stood v around (Token.Punct (codes "?") ∷ tokens w (Token.Punct (codes ":") ∷ tokens z R)) c p.1 h in
      let r = stood w around (Token.Punct (codes ":") ∷ tokens z R) c p.2 (past_sign c refl refl s.1) in let m = stood z around R c p.3 (past_sign c refl refl r.1) in (
        record {
          here = λ a t Q d n k. operand None (built v) s.0 d refl (λ u q. code_apart (codes "?") d refl refl (λ cs. refl) (operand None (built w) r.0 d refl (λ u q. code_apart (codes ":") d refl refl (λ cs. refl) (operand None (built z) m.0 d n (λ u q. k u tt)))));
          calm = λ q Q. absurd (false≢true q);
        },
        m.1,
      )
  stood (Function parameters body) around R c p h = let s = parameters_stand parameters around _ c h in let m = body_stands body around R c p (past_sign c refl refl s.1) in
      (record { here = λ a t Q d n k. s.0.here _ d refl (λ u. code_apart (codes "=>") d refl refl (λ cs. refl) (m.0.here Q d refl n (λ u. k u tt))); calm = λ q Q. absurd (false≢true q) }, m.1)

  pub operands_stand : (os : Operands) (around : Around) (R : List Token) (level : Level) → IsTrue (is_code around) → operands_keep Source level os → Fit around (operands_tokens os R) → Operands_stand (first_of_operands os) (built_operands os) × Fit around R
  operands_stand No_operand around R level c p h = (record { here = λ Q d n q k. k _ }, h)
  operands_stand (Operand op v more) around R level c p h = let s = stood v around (operands_tokens more R) c p.2 (past_bin around op _ c h) in let m = operands_stand more around R level c p.3 s.1 in
      (record { here = λ Q d n q k. bin_stands op d q (λ u. operand (first_of_operands more) (built v) s.0 d (soft_operands (built_operands more) Q n) (λ u r. m.0.here Q d n r k)) }, m.1)

  pub holes_stand : (hs : Holes) (around : Around) (R : List Token) → holes_keep Source hs → Fit (In_hole ∷ around) (holes_tokens hs R) → Holes_stand (built_holes hs) × Fit around R
  holes_stand (Last_part pieces) around R p h = (record { here = λ Q k. code_token refl (refl, template_stands (map piece_value pieces) _) (k _ refl) }, past h)
  holes_stand (Part_hole pieces v more) around R p h = let s = stood v (In_hole ∷ around) (holes_tokens more R) refl p.0 (past h) in let m = holes_stand more around R p.1 s.1 in
      (record { here = λ Q k. code_token refl (refl, template_stands (map piece_value pieces) _) (outside (built v) s.0 refl (soft_holes (built_holes more) Q) (λ u. m.0.here Q k)) }, m.1)

  pub link_stands : (l : Link) (around : Around) (R : List Token) → IsTrue (is_code around) → link_keeps Source l → Fit around (link_tokens l R) → Link_stands (built_link l) × Fit around R
  link_stands (Dot (Free a)) around R c p h = let g = past_sign c refl refl h in let f = said c g in (record { here = λ Q d n k. code_sign (codes ".") d refl refl refl (code_token d (f.0, f.1, n) (k _ (free_shuts a _))) }, past g)
  link_stands (Dot (Taken a)) around R c p h = let g = past_sign c refl refl h in let f = said c g in (record { here = λ Q d n k. code_sign (codes ".") d refl refl refl (code_token d (f, n) (k _ (taken_shuts a))) }, past g)
  link_stands (Index v) around R c p h = let s = stood v around (Token.Punct (codes "]") ∷ R) c p (past_sign c refl refl h) in
      (record { here = λ Q d n k. code_sign (codes "[") d refl refl refl (inside (built v) s.0 d refl refl (λ u q. code_sign (codes "]") d refl refl refl (k _ refl))) }, past_sign c refl refl s.1)
  link_stands (Call arguments) around R c p h = let s = arguments_stand arguments around (Token.Punct (codes ")") ∷ R) c p (past_sign c refl refl h) in
      (record { here = λ Q d n k. code_sign (codes "(") d refl refl refl (s.0.here _ d refl refl (λ u. code_sign (codes ")") d refl refl refl (k _ refl))) }, past_sign c refl refl s.1)

  pub links_stand : (ls : Links) (around : Around) (R : List Token) → IsTrue (is_code around) → links_keep Source ls → Fit around (links_tokens ls R) → ((b : Link) → Link_stands b → Links_stand b (built_links ls)) × Fit around R
  links_stand No_link around R c p h = (last_link, h)
  links_stand (Next_link link more) around R c p h = let s = link_stands link around (links_tokens more R) c p.0 h in let m = links_stand more around R c p.1 s.1 in
      (λ b t. next_link b (built_link link) (built_links more) t (m.0 (built_link link) s.0), m.1)

  pub arguments_stand : (as' : Arguments) (around : Around) (R : List Token) → IsTrue (is_code around) → arguments_keep Source as' → Fit around (arguments_tokens as' R) → Inner (arguments_line (built_arguments as')) × Fit around R
  arguments_stand No_argument around R c p h = (record { here = λ Q d j n k. k _ }, h)
  arguments_stand (Only v) around R c p h = let s = stood v around R c p h in (record { here = λ Q d j n k. inside (built v) s.0 d j n (λ u q. k u) }, s.1)
  arguments_stand (Comma v more) around R c p h = let s = stood v around (Token.Punct (codes ",") ∷ arguments_tokens more R) c p.0 h in let m = arguments_stand more around R c p.1 (past_sign c refl refl s.1) in
      (then_arguments_stand (built v) (built_arguments more) s.0 m.0, m.1)

  pub field_stands : (f : Field) (around : Around) (R : List Token) → IsTrue (is_code around) → field_keeps Source f → Fit around (field_tokens f R) → Plain (field_line (built_field f)) × Fit around R
  field_stands (Key w v) around R c p h = let s = stood v around R c p (past_sign c refl refl (past_word around w _ h)) in (key_stands (word_characters w) (built v) s.0, s.1)
  field_stands (Quoted_key quote pieces v) around R c p h = let s = stood v around R c p (past_sign c refl refl (past h)) in (key_stands (map piece_value pieces) (built v) s.0, s.1)
  field_stands (Short a) around R c p h = let f = said c h in (key_stands a (Named a) (named_stands a f.0 f.1), past h)

  pub fields_stand : (fs : Fields) (keys : List Characters) (around : Around) (R : List Token) → IsTrue (is_code around) → fields_keep Source keys fs → Fit around (fields_tokens fs R) → Plain (fields_line (built_fields fs)) × Fit around R
  fields_stand No_field keys around R c p h = (nothing_stands, h)
  fields_stand (Only_field f) keys around R c p h = field_stands f around R c p.1 h
  fields_stand (Field_comma f more) keys around R c p h = let s = field_stands f around (Token.Punct (codes ",") ∷ fields_tokens more R) c p.1 h in let m = fields_stand more _ around R c p.2 (past_sign c refl refl s.1) in
      (then_fields_stand (built_field f) (built_fields more) s.0 m.0, m.1)

  pub element_stands : (el : Element) (around : Around) (R : List Token) → element_keeps Source el → Fit around (element_tokens el R) → Element_stands (built_element el) × Fit around R
  element_stands (Closed tag attributes) around R p h = let g = past h in let a = attributes_stand attributes around (Token.Punct (codes "/>") ∷ R) p.1 (past g) in
      (closed_stands tag (built_attributes attributes) g.all.0 a.0, past a.1)
  element_stands (Open tag attributes children end) around R p h = let g = past h in
      let a = attributes_stand attributes around (Token.Punct (codes ">") ∷ children_tokens children (Token.Punct (codes "</") ∷ Token.Name end ∷ Token.Punct (codes ">") ∷ R)) p.2 (past g) in
      let d = children_stand children around (Token.Punct (codes "</") ∷ Token.Name end ∷ Token.Punct (codes ">") ∷ R) p.3 (past a.1) in
      (opened_stands tag (built_attributes attributes) (built_children children) g.all.0 a.0 d.0, past (past (past d.1)))
  element_stands (Fragment children) around R p h = let d = children_stand children around (Token.Punct (codes "</>") ∷ R) p (past h) in (fragment_stands (built_children children) d.0, past d.1)

  pub attributes_stand : (as' : Attributes) (around : Around) (R : List Token) → attributes_keep Source as' → Fit (In_tag ∷ around) (attributes_tokens as' R) → Attributes_stand (built_attributes as') × Fit (In_tag ∷ around) R
  attributes_stand No_attribute around R p h = (record { here = λ Q k. k _ }, h)
  attributes_stand (Set a more) around R p h = let m = attributes_stand more around R p (past h) in (set_value_stands a (Truth true) (built_attributes more) h.all.0 true_stands m.0, m.1)
  attributes_stand (Set_text a quote text more) around R p h = let m = attributes_stand more around R p (past (past (past h))) in
      (set_value_stands a _ (built_attributes more) h.all.0 (quoted_stands (decoded text)) m.0, m.1)
  attributes_stand (Set_value a v more) around R p h = let s = stood v (Braces ∷ In_tag ∷ around) (Token.Punct (codes "}") ∷ attributes_tokens more R) refl p.0 (past (past (past h))) in
      let m = attributes_stand more around R p.1 (past s.1) in (set_value_stands a (built v) (built_attributes more) h.all.0 s.0 m.0, m.1)

  pub children_stand : (cs : Children) (around : Around) (R : List Token) → children_keep Source cs → Fit (Child_region ∷ around) (children_tokens cs R) → Children_stand (built_children cs) × Fit (Child_region ∷ around) R
  children_stand No_child around R p h = (record { here = λ Q k. k _ }, h)
  children_stand (Text_child text more) around R p h = let m = children_stand more around R p (past h) in (text_child_stands (jsx_text text) (built_children more) m.0, m.1)
  children_stand (Empty_child more) around R p h = children_stand more around R p (past (past h))
  children_stand (Value_child v more) around R p h = let s = stood v (Braces ∷ Child_region ∷ around) (Token.Punct (codes "}") ∷ children_tokens more R) refl p.0 (past h) in let m = children_stand more around R p.1 (past s.1) in
      (value_child_stands (built v) (built_children more) s.0 m.0, m.1)
  children_stand (Element_child element more) around R p h = let s = element_stands element (Child_region ∷ around) (children_tokens more R) p.0 h in let m = children_stand more around R p.1 s.1 in
      (element_child_stands (built_element element) (built_children more) s.0 m.0, m.1)

  pub body_stands : (b : Body) (around : Around) (R : List Token) → IsTrue (is_code around) → body_keeps Source b → Fit around (body_tokens b R) → Inner (body_line (built_body b)) × Fit around R
  body_stands (Block_body statements) around R c p h = let s = statements_stand statements false true (Braces ∷ around) (Token.Punct (codes "}") ∷ R) refl p (past_brace c h) in
      (record { here = λ Q d j n k. (block_stands _ s.0).here Q d n k }, past s.1)
  body_stands (Step_body (Plain_step v)) around R c p h = let s = stood v around R c p.1 h in (record { here = λ Q d j n k. inside (unless_record (built v)) (enclosed_stands _ (built v) s.0) d j n (λ u q. k u) }, s.1)
  body_stands (Step_body (Assign target op v)) around R c p h = let s = stood target around (assign_sign op (tokens v R)) c p.1.1 h in let r = stood v around R c p.1.2 (past_assign around op _ c s.1) in
      (record { here = λ Q d j n k. (assigned_stands (built target) (built v) op (target_bare target p.1.0) s.0 r.0).here Q d n k }, r.1)
  body_stands (Step_body (Bump target up)) around R c p h = let s = stood target around (bump_sign up R) c p.1.1 h in
      (record { here = λ Q d j n k. (bumped_stands (built target) up (target_bare target p.1.0) s.0).here Q d n k }, past_bump around up R c s.1)

  pub step_stands : (b : Step) (around : Around) (R : List Token) → IsTrue (is_code around) → step_keeps Source b → Fit around (step_tokens b R) → Inner (step_line (built_step b)) × Fit around R
  step_stands (Plain_step v) around R c p h = let s = stood v around R c p h in (record { here = λ Q d j n k. inside (built v) s.0 d j n (λ u q. k u) }, s.1)
  step_stands (Assign target op v) around R c p h = let s = stood target around (assign_sign op (tokens v R)) c p.1 h in let r = stood v around R c p.2 (past_assign around op _ c s.1) in
      (record { here = λ Q d j n k. (assigned_stands (built target) (built v) op (target_bare target p.0) s.0 r.0).here Q d n k }, r.1)
  step_stands (Bump target up) around R c p h = let s = stood target around (bump_sign up R) c p.1 h in
      (record { here = λ Q d j n k. (bumped_stands (built target) up (target_bare target p.0) s.0).here Q d n k }, past_bump around up R c s.1)

  pub statement_stands : (s : Statement) (looped first : Bool) (around : Around) (R : List Token) → IsTrue (is_code around) → statement_keeps Source looped first s → Fit around (statement_tokens s R) → Plain (statement_line (built_statement s)) × Fit around R
  statement_stands (Const binding v) looped first around R c p h = let b = binding_stands binding around _ c (past h) in let s = stood v around (Token.Punct (codes ";") ∷ R) c p (past_sign c refl refl b.1) in
      (record { here = λ Q d n k. keyword (codes "const") d refl (b.0.here _ d refl (λ u. code_apart (codes "=") d refl refl (λ cs. refl) (inside (built v) s.0 d refl refl (λ u q. code_sign (codes ";") d refl refl refl (k _))))) }, past_sign c refl refl s.1)
  statement_stands (Scope a more) looped first around R c p h = absurd (false≢true p.1)
  statement_stands (Let a v) looped first around R c p h = let f = said c (past h) in let s = stood v around (Token.Punct (codes ";") ∷ R) c p (past_sign c refl refl (past (past h))) in
      (record { here = λ Q d n k. keyword (codes "let") d refl (code_token d (f.0, f.1, refl) (code_apart (codes "=") d refl refl (λ cs. refl) (inside (built v) s.0 d refl refl (λ u q. code_sign (codes ";") d refl refl refl (k _))))) }, past_sign c refl refl s.1)
  statement_stands Return looped first around R c p h = (record { here = λ Q d n k. code_token d (refl, refl) (code_sign (codes ";") d refl refl refl (k _)) }, past_sign c refl refl (past h))
  statement_stands (Return_step step) looped first around R c p h = let s = step_stands step around (Token.Punct (codes ";") ∷ R) c p (past h) in
      (record { here = λ Q d n k. keyword (codes "return") d refl (s.0.here _ d refl refl (λ u. code_sign (codes ";") d refl refl refl (k _))) }, past_sign c refl refl s.1)
  statement_stands (If test yes') looped first around R c p h = let s = stood test around (Token.Punct (codes ")") ∷ part_tokens yes' R) c p.0 (past_sign c refl refl (past h)) in
      let m = part_stands yes' looped around R c p.1 (past_sign c refl refl s.1) in (tested_stands (codes "if") (built test) _ refl s.0 m.0, m.1)
  statement_stands (If_else test yes' no') looped first around R c p h = let s = stood test around (Token.Punct (codes ")") ∷ part_tokens yes' (Token.Reserved (codes "else") ∷ part_tokens no' R)) c p.0 (past_sign c refl refl (past h)) in
      let m = part_stands yes' looped around (Token.Reserved (codes "else") ∷ part_tokens no' R) c p.2 (past_sign c refl refl s.1) in let l = part_stands no' looped around R c p.3 (past m.1) in
      (either_way_stands (built test) (built_part yes') (built_part no') s.0 m.0 l.0, l.1)
  statement_stands (While test part) looped first around R c p h = let s = stood test around (Token.Punct (codes ")") ∷ part_tokens part R) c p.0 (past_sign c refl refl (past h)) in
      let m = part_stands part true around R c p.1 (past_sign c refl refl s.1) in (tested_stands (codes "while") (built test) _ refl s.0 m.0, m.1)
  statement_stands (For_of a v part) looped first around R c p h = let g = past (past_sign c refl refl (past h)) in let f = said c g in let s = stood v around (Token.Punct (codes ")") ∷ part_tokens part R) c p.0 (past (past g)) in
      let m = part_stands part true around R c p.1 (past_sign c refl refl s.1) in (
        record {
          here = λ Q d n k. keyword (codes "for") d refl (code_sign (codes "(") d refl refl refl (keyword (codes "const") d refl (code_token d (f.0, f.1, refl) (name_apart (codes "of") d refl refl
              (outside (built v) s.0 d refl (λ u. code_sign (codes ")") d refl refl refl (spaced d ((block_stands _ m.0).here Q d n k))))))));
        },
        m.1,
      )
  statement_stands Break looped first around R c p h = (record { here = λ Q d n k. code_token d (refl, refl) (code_sign (codes ";") d refl refl refl (k _)) }, past_sign c refl refl (past h))
  statement_stands Continue looped first around R c p h = (record { here = λ Q d n k. code_token d (refl, refl) (code_sign (codes ";") d refl refl refl (k _)) }, past_sign c refl refl (past h))
  statement_stands (Delete target) looped first around R c p h = let s = stood target around (Token.Punct (codes ";") ∷ R) c p.1 (past h) in
      (record { here = λ Q d n k. keyword (codes "delete") d refl (bare (built target) (member_bare target p.0) s.0 d refl (λ u q. code_sign (codes ";") d refl refl refl (k _))) }, past_sign c refl refl s.1)
  statement_stands (Block statements) looped first around R c p h = let s = statements_stand statements looped true (Braces ∷ around) (Token.Punct (codes "}") ∷ R) refl p (past_brace c h) in (block_stands _ s.0, past s.1)
  statement_stands (Do (Plain_step v)) looped first around R c p h = let s = stood v around (Token.Punct (codes ";") ∷ R) c p.1 h in
      (record { here = λ Q d n k. as_a_statement (built v) s.0 d refl (λ u. code_sign (codes ";") d refl refl refl (k _)) }, past_sign c refl refl s.1)
  statement_stands (Do (Assign target op v)) looped first around R c p h = let s = stood target around (assign_sign op (tokens v (Token.Punct (codes ";") ∷ R))) c p.1.1 h in let r = stood v around (Token.Punct (codes ";") ∷ R) c p.1.2 (past_assign around op _ c s.1) in
      (record { here = λ Q d n k. (assigned_stands (built target) (built v) op (target_bare target p.1.0) s.0 r.0).here _ d refl (λ u. code_sign (codes ";") d refl refl refl (k _)) }, past_sign c refl refl r.1)
  statement_stands (Do (Bump target up)) looped first around R c p h = let s = stood target around (bump_sign up (Token.Punct (codes ";") ∷ R)) c p.1.1 h in
      (record { here = λ Q d n k. (bumped_stands (built target) up (target_bare target p.1.0) s.0).here _ d refl (λ u. code_sign (codes ";") d refl refl refl (k _)) }, past_sign c refl refl (past_bump around up _ c s.1))

  pub statements_stand : (ss : Statements) (looped first : Bool) (around : Around) (R : List Token) → IsTrue (is_code around) → statements_keep Source looped first ss → Fit around (statements_tokens ss R) → Plain (statements_line (built_statements ss)) × Fit around R
  statements_stand No_statement looped first around R c p h = (nothing_stands, h)
  statements_stand (Then statement more) looped first around R c p h = let s = statement_stands statement looped first around (statements_tokens more R) c p.0 h in let m = statements_stand more looped false around R c p.1 s.1 in
      (then_stands _ _ s.0 m.0, m.1)

  pub part_stands : (q : Part) (looped : Bool) (around : Around) (R : List Token) → IsTrue (is_code around) → part_keeps Source looped q → Fit around (part_tokens q R) → Plain (statements_line (built_part q)) × Fit around R
  part_stands (Block_part statements) looped around R c p h = let s = statements_stand statements looped true (Braces ∷ around) (Token.Punct (codes "}") ∷ R) refl p (past_brace c h) in (s.0, past s.1)
  part_stands (Statement_part statement) looped around R c p h = let s = statement_stands statement looped false around R c p.1 h in (then_stands _ _ s.0 nothing_stands, s.1)
