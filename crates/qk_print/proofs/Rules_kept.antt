-- The printed writing keeps the rules of built files.
use Rattle.std.specs.Prelude.{◌≡◌, refl, ℕ, ◌==◌, Bool, true, false, not, ◌&&◌, ◌||◌, nat_le, Some, None, List, [], ◌∷◌, ◌++◌, map, codes, bytes_eq, IsTrue, IsFalse, Option}
use Rattle.std.proofs.Common.{ap, sym, ◌∙◌, subst, arith}
use Rattle.std.proofs.lemmas.Bool.{false≢true}
use Rattle.std.specs.Char.{encode_utf8}
use Rattle.qk_ast.specs.declared.Form.TheVariants.{Source, Built}
use Rattle.qk_ast.specs.declared.Un.{Un}
use Rattle.qk_ast.specs.declared.Un.TheVariants as un
use Rattle.qk_ast.specs.declared.Bin.{Bin}
use Rattle.qk_ast.specs.declared.AssignOp.{AssignOp}
use Rattle.qk_ast.specs.declared.AssignOp.TheVariants as assign
use Rattle.qk_ast.specs.Characters.{Characters, same, is_one_of}
use Rattle.qk_ast.specs.JsxText.{jsx_text}
use Rattle.qk_ast.specs.Tokens.{Token, piece_value, is_tag_name}
use Rattle.qk_ast.specs.Tree.{bytes}
use Rattle.qk_ast.specs.Rules.{binds, operand_tightness, level_of, reads_as_known, is_one_argument, is_place, is_member, is_target, begins_with_brace, key_of, keeps, operands_keep, holes_keep, link_keeps, links_keep, arguments_keep, field_keeps, fields_keep, element_keeps, attributes_keep, children_keep, body_keeps, step_keeps, statement_keeps, statements_keep, part_keeps, items_keep, module_keeps}
use Rattle.qk_ast.proofs.FrontToken.{same_is}
use Rattle.qk_print.proofs.Values_kept.{text_is}
use Rattle.qk_ast.specs.Grammar.{Level, Or_level, Coalesce_level, And_level, Same_level, Order_level, Sum_level, Product_level}
use Rattle.qk_ast.specs.Grammar.{Parameters, Bare, In_brackets, Free, Taken, Expression, Undefined, Null, Truth, Number, Quoted, Named, Whole, Holed, Bracketed, Listed, Recorded, Markup, Log, Keys, Str, Trunc, Postfix, Prefix, Chain, Choice, Function, Operands, No_operand, Operand, Holes, Last_part, Part_hole, Link, Dot, Index, Call, Links, No_link, Next_link, Arguments, No_argument, Only, Comma, Field, Key, Quoted_key, Short, Fields, No_field, Only_field, Field_comma, Element, Closed, Open, Fragment, Attributes, No_attribute, Set, Set_text, Set_value, Children, No_child, Text_child, Empty_child, Value_child, Element_child, Body, Block_body, Step_body, Step, Plain_step, Assign, Bump, Statement, Const, Scope, Let, Return, Return_step, If, If_else, While, For_of, Break, Continue, Delete, Block, Do, Statements, No_statement, Then, Part, Block_part, Statement_part, Item_line, Module_text}
use Rattle.qk_print.proofs.Rewriting.{enclosed, as_head, as_operand, unless_record, as_right_side, as_statement, stands_as_operand, is_recorded, is_marked_up, begins_known, built_parameters, then_arguments, then_fields, text_child, value_child, opened, first_of_operands, either_way, built, built_operands, built_holes, built_link, built_links, built_arguments, built_field, built_fields, built_element, built_attributes, built_children, built_body, built_step, built_statement, built_statements, built_part, built_item, built_module}
use Rattle.qk_ast.specs.Spelling.{tokens, parameters_tokens, un_sign, bin_sign, truth_word, operands_tokens, element_tokens, sign}

-- ---- how tightly operands and heads bind

enclosed_keeps : (b : Bool) (y : Expression) → keeps Built y → keeps Built (enclosed b y)
enclosed_keeps true y h = h
enclosed_keeps false y h = h

right_side_keeps : (op : AssignOp) (y : Expression) → keeps Built y → keeps Built (as_right_side op y)
right_side_keeps assign.Set y h = h
right_side_keeps assign.Add y h = enclosed_keeps _ y h
right_side_keeps assign.Sub y h = enclosed_keeps _ y h
right_side_keeps assign.Mul y h = enclosed_keeps _ y h

at_nine : (k : ℕ) → IsTrue (nat_le k 8) → IsTrue (nat_le k 9)
at_nine k h = grind arith

level_fits : (level : Level) → IsTrue (nat_le (operand_tightness level) 8)
level_fits Or_level = refl
level_fits Coalesce_level = refl
level_fits And_level = refl
level_fits Same_level = refl
level_fits Order_level = refl
level_fits Sum_level = refl
level_fits Product_level = refl

operand_binds : (next : Option Bin) (y : Expression) (k : ℕ) → IsTrue (nat_le k 8) → IsTrue (binds k (as_operand next y))
operand_binds next Undefined k h = at_nine k h
operand_binds next Null k h = at_nine k h
operand_binds next (Truth a) k h = at_nine k h
operand_binds next (Number a) k h = at_nine k h
operand_binds next (Quoted a b) k h = at_nine k h
operand_binds next (Named a) k h = at_nine k h
operand_binds next (Whole a) k h = at_nine k h
operand_binds next (Holed a b c) k h = at_nine k h
operand_binds next (Bracketed a) k h = at_nine k h
operand_binds next (Listed a) k h = at_nine k h
operand_binds next (Recorded a) k h = at_nine k h
operand_binds next (Markup a) k h = at_nine k h
operand_binds next (Log a) k h = at_nine k h
operand_binds next (Keys a) k h = at_nine k h
operand_binds next (Str a) k h = at_nine k h
operand_binds next (Trunc a b) k h = at_nine k h
operand_binds next (Postfix a b c) k h = choose (stands_as_operand next (Postfix a b c))
  where
    choose : (b' : Bool) → IsTrue (binds k (enclosed b' (Postfix a b c)))
    choose true = h
    choose false = at_nine k h
operand_binds next (Prefix a b) k h = at_nine k h
operand_binds next (Chain a b c d) k h = at_nine k h
operand_binds next (Choice a b c) k h = at_nine k h
operand_binds next (Function a b) k h = at_nine k h

head_binds : (y : Expression) → IsTrue (binds 9 (as_head y))
head_binds Undefined = refl
head_binds Null = refl
head_binds (Truth a) = refl
head_binds (Number a) = refl
head_binds (Quoted a b) = refl
head_binds (Named a) = choose (not (begins_known a))
  where
    choose : (b' : Bool) → IsTrue (binds 9 (enclosed b' (Named a)))
    choose true = refl
    choose false = refl
head_binds (Whole a) = refl
head_binds (Holed a b c) = refl
head_binds (Bracketed a) = refl
head_binds (Listed a) = refl
head_binds (Recorded a) = refl
head_binds (Markup a) = refl
head_binds (Log a) = refl
head_binds (Keys a) = refl
head_binds (Str a) = refl
head_binds (Trunc a b) = refl
head_binds (Postfix a b c) = refl
head_binds (Prefix a b) = refl
head_binds (Chain a b c d) = refl
head_binds (Choice a b c) = refl
head_binds (Function a b) = refl

-- ---- known calls

known_names : (a : Characters) → begins_known a ≡ false → (same a (codes "console") ≡ false) × (same a (codes "Object") ≡ false) × (same a (codes "String") ≡ false)
unfolding encode_utf8
known_names a h = (other (codes "console") refl (first _ _ h), other (codes "Object") refl (first _ _ (second (bytes_eq (bytes a) (codes "console")) _ h)), other (codes "String") refl (second (bytes_eq (bytes a) (codes "Object")) _ (second (bytes_eq (bytes a) (codes "console")) _ h)))
  where
    first : (b c : Bool) → (b || c) ≡ false → b ≡ false
    first true c k = k
    first false c k = refl

    second : (b c : Bool) → (b || c) ≡ false → c ≡ false
    second true c k = absurd (false≢true (sym k))
    second false c k = k

    other : (w : Characters) → bytes_eq (bytes w) w ≡ true → bytes_eq (bytes a) w ≡ false → same a w ≡ false
    other w k n = choose (same a w) refl
      where
        choose : (b : Bool) → same a w ≡ b → b ≡ false
        choose false e = refl
        choose true e = absurd (false≢true (sym n ∙ ap (λ x. bytes_eq (bytes x) w) (same_is a w e) ∙ k))

unknown : (a : Characters) (link : Link) (more : Links) → (same a (codes "console") ≡ false) × (same a (codes "Object") ≡ false) × (same a (codes "String") ≡ false) → reads_as_known (Named a) link more ≡ false
unknown a (Dot (Free m)) (Next_link (Call arguments) more) h = ap (λ b. (b && same m (codes "log") || same a (codes "Object") && same m (codes "keys")) && is_one_argument arguments) h.0
    ∙ ap (λ b. (b && same m (codes "keys")) && is_one_argument arguments) h.1
unknown a (Dot (Free m)) No_link h = refl
unknown a (Dot (Free m)) (Next_link (Dot w) more) h = refl
unknown a (Dot (Free m)) (Next_link (Index x) more) h = refl
unknown a (Dot (Taken m)) more h = refl
unknown a (Index x) more h = refl
unknown a (Call arguments) more h = ap (λ b. b && is_one_argument arguments) h.2

not_known : (y : Expression) (link : Link) (more : Links) → reads_as_known (as_head y) link more ≡ false
not_known Undefined link more = refl
not_known Null link more = refl
not_known (Truth a) link more = refl
not_known (Number a) link more = refl
not_known (Quoted a b) link more = refl
not_known (Named a) link more = choose (begins_known a) refl
  where
    choose : (b' : Bool) → begins_known a ≡ b' → reads_as_known (enclosed (not b') (Named a)) link more ≡ false
    choose true e = refl
    choose false e = unknown a link more (known_names a e)
not_known (Whole a) link more = refl
not_known (Holed a b c) link more = refl
not_known (Bracketed a) link more = refl
not_known (Listed a) link more = refl
not_known (Recorded a) link more = refl
not_known (Markup a) link more = refl
not_known (Log a) link more = refl
not_known (Keys a) link more = refl
not_known (Str a) link more = refl
not_known (Trunc a b) link more = refl
not_known (Postfix a b c) link more = refl
not_known (Prefix a b) link more = refl
not_known (Chain a b c d) link more = refl
not_known (Choice a b c) link more = refl
not_known (Function a b) link more = refl

-- ---- braces

element_brace : (el : Element) (rest : List Token) → begins_with_brace (element_tokens el rest) ≡ false
element_brace (Closed tag as') rest = refl
element_brace (Open tag as' cs end) rest = refl
element_brace (Fragment cs) rest = refl

truth_brace : (b : Bool) (rest : List Token) → begins_with_brace (truth_word b rest) ≡ false
truth_brace true rest = refl
truth_brace false rest = refl

head_brace : (y : Expression) (rest : List Token) → begins_with_brace (tokens (as_head y) rest) ≡ false
head_brace Undefined rest = refl
head_brace Null rest = refl
head_brace (Truth a) rest = truth_brace a rest
head_brace (Number a) rest = refl
head_brace (Quoted a b) rest = refl
head_brace (Named a) rest = choose (not (begins_known a))
  where
    choose : (b' : Bool) → begins_with_brace (tokens (enclosed b' (Named a)) rest) ≡ false
    choose true = refl
    choose false = refl
head_brace (Whole a) rest = refl
head_brace (Holed a b c) rest = refl
head_brace (Bracketed a) rest = refl
head_brace (Listed a) rest = refl
head_brace (Recorded a) rest = refl
head_brace (Markup a) rest = refl
head_brace (Log a) rest = refl
head_brace (Keys a) rest = refl
head_brace (Str a) rest = refl
head_brace (Trunc a b) rest = refl
head_brace (Postfix a b c) rest = refl
head_brace (Prefix a b) rest = refl
head_brace (Chain a b c d) rest = refl
head_brace (Choice a b c) rest = refl
head_brace (Function a b) rest = refl

operand_brace : (next : Option Bin) (y : Expression) → ((rest : List Token) → begins_with_brace (tokens y rest) ≡ is_recorded y) → (rest : List Token) → begins_with_brace (tokens (as_operand next y) rest) ≡ false
operand_brace next Undefined h rest = refl
operand_brace next Null h rest = refl
operand_brace next (Truth a) h rest = truth_brace a rest
operand_brace next (Number a) h rest = refl
operand_brace next (Quoted a b) h rest = refl
operand_brace next (Named a) h rest = refl
operand_brace next (Whole a) h rest = refl
operand_brace next (Holed a b c) h rest = refl
operand_brace next (Bracketed a) h rest = refl
operand_brace next (Listed a) h rest = refl
operand_brace next (Recorded a) h rest = refl
operand_brace next (Markup a) h rest = refl
operand_brace next (Log a) h rest = refl
operand_brace next (Keys a) h rest = refl
operand_brace next (Str a) h rest = refl
operand_brace next (Trunc a b) h rest = refl
operand_brace next (Postfix a b c) h rest = choose (stands_as_operand next (Postfix a b c))
  where
    choose : (b' : Bool) → begins_with_brace (tokens (enclosed b' (Postfix a b c)) rest) ≡ false
    choose true = h rest
    choose false = refl
operand_brace next (Prefix a b) h rest = refl
operand_brace next (Chain a b c d) h rest = refl
operand_brace next (Choice a b c) h rest = refl
operand_brace next (Function a b) h rest = refl

un_brace : (op : Un) (rest : List Token) → begins_with_brace (un_sign op rest) ≡ false
un_brace un.Not rest = refl
un_brace un.Neg rest = refl

parameters_brace : (ps : Parameters) (rest : List Token) → begins_with_brace (parameters_tokens (built_parameters ps) rest) ≡ false
parameters_brace (Bare a) rest = refl
parameters_brace (In_brackets bs) rest = refl

pub brace : (x : Expression) (rest : List Token) → begins_with_brace (tokens (built x) rest) ≡ is_recorded (built x)
brace Undefined rest = refl
brace Null rest = refl
brace (Truth b) rest = truth_brace b rest
brace (Number digits) rest = refl
brace (Quoted quote pieces) rest = refl
brace (Named a) rest = refl
brace (Whole pieces) rest = refl
brace (Holed pieces x more) rest = refl
brace (Bracketed x) rest = brace x rest
brace (Listed arguments) rest = refl
brace (Recorded fields) rest = refl
brace (Markup element) rest = element_brace (built_element element) rest
brace (Log x) rest = refl
brace (Keys x) rest = refl
brace (Str x) rest = refl
brace (Trunc x y) rest = refl
brace (Postfix head link more) rest = head_brace (built head) _
brace (Prefix op x) rest = un_brace op _
brace (Chain x op y more) rest = operand_brace (Some op) (built x) (brace x) (bin_sign op (tokens (as_operand (first_of_operands more) (built y)) (operands_tokens (built_operands more) rest)))
brace (Choice x y z) rest = operand_brace None (built x) (brace x) (sign (codes "?") (tokens (as_operand None (built y)) (sign (codes ":") (tokens (as_operand None (built z)) rest))))
brace (Function parameters body) rest = parameters_brace parameters _

body_brace : (y : Expression) → ((rest : List Token) → begins_with_brace (tokens y rest) ≡ is_recorded y) → (rest : List Token) → begins_with_brace (tokens (unless_record y) rest) ≡ false
body_brace y h rest = choose (is_recorded y) refl
  where
    choose : (b : Bool) → is_recorded y ≡ b → begins_with_brace (tokens (enclosed (not b) y) rest) ≡ false
    choose true e = refl
    choose false e = h rest ∙ e

statement_brace : (y : Expression) → ((rest : List Token) → begins_with_brace (tokens y rest) ≡ is_recorded y) → (rest : List Token) → begins_with_brace (tokens (as_statement y) rest) ≡ false
statement_brace y h rest = choose (is_recorded y) (is_marked_up y) refl
  where
    choose : (b m : Bool) → is_recorded y ≡ b → begins_with_brace (tokens (enclosed (not (b || m)) y) rest) ≡ false
    choose true m e = refl
    choose false true e = refl
    choose false false e = h rest ∙ e

-- ---- targets

place_kept : (link : Link) (more : Links) → is_place (built_link link) (built_links more) ≡ is_place link more
place_kept (Dot w) No_link = refl
place_kept (Index x) No_link = refl
place_kept (Call arguments) No_link = refl
place_kept (Dot w) (Next_link next more) = place_kept next more
place_kept (Index x) (Next_link next more) = place_kept next more
place_kept (Call arguments) (Next_link next more) = place_kept next more

member_kept : (x : Expression) → IsTrue (is_member x) → IsTrue (is_member (built x))
member_kept Undefined h = absurd (false≢true h)
member_kept Null h = absurd (false≢true h)
member_kept (Truth a) h = absurd (false≢true h)
member_kept (Number a) h = absurd (false≢true h)
member_kept (Quoted a b) h = absurd (false≢true h)
member_kept (Named a) h = absurd (false≢true h)
member_kept (Whole a) h = absurd (false≢true h)
member_kept (Holed a b c) h = absurd (false≢true h)
member_kept (Bracketed a) h = absurd (false≢true h)
member_kept (Listed a) h = absurd (false≢true h)
member_kept (Recorded a) h = absurd (false≢true h)
member_kept (Markup a) h = absurd (false≢true h)
member_kept (Log a) h = absurd (false≢true h)
member_kept (Keys a) h = absurd (false≢true h)
member_kept (Str a) h = absurd (false≢true h)
member_kept (Trunc a b) h = absurd (false≢true h)
member_kept (Postfix a b c) h = place_kept b c ∙ h
member_kept (Prefix a b) h = absurd (false≢true h)
member_kept (Chain a b c d) h = absurd (false≢true h)
member_kept (Choice a b c) h = absurd (false≢true h)
member_kept (Function a b) h = absurd (false≢true h)

target_kept : (x : Expression) → IsTrue (is_target x) → IsTrue (is_target (built x))
target_kept Undefined h = absurd (false≢true h)
target_kept Null h = absurd (false≢true h)
target_kept (Truth a) h = absurd (false≢true h)
target_kept (Number a) h = absurd (false≢true h)
target_kept (Quoted a b) h = absurd (false≢true h)
target_kept (Named a) h = h
target_kept (Whole a) h = absurd (false≢true h)
target_kept (Holed a b c) h = absurd (false≢true h)
target_kept (Bracketed a) h = absurd (false≢true h)
target_kept (Listed a) h = absurd (false≢true h)
target_kept (Recorded a) h = absurd (false≢true h)
target_kept (Markup a) h = absurd (false≢true h)
target_kept (Log a) h = absurd (false≢true h)
target_kept (Keys a) h = absurd (false≢true h)
target_kept (Str a) h = absurd (false≢true h)
target_kept (Trunc a b) h = absurd (false≢true h)
target_kept (Postfix a b c) h = place_kept b c ∙ h
target_kept (Prefix a b) h = absurd (false≢true h)
target_kept (Chain a b c d) h = absurd (false≢true h)
target_kept (Choice a b c) h = absurd (false≢true h)
target_kept (Function a b) h = absurd (false≢true h)

target_brace : (x : Expression) → IsTrue (is_target x) → (rest : List Token) → begins_with_brace (tokens (built x) rest) ≡ false
target_brace Undefined h rest = absurd (false≢true h)
target_brace Null h rest = absurd (false≢true h)
target_brace (Truth a) h rest = absurd (false≢true h)
target_brace (Number a) h rest = absurd (false≢true h)
target_brace (Quoted a b) h rest = absurd (false≢true h)
target_brace (Named a) h rest = refl
target_brace (Whole a) h rest = absurd (false≢true h)
target_brace (Holed a b c) h rest = absurd (false≢true h)
target_brace (Bracketed a) h rest = absurd (false≢true h)
target_brace (Listed a) h rest = absurd (false≢true h)
target_brace (Recorded a) h rest = absurd (false≢true h)
target_brace (Markup a) h rest = absurd (false≢true h)
target_brace (Log a) h rest = absurd (false≢true h)
target_brace (Keys a) h rest = absurd (false≢true h)
target_brace (Str a) h rest = absurd (false≢true h)
target_brace (Trunc a b) h rest = absurd (false≢true h)
target_brace (Postfix a b c) h rest = head_brace (built a) _
target_brace (Prefix a b) h rest = absurd (false≢true h)
target_brace (Chain a b c d) h rest = absurd (false≢true h)
target_brace (Choice a b c) h rest = absurd (false≢true h)
target_brace (Function a b) h rest = absurd (false≢true h)

-- ---- fields

key_kept : (f : Field) → key_of (built_field f) ≡ key_of f
key_kept (Key (Free a) x) = text_is a
key_kept (Key (Taken a) x) = text_is a
key_kept (Quoted_key quote pieces x) = text_is (map piece_value pieces)
key_kept (Short a) = text_is a

then_fields_keep : (f : Field) (fs : Fields) (before : List (List ℕ)) → IsFalse (is_one_of (key_of f) before) → field_keeps Built f → fields_keep Built (before ++ key_of f ∷ []) fs → fields_keep Built before (then_fields f fs)
then_fields_keep f No_field before h k l = (h, k)
then_fields_keep f (Only_field g) before h k l = (h, k, l)
then_fields_keep f (Field_comma g gs) before h k l = (h, k, l)

then_arguments_keep : (y : Expression) (ys : Arguments) → keeps Built y → arguments_keep Built ys → arguments_keep Built (then_arguments y ys)
then_arguments_keep y No_argument h k = h
then_arguments_keep y (Only z) h k = (h, k)
then_arguments_keep y (Comma z zs) h k = (h, k)

-- ---- JSX

equal_self : (c : ℕ) → (c == c) ≡ true
equal_self c = grind arith

same_self : (a : Characters) → IsTrue (same a a)
same_self [] = refl
same_self (c ∷ cs) = ap (λ b. b && same cs cs) (equal_self c) ∙ same_self cs

opened_keeps : (tag : Characters) (as' : Attributes) (cs : Children) → IsTrue (is_tag_name tag) → attributes_keep Built as' → children_keep Built cs → element_keeps Built (opened tag as' cs)
opened_keeps tag as' No_child h k l = (h, k)
opened_keeps tag as' (Text_child t cs) h k l = (h, same_self tag, k, l)
opened_keeps tag as' (Empty_child cs) h k l = (h, same_self tag, k, l)
opened_keeps tag as' (Value_child t cs) h k l = (h, same_self tag, k, l)
opened_keeps tag as' (Element_child t cs) h k l = (h, same_self tag, k, l)

text_child_keeps : (text : Characters) (cs : Children) → children_keep Built cs → children_keep Built (text_child text cs)
text_child_keeps [] cs h = h
text_child_keeps (c ∷ text) cs h = (tt, h)

value_child_keeps : (y : Expression) (cs : Children) → keeps Built y → children_keep Built cs → children_keep Built (value_child y cs)
value_child_keeps Undefined cs h k = (h, k)
value_child_keeps Null cs h k = (h, k)
value_child_keeps (Truth a) cs h k = (h, k)
value_child_keeps (Number a) cs h k = (h, k)
value_child_keeps (Quoted a b) cs h k = (h, k)
value_child_keeps (Named a) cs h k = (h, k)
value_child_keeps (Whole a) cs h k = (h, k)
value_child_keeps (Holed a b c) cs h k = (h, k)
value_child_keeps (Bracketed a) cs h k = (h, k)
value_child_keeps (Listed a) cs h k = (h, k)
value_child_keeps (Recorded a) cs h k = (h, k)
value_child_keeps (Markup a) cs h k = (h, k)
value_child_keeps (Log a) cs h k = (h, k)
value_child_keeps (Keys a) cs h k = (h, k)
value_child_keeps (Str a) cs h k = (h, k)
value_child_keeps (Trunc a b) cs h k = (h, k)
value_child_keeps (Postfix a b c) cs h k = (h, k)
value_child_keeps (Prefix a b) cs h k = (h, k)
value_child_keeps (Chain a b c d) cs h k = (h, k)
value_child_keeps (Choice a b c) cs h k = (h, k)
value_child_keeps (Function a b) cs h k = (h, k)

either_way_keeps : (test : Expression) (ys ns : Statements) (looped first : Bool) → keeps Built test → statements_keep Built looped true ys → statements_keep Built looped true ns
    → statement_keeps Built looped first (either_way test ys ns)
either_way_keeps test ys No_statement looped first h k l = (h, k)
either_way_keeps test ys (Then s ss) looped first h k l = (h, refl, k, l)

-- ---- the whole

mutual
  pub kept : (x : Expression) → keeps Source x → keeps Built (built x)
  kept Undefined h = tt
  kept Null h = tt
  kept (Truth b) h = tt
  kept (Number digits) h = tt
  kept (Quoted quote pieces) h = tt
  kept (Named a) h = tt
  kept (Whole pieces) h = tt
  kept (Holed pieces x more) h = (enclosed_keeps _ (built x) (kept x h.0), holes_kept more h.1)
  kept (Bracketed x) h = kept x h
  kept (Listed arguments) h = arguments_kept arguments h
  kept (Recorded fields) h = fields_kept fields [] h
  kept (Markup element) h = element_kept element h
  kept (Log x) h = kept x h
  kept (Keys x) h = kept x h
  kept (Str x) h = kept x h
  kept (Trunc x y) h = (operand_binds None (built x) 6 refl, operand_binds None (built y) 7 refl, enclosed_keeps _ (built x) (kept x h.2), enclosed_keeps _ (built y) (kept y h.3))
  kept (Postfix head link more) h = (head_binds (built head), not_known (built head) (built_link link) (built_links more), enclosed_keeps _ (built head) (kept head h.2), link_kept link h.3, links_kept more h.4)
  kept (Prefix op x) h = (operand_binds None (built x) 7 refl, enclosed_keeps _ (built x) (kept x h.1))
  kept (Chain x op y more) h = (operand_binds (Some op) (built x) _ (level_fits (level_of op)), enclosed_keeps _ (built x) (kept x h.1), operand_binds _ (built y) _ (level_fits (level_of op)), enclosed_keeps _ (built y) (kept y h.3), operands_kept (level_of op) more h.4)
  kept (Choice x y z) h = (operand_binds None (built x) 1 refl, enclosed_keeps _ (built x) (kept x h.1), enclosed_keeps _ (built y) (kept y h.2), enclosed_keeps _ (built z) (kept z h.3))
  kept (Function parameters body) h = body_kept body h

  operands_kept : (level : Level) (os : Operands) → operands_keep Source level os → operands_keep Built level (built_operands os)
  operands_kept level No_operand h = tt
  operands_kept level (Operand op x more) h = (h.0, operand_binds _ (built x) _ (level_fits level), enclosed_keeps _ (built x) (kept x h.2), operands_kept level more h.3)

  holes_kept : (hs : Holes) → holes_keep Source hs → holes_keep Built (built_holes hs)
  holes_kept (Last_part pieces) h = tt
  holes_kept (Part_hole pieces x more) h = (enclosed_keeps _ (built x) (kept x h.0), holes_kept more h.1)

  link_kept : (k : Link) → link_keeps Source k → link_keeps Built (built_link k)
  link_kept (Dot w) h = tt
  link_kept (Index x) h = kept x h
  link_kept (Call arguments) h = arguments_kept arguments h

  links_kept : (ls : Links) → links_keep Source ls → links_keep Built (built_links ls)
  links_kept No_link h = tt
  links_kept (Next_link link more) h = (link_kept link h.0, links_kept more h.1)

  arguments_kept : (as' : Arguments) → arguments_keep Source as' → arguments_keep Built (built_arguments as')
  arguments_kept No_argument h = tt
  arguments_kept (Only x) h = kept x h
  arguments_kept (Comma x more) h = then_arguments_keep (built x) (built_arguments more) (kept x h.0) (arguments_kept more h.1)

  field_kept : (f : Field) → field_keeps Source f → field_keeps Built (built_field f)
  field_kept (Key w x) h = kept x h
  field_kept (Quoted_key quote pieces x) h = kept x h
  field_kept (Short a) h = tt

  fields_kept : (fs : Fields) (before : List (List ℕ)) → fields_keep Source before fs → fields_keep Built before (built_fields fs)
  fields_kept No_field before h = tt
  fields_kept (Only_field f) before h = (subst (λ k. IsFalse (is_one_of k before)) (sym (key_kept f)) h.0, field_kept f h.1)
  fields_kept (Field_comma f more) before h = then_fields_keep (built_field f) (built_fields more) before (subst (λ k. IsFalse (is_one_of k before)) (sym (key_kept f)) h.0) (field_kept f h.1)
      (subst (λ k. fields_keep Built (before ++ k ∷ []) (built_fields more)) (sym (key_kept f)) (fields_kept more (before ++ key_of f ∷ []) h.2))

  element_kept : (el : Element) → element_keeps Source el → element_keeps Built (built_element el)
  element_kept (Closed tag attributes) h = (h.0, attributes_kept attributes h.1)
  element_kept (Open tag attributes children end) h = opened_keeps tag (built_attributes attributes) (built_children children) h.0 (attributes_kept attributes h.2) (children_kept children h.3)
  element_kept (Fragment children) h = children_kept children h

  attributes_kept : (as' : Attributes) → attributes_keep Source as' → attributes_keep Built (built_attributes as')
  attributes_kept No_attribute h = tt
  attributes_kept (Set a more) h = (tt, attributes_kept more h)
  attributes_kept (Set_text a quote text more) h = (tt, attributes_kept more h)
  attributes_kept (Set_value a x more) h = (kept x h.0, attributes_kept more h.1)

  children_kept : (cs : Children) → children_keep Source cs → children_keep Built (built_children cs)
  children_kept No_child h = tt
  children_kept (Text_child text more) h = text_child_keeps (jsx_text text) (built_children more) (children_kept more h)
  children_kept (Empty_child more) h = children_kept more h
  children_kept (Value_child x more) h = value_child_keeps (built x) (built_children more) (kept x h.0) (children_kept more h.1)
  children_kept (Element_child element more) h = (element_kept element h.0, children_kept more h.1)

  body_kept : (d : Body) → body_keeps Source d → body_keeps Built (built_body d)
  body_kept (Block_body block) h = statements_kept block false true true h
  body_kept (Step_body (Plain_step x)) h = (body_brace (built x) (brace x) [], enclosed_keeps _ (built x) (kept x h.1))
  body_kept (Step_body (Assign target op x)) h = (target_brace target h.1.0 _, (target_kept target h.1.0, kept target h.1.1, right_side_keeps op (built x) (kept x h.1.2)))
  body_kept (Step_body (Bump target up)) h = (target_brace target h.1.0 _, (target_kept target h.1.0, kept target h.1.1))

  step_kept : (k : Step) → step_keeps Source k → step_keeps Built (built_step k)
  step_kept (Plain_step x) h = kept x h
  step_kept (Assign target op x) h = (target_kept target h.0, kept target h.1, right_side_keeps op (built x) (kept x h.2))
  step_kept (Bump target up) h = (target_kept target h.0, kept target h.1)

  statement_kept : (k : Statement) (looped first other : Bool) → statement_keeps Source looped first k → statement_keeps Built looped other (built_statement k)
  statement_kept (Const binding x) looped first other h = kept x h
  statement_kept (Scope a more) looped first other h = absurd (false≢true h.1)
  statement_kept (Let a x) looped first other h = kept x h
  statement_kept Return looped first other h = tt
  statement_kept (Return_step step) looped first other h = step_kept step h
  statement_kept (If test yes') looped first other h = (kept test h.0, part_kept yes' looped h.1)
  statement_kept (If_else test yes' no') looped first other h = either_way_keeps (built test) (built_part yes') (built_part no') looped other (kept test h.0) (part_kept yes' looped h.2) (part_kept no' looped h.3)
  statement_kept (While test part) looped first other h = (kept test h.0, part_kept part true h.1)
  statement_kept (For_of a x part) looped first other h = (enclosed_keeps _ (built x) (kept x h.0), part_kept part true h.1)
  statement_kept Break looped first other h = h
  statement_kept Continue looped first other h = h
  statement_kept (Delete target) looped first other h = (member_kept target h.0, kept target h.1)
  statement_kept (Block block) looped first other h = statements_kept block looped true true h
  statement_kept (Do (Plain_step x)) looped first other h = (statement_brace (built x) (brace x) [], enclosed_keeps _ (built x) (kept x h.1))
  statement_kept (Do (Assign target op x)) looped first other h = (target_brace target h.1.0 _, (target_kept target h.1.0, kept target h.1.1, right_side_keeps op (built x) (kept x h.1.2)))
  statement_kept (Do (Bump target up)) looped first other h = (target_brace target h.1.0 _, (target_kept target h.1.0, kept target h.1.1))

  statements_kept : (ss : Statements) (looped first other : Bool) → statements_keep Source looped first ss → statements_keep Built looped other (built_statements ss)
  statements_kept No_statement looped first other h = tt
  statements_kept (Then statement more) looped first other h = (statement_kept statement looped first other h.0, statements_kept more looped false false h.1)

  part_kept : (q : Part) (looped : Bool) → part_keeps Source looped q → statements_keep Built looped true (built_part q)
  part_kept (Block_part block) looped h = statements_kept block looped true true h
  part_kept (Statement_part statement) looped h = (statement_kept statement looped false true h.1, tt)

items_kept : (is : List Item_line) → items_keep Source is → items_keep Built (map built_item is)
items_kept [] h = tt
items_kept (i ∷ is) h = (kept i.value h.0, items_kept is h.1)

pub module_kept : (m : Module_text) → module_keeps Source m → module_keeps Built (built_module m)
module_kept m h = items_kept m.items h
