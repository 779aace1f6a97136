-- The lines of parts may stand where they are printed.
use Rattle.std.specs.Prelude.{◌≡◌, refl, Bool, true, false, not, ◌&&◌, ◌==◌, Option, Some, [], ◌∷◌, ◌++◌, codes, bytes_eq, IsTrue}
use Rattle.std.proofs.Common.{ap, sym, ◌∙◌, subst}
use Rattle.std.proofs.lemmas.Bool.{false≢true}
use Rattle.std.specs.Char.{encode_utf8}
use Rattle.qk_ast.specs.declared.Un.{Un}
use Rattle.qk_ast.specs.declared.Un.TheVariants as un
use Rattle.qk_ast.specs.declared.Bin.{Bin}
use Rattle.qk_ast.specs.declared.AssignOp.{AssignOp}
use Rattle.qk_ast.specs.declared.AssignOp.TheVariants as assign
use Rattle.qk_ast.specs.Characters.{Characters, same, is_one_of, is_front, is_digit, begins_name}
use Rattle.qk_ast.specs.Tokens.{Token, Written, Around, In_hole, In_tag, Children as Child_region, is_code, reserved_words, allows_jsx, is_word, is_int, is_code_sign, is_attribute_name, written}
use Rattle.qk_ast.specs.Tree.{bytes}
use Rattle.qk_ast.specs.Rules.{is_target, is_member}
use Rattle.qk_ast.proofs.FrontToken.{left, is_not, same_is}
use Rattle.qk_ast.proofs.OneToken.{rest_digits}
use Rattle.qk_print.specs.Shapes.{is_less}
use Rattle.qk_print.proofs.Lines.{Line, ◌▹◌, line, braced, block, comma, link_line, links_line, arguments_line, fields_line, field_line, operands_line, holes_line, attributes_line, children_line, element_line, statements_line, statement_line, un_line, assign_line, bump_line, bindings_line, binding_line, space, empty, word, round}
use Rattle.qk_print.proofs.Neighbours.{At, Soft, Shut, Jsx_at, jsx_in_code, spaced, soft_space, code_token, keyword, code_sign, code_apart, opens_brace, closes_brace, begins_jsx, tag_token, spaced_tag_token, end_token, child_token, Tag_soft, name_before, other_than, tag_front, soft_bin, soft_assign}
use Rattle.qk_print.proofs.Pieces_stand.{text_stands}
use Rattle.qk_ast.specs.Grammar.{Bindings, No_binding, Only_binding, Binding_comma, Binding, Taken, Expression, Quoted, Named, Bracketed, Markup, Postfix, Operands, No_operand, Operand, Holes, Last_part, Part_hole, Link, Dot, Index, Call, Links, No_link, Next_link, Arguments, No_argument, Only, Comma, Field, Quoted_key, Fields, No_field, Only_field, Field_comma, Element, Closed, Open, Fragment, Attributes, No_attribute, Set, Set_text, Set_value, Children, No_child, Text_child, Empty_child, Value_child, Element_child, Statements, No_statement, Then}
use Rattle.qk_print.proofs.Rewriting.{text_pieces, enclosed, stands_plain, is_marked_up, begins_known, is_return_link, ends_with_return, stands_as_operand, as_head, as_operand, unless_markup, as_right_side, as_statement, then_bindings, then_arguments, then_fields, text_child, value_child, opened, either_way, built}

-- ---- plain lines

-- It may stand anywhere in code.
pub record Plain (l : Line) : Type 0 where
  pub here : {around : Around} {before : Option Token} (R : Written) → IsTrue (is_code around) → Soft R → ((last : Option Token) → At around last R) → At around before (l R)

-- It may stand in code where JSX may begin.
pub record Inner (l : Line) : Type 0 where
  pub here : {around : Around} {before : Option Token} (R : Written) → IsTrue (is_code around) → IsTrue (allows_jsx before) → Soft R → ((last : Option Token) → At around last R) → At around before (l R)

pub braced_stands : (b : Bool) (l : Line) → Plain l → Plain (braced b l)
braced_stands true l h = record { here = λ R c n k. opens_brace c (spaced refl (h.here _ refl refl (λ u. closes_brace (k _)))) }
braced_stands false l h = record { here = λ R c n k. opens_brace c (spaced refl (h.here _ refl refl (λ u. spaced refl (closes_brace (k _))))) }

pub block_stands : (l : Line) → Plain l → Plain (block l)
block_stands l h = record { here = λ R c n k. opens_brace c (spaced refl (h.here _ refl refl (λ u. closes_brace (k _)))) }

pub comma_stands : {around : Around} {before : Option Token} {R : Written} → IsTrue (is_code around) → At around (Some (Token.Punct (codes ","))) R → At around before (comma R)
comma_stands c k = code_sign (codes ",") c refl refl refl (spaced c k)

pub then_bindings_stand : (b : Binding) (bs : Bindings) → Plain (binding_line b) → Plain (bindings_line bs) → Plain (bindings_line (then_bindings b bs))
then_bindings_stand b No_binding h k = h
then_bindings_stand b (Only_binding d) h k = record { here = λ R c n l. h.here _ c refl (λ u. comma_stands c (k.here R c n l)) }
then_bindings_stand b (Binding_comma d ds) h k = record { here = λ R c n l. h.here _ c refl (λ u. comma_stands c (k.here R c n l)) }

pub then_fields_stand : (f : Field) (fs : Fields) → Plain (field_line f) → Plain (fields_line fs) → Plain (fields_line (then_fields f fs))
then_fields_stand f No_field h k = h
then_fields_stand f (Only_field g) h k = record { here = λ R c n l. h.here _ c refl (λ u. comma_stands c (k.here R c n l)) }
then_fields_stand f (Field_comma g gs) h k = record { here = λ R c n l. h.here _ c refl (λ u. comma_stands c (k.here R c n l)) }

-- ---- expressions

abbrev pub Entry : Bool → Around → Option Token → Type 0
Entry true around before = Jsx_at around before
Entry false around before = IsTrue (is_code around)

abbrev pub Soft_unless : Bool → Written → Type 0
Soft_unless true R = Unit {0}
Soft_unless false R = Soft R

-- no `<` behind it begins JSX
abbrev pub shuts : Expression → Bool
shuts (Bracketed x) = true
shuts (Postfix head link more) = not (ends_with_return link more)
shuts x = stands_plain x

-- neither `-` nor `=` is its first character
abbrev pub is_calm : Expression → Bool
is_calm (Bracketed x) = true
is_calm (Postfix head link more) = true
is_calm x = stands_plain x

abbrev pub Calm : Characters → Type 0
Calm next = IsTrue (not (is_front (codes "-") next)) × IsTrue (not (is_front (codes "=") next))

pub record Stood (y : Expression) : Type 0 where
  pub here : (around : Around) (before : Option Token) (R : Written) → Entry (is_marked_up y) around before → Soft_unless (is_marked_up y) R
      → ((last : Option Token) → Shut (shuts y) last → At around last R) → At around before (line y R)
  pub calm : IsTrue (is_calm y) → (R : Written) → Calm (written (line y R) [])

entry : (m : Bool) (around : Around) (before : Option Token) → IsTrue (is_code around) → IsTrue (allows_jsx before) → Entry m around before
entry true around before c j = jsx_in_code around before c j
entry false around before c j = c

soft_unless : (m : Bool) (R : Written) → Soft R → Soft_unless m R
soft_unless true R n = tt
soft_unless false R n = n

-- where JSX may begin
pub inside : {around : Around} {before : Option Token} {R : Written} (y : Expression) → Stood y → IsTrue (is_code around) → IsTrue (allows_jsx before) → Soft R
    → ((last : Option Token) → Shut (shuts y) last → At around last R) → At around before (line y R)
inside {around} {before} {R} y s c j n k = s.here around before R (entry (is_marked_up y) around before c j) (soft_unless (is_marked_up y) R n) k

-- what is no JSX
pub bare : {around : Around} {before : Option Token} {R : Written} (y : Expression) → is_marked_up y ≡ false → Stood y → IsTrue (is_code around) → Soft R
    → ((last : Option Token) → Shut (shuts y) last → At around last R) → At around before (line y R)
bare {around} {before} {R} y e s c n k = s.here around before R (subst (λ m. Entry m around before) (sym e) c) (soft_unless (is_marked_up y) R n) k

pub enclosed_stands : (b : Bool) (y : Expression) → Stood y → Stood (enclosed b y)
enclosed_stands true y s = s
enclosed_stands false y s = record {
  here = λ around before R c n k. code_sign (codes "(") c refl refl refl (inside y s c refl refl (λ u q. code_sign (codes ")") c refl refl refl (k _ refl)));
  calm = λ p R. (refl, refl);
}

operand_bare : (next : Option Bin) (y : Expression) → is_marked_up (as_operand next y) ≡ false
operand_bare next (Postfix a b c) = choose (stands_as_operand next (Postfix a b c))
  where
    choose : (d : Bool) → is_marked_up (enclosed d (Postfix a b c)) ≡ false
    choose true = refl
    choose false = refl
operand_bare next y = refl

operand_calm : (next : Option Bin) (y : Expression) → is_calm (as_operand next y) ≡ true
operand_calm next (Postfix a b c) = choose (stands_as_operand next (Postfix a b c))
  where
    choose : (d : Bool) → is_calm (enclosed d (Postfix a b c)) ≡ true
    choose true = refl
    choose false = refl
operand_calm next y = refl

-- before `<` or `<=`
operand_shuts : (less : Bool) (next : Option Bin) (y : Expression) (last : Option Token) → is_less next ≡ less → Shut (shuts (as_operand next y)) last → Shut less last
operand_shuts false next y last e h = tt
operand_shuts true next (Postfix a b c) last e h = choose (is_less next) (ends_with_return b c) e refl h
  where
    choose : (less returns : Bool) → less ≡ true → ends_with_return b c ≡ returns → Shut (shuts (enclosed (not (less && returns)) (Postfix a b c))) last → Shut true last
    choose true true e f h = h
    choose true false e f h = subst (λ r. Shut (not r) last) f h
    choose false returns e f h = absurd (false≢true e)
operand_shuts true next y last e h = h

pub operand : {around : Around} {before : Option Token} {R : Written} (next : Option Bin) (y : Expression) → Stood y → IsTrue (is_code around) → Soft R
    → ((last : Option Token) → Shut (is_less next) last → At around last R) → At around before (line (as_operand next y) R)
operand next y s c n k = bare (as_operand next y) (operand_bare next y) (enclosed_stands _ y s) c n (λ u q. k u (operand_shuts _ next y u refl q))

pub calm_operand : (next : Option Bin) (y : Expression) → Stood y → (R : Written) → Calm (written (line (as_operand next y) R) [])
calm_operand next y s R = (enclosed_stands (stands_as_operand next y) y s).calm (operand_calm next y) R

head_bare : (y : Expression) → is_marked_up (as_head y) ≡ false
head_bare (Named a) = choose (begins_known a)
  where
    choose : (d : Bool) → is_marked_up (enclosed (not d) (Named a)) ≡ false
    choose true = refl
    choose false = refl
head_bare y = refl

head_calm : (y : Expression) → is_calm (as_head y) ≡ true
head_calm (Named a) = choose (begins_known a)
  where
    choose : (d : Bool) → is_calm (enclosed (not d) (Named a)) ≡ true
    choose true = refl
    choose false = refl
head_calm y = refl

pub head : {around : Around} {before : Option Token} {R : Written} (y : Expression) → Stood y → IsTrue (is_code around) → Soft R → ((last : Option Token) → At around last R) → At around before (line (as_head y) R)
head y s c n k = bare (as_head y) (head_bare y) (enclosed_stands _ y s) c n (λ u q. k u)

pub calm_head : (y : Expression) → Stood y → (R : Written) → Calm (written (line (as_head y) R) [])
calm_head y s R = (enclosed_stands _ y s).calm (head_calm y) R

unless_markup_bare : (y : Expression) → is_marked_up (unless_markup y) ≡ false
unless_markup_bare (Markup a) = refl
unless_markup_bare y = refl

pub outside : {around : Around} {before : Option Token} {R : Written} (y : Expression) → Stood y → IsTrue (is_code around) → Soft R → ((last : Option Token) → At around last R) → At around before (line (unless_markup y) R)
outside y s c n k = bare (unless_markup y) (unless_markup_bare y) (enclosed_stands _ y s) c n (λ u q. k u)

statement_bare : (y : Expression) → is_marked_up (as_statement y) ≡ false
statement_bare (Markup a) = refl
statement_bare y = refl

pub as_a_statement : {around : Around} {before : Option Token} {R : Written} (y : Expression) → Stood y → IsTrue (is_code around) → Soft R → ((last : Option Token) → At around last R) → At around before (line (as_statement y) R)
as_a_statement y s c n k = bare (as_statement y) (statement_bare y) (enclosed_stands _ y s) c n (λ u q. k u)

-- ---- what stands for itself

pub word_calm : (p : Characters) (next : Characters) → IsTrue (is_word p) → Calm (p ++ next)
word_calm [] next h = absurd (false≢true h)
word_calm (c ∷ cs) next h = (ap (λ b. not (b && true)) (other_than begins_name 45 c refl (left (begins_name c) _ h)), ap (λ b. not (b && true)) (other_than begins_name 61 c refl (left (begins_name c) _ h)))

pub int_calm : (ds : Characters) (next : Characters) → IsTrue (is_int ds) → Calm (ds ++ next)
int_calm [] next h = absurd (false≢true h)
int_calm (d ∷ ds) next h = (ap (λ b. not (b && true)) (other_than is_digit 45 d refl (left (is_digit d) _ (rest_digits d ds h))), ap (λ b. not (b && true)) (other_than is_digit 61 d refl (left (is_digit d) _ (rest_digits d ds h))))

no_bang : (next : Characters) → is_front (codes "=") next ≡ false → is_front (codes "==") next ≡ false
no_bang [] h = refl
no_bang (d ∷ ds) h = choose (61 == d) h
  where
    choose : (b : Bool) → (b && true) ≡ false → (b && is_front (codes "=") ds) ≡ false
    choose true e = absurd (false≢true (sym e))
    choose false e = refl

not_sign : (before : Option Token) (next : Characters) → Calm next → IsTrue (is_code_sign before (codes "!") next)
not_sign before next h = let e = no_bang next (is_not _ h.1) in rw e (refl {a = true})

minus_sign : (before : Option Token) (next : Characters) → Calm next → IsTrue (is_code_sign before (codes "-") next)
minus_sign before next h = let e = is_not (is_front (codes "-") next) h.0 in let f = is_not (is_front (codes "=") next) h.1 in rw (e, f) (refl {a = true})

pub un_stands : {around : Around} {before : Option Token} {R : Written} (op : Un) → IsTrue (is_code around) → Calm (written R []) → ((last : Option Token) → At around last R) → At around before (un_line op R)
un_stands {around} {before} {R} un.Not c h k = code_sign (codes "!") c refl refl (not_sign before (written R []) h) (k _)
un_stands {around} {before} {R} un.Neg c h k = code_sign (codes "-") c refl refl (minus_sign before (written R []) h) (k _)

-- ---- assignments

pub target_bare : (x : Expression) → IsTrue (is_target x) → is_marked_up (built x) ≡ false
target_bare (Named a) h = refl
target_bare (Postfix a b c) h = refl
target_bare x h = absurd (false≢true h)

pub member_bare : (x : Expression) → IsTrue (is_member x) → is_marked_up (built x) ≡ false
member_bare (Postfix a b c) h = refl
member_bare x h = absurd (false≢true h)

assign_stands : {around : Around} {before : Option Token} {R : Written} (op : AssignOp) (y : Expression) → Stood y → IsTrue (is_code around) → Soft R → ((last : Option Token) → At around last R) → At around before (assign_line op (line (as_right_side op y) R))
assign_stands assign.Set y s c n k = code_apart (codes "=") c refl refl (λ cs. refl) (inside y s c refl n (λ u q. k u))
assign_stands assign.Add y s c n k = code_apart (codes "+=") c refl refl (λ cs. refl) (outside y s c n k)
assign_stands assign.Sub y s c n k = code_apart (codes "-=") c refl refl (λ cs. refl) (outside y s c n k)
assign_stands assign.Mul y s c n k = code_apart (codes "*=") c refl refl (λ cs. refl) (outside y s c n k)

pub assigned_stands : (x y : Expression) (op : AssignOp) → is_marked_up x ≡ false → Stood x → Stood y → Plain (line x ▹ assign_line op ▹ line (as_right_side op y))
assigned_stands x y op e h s = record { here = λ R c n k. bare x e h c (soft_assign op _) (λ u q. assign_stands op y s c n k) }

pub bumped_stands : (x : Expression) (up : Bool) → is_marked_up x ≡ false → Stood x → Plain (line x ▹ bump_line up)
bumped_stands x true e h = record { here = λ R c n k. bare x e h c refl (λ u q. code_sign (codes "++") c refl refl refl (k _)) }
bumped_stands x false e h = record { here = λ R c n k. bare x e h c refl (λ u q. code_sign (codes "--") c refl refl refl (k _)) }

-- ---- lists

pub then_arguments_stand : (y : Expression) (ys : Arguments) → Stood y → Inner (arguments_line ys) → Inner (arguments_line (then_arguments y ys))
then_arguments_stand y No_argument s h = record { here = λ R c j n k. inside y s c j n (λ u q. k u) }
then_arguments_stand y (Only z) s h = record { here = λ R c j n k. inside y s c j refl (λ u q. comma_stands c (h.here R c refl n k)) }
then_arguments_stand y (Comma z zs) s h = record { here = λ R c j n k. inside y s c j refl (λ u q. comma_stands c (h.here R c refl n k)) }

-- ---- operands

-- They may stand behind what ends before this operator.
pub record Operands_stand (first : Option Bin) (os : Operands) : Type 0 where
  pub here : {around : Around} {before : Option Token} (R : Written) → IsTrue (is_code around) → Soft R → Shut (is_less first) before → ((last : Option Token) → At around last R) → At around before (operands_line os R)

-- ---- links

pub record Link_stands (b : Link) : Type 0 where
  pub here : {around : Around} {before : Option Token} (R : Written) → IsTrue (is_code around) → Soft R → ((last : Option Token) → Shut (not (is_return_link b)) last → At around last R) → At around before (link_line b R)

pub record Links_stand (b : Link) (ls : Links) : Type 0 where
  pub here : {around : Around} {before : Option Token} (R : Written) → IsTrue (is_code around) → Soft R → ((last : Option Token) → Shut (not (ends_with_return b ls)) last → At around last R) → At around before (link_line b (links_line ls R))

pub soft_link : (b : Link) (R : Written) → Soft (link_line b R)
soft_link (Dot w) R = refl
soft_link (Index x) R = refl
soft_link (Call arguments) R = refl

pub last_link : (b : Link) → Link_stands b → Links_stand b No_link
last_link b h = record { here = λ R c n k. h.here R c n k }

pub next_link : (b d : Link) (ls : Links) → Link_stands b → Links_stand d ls → Links_stand b (Next_link d ls)
next_link b d ls h t = record { here = λ R c n k. h.here _ c (soft_link d _) (λ u q. t.here R c n k) }

pub taken_shuts : (a : Characters) → Shut (not (is_return_link (Dot (Taken a)))) (Some (Token.Reserved a))
unfolding encode_utf8
taken_shuts a = choose (bytes_eq (bytes a) (codes "return")) (same a (codes "return")) refl refl
  where
    choose : (d r : Bool) → bytes_eq (bytes a) (codes "return") ≡ d → same a (codes "return") ≡ r → Shut (not d) (Some (Token.Reserved a))
    choose true r e f = tt
    choose false false e f = ap not f
    choose false true e f = absurd (false≢true (sym e ∙ ap (λ w. bytes_eq (bytes w) (codes "return")) (same_is a (codes "return") f)))

-- ---- JSX

pub record Element_stands (el : Element) : Type 0 where
  pub here : (around : Around) (before : Option Token) (R : Written) → Jsx_at around before → ((last : Option Token) → At around last R) → At around before (element_line el R)

pub record Attributes_stand (as' : Attributes) : Type 0 where
  pub here : {around : Around} {before : Option Token} (R : Written) → ((last : Option Token) → At (In_tag ∷ around) last R) → At (In_tag ∷ around) before (attributes_line as' R)

pub record Children_stand (cs : Children) : Type 0 where
  pub here : {around : Around} {before : Option Token} (R : Written) → ((last : Option Token) → At (Child_region ∷ around) last R) → At (Child_region ∷ around) before (children_line cs R)

pub set_value_stands : (a : Characters) (y : Expression) (more : Attributes) → IsTrue (is_attribute_name a []) → Stood y → Attributes_stand more → Attributes_stand (Set_value a y more)
set_value_stands a y more h s m = record { here = λ R k. spaced_tag_token (name_before a _ h (refl, refl)) (tag_token refl (tag_token refl (inside y s refl refl refl (λ u q. closes_brace (m.here R k))))) }

soft_attributes : (as' : Attributes) (R : Written) → Tag_soft (written R []) → Tag_soft (written (attributes_line as' R) [])
soft_attributes No_attribute R h = h
soft_attributes (Set a more) R h = (refl, refl)
soft_attributes (Set_text a quote text more) R h = (refl, refl)
soft_attributes (Set_value a y more) R h = (refl, refl)

pub closed_stands : (tag : Characters) (as' : Attributes) → IsTrue (is_attribute_name tag []) → Attributes_stand as' → Element_stands (Closed tag as')
closed_stands tag as' h m = record {
  here = λ around before R j k. let f = tag_front tag _ h in
      begins_jsx (codes "<") j f.0 f.1 (tag_token (name_before tag _ h (soft_attributes as' _ (refl, refl))) (m.here _ (λ u. tag_token refl (k _))));
}

open_stands : (tag : Characters) (as' : Attributes) (cs : Children) → IsTrue (is_attribute_name tag []) → Attributes_stand as' → Children_stand cs → Element_stands (Open tag as' cs tag)
open_stands tag as' cs h m l = record {
  here = λ around before R j k. let f = tag_front tag _ h in let e = tag_front tag _ h in
      begins_jsx (codes "<") j f.0 f.1 (tag_token (name_before tag _ h (soft_attributes as' _ (refl, refl))) (m.here _ (λ u. tag_token refl
      (l.here _ (λ v. child_token e.2 (end_token (name_before tag _ h (refl, refl)) (end_token refl (k _))))))));
}

pub opened_stands : (tag : Characters) (as' : Attributes) (cs : Children) → IsTrue (is_attribute_name tag []) → Attributes_stand as' → Children_stand cs → Element_stands (opened tag as' cs)
opened_stands tag as' No_child h m l = closed_stands tag as' h m
opened_stands tag as' (Text_child t cs) h m l = open_stands tag as' (Text_child t cs) h m l
opened_stands tag as' (Empty_child cs) h m l = open_stands tag as' (Empty_child cs) h m l
opened_stands tag as' (Value_child y cs) h m l = open_stands tag as' (Value_child y cs) h m l
opened_stands tag as' (Element_child el cs) h m l = open_stands tag as' (Element_child el cs) h m l

pub fragment_stands : (cs : Children) → Children_stand cs → Element_stands (Fragment cs)
fragment_stands cs l = record { here = λ around before R j k. begins_jsx (codes "<>") j refl refl (l.here _ (λ u. child_token refl (k _))) }

value_stands : (y : Expression) (cs : Children) → Stood y → Children_stand cs → Children_stand (Value_child y cs)
value_stands y cs s m = record { here = λ R k. child_token refl (inside y s refl refl refl (λ u q. closes_brace (m.here R k))) }

pub element_child_stands : (el : Element) (cs : Children) → Element_stands el → Children_stand cs → Children_stand (Element_child el cs)
element_child_stands el cs h m = record { here = λ {around} {before} R k. h.here (Child_region ∷ around) before (children_line cs R) tt (λ u. m.here R k) }

pub value_child_stands : (y : Expression) (cs : Children) → Stood y → Children_stand cs → Children_stand (value_child y cs)
value_child_stands (Markup el) cs s m = record { here = λ {around} {before} R k. s.here (Child_region ∷ around) before (children_line cs R) tt tt (λ u q. m.here R k) }
value_child_stands y cs s m = value_stands y cs s m

pub quoted_stands : (cs : Characters) → Stood (Quoted 34 (text_pieces cs))
quoted_stands cs = record { here = λ around before R c n k. code_token c (refl, text_stands cs) (k _ refl); calm = λ p R. (refl, refl) }

pub text_child_stands : (text : Characters) (cs : Children) → Children_stand cs → Children_stand (text_child text cs)
text_child_stands [] cs m = m
text_child_stands (c ∷ text) cs m = value_stands (Quoted 34 (text_pieces (c ∷ text))) cs (quoted_stands (c ∷ text)) m

-- ---- templates

pub record Holes_stand (hs : Holes) : Type 0 where
  pub here : {around : Around} {before : Option Token} (R : Written) → ((last : Option Token) → Shut true last → At around last R) → At (In_hole ∷ around) before (holes_line hs R)

pub soft_holes : (hs : Holes) (R : Written) → Soft (holes_line hs R)
soft_holes (Last_part pieces) R = refl
soft_holes (Part_hole pieces x more) R = refl

pub soft_operands : (os : Operands) (R : Written) → Soft R → Soft (operands_line os R)
soft_operands No_operand R h = h
soft_operands (Operand op x more) R h = soft_bin op _

pub free_shuts : (a : Characters) (b : Bool) → Shut b (Some (Token.Name a))
free_shuts a true = refl
free_shuts a false = tt

pub named_stands : (a : Characters) → IsTrue (is_word a) → IsTrue (not (is_one_of a reserved_words)) → Stood (Named a)
named_stands a h f = record { here = λ around before R c n k. code_token c (h, f, n) (k _ refl); calm = λ p R. word_calm a (written R []) h }

pub key_stands : (cs : Characters) (y : Expression) → Stood y → Plain (field_line (Quoted_key 34 (text_pieces cs) y))
key_stands cs y s = record { here = λ R c n k. code_token c (refl, text_stands cs) (code_sign (codes ":") c refl refl refl (spaced c (inside y s c refl n (λ u q. k u)))) }

pub nothing_stands : Plain empty
nothing_stands = record { here = λ R c n k. k _ }

-- ---- statements

-- with spaces behind them
pub then_stands : (l m : Line) → Plain l → Plain m → Plain (l ▹ space ▹ m)
then_stands l m h k = record { here = λ R c n e. h.here (space (m R)) c (soft_space (m R)) (λ u. spaced c (k.here R c n e)) }

-- `if` or `while`
pub tested_stands : (w : Characters) (test : Expression) (l : Line) → IsTrue (is_one_of w reserved_words) → Stood test → Plain l → Plain (word w ▹ space ▹ round (line test) ▹ space ▹ block l)
tested_stands w test l e s h = record { here = λ R c n k. keyword w c e (code_sign (codes "(") c refl refl refl (inside test s c refl refl (λ u q. code_sign (codes ")") c refl refl refl (spaced c ((block_stands l h).here R c n k))))) }

pub either_way_stands : (test : Expression) (ys ns : Statements) → Stood test → Plain (statements_line ys) → Plain (statements_line ns) → Plain (statement_line (either_way test ys ns))
either_way_stands test ys No_statement s h l = tested_stands (codes "if") test (statements_line ys) refl s h
either_way_stands test ys (Then s' ss) s h l = record { here = λ R c n k. (tested_stands (codes "if") test (statements_line ys) refl s h).here _ c refl (λ u. spaced c (keyword (codes "else") c refl ((block_stands _ l).here R c n k))) }
