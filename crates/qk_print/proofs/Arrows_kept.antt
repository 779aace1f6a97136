-- The printed writing has as many arrows as the one that it is made of, at each place.
use Rattle.std.specs.Prelude.{◌≡◌, refl, ◌+◌, Bool, true, false, None, List, [], ◌∷◌, codes}
use Rattle.std.proofs.Common.{ap, sym, ◌∙◌}
use Rattle.qk_ast.specs.declared.Un.{Un}
use Rattle.qk_ast.specs.declared.Un.TheVariants as un
use Rattle.qk_ast.specs.declared.Bin.{Bin}
use Rattle.qk_ast.specs.declared.AssignOp.{AssignOp}
use Rattle.qk_ast.specs.declared.AssignOp.TheVariants as assign
use Rattle.qk_ast.specs.Characters.{Characters}
use Rattle.qk_ast.specs.JsxText.{jsx_text}
use Rattle.qk_ast.specs.Tokens.{Token}
use Rattle.qk_ast.specs.Tree.{arrow_signs}
use Rattle.qk_ast.specs.declared.Bin.TheVariants as bin
use Rattle.qk_ast.specs.Grammar.{Names, Last_name, Last_comma, Next_name, Binding, Plain, Fields_of, Bindings, No_binding, Only_binding, Binding_comma, Parameters, Bare, In_brackets, Word, Free, Taken, Expression, Undefined, Null, Truth, Number, Quoted, Named, Whole, Holed, Bracketed, Listed, Recorded, Markup, Log, Keys, Str, Trunc, Postfix, Prefix, Chain, Choice, Function, Operands, No_operand, Operand, Holes, Last_part, Part_hole, Link, Dot, Index, Call, Links, No_link, Next_link, Arguments, No_argument, Only, Comma, Field, Key, Quoted_key, Short, Fields, No_field, Only_field, Field_comma, Element, Closed, Open, Fragment, Attributes, No_attribute, Set, Set_text, Set_value, Children, No_child, Text_child, Empty_child, Value_child, Element_child, Body, Block_body, Step_body, Step, Plain_step, Assign, Bump, Statement, Const, Scope, Let, Return, Return_step, If, If_else, While, For_of, Break, Continue, Delete, Block, Do, Statements, No_statement, Then, Part, Block_part, Statement_part}
use Rattle.qk_print.proofs.Rewriting.{enclosed, as_head, as_operand, as_right_side, stands_as_head, built_names, built_binding, then_bindings, built_bindings, built_parameters, then_arguments, then_fields, text_child, value_child, opened, either_way, built, built_operands, built_holes, built_link, built_links, built_arguments, built_field, built_fields, built_element, built_attributes, built_children, built_body, built_step, built_statement, built_statements, built_part}
use Rattle.qk_ast.specs.Spelling.{Writing, ◌⨾◌, tokens, names_tokens, binding_tokens, bindings_tokens, parameters_tokens, word_tokens, un_sign, bin_sign, assign_sign, bump_sign, truth_word, scope_tokens, operands_tokens, holes_tokens, link_tokens, links_tokens, arguments_tokens, field_tokens, fields_tokens, element_tokens, attributes_tokens, children_tokens, body_tokens, step_tokens, statement_tokens, statements_tokens, part_tokens, comma, sign, name, word, begin, curly}

-- the two put as many arrows before what follows
abbrev pub Alike : Writing → Writing → Type 0
Alike u w = (R R' : List Token) → arrow_signs R ≡ arrow_signs R' → arrow_signs (u R) ≡ arrow_signs (w R')

pub within : (b : Bool) (y : Expression) (w : Writing) → Alike (tokens y) w → Alike (tokens (enclosed b y)) w
within true y w h = h
within false y w h = λ R R' e. h (Token.Punct (codes ")") ∷ R) R' e

pub head_within : (y : Expression) (w : Writing) → Alike (tokens y) w → Alike (tokens (as_head y)) w
head_within y = within (stands_as_head y) y

right_side_within : (op : AssignOp) (y : Expression) (w : Writing) → Alike (tokens y) w → Alike (tokens (as_right_side op y)) w
right_side_within assign.Set y w h = h
right_side_within assign.Add y w h = within _ y w h
right_side_within assign.Sub y w h = within _ y w h
right_side_within assign.Mul y w h = within _ y w h

sign_uncounted : (op : Bin) (ts : List Token) → arrow_signs (bin_sign op ts) ≡ arrow_signs ts
sign_uncounted bin.Or ts = refl
sign_uncounted bin.And ts = refl
sign_uncounted bin.Coalesce ts = refl
sign_uncounted bin.Same ts = refl
sign_uncounted bin.NotSame ts = refl
sign_uncounted bin.Less ts = refl
sign_uncounted bin.LessEq ts = refl
sign_uncounted bin.More ts = refl
sign_uncounted bin.MoreEq ts = refl
sign_uncounted bin.Add ts = refl
sign_uncounted bin.Sub ts = refl
sign_uncounted bin.Mul ts = refl
sign_uncounted bin.Rem ts = refl

assign_uncounted : (op : AssignOp) (ts : List Token) → arrow_signs (assign_sign op ts) ≡ arrow_signs ts
assign_uncounted assign.Set ts = refl
assign_uncounted assign.Add ts = refl
assign_uncounted assign.Sub ts = refl
assign_uncounted assign.Mul ts = refl

names_alike : (ns : Names) → Alike (names_tokens (built_names ns)) (names_tokens ns)
names_alike (Last_name a) R R' e = e
names_alike (Last_comma a) R R' e = e
names_alike (Next_name a more) R R' e = names_alike more R R' e

binding_alike : (b : Binding) → Alike (binding_tokens (built_binding b)) (binding_tokens b)
binding_alike (Plain a) R R' e = e
binding_alike (Fields_of names) R R' e = names_alike names (Token.Punct (codes "}") ∷ R) (Token.Punct (codes "}") ∷ R') e

then_bindings_alike : (b : Binding) (bs : Bindings) (u v : Writing) → Alike (binding_tokens b) u → Alike (bindings_tokens bs) v → Alike (bindings_tokens (then_bindings b bs)) (u ⨾ comma ⨾ v)
then_bindings_alike b No_binding u v h k R R' e = h R (comma (v R')) (k R R' e)
then_bindings_alike b (Only_binding c) u v h k R R' e = h _ (comma (v R')) (k R R' e)
then_bindings_alike b (Binding_comma c cs) u v h k R R' e = h _ (comma (v R')) (k R R' e)

bindings_alike : (bs : Bindings) → Alike (bindings_tokens (built_bindings bs)) (bindings_tokens bs)
bindings_alike No_binding R R' e = e
bindings_alike (Only_binding b) R R' e = binding_alike b R R' e
bindings_alike (Binding_comma b more) R R' e = then_bindings_alike (built_binding b) (built_bindings more) (binding_tokens b) (bindings_tokens more) (binding_alike b) (bindings_alike more) R R' e

parameters_alike : (ps : Parameters) → Alike (parameters_tokens (built_parameters ps)) (parameters_tokens ps)
parameters_alike (Bare a) R R' e = e
parameters_alike (In_brackets bs) R R' e = bindings_alike bs (Token.Punct (codes ")") ∷ R) (Token.Punct (codes ")") ∷ R') e

word_alike : (w : Word) → Alike (word_tokens w) (word_tokens w)
word_alike (Free a) R R' e = e
word_alike (Taken a) R R' e = e

key_alike : (w : Word) (R : List Token) → arrow_signs R ≡ arrow_signs (word_tokens w R)
key_alike (Free a) R = refl
key_alike (Taken a) R = refl

truth_alike : (b : Bool) → Alike (truth_word b) (truth_word b)
truth_alike true R R' e = e
truth_alike false R R' e = e

un_alike : (op : Un) → Alike (un_sign op) (un_sign op)
un_alike un.Not R R' e = e
un_alike un.Neg R R' e = e

bump_alike : (up : Bool) → Alike (bump_sign up) (bump_sign up)
bump_alike true R R' e = e
bump_alike false R R' e = e

bin_alike : (op : Bin) → Alike (bin_sign op) (bin_sign op)
bin_alike op R R' e = sign_uncounted op R ∙ e ∙ sym (sign_uncounted op R')

assign_alike : (op : AssignOp) → Alike (assign_sign op) (assign_sign op)
assign_alike op R R' e = assign_uncounted op R ∙ e ∙ sym (assign_uncounted op R')

scope_alike : (more : List Characters) → Alike (scope_tokens more) (scope_tokens more)
scope_alike [] R R' e = e
scope_alike (a ∷ more) R R' e = scope_alike more R R' e

then_arguments_alike : (y : Expression) (ys : Arguments) (u v : Writing) → Alike (tokens y) u → Alike (arguments_tokens ys) v → Alike (arguments_tokens (then_arguments y ys)) (u ⨾ comma ⨾ v)
then_arguments_alike y No_argument u v h k R R' e = h R (comma (v R')) (k R R' e)
then_arguments_alike y (Only z) u v h k R R' e = h _ (comma (v R')) (k R R' e)
then_arguments_alike y (Comma z zs) u v h k R R' e = h _ (comma (v R')) (k R R' e)

then_fields_alike : (f : Field) (fs : Fields) (u v : Writing) → Alike (field_tokens f) u → Alike (fields_tokens fs) v → Alike (fields_tokens (then_fields f fs)) (u ⨾ comma ⨾ v)
then_fields_alike f No_field u v h k R R' e = h R (comma (v R')) (k R R' e)
then_fields_alike f (Only_field g) u v h k R R' e = h _ (comma (v R')) (k R R' e)
then_fields_alike f (Field_comma g gs) u v h k R R' e = h _ (comma (v R')) (k R R' e)

text_child_alike : (text : Characters) (cs : Children) (v : Writing) → Alike (children_tokens cs) v → Alike (children_tokens (text_child text cs)) v
text_child_alike [] cs v k = k
text_child_alike (c ∷ text) cs v k = k

value_child_alike : (y : Expression) (cs : Children) (u v : Writing) → Alike (tokens y) u → Alike (children_tokens cs) v → Alike (children_tokens (value_child y cs)) (curly u ⨾ v)
value_child_alike Undefined cs u v h k R R' e = h (sign (codes "}") (children_tokens cs R)) (sign (codes "}") (v R')) (k R R' e)
value_child_alike Null cs u v h k R R' e = h (sign (codes "}") (children_tokens cs R)) (sign (codes "}") (v R')) (k R R' e)
value_child_alike (Truth a) cs u v h k R R' e = h (sign (codes "}") (children_tokens cs R)) (sign (codes "}") (v R')) (k R R' e)
value_child_alike (Number a) cs u v h k R R' e = h (sign (codes "}") (children_tokens cs R)) (sign (codes "}") (v R')) (k R R' e)
value_child_alike (Quoted a b) cs u v h k R R' e = h (sign (codes "}") (children_tokens cs R)) (sign (codes "}") (v R')) (k R R' e)
value_child_alike (Named a) cs u v h k R R' e = h (sign (codes "}") (children_tokens cs R)) (sign (codes "}") (v R')) (k R R' e)
value_child_alike (Whole a) cs u v h k R R' e = h (sign (codes "}") (children_tokens cs R)) (sign (codes "}") (v R')) (k R R' e)
value_child_alike (Holed a b c) cs u v h k R R' e = h (sign (codes "}") (children_tokens cs R)) (sign (codes "}") (v R')) (k R R' e)
value_child_alike (Bracketed a) cs u v h k R R' e = h (sign (codes "}") (children_tokens cs R)) (sign (codes "}") (v R')) (k R R' e)
value_child_alike (Listed a) cs u v h k R R' e = h (sign (codes "}") (children_tokens cs R)) (sign (codes "}") (v R')) (k R R' e)
value_child_alike (Recorded a) cs u v h k R R' e = h (sign (codes "}") (children_tokens cs R)) (sign (codes "}") (v R')) (k R R' e)
value_child_alike (Markup a) cs u v h k R R' e = h _ (sign (codes "}") (v R')) (k R R' e)
value_child_alike (Log a) cs u v h k R R' e = h (sign (codes "}") (children_tokens cs R)) (sign (codes "}") (v R')) (k R R' e)
value_child_alike (Keys a) cs u v h k R R' e = h (sign (codes "}") (children_tokens cs R)) (sign (codes "}") (v R')) (k R R' e)
value_child_alike (Str a) cs u v h k R R' e = h (sign (codes "}") (children_tokens cs R)) (sign (codes "}") (v R')) (k R R' e)
value_child_alike (Trunc a b) cs u v h k R R' e = h (sign (codes "}") (children_tokens cs R)) (sign (codes "}") (v R')) (k R R' e)
value_child_alike (Postfix a b c) cs u v h k R R' e = h (sign (codes "}") (children_tokens cs R)) (sign (codes "}") (v R')) (k R R' e)
value_child_alike (Prefix a b) cs u v h k R R' e = h (sign (codes "}") (children_tokens cs R)) (sign (codes "}") (v R')) (k R R' e)
value_child_alike (Chain a b c d) cs u v h k R R' e = h (sign (codes "}") (children_tokens cs R)) (sign (codes "}") (v R')) (k R R' e)
value_child_alike (Choice a b c) cs u v h k R R' e = h (sign (codes "}") (children_tokens cs R)) (sign (codes "}") (v R')) (k R R' e)
value_child_alike (Function a b) cs u v h k R R' e = h (sign (codes "}") (children_tokens cs R)) (sign (codes "}") (v R')) (k R R' e)

opened_alike : (tag end : Characters) (as' : Attributes) (cs : Children) (u v : Writing) → Alike (attributes_tokens as') u → Alike (children_tokens cs) v
    → Alike (element_tokens (opened tag as' cs)) (begin (codes "<") ⨾ name tag ⨾ u ⨾ sign (codes ">") ⨾ v ⨾ sign (codes "</") ⨾ name end ⨾ sign (codes ">"))
opened_alike tag end as' No_child u v h k R R' e = h _ (sign (codes ">") (v (Token.Punct (codes "</") ∷ Token.Name end ∷ Token.Punct (codes ">") ∷ R'))) (k R _ e)
opened_alike tag end as' (Text_child t cs) u v h k R R' e = h _ _ (k (Token.Punct (codes "</") ∷ Token.Name tag ∷ Token.Punct (codes ">") ∷ R) (Token.Punct (codes "</") ∷ Token.Name end ∷ Token.Punct (codes ">") ∷ R') e)
opened_alike tag end as' (Empty_child cs) u v h k R R' e = h _ _ (k (Token.Punct (codes "</") ∷ Token.Name tag ∷ Token.Punct (codes ">") ∷ R) (Token.Punct (codes "</") ∷ Token.Name end ∷ Token.Punct (codes ">") ∷ R') e)
opened_alike tag end as' (Value_child t cs) u v h k R R' e = h _ _ (k (Token.Punct (codes "</") ∷ Token.Name tag ∷ Token.Punct (codes ">") ∷ R) (Token.Punct (codes "</") ∷ Token.Name end ∷ Token.Punct (codes ">") ∷ R') e)
opened_alike tag end as' (Element_child t cs) u v h k R R' e = h _ _ (k (Token.Punct (codes "</") ∷ Token.Name tag ∷ Token.Punct (codes ">") ∷ R) (Token.Punct (codes "</") ∷ Token.Name end ∷ Token.Punct (codes ">") ∷ R') e)

either_way_alike : (test : Expression) (yes' no' : Statements) (u v w : Writing) → Alike (tokens test) u → Alike (statements_tokens yes') v → Alike (statements_tokens no') w
    → Alike (statement_tokens (either_way test yes' no')) (u ⨾ v ⨾ w)
either_way_alike test yes' No_statement u v w h k l R R' e = h _ (v (w R')) (k _ (w R') (l R R' e))
either_way_alike test yes' (Then s ss) u v w h k l R R' e = h _ (v (w R')) (k _ (w R') (l (Token.Punct (codes "}") ∷ R) R' e))

mutual
  pub alike : (x : Expression) → Alike (tokens (built x)) (tokens x)
  alike Undefined R R' e = e
  alike Null R R' e = e
  alike (Truth b) R R' e = truth_alike b R R' e
  alike (Number digits) R R' e = e
  alike (Quoted quote pieces) R R' e = e
  alike (Named a) R R' e = e
  alike (Whole pieces) R R' e = e
  alike (Holed pieces x more) R R' e = within _ (built x) (tokens x) (alike x) _ _ (holes_alike more R R' e)
  alike (Bracketed x) R R' e = alike x R (Token.Punct (codes ")") ∷ R') e
  alike (Listed arguments) R R' e = arguments_alike arguments (Token.Punct (codes "]") ∷ R) (Token.Punct (codes "]") ∷ R') e
  alike (Recorded fields) R R' e = fields_alike fields (Token.Punct (codes "}") ∷ R) (Token.Punct (codes "}") ∷ R') e
  alike (Markup element) R R' e = element_alike element R R' e
  alike (Log x) R R' e = alike x (Token.Punct (codes ")") ∷ R) (Token.Punct (codes ")") ∷ R') e
  alike (Keys x) R R' e = alike x (Token.Punct (codes ")") ∷ R) (Token.Punct (codes ")") ∷ R') e
  alike (Str x) R R' e = alike x (Token.Punct (codes ")") ∷ R) (Token.Punct (codes ")") ∷ R') e
  alike (Trunc x y) R R' e = within _ (built x) (tokens x) (alike x) _ _ (within _ (built y) (tokens y) (alike y) (Token.Punct (codes ")") ∷ R) (Token.Punct (codes ")") ∷ R') e)
  alike (Postfix head link more) R R' e = within _ (built head) (tokens head) (alike head) _ _ (link_alike link _ _ (links_alike more R R' e))
  alike (Prefix op x) R R' e = un_alike op _ _ (within _ (built x) (tokens x) (alike x) R R' e)
  alike (Chain x op y more) R R' e = within _ (built x) (tokens x) (alike x) _ _ (bin_alike op _ _ (within _ (built y) (tokens y) (alike y) _ _ (operands_alike more R R' e)))
  alike (Choice x y z) R R' e = within _ (built x) (tokens x) (alike x) _ _ (within _ (built y) (tokens y) (alike y) (sign (codes ":") (tokens (as_operand None (built z)) R)) (sign (codes ":") (tokens z R')) (within _ (built z) (tokens z) (alike z) R R' e))
  alike (Function parameters body) R R' e = parameters_alike parameters _ _ (ap (λ n. 1 + n) (body_alike body R R' e))

  pub operands_alike : (os : Operands) → Alike (operands_tokens (built_operands os)) (operands_tokens os)
  operands_alike No_operand R R' e = e
  operands_alike (Operand op x more) R R' e = bin_alike op _ _ (within _ (built x) (tokens x) (alike x) _ _ (operands_alike more R R' e))

  pub holes_alike : (hs : Holes) → Alike (holes_tokens (built_holes hs)) (holes_tokens hs)
  holes_alike (Last_part pieces) R R' e = e
  holes_alike (Part_hole pieces x more) R R' e = within _ (built x) (tokens x) (alike x) _ _ (holes_alike more R R' e)

  pub link_alike : (l : Link) → Alike (link_tokens (built_link l)) (link_tokens l)
  link_alike (Dot w) R R' e = word_alike w R R' e
  link_alike (Index x) R R' e = alike x (Token.Punct (codes "]") ∷ R) (Token.Punct (codes "]") ∷ R') e
  link_alike (Call arguments) R R' e = arguments_alike arguments (Token.Punct (codes ")") ∷ R) (Token.Punct (codes ")") ∷ R') e

  pub links_alike : (ls : Links) → Alike (links_tokens (built_links ls)) (links_tokens ls)
  links_alike No_link R R' e = e
  links_alike (Next_link link more) R R' e = link_alike link _ _ (links_alike more R R' e)

  pub arguments_alike : (as' : Arguments) → Alike (arguments_tokens (built_arguments as')) (arguments_tokens as')
  arguments_alike No_argument R R' e = e
  arguments_alike (Only x) R R' e = alike x R R' e
  arguments_alike (Comma x more) R R' e = then_arguments_alike (built x) (built_arguments more) (tokens x) (arguments_tokens more) (alike x) (arguments_alike more) R R' e

  pub field_alike : (f : Field) → Alike (field_tokens (built_field f)) (field_tokens f)
  field_alike (Key w x) R R' e = alike x R R' e ∙ key_alike w (sign (codes ":") (tokens x R'))
  field_alike (Quoted_key quote pieces x) R R' e = alike x R R' e
  field_alike (Short a) R R' e = e

  pub fields_alike : (fs : Fields) → Alike (fields_tokens (built_fields fs)) (fields_tokens fs)
  fields_alike No_field R R' e = e
  fields_alike (Only_field f) R R' e = field_alike f R R' e
  fields_alike (Field_comma f more) R R' e = then_fields_alike (built_field f) (built_fields more) (field_tokens f) (fields_tokens more) (field_alike f) (fields_alike more) R R' e

  pub element_alike : (el : Element) → Alike (element_tokens (built_element el)) (element_tokens el)
  element_alike (Closed tag attributes) R R' e = attributes_alike attributes (Token.Punct (codes "/>") ∷ R) (Token.Punct (codes "/>") ∷ R') e
  element_alike (Open tag attributes children end) R R' e = opened_alike tag end (built_attributes attributes) (built_children children) (attributes_tokens attributes) (children_tokens children) (attributes_alike attributes) (children_alike children) R R' e
  element_alike (Fragment children) R R' e = children_alike children (Token.Punct (codes "</>") ∷ R) (Token.Punct (codes "</>") ∷ R') e

  pub attributes_alike : (as' : Attributes) → Alike (attributes_tokens (built_attributes as')) (attributes_tokens as')
  attributes_alike No_attribute R R' e = e
  attributes_alike (Set a more) R R' e = attributes_alike more R R' e
  attributes_alike (Set_text a quote text more) R R' e = attributes_alike more R R' e
  attributes_alike (Set_value a x more) R R' e = alike x (sign (codes "}") (attributes_tokens (built_attributes more) R)) (sign (codes "}") (attributes_tokens more R')) (attributes_alike more R R' e)

  pub children_alike : (cs : Children) → Alike (children_tokens (built_children cs)) (children_tokens cs)
  children_alike No_child R R' e = e
  children_alike (Text_child text more) R R' e = text_child_alike (jsx_text text) (built_children more) (children_tokens more) (children_alike more) R R' e
  children_alike (Empty_child more) R R' e = children_alike more R R' e
  children_alike (Value_child x more) R R' e = value_child_alike (built x) (built_children more) (tokens x) (children_tokens more) (alike x) (children_alike more) R R' e
  children_alike (Element_child element more) R R' e = element_alike element _ _ (children_alike more R R' e)

  pub body_alike : (b : Body) → Alike (body_tokens (built_body b)) (body_tokens b)
  body_alike (Block_body block) R R' e = statements_alike block (Token.Punct (codes "}") ∷ R) (Token.Punct (codes "}") ∷ R') e
  body_alike (Step_body (Plain_step x)) R R' e = within _ (built x) (tokens x) (alike x) R R' e
  body_alike (Step_body (Assign target op x)) R R' e = alike target _ _ (assign_alike op _ _ (right_side_within op (built x) (tokens x) (alike x) R R' e))
  body_alike (Step_body (Bump target up)) R R' e = alike target _ _ (bump_alike up R R' e)

  pub step_alike : (s : Step) → Alike (step_tokens (built_step s)) (step_tokens s)
  step_alike (Plain_step x) R R' e = alike x R R' e
  step_alike (Assign target op x) R R' e = alike target _ _ (assign_alike op _ _ (right_side_within op (built x) (tokens x) (alike x) R R' e))
  step_alike (Bump target up) R R' e = alike target _ _ (bump_alike up R R' e)

  pub statement_alike : (s : Statement) → Alike (statement_tokens (built_statement s)) (statement_tokens s)
  statement_alike (Const binding x) R R' e = binding_alike binding (sign (codes "=") (tokens (built x) (Token.Punct (codes ";") ∷ R))) (sign (codes "=") (tokens x (Token.Punct (codes ";") ∷ R'))) (alike x (Token.Punct (codes ";") ∷ R) (Token.Punct (codes ";") ∷ R') e)
  statement_alike (Scope a more) R R' e = scope_alike more _ _ e
  statement_alike (Let a x) R R' e = alike x (Token.Punct (codes ";") ∷ R) (Token.Punct (codes ";") ∷ R') e
  statement_alike Return R R' e = e
  statement_alike (Return_step step) R R' e = step_alike step (Token.Punct (codes ";") ∷ R) (Token.Punct (codes ";") ∷ R') e
  statement_alike (If test yes') R R' e = alike test _ _ (part_alike yes' (Token.Punct (codes "}") ∷ R) R' e)
  statement_alike (If_else test yes' no') R R' e = either_way_alike (built test) (built_part yes') (built_part no') (tokens test ⨾ sign (codes ")")) (part_tokens yes' ⨾ word (codes "else")) (part_tokens no')
      (λ S S' d. alike test S (Token.Punct (codes ")") ∷ S') d) (λ S S' d. part_alike yes' S (Token.Reserved (codes "else") ∷ S') d) (part_alike no') R R' e
  statement_alike (While test part) R R' e = alike test _ _ (part_alike part (Token.Punct (codes "}") ∷ R) R' e)
  statement_alike (For_of a x part) R R' e = within _ (built x) (tokens x) (alike x) _ _ (part_alike part (Token.Punct (codes "}") ∷ R) R' e)
  statement_alike Break R R' e = e
  statement_alike Continue R R' e = e
  statement_alike (Delete target) R R' e = alike target (Token.Punct (codes ";") ∷ R) (Token.Punct (codes ";") ∷ R') e
  statement_alike (Block block) R R' e = statements_alike block (Token.Punct (codes "}") ∷ R) (Token.Punct (codes "}") ∷ R') e
  statement_alike (Do (Plain_step x)) R R' e = within _ (built x) (tokens x) (alike x) (Token.Punct (codes ";") ∷ R) (Token.Punct (codes ";") ∷ R') e
  statement_alike (Do (Assign target op x)) R R' e = alike target _ _ (assign_alike op _ _ (right_side_within op (built x) (tokens x) (alike x) (Token.Punct (codes ";") ∷ R) (Token.Punct (codes ";") ∷ R') e))
  statement_alike (Do (Bump target up)) R R' e = alike target _ _ (bump_alike up (Token.Punct (codes ";") ∷ R) (Token.Punct (codes ";") ∷ R') e)

  pub statements_alike : (ss : Statements) → Alike (statements_tokens (built_statements ss)) (statements_tokens ss)
  statements_alike No_statement R R' e = e
  statements_alike (Then statement more) R R' e = statement_alike statement _ _ (statements_alike more R R' e)

  pub part_alike : (p : Part) → Alike (statements_tokens (built_part p)) (part_tokens p)
  part_alike (Block_part block) R R' e = statements_alike block R (Token.Punct (codes "}") ∷ R') e
  part_alike (Statement_part statement) R R' e = statement_alike statement R R' e
