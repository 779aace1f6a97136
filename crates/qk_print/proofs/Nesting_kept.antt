-- The printed writing nests at most about eleven times as deep as the one that it is made of.
use Rattle.std.specs.Prelude.{◌≡◌, refl, ℕ, ◌+◌, ◌*◌, ◌≤◌, max, Bool, true, false, Some, None, List, [], ◌∷◌, map}
use Rattle.std.proofs.Common.{arith}
use Rattle.std.proofs.lemmas.Bool.{false≢true}
use Rattle.qk_ast.specs.declared.Form.TheVariants.{Source}
use Rattle.qk_ast.specs.declared.AssignOp.{AssignOp}
use Rattle.qk_ast.specs.declared.AssignOp.TheVariants as assign
use Rattle.qk_ast.specs.Characters.{Characters}
use Rattle.qk_ast.specs.JsxText.{jsx_text}
use Rattle.qk_ast.specs.Rules.{tightness, tightness_of, operand_tightness, level_of, keeps, operands_keep, holes_keep, link_keeps, links_keep, arguments_keep, field_keeps, fields_keep, element_keeps, attributes_keep, children_keep, body_keeps, step_keeps, statement_keeps, statements_keep, part_keeps, items_keep, module_keeps}
use Rattle.qk_ast.specs.Depth.{binding_depth, bindings_depth, parameters_depth, depth, operands_depth, holes_depth, link_depth, links_depth, arguments_depth, field_depth, fields_depth, element_depth, attributes_depth, children_depth, body_depth, step_depth, statement_depth, statements_depth, part_depth, items_depth, imports_depth, module_depth}
use Rattle.qk_ast.proofs.OneToken.{at_least}
use Rattle.qk_ast.specs.Grammar.{Level, Or_level, Coalesce_level, And_level, Same_level, Order_level, Sum_level, Product_level}
use Rattle.qk_ast.specs.Grammar.{Binding, Plain, Fields_of, Bindings, No_binding, Only_binding, Binding_comma, Parameters, Bare, In_brackets, Expression, Undefined, Null, Truth, Number, Quoted, Named, Whole, Holed, Bracketed, Listed, Recorded, Markup, Log, Keys, Str, Trunc, Postfix, Prefix, Chain, Choice, Function, Operands, No_operand, Operand, Holes, Last_part, Part_hole, Link, Dot, Index, Call, Links, No_link, Next_link, Arguments, No_argument, Only, Comma, Field, Key, Quoted_key, Short, Fields, No_field, Only_field, Field_comma, Element, Closed, Open, Fragment, Attributes, No_attribute, Set, Set_text, Set_value, Children, No_child, Text_child, Empty_child, Value_child, Element_child, Body, Block_body, Step_body, Step, Plain_step, Assign, Bump, Statement, Const, Scope, Let, Return, Return_step, If, If_else, While, For_of, Break, Continue, Delete, Block, Do, Statements, No_statement, Then, Part, Block_part, Statement_part, Import_line, Item_line, Module_text}
use Rattle.qk_print.proofs.Rewriting.{enclosed, as_right_side, stands_as_head, stands_as_operand, built_binding, then_bindings, built_bindings, built_parameters, then_arguments, then_fields, text_child, value_child, opened, first_of_operands, either_way, built, built_operands, built_holes, built_link, built_links, built_arguments, built_field, built_fields, built_element, built_attributes, built_children, built_body, built_step, built_statement, built_statements, built_part, built_import, built_item, built_module}

enclosed_depth : (b : Bool) (y : Expression) → depth (enclosed b y) ≤ 1 + depth y
enclosed_depth true y = omega arith
enclosed_depth false y = omega arith

right_side_depth : (op : AssignOp) (y : Expression) → depth (as_right_side op y) ≤ 1 + depth y
right_side_depth assign.Set y = omega arith
right_side_depth assign.Add y = enclosed_depth _ y
right_side_depth assign.Sub y = enclosed_depth _ y
right_side_depth assign.Mul y = enclosed_depth _ y

level_step : (level : Level) → tightness_of level + 1 ≤ operand_tightness level
level_step Or_level = omega arith
level_step Coalesce_level = omega arith
level_step And_level = omega arith
level_step Same_level = omega arith
level_step Order_level = omega arith
level_step Sum_level = omega arith
level_step Product_level = omega arith

same_binding_depth : (b : Binding) → binding_depth (built_binding b) ≡ binding_depth b
same_binding_depth (Plain a) = refl
same_binding_depth (Fields_of names) = refl

then_bindings_depth : (b : Binding) (bs : Bindings) → bindings_depth (then_bindings b bs) ≤ max (binding_depth b) (bindings_depth bs)
then_bindings_depth b No_binding = omega arith
then_bindings_depth b (Only_binding c) = omega arith
then_bindings_depth b (Binding_comma c cs) = omega arith

bindings_deep : (bs : Bindings) → bindings_depth (built_bindings bs) ≤ bindings_depth bs
bindings_deep No_binding = omega arith
bindings_deep (Only_binding b) = let a = same_binding_depth b in omega (arith, a)
bindings_deep (Binding_comma b more) = let a = same_binding_depth b in let c = bindings_deep more in let d = then_bindings_depth (built_binding b) (built_bindings more) in omega (arith, a, c, d)

parameters_deep : (ps : Parameters) → parameters_depth (built_parameters ps) ≤ parameters_depth ps + 1
parameters_deep (Bare a) = omega arith
parameters_deep (In_brackets bs) = let a = bindings_deep bs in omega (arith, a)

then_arguments_depth : (y : Expression) (ys : Arguments) → arguments_depth (then_arguments y ys) ≤ max (depth y) (arguments_depth ys)
then_arguments_depth y No_argument = omega arith
then_arguments_depth y (Only z) = omega arith
then_arguments_depth y (Comma z zs) = omega arith

then_fields_depth : (f : Field) (fs : Fields) → fields_depth (then_fields f fs) ≤ max (field_depth f) (fields_depth fs)
then_fields_depth f No_field = omega arith
then_fields_depth f (Only_field g) = omega arith
then_fields_depth f (Field_comma g gs) = omega arith

opened_depth : (tag : Characters) (as' : Attributes) (cs : Children) → element_depth (opened tag as' cs) ≤ 1 + max (attributes_depth as') (children_depth cs)
opened_depth tag as' No_child = omega arith
opened_depth tag as' (Text_child t cs) = omega arith
opened_depth tag as' (Empty_child cs) = omega arith
opened_depth tag as' (Value_child t cs) = omega arith
opened_depth tag as' (Element_child t cs) = omega arith

text_child_depth : (text : Characters) (cs : Children) → children_depth (text_child text cs) ≤ max 1 (children_depth cs)
text_child_depth [] cs = omega arith
text_child_depth (c ∷ text) cs = omega arith

at_most : (a b : ℕ) → max (1 + a) b ≤ max (1 + a) b
at_most a b = omega arith

inner : (a b : ℕ) → max a b ≤ max (1 + a) b
inner a b = omega arith

value_child_depth : (y : Expression) (cs : Children) → children_depth (value_child y cs) ≤ max (1 + depth y) (children_depth cs)
value_child_depth Undefined cs = at_most (depth Undefined) (children_depth cs)
value_child_depth Null cs = at_most (depth Null) (children_depth cs)
value_child_depth (Truth a) cs = at_most (depth (Truth a)) (children_depth cs)
value_child_depth (Number a) cs = at_most (depth (Number a)) (children_depth cs)
value_child_depth (Quoted a b) cs = at_most (depth (Quoted a b)) (children_depth cs)
value_child_depth (Named a) cs = at_most (depth (Named a)) (children_depth cs)
value_child_depth (Whole a) cs = at_most (depth (Whole a)) (children_depth cs)
value_child_depth (Holed a b c) cs = at_most (depth (Holed a b c)) (children_depth cs)
value_child_depth (Bracketed a) cs = at_most (depth (Bracketed a)) (children_depth cs)
value_child_depth (Listed a) cs = at_most (depth (Listed a)) (children_depth cs)
value_child_depth (Recorded a) cs = at_most (depth (Recorded a)) (children_depth cs)
value_child_depth (Markup a) cs = inner (element_depth a) (children_depth cs)
value_child_depth (Log a) cs = at_most (depth (Log a)) (children_depth cs)
value_child_depth (Keys a) cs = at_most (depth (Keys a)) (children_depth cs)
value_child_depth (Str a) cs = at_most (depth (Str a)) (children_depth cs)
value_child_depth (Trunc a b) cs = at_most (depth (Trunc a b)) (children_depth cs)
value_child_depth (Postfix a b c) cs = at_most (depth (Postfix a b c)) (children_depth cs)
value_child_depth (Prefix a b) cs = at_most (depth (Prefix a b)) (children_depth cs)
value_child_depth (Chain a b c d) cs = at_most (depth (Chain a b c d)) (children_depth cs)
value_child_depth (Choice a b c) cs = at_most (depth (Choice a b c)) (children_depth cs)
value_child_depth (Function a b) cs = at_most (depth (Function a b)) (children_depth cs)

either_way_depth : (test : Expression) (ys ns : Statements) → statement_depth (either_way test ys ns) ≤ max (1 + depth test) (max (1 + statements_depth ys) (1 + (1 + statements_depth ns)))
either_way_depth test ys No_statement = omega arith
either_way_depth test ys (Then s ss) = omega arith

mutual
  pub deep : (x : Expression) → keeps Source x → depth (built x) + tightness x ≤ 11 * depth x + 9
  deep Undefined h = omega arith
  deep Null h = omega arith
  deep (Truth b) h = omega arith
  deep (Number digits) h = omega arith
  deep (Quoted quote pieces) h = omega arith
  deep (Named a) h = omega arith
  deep (Whole pieces) h = omega arith
  deep (Holed pieces x more) h = let a = deep x h.0 in let b = enclosed_depth _ (built x) in let c = holes_deep more h.1 in holed _ _ _ _ _ a b c
    where
      holed : (D D' E T C : ℕ) {K : ℕ} → D' + T ≤ 11 * D + 9 → E ≤ 1 + D' → K ≤ 11 * C → max (1 + E) K + 9 ≤ 11 * max (1 + D) C + 9
      holed D D' E T C a b c = omega (arith, a, b, c)
  deep (Bracketed x) h = let a = deep x h in omega (arith, a)
  deep (Listed arguments) h = let a = arguments_deep arguments h in omega (arith, a)
  deep (Recorded fields) h = let a = fields_deep fields [] h in omega (arith, a)
  deep (Markup element) h = let a = element_deep element h in omega (arith, a)
  deep (Log x) h = let a = deep x h in omega (arith, a)
  deep (Keys x) h = let a = deep x h in omega (arith, a)
  deep (Str x) h = let a = deep x h in omega (arith, a)
  deep (Trunc x y) h = let a = deep x h.2 in let b = deep y h.3 in let c = enclosed_depth (stands_as_operand None (built x)) (built x) in let d = enclosed_depth (stands_as_operand None (built y)) (built y) in
      let e = at_least 6 _ h.0 in let f = at_least 7 _ h.1 in omega (arith, a, b, c, d, e, f)
  deep (Postfix head link more) h = let a = deep head h.2 in let b = enclosed_depth (stands_as_head (built head)) (built head) in let c = at_least 9 _ h.0 in let d = link_deep link h.3 in let e = links_deep more h.4 in omega (arith, a, b, c, d, e)
  deep (Prefix op x) h = let a = deep x h.1 in let b = enclosed_depth (stands_as_operand None (built x)) (built x) in let c = at_least 7 _ h.0 in omega (arith, a, b, c)
  deep (Chain x op y more) h = let a = deep x h.1 in let b = enclosed_depth (stands_as_operand (Some op) (built x)) (built x) in let c = at_least _ _ h.0 in
      let d = deep y h.3 in let e = enclosed_depth (stands_as_operand (first_of_operands more) (built y)) (built y) in let f = at_least _ _ h.2 in
      let g = operands_deep (level_of op) more h.4 in let i = level_step (level_of op) in omega (arith, a, b, c, d, e, f, g, i)
  deep (Choice x y z) h = let a = deep x h.1 in let b = enclosed_depth (stands_as_operand None (built x)) (built x) in let c = at_least 1 _ h.0 in
      let d = deep y h.2 in let e = enclosed_depth (stands_as_operand None (built y)) (built y) in let f = deep z h.3 in let g = enclosed_depth (stands_as_operand None (built z)) (built z) in omega (arith, a, b, c, d, e, f, g)
  deep (Function parameters body) h = let a = parameters_deep parameters in let b = body_deep body h in omega (arith, a, b)

  operands_deep : (level : Level) (os : Operands) → operands_keep Source level os → operands_depth (built_operands os) + operand_tightness level ≤ 11 * operands_depth os + 10
  operands_deep level No_operand h = loose_enough level
    where
      loose_enough : (k : Level) → 0 + operand_tightness k ≤ 11 * 0 + 10
      loose_enough Or_level = omega arith
      loose_enough Coalesce_level = omega arith
      loose_enough And_level = omega arith
      loose_enough Same_level = omega arith
      loose_enough Order_level = omega arith
      loose_enough Sum_level = omega arith
      loose_enough Product_level = omega arith
  operands_deep level (Operand op x more) h = let a = deep x h.2 in let b = enclosed_depth (stands_as_operand (first_of_operands more) (built x)) (built x) in let c = at_least _ _ h.1 in let d = operands_deep level more h.3 in omega (arith, a, b, c, d)

  holes_deep : (hs : Holes) → holes_keep Source hs → holes_depth (built_holes hs) ≤ 11 * holes_depth hs
  holes_deep (Last_part pieces) h = omega arith
  holes_deep (Part_hole pieces x more) h = let a = deep x h.0 in let b = enclosed_depth _ (built x) in let c = holes_deep more h.1 in holed _ _ _ _ _ a b c
    where
      holed : (D D' E T C : ℕ) {K : ℕ} → D' + T ≤ 11 * D + 9 → E ≤ 1 + D' → K ≤ 11 * C → max (1 + E) K ≤ 11 * max (1 + D) C
      holed D D' E T C a b c = omega (arith, a, b, c)

  link_deep : (k : Link) → link_keeps Source k → link_depth (built_link k) ≤ 11 * link_depth k
  link_deep (Dot w) h = omega arith
  link_deep (Index x) h = let a = deep x h in omega (arith, a)
  link_deep (Call arguments) h = let a = arguments_deep arguments h in omega (arith, a)

  links_deep : (ls : Links) → links_keep Source ls → links_depth (built_links ls) ≤ 11 * links_depth ls
  links_deep No_link h = omega arith
  links_deep (Next_link link more) h = let a = link_deep link h.0 in let b = links_deep more h.1 in omega (arith, a, b)

  arguments_deep : (as' : Arguments) → arguments_keep Source as' → arguments_depth (built_arguments as') ≤ 11 * arguments_depth as' + 9
  arguments_deep No_argument h = omega arith
  arguments_deep (Only x) h = let a = deep x h in omega (arith, a)
  arguments_deep (Comma x more) h = let a = deep x h.0 in let b = arguments_deep more h.1 in let c = then_arguments_depth (built x) (built_arguments more) in omega (arith, a, b, c)

  field_deep : (f : Field) → field_keeps Source f → field_depth (built_field f) ≤ 11 * field_depth f + 9
  field_deep (Key w x) h = let a = deep x h in omega (arith, a)
  field_deep (Quoted_key quote pieces x) h = let a = deep x h in omega (arith, a)
  field_deep (Short a) h = omega arith

  fields_deep : (fs : Fields) (before : List (List ℕ)) → fields_keep Source before fs → fields_depth (built_fields fs) ≤ 11 * fields_depth fs + 9
  fields_deep No_field before h = omega arith
  fields_deep (Only_field f) before h = field_deep f h.1
  fields_deep (Field_comma f more) before h = let a = field_deep f h.1 in let b = fields_deep more _ h.2 in let c = then_fields_depth (built_field f) (built_fields more) in omega (arith, a, b, c)

  element_deep : (el : Element) → element_keeps Source el → element_depth (built_element el) ≤ 11 * element_depth el
  element_deep (Closed tag attributes) h = let a = attributes_deep attributes h.1 in omega (arith, a)
  element_deep (Open tag attributes children end) h = let a = attributes_deep attributes h.2 in let b = children_deep children h.3 in let c = opened_depth tag (built_attributes attributes) (built_children children) in omega (arith, a, b, c)
  element_deep (Fragment children) h = let a = children_deep children h in omega (arith, a)

  attributes_deep : (as' : Attributes) → attributes_keep Source as' → attributes_depth (built_attributes as') ≤ 11 * attributes_depth as' + 1
  attributes_deep No_attribute h = omega arith
  attributes_deep (Set a more) h = let b = attributes_deep more h in omega (arith, b)
  attributes_deep (Set_text a quote text more) h = let b = attributes_deep more h in omega (arith, b)
  attributes_deep (Set_value a x more) h = let b = deep x h.0 in let c = attributes_deep more h.1 in omega (arith, b, c)

  children_deep : (cs : Children) → children_keep Source cs → children_depth (built_children cs) ≤ 11 * children_depth cs + 1
  children_deep No_child h = omega arith
  children_deep (Text_child text more) h = let a = children_deep more h in let b = text_child_depth (jsx_text text) (built_children more) in omega (arith, a, b)
  children_deep (Empty_child more) h = let a = children_deep more h in omega (arith, a)
  children_deep (Value_child x more) h = let a = deep x h.0 in let b = children_deep more h.1 in let c = value_child_depth (built x) (built_children more) in omega (arith, a, b, c)
  children_deep (Element_child element more) h = let a = element_deep element h.0 in let b = children_deep more h.1 in omega (arith, a, b)

  body_deep : (d : Body) → body_keeps Source d → body_depth (built_body d) ≤ 11 * body_depth d + 10
  body_deep (Block_body block) h = let a = statements_deep block _ _ h in omega (arith, a)
  body_deep (Step_body (Plain_step x)) h = let a = deep x h.1 in let b = enclosed_depth _ (built x) in plain _ _ _ _ a b
    where
      plain : (D D' E T : ℕ) → D' + T ≤ 11 * D + 9 → E ≤ 1 + D' → E ≤ 11 * D + 10
      plain D D' E T a b = omega (arith, a, b)
  body_deep (Step_body (Assign target op x)) h = let a = deep target h.1.1 in let b = deep x h.1.2 in let c = right_side_depth op (built x) in omega (arith, a, b, c)
  body_deep (Step_body (Bump target up)) h = let a = deep target h.1.1 in omega (arith, a)

  step_deep : (k : Step) → step_keeps Source k → step_depth (built_step k) ≤ 11 * step_depth k + 10
  step_deep (Plain_step x) h = let a = deep x h in omega (arith, a)
  step_deep (Assign target op x) h = let a = deep target h.1 in let b = deep x h.2 in let c = right_side_depth op (built x) in omega (arith, a, b, c)
  step_deep (Bump target up) h = let a = deep target h.1 in omega (arith, a)

  statement_deep : (k : Statement) (looped first : Bool) → statement_keeps Source looped first k → statement_depth (built_statement k) ≤ 11 * statement_depth k + 10
  statement_deep (Const binding x) looped first h = let a = deep x h in let b = same_binding_depth binding in omega (arith, a, b)
  statement_deep (Scope a more) looped first h = absurd (false≢true h.1)
  statement_deep (Let a x) looped first h = let b = deep x h in omega (arith, b)
  statement_deep Return looped first h = omega arith
  statement_deep (Return_step step) looped first h = step_deep step h
  statement_deep (If test yes') looped first h = let a = deep test h.0 in let b = part_deep yes' looped h.1 in omega (arith, a, b)
  statement_deep (If_else test yes' no') looped first h = let a = deep test h.0 in let b = part_deep yes' looped h.2 in let c = part_deep no' looped h.3 in let d = either_way_depth (built test) (built_part yes') (built_part no') in omega (arith, a, b, c, d)
  statement_deep (While test part) looped first h = let a = deep test h.0 in let b = part_deep part true h.1 in omega (arith, a, b)
  statement_deep (For_of a x part) looped first h = let b = deep x h.0 in let c = enclosed_depth _ (built x) in let d = part_deep part true h.1 in over _ _ _ _ _ _ b c d
    where
      over : (D D' E T P P' : ℕ) → D' + T ≤ 11 * D + 9 → E ≤ 1 + D' → 1 + P' ≤ 11 * P → max (1 + E) (1 + P') ≤ 11 * max (1 + D) P + 10
      over D D' E T P P' b c d = omega (arith, b, c, d)
  statement_deep Break looped first h = omega arith
  statement_deep Continue looped first h = omega arith
  statement_deep (Delete target) looped first h = let a = deep target h.1 in omega (arith, a)
  statement_deep (Block block) looped first h = let a = statements_deep block _ _ h in omega (arith, a)
  statement_deep (Do (Plain_step x)) looped first h = let a = deep x h.1 in let b = enclosed_depth _ (built x) in plain _ _ _ _ a b
    where
      plain : (D D' E T : ℕ) → D' + T ≤ 11 * D + 9 → E ≤ 1 + D' → E ≤ 11 * D + 10
      plain D D' E T a b = omega (arith, a, b)
  statement_deep (Do (Assign target op x)) looped first h = let a = deep target h.1.1 in let b = deep x h.1.2 in let c = right_side_depth op (built x) in omega (arith, a, b, c)
  statement_deep (Do (Bump target up)) looped first h = let a = deep target h.1.1 in omega (arith, a)

  statements_deep : (ss : Statements) (looped first : Bool) → statements_keep Source looped first ss → statements_depth (built_statements ss) ≤ 11 * statements_depth ss + 10
  statements_deep No_statement looped first h = omega arith
  statements_deep (Then statement more) looped first h = let a = statement_deep statement looped first h.0 in let b = statements_deep more looped false h.1 in omega (arith, a, b)

  part_deep : (q : Part) (looped : Bool) → part_keeps Source looped q → 1 + statements_depth (built_part q) ≤ 11 * part_depth q
  part_deep (Block_part block) looped h = let a = statements_deep block _ _ h in omega (arith, a)
  part_deep (Statement_part statement) looped h = let a = statement_deep statement looped false h.1 in omega (arith, a)

items_deep : (is : List Item_line) → items_keep Source is → items_depth (map built_item is) ≤ 11 * items_depth is + 9
items_deep [] h = omega arith
items_deep (i ∷ is) h = let a = deep i.value h.0 in let b = items_deep is h.1 in omega (arith, a, b)

imports_deep : (is : List Import_line) → imports_depth (map built_import is) ≡ imports_depth is
imports_deep [] = refl
imports_deep (i ∷ is) = refl

pub module_deep : (m : Module_text) → module_keeps Source m → module_depth (built_module m) ≤ 11 * module_depth m + 9
module_deep m h = let a = items_deep m.items h in let b = imports_deep m.imports in omega (arith, a, b)
