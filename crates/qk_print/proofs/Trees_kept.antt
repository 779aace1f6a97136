-- The printed writing stands for the same tree.
use Rattle.std.specs.Prelude.{◌≡◌, refl, ℕ, ◌+◌, Bool, true, false, Some, List, [], ◌∷◌, map, codes}
use Rattle.std.proofs.Common.{ap, ◌∙◌, arith}
use Rattle.qk_ast.specs.declared.Expr.TheVariants as e
use Rattle.qk_ast.specs.declared.Stmt.TheVariants as s
use Rattle.qk_ast.specs.declared.Link.TheVariants as l
use Rattle.qk_ast.specs.declared.Body.TheVariants as b
use Rattle.qk_ast.specs.declared.Pattern.TheVariants as p
use Rattle.qk_ast.specs.declared.Tag.TheVariants as t
use Rattle.qk_ast.specs.declared.Known.TheVariants as known
use Rattle.qk_ast.specs.declared.Jsx.{roll-Jsx}
use Rattle.qk_ast.specs.declared.AssignOp.{AssignOp}
use Rattle.qk_ast.specs.declared.AssignOp.TheVariants as assign
use Rattle.qk_ast.specs.Characters.{Characters}
use Rattle.qk_ast.specs.JsxText.{jsx_text, decoded}
use Rattle.qk_ast.specs.Tokens.{piece_value, Token}
use Rattle.qk_ast.specs.Tree.{bytes, arrows, tree, operands_tree, holes_tree, link_tree, links_tree, arguments_tree, field_tree, fields_tree, element_tree, attributes_tree, children_tree, body_tree, step_tree, statement_tree, statements_tree, part_tree, names_tree, binding_tree, bindings_tree, parameters_tree, parts_tree, before_children, tag_tree, word_text, import_tree, items_tree, module_tree}
use Rattle.qk_print.proofs.Arrows_kept.{within, alike, link_alike, field_alike, element_alike, attributes_alike, statement_alike, part_alike}
use Rattle.qk_print.proofs.Values_kept.{text_is, template_is}
use Rattle.qk_ast.specs.Grammar.{Names, Last_name, Last_comma, Next_name, Binding, Plain, Fields_of, Bindings, No_binding, Only_binding, Binding_comma, Parameters, Bare, In_brackets, Word, Free, Taken, Expression, Undefined, Null, Truth, Number, Quoted, Named, Whole, Holed, Bracketed, Listed, Recorded, Markup, Log, Keys, Str, Trunc, Postfix, Prefix, Chain, Choice, Function, Operands, No_operand, Operand, Holes, Last_part, Part_hole, Link, Dot, Index, Call, Links, No_link, Next_link, Arguments, No_argument, Only, Comma, Field, Key, Quoted_key, Short, Fields, No_field, Only_field, Field_comma, Element, Closed, Open, Fragment, Attributes, No_attribute, Set, Set_text, Set_value, Children, No_child, Text_child, Empty_child, Value_child, Element_child, Body, Block_body, Step_body, Step, Plain_step, Assign, Bump, Statement, Const, Scope, Let, Return, Return_step, If, If_else, While, For_of, Break, Continue, Delete, Block, Do, Statements, No_statement, Then, Part, Block_part, Statement_part, Import_line, Item_line, Module_text}
use Rattle.qk_print.proofs.Rewriting.{enclosed, as_right_side, built_names, built_binding, then_bindings, built_bindings, built_parameters, then_arguments, then_fields, word_characters, text_child, value_child, opened, either_way, built, built_operands, built_holes, built_link, built_links, built_arguments, built_field, built_fields, built_element, built_attributes, built_children, built_body, built_step, built_statement, built_statements, built_part, built_import, built_item, built_module}
use Rattle.qk_ast.specs.Spelling.{◌⨾◌, tokens, field_tokens, attributes_tokens, statements_tokens, curly}

ap2 : {A B C : Type 0} (f : A → B → C) {a a' : A} {b b' : B} → a ≡ a' → b ≡ b' → f a b ≡ f a' b'
ap2 f {a' = a'} {b = b} h k = ap (λ x. f x b) h ∙ ap (f a') k

ap3 : {A B C D : Type 0} (f : A → B → C → D) {a a' : A} {b b' : B} {c c' : C} → a ≡ a' → b ≡ b' → c ≡ c' → f a b c ≡ f a' b' c'
ap3 f {a' = a'} {b = b} {c = c} h k l = ap (λ x. f x b c) h ∙ ap2 (f a') k l

plus : {n m a b : ℕ} → n ≡ m → a ≡ b → n + a ≡ m + b
plus h k = omega (arith, h, k)

plus_nothing : {n m : ℕ} → n ≡ m → n + 0 ≡ m
plus_nothing h = omega (arith, h)

enclosed_tree : (b : Bool) (y : Expression) (n : ℕ) → tree n (enclosed b y) ≡ tree n y
enclosed_tree true y n = refl
enclosed_tree false y n = refl

right_side_tree : (op : AssignOp) (y : Expression) (n : ℕ) → tree n (as_right_side op y) ≡ tree n y
right_side_tree assign.Set y n = refl
right_side_tree assign.Add y n = enclosed_tree _ y n
right_side_tree assign.Sub y n = enclosed_tree _ y n
right_side_tree assign.Mul y n = enclosed_tree _ y n

same_names : (ns : Names) → names_tree (built_names ns) ≡ names_tree ns
same_names (Last_name a) = refl
same_names (Last_comma a) = refl
same_names (Next_name a more) = ap (λ ts. bytes a ∷ ts) (same_names more)

same_binding : (b : Binding) → binding_tree (built_binding b) ≡ binding_tree b
same_binding (Plain a) = refl
same_binding (Fields_of names) = ap p.Fields (same_names names)

then_bindings_tree : (b : Binding) (bs : Bindings) → bindings_tree (then_bindings b bs) ≡ binding_tree b ∷ bindings_tree bs
then_bindings_tree b No_binding = refl
then_bindings_tree b (Only_binding c) = refl
then_bindings_tree b (Binding_comma c cs) = refl

same_bindings : (bs : Bindings) → bindings_tree (built_bindings bs) ≡ bindings_tree bs
same_bindings No_binding = refl
same_bindings (Only_binding b) = ap (λ t. t ∷ []) (same_binding b)
same_bindings (Binding_comma b more) = then_bindings_tree (built_binding b) (built_bindings more) ∙ ap2 (λ t ts. t ∷ ts) (same_binding b) (same_bindings more)

same_parameters : (ps : Parameters) → parameters_tree (built_parameters ps) ≡ parameters_tree ps
same_parameters (Bare a) = refl
same_parameters (In_brackets bs) = same_bindings bs

then_arguments_tree : (y : Expression) (ys : Arguments) (n : ℕ) → arguments_tree n (then_arguments y ys) ≡ tree n y ∷ arguments_tree (n + arrows (tokens y)) ys
then_arguments_tree y No_argument n = refl
then_arguments_tree y (Only z) n = refl
then_arguments_tree y (Comma z zs) n = refl

then_fields_tree : (f : Field) (fs : Fields) (n : ℕ) → fields_tree n (then_fields f fs) ≡ field_tree n f ∷ fields_tree (n + arrows (field_tokens f)) fs
then_fields_tree f No_field n = refl
then_fields_tree f (Only_field g) n = refl
then_fields_tree f (Field_comma g gs) n = refl

text_child_tree : (text : Characters) (cs : Children) (n : ℕ) → children_tree n (text_child text cs) ≡ before_children text (children_tree n cs)
text_child_tree [] cs n = refl
text_child_tree (c ∷ text) cs n = ap2 (λ t ts. e.Text t ∷ ts) (text_is (c ∷ text)) (ap (λ m. children_tree m cs) (plus_nothing refl))

value_child_tree : (y : Expression) (cs : Children) (n : ℕ) → children_tree n (value_child y cs) ≡ tree n y ∷ children_tree (n + arrows (tokens y)) cs
value_child_tree Undefined cs n = refl
value_child_tree Null cs n = refl
value_child_tree (Truth a) cs n = refl
value_child_tree (Number a) cs n = refl
value_child_tree (Quoted a b) cs n = refl
value_child_tree (Named a) cs n = refl
value_child_tree (Whole a) cs n = refl
value_child_tree (Holed a b c) cs n = refl
value_child_tree (Bracketed a) cs n = refl
value_child_tree (Listed a) cs n = refl
value_child_tree (Recorded a) cs n = refl
value_child_tree (Markup a) cs n = refl
value_child_tree (Log a) cs n = refl
value_child_tree (Keys a) cs n = refl
value_child_tree (Str a) cs n = refl
value_child_tree (Trunc a b) cs n = refl
value_child_tree (Postfix a b c) cs n = refl
value_child_tree (Prefix a b) cs n = refl
value_child_tree (Chain a b c d) cs n = refl
value_child_tree (Choice a b c) cs n = refl
value_child_tree (Function a b) cs n = refl

opened_tree : (tag : Characters) (as' : Attributes) (cs : Children) (n : ℕ) → element_tree n (opened tag as' cs)
    ≡ roll-Jsx (record { tag = tag_tree tag; attrs = attributes_tree n as'; children = children_tree (n + arrows (attributes_tokens as')) cs })
opened_tree tag as' No_child n = refl
opened_tree tag as' (Text_child t cs) n = refl
opened_tree tag as' (Empty_child cs) n = refl
opened_tree tag as' (Value_child x cs) n = refl
opened_tree tag as' (Element_child x cs) n = refl

either_way_tree : (test : Expression) (ys ns : Statements) (n : ℕ) → statement_tree n (either_way test ys ns)
    ≡ s.If (tree n test) (statements_tree (n + arrows (tokens test)) ys) (statements_tree (n + arrows (tokens test ⨾ curly (statements_tokens ys))) ns)
either_way_tree test ys No_statement n = refl
either_way_tree test ys (Then x xs) n = refl

word_key : (w : Word) → bytes (word_characters w) ≡ word_text w
word_key (Free a) = refl
word_key (Taken a) = refl

mutual
  pub same_tree : (x : Expression) (n m : ℕ) → n ≡ m → tree n (built x) ≡ tree m x
  same_tree Undefined n m h = refl
  same_tree Null n m h = refl
  same_tree (Truth b) n m h = refl
  same_tree (Number digits) n m h = refl
  same_tree (Quoted quote pieces) n m h = ap e.Text (text_is (map piece_value pieces))
  same_tree (Named a) n m h = refl
  same_tree (Whole pieces) n m h = ap (λ v. e.Template (v ∷ []) []) (template_is (map piece_value pieces))
  same_tree (Holed pieces x more) n m h = ap2 (λ vs xs. e.Template vs xs) (ap2 (λ v vs. v ∷ vs) (template_is (map piece_value pieces)) (same_parts more))
      (ap2 (λ v vs. v ∷ vs) (enclosed_tree _ (built x) n ∙ same_tree x n m h) (same_holes more _ _ (plus h (within _ (built x) (tokens x) (alike x) [] [] refl))))
  same_tree (Bracketed x) n m h = same_tree x n m h
  same_tree (Listed arguments) n m h = ap e.List (same_arguments arguments n m h)
  same_tree (Recorded fields) n m h = ap e.Record (same_fields fields n m h)
  same_tree (Markup element) n m h = ap e.Jsx (same_element element n m h)
  same_tree (Log x) n m h = ap (λ v. e.Known known.Log (v ∷ [])) (same_tree x n m h)
  same_tree (Keys x) n m h = ap (λ v. e.Known known.Keys (v ∷ [])) (same_tree x n m h)
  same_tree (Str x) n m h = ap (λ v. e.Known known.Str (v ∷ [])) (same_tree x n m h)
  same_tree (Trunc x y) n m h = ap2 (λ v w. e.Known known.Trunc (v ∷ w ∷ [])) (enclosed_tree _ (built x) n ∙ same_tree x n m h)
      (enclosed_tree _ (built y) _ ∙ same_tree y _ _ (plus h (within _ (built x) (tokens x) (alike x) [] [] refl)))
  same_tree (Postfix head link more) n m h = ap3 (λ v w ws. e.Post v (w ∷ ws)) (enclosed_tree _ (built head) n ∙ same_tree head n m h)
      (same_link link _ _ (plus h (within _ (built head) (tokens head) (alike head) [] [] refl)))
      (same_links more _ _ (plus h (within _ (built head) (tokens head) (alike head) _ _ (link_alike link [] [] refl))))
  same_tree (Prefix op x) n m h = ap (e.Unary op) (enclosed_tree _ (built x) n ∙ same_tree x n m h)
  same_tree (Chain x op y more) n m h = ap3 (λ v w ws. e.Chain v (record { op = op; value = w } ∷ ws)) (enclosed_tree _ (built x) n ∙ same_tree x n m h)
      (enclosed_tree _ (built y) _ ∙ same_tree y _ _ (plus h (within _ (built x) (tokens x) (alike x) [] [] refl)))
      (same_operands more _ _ (plus h (within _ (built x) (tokens x) (alike x) _ _ (within _ (built y) (tokens y) (alike y) [] [] refl))))
  same_tree (Choice x y z) n m h = ap3 e.Cond (enclosed_tree _ (built x) n ∙ same_tree x n m h)
      (enclosed_tree _ (built y) _ ∙ same_tree y _ _ (plus h (within _ (built x) (tokens x) (alike x) [] [] refl)))
      (enclosed_tree _ (built z) _ ∙ same_tree z _ _ (plus h (within _ (built x) (tokens x) (alike x) _ _ (within _ (built y) (tokens y) (alike y) [] [] refl))))
  same_tree (Function parameters body) n m h = ap3 (λ k ps d. e.Arrow (record { place = k; params = ps; body = d })) h (same_parameters parameters) (same_body body _ _ (plus h refl))

  pub same_operands : (os : Operands) (n m : ℕ) → n ≡ m → operands_tree n (built_operands os) ≡ operands_tree m os
  same_operands No_operand n m h = refl
  same_operands (Operand op x more) n m h = ap2 (λ v vs. record { op = op; value = v } ∷ vs) (enclosed_tree _ (built x) n ∙ same_tree x n m h)
      (same_operands more _ _ (plus h (within _ (built x) (tokens x) (alike x) [] [] refl)))

  pub same_parts : (hs : Holes) → parts_tree (built_holes hs) ≡ parts_tree hs
  same_parts (Last_part pieces) = ap (λ v. v ∷ []) (template_is (map piece_value pieces))
  same_parts (Part_hole pieces x more) = ap2 (λ v vs. v ∷ vs) (template_is (map piece_value pieces)) (same_parts more)

  pub same_holes : (hs : Holes) (n m : ℕ) → n ≡ m → holes_tree n (built_holes hs) ≡ holes_tree m hs
  same_holes (Last_part pieces) n m h = refl
  same_holes (Part_hole pieces x more) n m h = ap2 (λ v vs. v ∷ vs) (enclosed_tree _ (built x) n ∙ same_tree x n m h) (same_holes more _ _ (plus h (within _ (built x) (tokens x) (alike x) [] [] refl)))

  pub same_link : (k : Link) (n m : ℕ) → n ≡ m → link_tree n (built_link k) ≡ link_tree m k
  same_link (Dot w) n m h = refl
  same_link (Index x) n m h = ap l.Index (same_tree x n m h)
  same_link (Call arguments) n m h = ap l.Call (same_arguments arguments n m h)

  pub same_links : (ls : Links) (n m : ℕ) → n ≡ m → links_tree n (built_links ls) ≡ links_tree m ls
  same_links No_link n m h = refl
  same_links (Next_link link more) n m h = ap2 (λ v vs. v ∷ vs) (same_link link n m h) (same_links more _ _ (plus h (link_alike link [] [] refl)))

  pub same_arguments : (as' : Arguments) (n m : ℕ) → n ≡ m → arguments_tree n (built_arguments as') ≡ arguments_tree m as'
  same_arguments No_argument n m h = refl
  same_arguments (Only x) n m h = ap (λ v. v ∷ []) (same_tree x n m h)
  same_arguments (Comma x more) n m h = then_arguments_tree (built x) (built_arguments more) n ∙ ap2 (λ v vs. v ∷ vs) (same_tree x n m h) (same_arguments more _ _ (plus h (alike x [] [] refl)))

  pub same_field : (f : Field) (n m : ℕ) → n ≡ m → field_tree n (built_field f) ≡ field_tree m f
  same_field (Key w x) n m h = ap2 (λ k v. record { key = k; value = v }) (text_is (word_characters w) ∙ word_key w) (same_tree x n m h)
  same_field (Quoted_key quote pieces x) n m h = ap2 (λ k v. record { key = k; value = v }) (text_is (map piece_value pieces)) (same_tree x n m h)
  same_field (Short a) n m h = ap (λ k. record { key = k; value = e.Name (bytes a) }) (text_is a)

  pub same_fields : (fs : Fields) (n m : ℕ) → n ≡ m → fields_tree n (built_fields fs) ≡ fields_tree m fs
  same_fields No_field n m h = refl
  same_fields (Only_field f) n m h = ap (λ v. v ∷ []) (same_field f n m h)
  same_fields (Field_comma f more) n m h = then_fields_tree (built_field f) (built_fields more) n ∙ ap2 (λ v vs. v ∷ vs) (same_field f n m h) (same_fields more _ _ (plus h (field_alike f [] [] refl)))

  pub same_element : (el : Element) (n m : ℕ) → n ≡ m → element_tree n (built_element el) ≡ element_tree m el
  same_element (Closed tag attributes) n m h = ap (λ vs. roll-Jsx (record { tag = tag_tree tag; attrs = vs; children = [] })) (same_attributes attributes n m h)
  same_element (Open tag attributes children end) n m h = opened_tree tag (built_attributes attributes) (built_children children) n
      ∙ ap2 (λ vs ws. roll-Jsx (record { tag = tag_tree tag; attrs = vs; children = ws })) (same_attributes attributes n m h) (same_children children _ _ (plus h (attributes_alike attributes [] [] refl)))
  same_element (Fragment children) n m h = ap (λ ws. roll-Jsx (record { tag = t.Fragment; attrs = []; children = ws })) (same_children children n m h)

  pub same_attributes : (as' : Attributes) (n m : ℕ) → n ≡ m → attributes_tree n (built_attributes as') ≡ attributes_tree m as'
  same_attributes No_attribute n m h = refl
  same_attributes (Set a more) n m h = ap (λ vs. record { key = bytes a; value = e.Bool true } ∷ vs) (same_attributes more _ _ (plus_nothing h))
  same_attributes (Set_text a quote text more) n m h = ap2 (λ v vs. record { key = bytes a; value = e.Text v } ∷ vs) (text_is (decoded text)) (same_attributes more _ _ (plus_nothing h))
  same_attributes (Set_value a x more) n m h = ap2 (λ v vs. record { key = bytes a; value = v } ∷ vs) (same_tree x n m h) (same_attributes more _ _ (plus h (alike x [] [] refl)))

  pub same_children : (cs : Children) (n m : ℕ) → n ≡ m → children_tree n (built_children cs) ≡ children_tree m cs
  same_children No_child n m h = refl
  same_children (Text_child text more) n m h = text_child_tree (jsx_text text) (built_children more) n ∙ ap (before_children (jsx_text text)) (same_children more n m h)
  same_children (Empty_child more) n m h = same_children more n m h
  same_children (Value_child x more) n m h = value_child_tree (built x) (built_children more) n ∙ ap2 (λ v vs. v ∷ vs) (same_tree x n m h) (same_children more _ _ (plus h (alike x [] [] refl)))
  same_children (Element_child element more) n m h = ap2 (λ v vs. e.Jsx v ∷ vs) (same_element element n m h) (same_children more _ _ (plus h (element_alike element [] [] refl)))

  pub same_body : (d : Body) (n m : ℕ) → n ≡ m → body_tree n (built_body d) ≡ body_tree m d
  same_body (Block_body block) n m h = ap b.Block (same_statements block n m h)
  same_body (Step_body (Plain_step x)) n m h = ap b.Value (enclosed_tree _ (built x) n ∙ same_tree x n m h)
  same_body (Step_body (Assign target op x)) n m h = ap2 (λ v w. b.Value (e.Assign op v w)) (same_tree target n m h) (right_side_tree op (built x) _ ∙ same_tree x _ _ (plus h (alike target [] [] refl)))
  same_body (Step_body (Bump target up)) n m h = ap (λ v. b.Value (e.Step up v)) (same_tree target n m h)

  pub same_step : (k : Step) (n m : ℕ) → n ≡ m → step_tree n (built_step k) ≡ step_tree m k
  same_step (Plain_step x) n m h = same_tree x n m h
  same_step (Assign target op x) n m h = ap2 (e.Assign op) (same_tree target n m h) (right_side_tree op (built x) _ ∙ same_tree x _ _ (plus h (alike target [] [] refl)))
  same_step (Bump target up) n m h = ap (e.Step up) (same_tree target n m h)

  pub same_statement : (k : Statement) (n m : ℕ) → n ≡ m → statement_tree n (built_statement k) ≡ statement_tree m k
  same_statement (Const binding x) n m h = ap2 s.Const (same_binding binding) (same_tree x n m h)
  same_statement (Scope a more) n m h = refl
  same_statement (Let a x) n m h = ap (s.Let (bytes a)) (same_tree x n m h)
  same_statement Return n m h = refl
  same_statement (Return_step step) n m h = ap (λ v. s.Return (Some v)) (same_step step n m h)
  same_statement (If test yes') n m h = ap2 (λ v vs. s.If v vs []) (same_tree test n m h) (same_part yes' _ _ (plus h (alike test [] [] refl)))
  same_statement (If_else test yes' no') n m h = either_way_tree (built test) (built_part yes') (built_part no') n
      ∙ ap3 s.If (same_tree test n m h) (same_part yes' _ _ (plus h (alike test [] [] refl))) (same_part no' _ _ (plus h (alike test _ _ (part_alike yes' (Token.Punct (codes "}") ∷ []) [] refl))))
  same_statement (While test part) n m h = ap2 s.While (same_tree test n m h) (same_part part _ _ (plus h (alike test [] [] refl)))
  same_statement (For_of a x part) n m h = ap2 (s.ForOf (bytes a)) (enclosed_tree _ (built x) n ∙ same_tree x n m h) (same_part part _ _ (plus h (within _ (built x) (tokens x) (alike x) [] [] refl)))
  same_statement Break n m h = refl
  same_statement Continue n m h = refl
  same_statement (Delete target) n m h = ap s.Delete (same_tree target n m h)
  same_statement (Block block) n m h = ap s.Block (same_statements block n m h)
  same_statement (Do (Plain_step x)) n m h = ap s.Do (enclosed_tree _ (built x) n ∙ same_tree x n m h)
  same_statement (Do (Assign target op x)) n m h = ap2 (λ v w. s.Do (e.Assign op v w)) (same_tree target n m h) (right_side_tree op (built x) _ ∙ same_tree x _ _ (plus h (alike target [] [] refl)))
  same_statement (Do (Bump target up)) n m h = ap (λ v. s.Do (e.Step up v)) (same_tree target n m h)

  pub same_statements : (ss : Statements) (n m : ℕ) → n ≡ m → statements_tree n (built_statements ss) ≡ statements_tree m ss
  same_statements No_statement n m h = refl
  same_statements (Then statement more) n m h = ap2 (λ v vs. v ∷ vs) (same_statement statement n m h) (same_statements more _ _ (plus h (statement_alike statement [] [] refl)))

  pub same_part : (q : Part) (n m : ℕ) → n ≡ m → statements_tree n (built_part q) ≡ part_tree m q
  same_part (Block_part block) n m h = same_statements block n m h
  same_part (Statement_part statement) n m h = ap (λ v. v ∷ []) (same_statement statement n m h)

same_imports : (is : List Import_line) → map import_tree (map built_import is) ≡ map import_tree is
same_imports [] = refl
same_imports (i ∷ is) = ap2 (λ v vs. v ∷ vs) (ap2 (λ ns f. record { names = ns; from = f }) (same_names i.names) (text_is (map piece_value i.source))) (same_imports is)

same_items : (is : List Item_line) (n m : ℕ) → n ≡ m → items_tree n (map built_item is) ≡ items_tree m is
same_items [] n m h = refl
same_items (i ∷ is) n m h = ap2 (λ v vs. record { exported = i.exported; name = bytes i.name; init = v } ∷ vs) (same_tree i.value n m h) (same_items is _ _ (plus h (alike i.value [] [] refl)))

pub same_module : (m : Module_text) → module_tree (built_module m) ≡ module_tree m
same_module m = ap2 (λ is js. record { imports = is; items = js }) (same_imports m.imports) (same_items m.items 0 0 refl)
