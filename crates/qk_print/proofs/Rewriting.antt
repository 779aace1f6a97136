-- The writing that is printed for what a writing stands for.
use Rattle.std.specs.Prelude.{ℕ, ◌/◌, ◌%◌, Bool, true, false, not, ◌&&◌, ◌||◌, if◌then◌else◌, ◌==◌, nat_lt, List, [], ◌∷◌, map, Option, Some, None, codes, bytes_eq}
use Rattle.std.specs.List.{list_any}
use Rattle.qk_ast.specs.declared.Bin.{Bin}
use Rattle.qk_ast.specs.declared.AssignOp.{AssignOp}
use Rattle.qk_ast.specs.declared.AssignOp.TheVariants as assign
use Rattle.qk_ast.specs.Characters.{Characters}
use Rattle.qk_ast.specs.Tokens.{Piece, piece_value}
use Rattle.qk_ast.specs.JsxText.{jsx_text, decoded}
use Rattle.qk_ast.specs.Tree.{bytes, word_text}
use Rattle.qk_ast.specs.Grammar.{Names, Last_name, Last_comma, Next_name, Binding, Plain, Fields_of, Bindings, No_binding, Only_binding, Binding_comma, Parameters, Bare, In_brackets, Word, Free, Taken, Expression, Undefined, Null, Truth, Number, Quoted, Named, Whole, Holed, Bracketed, Listed, Recorded, Markup, Log, Keys, Str, Trunc, Postfix, Prefix, Chain, Choice, Function, Operands, No_operand, Operand, Holes, Last_part, Part_hole, Link, Dot, Index, Call, Links, No_link, Next_link, Arguments, No_argument, Only, Comma, Field, Key, Quoted_key, Short, Fields, No_field, Only_field, Field_comma, Element, Closed, Open, Fragment, Attributes, No_attribute, Set, Set_text, Set_value, Children, No_child, Text_child, Empty_child, Value_child, Element_child, Body, Block_body, Step_body, Step, Plain_step, Assign, Bump, Statement, Const, Scope, Let, Return, Return_step, If, If_else, While, For_of, Break, Continue, Delete, Block, Do, Statements, No_statement, Then, Part, Block_part, Statement_part, Import_line, Item_line, Module_text}
use Rattle.qk_print.specs.Letters.{digit}
use Rattle.qk_print.specs.Shapes.{is_less}

-- ---- characters

abbrev pub control_piece : ℕ → Piece
control_piece c = if c == 10 then Piece.Escaped 110 else (if c == 13 then Piece.Escaped 114 else (if c == 9 then Piece.Escaped 116
    else Piece.Four (48 ∷ 48 ∷ digit (c / 16) ∷ digit (c % 16) ∷ [])))

abbrev pub piece : Characters → ℕ → Piece
piece marked c = if nat_lt c 32 then control_piece c else (if list_any (λ m. m == c) marked then Piece.Escaped c else Piece.Plain c)

abbrev pub text_pieces : Characters → List Piece
text_pieces = map (piece (codes "\"\\"))

abbrev pub template_pieces : Characters → List Piece
template_pieces = map (piece (codes "`\\$"))

-- a text in double quotes
abbrev pub quoted_text : Characters → Expression
quoted_text cs = Quoted 34 (text_pieces cs)

-- ---- what stands without brackets

abbrev pub enclosed : Bool → Expression → Expression
enclosed true x = x
enclosed false x = Bracketed x

abbrev pub stands_plain : Expression → Bool
stands_plain Undefined = true
stands_plain Null = true
stands_plain (Truth b) = true
stands_plain (Number digits) = true
stands_plain (Quoted quote pieces) = true
stands_plain (Named a) = true
stands_plain (Whole pieces) = true
stands_plain (Holed pieces x more) = true
stands_plain (Listed arguments) = true
stands_plain (Log x) = true
stands_plain (Keys x) = true
stands_plain (Str x) = true
stands_plain (Trunc x y) = true
stands_plain _ = false

abbrev pub is_recorded : Expression → Bool
is_recorded (Recorded fields) = true
is_recorded _ = false

abbrev pub is_marked_up : Expression → Bool
is_marked_up (Markup element) = true
is_marked_up _ = false

abbrev pub begins_known : Characters → Bool
begins_known a = bytes_eq (bytes a) (codes "console") || (bytes_eq (bytes a) (codes "Object") || bytes_eq (bytes a) (codes "String"))

abbrev pub stands_as_head : Expression → Bool
stands_as_head (Named a) = not (begins_known a)
stands_as_head x = stands_plain x

abbrev pub is_return_link : Link → Bool
is_return_link (Dot w) = bytes_eq (word_text w) (codes "return")
is_return_link link = false

abbrev pub ends_with_return : Link → Links → Bool
ends_with_return link No_link = is_return_link link
ends_with_return link (Next_link next more) = ends_with_return next more

abbrev pub stands_as_operand : Option Bin → Expression → Bool
stands_as_operand next (Postfix head link more) = not (is_less next && ends_with_return link more)
stands_as_operand next x = stands_plain x

abbrev pub as_head : Expression → Expression
as_head x = enclosed (stands_as_head x) x

abbrev pub as_operand : Option Bin → Expression → Expression
as_operand next x = enclosed (stands_as_operand next x) x

abbrev pub unless_markup : Expression → Expression
unless_markup x = enclosed (not (is_marked_up x)) x

abbrev pub unless_record : Expression → Expression
unless_record x = enclosed (not (is_recorded x)) x

abbrev pub as_right_side : AssignOp → Expression → Expression
as_right_side assign.Set x = x
as_right_side op x = unless_markup x

abbrev pub as_statement : Expression → Expression
as_statement x = enclosed (not (is_recorded x || is_marked_up x)) x

-- ---- lists without a last comma

abbrev pub built_names : Names → Names
built_names (Last_name a) = Last_name a
built_names (Last_comma a) = Last_name a
built_names (Next_name a more) = Next_name a (built_names more)

abbrev pub built_binding : Binding → Binding
built_binding (Plain a) = Plain a
built_binding (Fields_of names) = Fields_of (built_names names)

abbrev pub then_bindings : Binding → Bindings → Bindings
then_bindings b No_binding = Only_binding b
then_bindings b more = Binding_comma b more

abbrev pub built_bindings : Bindings → Bindings
built_bindings No_binding = No_binding
built_bindings (Only_binding b) = Only_binding (built_binding b)
built_bindings (Binding_comma b more) = then_bindings (built_binding b) (built_bindings more)

abbrev pub built_parameters : Parameters → Parameters
built_parameters (Bare a) = In_brackets (Only_binding (Plain a))
built_parameters (In_brackets bindings) = In_brackets (built_bindings bindings)

abbrev pub then_arguments : Expression → Arguments → Arguments
then_arguments x No_argument = Only x
then_arguments x more = Comma x more

abbrev pub then_fields : Field → Fields → Fields
then_fields f No_field = Only_field f
then_fields f more = Field_comma f more

abbrev pub word_characters : Word → Characters
word_characters (Free a) = a
word_characters (Taken a) = a

-- ---- JSX

abbrev pub text_child : Characters → Children → Children
text_child [] more = more
text_child (c ∷ cs) more = Value_child (quoted_text (c ∷ cs)) more

abbrev pub value_child : Expression → Children → Children
value_child (Markup element) more = Element_child element more
value_child x more = Value_child x more

abbrev pub opened : Characters → Attributes → Children → Element
opened tag attributes No_child = Closed tag attributes
opened tag attributes children = Open tag attributes children tag

-- ---- statements

abbrev pub first_of_operands : Operands → Option Bin
first_of_operands No_operand = None
first_of_operands (Operand op x more) = Some op

abbrev pub either_way : Expression → Statements → Statements → Statement
either_way test yes' No_statement = If test (Block_part yes')
either_way test yes' no' = If_else test (Block_part yes') (Block_part no')

-- ---- the whole

abbrev mutual
  pub built : Expression → Expression
  built Undefined = Undefined
  built Null = Null
  built (Truth b) = Truth b
  built (Number digits) = Number digits
  built (Quoted quote pieces) = quoted_text (map piece_value pieces)
  built (Named a) = Named a
  built (Whole pieces) = Whole (template_pieces (map piece_value pieces))
  built (Holed pieces x more) = Holed (template_pieces (map piece_value pieces)) (unless_markup (built x)) (built_holes more)
  built (Bracketed x) = built x
  built (Listed arguments) = Listed (built_arguments arguments)
  built (Recorded fields) = Recorded (built_fields fields)
  built (Markup element) = Markup (built_element element)
  built (Log x) = Log (built x)
  built (Keys x) = Keys (built x)
  built (Str x) = Str (built x)
  built (Trunc x y) = Trunc (as_operand None (built x)) (as_operand None (built y))
  built (Postfix head link more) = Postfix (as_head (built head)) (built_link link) (built_links more)
  built (Prefix op x) = Prefix op (as_operand None (built x))
  built (Chain x op y more) = Chain (as_operand (Some op) (built x)) op (as_operand (first_of_operands more) (built y)) (built_operands more)
  built (Choice x y z) = Choice (as_operand None (built x)) (as_operand None (built y)) (as_operand None (built z))
  built (Function parameters body) = Function (built_parameters parameters) (built_body body)

  pub built_operands : Operands → Operands
  built_operands No_operand = No_operand
  built_operands (Operand op x more) = Operand op (as_operand (first_of_operands more) (built x)) (built_operands more)

  pub built_holes : Holes → Holes
  built_holes (Last_part pieces) = Last_part (template_pieces (map piece_value pieces))
  built_holes (Part_hole pieces x more) = Part_hole (template_pieces (map piece_value pieces)) (unless_markup (built x)) (built_holes more)

  pub built_link : Link → Link
  built_link (Dot w) = Dot w
  built_link (Index x) = Index (built x)
  built_link (Call arguments) = Call (built_arguments arguments)

  pub built_links : Links → Links
  built_links No_link = No_link
  built_links (Next_link link more) = Next_link (built_link link) (built_links more)

  pub built_arguments : Arguments → Arguments
  built_arguments No_argument = No_argument
  built_arguments (Only x) = Only (built x)
  built_arguments (Comma x more) = then_arguments (built x) (built_arguments more)

  pub built_field : Field → Field
  built_field (Key w x) = Quoted_key 34 (text_pieces (word_characters w)) (built x)
  built_field (Quoted_key quote pieces x) = Quoted_key 34 (text_pieces (map piece_value pieces)) (built x)
  built_field (Short a) = Quoted_key 34 (text_pieces a) (Named a)

  pub built_fields : Fields → Fields
  built_fields No_field = No_field
  built_fields (Only_field f) = Only_field (built_field f)
  built_fields (Field_comma f more) = then_fields (built_field f) (built_fields more)

  pub built_element : Element → Element
  built_element (Closed tag attributes) = Closed tag (built_attributes attributes)
  built_element (Open tag attributes children end) = opened tag (built_attributes attributes) (built_children children)
  built_element (Fragment children) = Fragment (built_children children)

  pub built_attributes : Attributes → Attributes
  built_attributes No_attribute = No_attribute
  built_attributes (Set a more) = Set_value a (Truth true) (built_attributes more)
  built_attributes (Set_text a quote text more) = Set_value a (quoted_text (decoded text)) (built_attributes more)
  built_attributes (Set_value a x more) = Set_value a (built x) (built_attributes more)

  pub built_children : Children → Children
  built_children No_child = No_child
  built_children (Text_child text more) = text_child (jsx_text text) (built_children more)
  built_children (Empty_child more) = built_children more
  built_children (Value_child x more) = value_child (built x) (built_children more)
  built_children (Element_child element more) = Element_child (built_element element) (built_children more)

  pub built_body : Body → Body
  built_body (Block_body block) = Block_body (built_statements block)
  built_body (Step_body (Plain_step x)) = Step_body (Plain_step (unless_record (built x)))
  built_body (Step_body (Assign target op x)) = Step_body (Assign (built target) op (as_right_side op (built x)))
  built_body (Step_body (Bump target up)) = Step_body (Bump (built target) up)

  -- what `return` gives
  pub built_step : Step → Step
  built_step (Plain_step x) = Plain_step (built x)
  built_step (Assign target op x) = Assign (built target) op (as_right_side op (built x))
  built_step (Bump target up) = Bump (built target) up

  pub built_statement : Statement → Statement
  built_statement (Const binding x) = Const (built_binding binding) (built x)
  built_statement (Scope a more) = Scope a more
  built_statement (Let a x) = Let a (built x)
  built_statement Return = Return
  built_statement (Return_step step) = Return_step (built_step step)
  built_statement (If test yes') = If (built test) (Block_part (built_part yes'))
  built_statement (If_else test yes' no') = either_way (built test) (built_part yes') (built_part no')
  built_statement (While test part) = While (built test) (Block_part (built_part part))
  built_statement (For_of a x part) = For_of a (unless_markup (built x)) (Block_part (built_part part))
  built_statement Break = Break
  built_statement Continue = Continue
  built_statement (Delete target) = Delete (built target)
  built_statement (Block block) = Block (built_statements block)
  built_statement (Do (Plain_step x)) = Do (Plain_step (as_statement (built x)))
  built_statement (Do (Assign target op x)) = Do (Assign (built target) op (as_right_side op (built x)))
  built_statement (Do (Bump target up)) = Do (Bump (built target) up)

  pub built_statements : Statements → Statements
  built_statements No_statement = No_statement
  built_statements (Then statement more) = Then (built_statement statement) (built_statements more)

  pub built_part : Part → Statements
  built_part (Block_part block) = built_statements block
  built_part (Statement_part statement) = Then (built_statement statement) No_statement

abbrev pub built_import : Import_line → Import_line
built_import i = record { names = built_names i.names; quote = 34; source = text_pieces (map piece_value i.source) }

abbrev pub built_item : Item_line → Item_line
built_item i = record { exported = i.exported; name = i.name; value = built i.value }

abbrev pub built_module : Module_text → Module_text
built_module m = record { imports = map built_import m.imports; items = map built_item m.items }
