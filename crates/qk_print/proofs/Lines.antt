-- The printed tokens with the blanks between them.
use Rattle.std.specs.Prelude.{ℕ, Bool, true, false, List, [], ◌∷◌, codes}
use Rattle.qk_ast.specs.declared.Un.{Un}
use Rattle.qk_ast.specs.declared.Un.TheVariants as un
use Rattle.qk_ast.specs.declared.Bin.{Bin}
use Rattle.qk_ast.specs.declared.Bin.TheVariants as bin
use Rattle.qk_ast.specs.declared.AssignOp.{AssignOp}
use Rattle.qk_ast.specs.declared.AssignOp.TheVariants as assign
use Rattle.qk_ast.specs.Characters.{Characters}
use Rattle.qk_ast.specs.Tokens.{Token, Edge, Blank, Written}
use Rattle.qk_ast.specs.Grammar.{Names, Last_name, Last_comma, Next_name, Binding, Plain, Fields_of, Bindings, No_binding, Only_binding, Binding_comma, Parameters, Bare, In_brackets, Word, Free, Taken, Expression, Undefined, Null, Truth, Number, Quoted, Named, Whole, Holed, Bracketed, Listed, Recorded, Markup, Log, Keys, Str, Trunc, Postfix, Prefix, Chain, Choice, Function, Operands, No_operand, Operand, Holes, Last_part, Part_hole, Link, Dot, Index, Call, Links, No_link, Next_link, Arguments, No_argument, Only, Comma, Field, Key, Quoted_key, Short, Fields, No_field, Only_field, Field_comma, Element, Closed, Open, Fragment, Attributes, No_attribute, Set, Set_text, Set_value, Children, No_child, Text_child, Empty_child, Value_child, Element_child, Body, Block_body, Step_body, Step, Plain_step, Assign, Bump, Statement, Const, Scope, Let, Return, Return_step, If, If_else, While, For_of, Break, Continue, Delete, Block, Do, Statements, No_statement, Then, Part, Block_part, Statement_part, Import_line, Item_line, Module_text}

-- It lays tokens and blanks before those that follow.
abbrev pub Line : Type 0
Line = Written → Written

infixr 60 ◌▹◌
-- the one and then the other
abbrev pub ◌▹◌ : Line → Line → Line
(first ▹ second) rest = first (second rest)

abbrev pub empty : Line
empty rest = rest

-- one token
abbrev pub put : Token → Line
put token rest = Written.Then [] token rest

abbrev pub name : Characters → Line
name text = put (Token.Name text)

abbrev pub word : Characters → Line
word text = put (Token.Reserved text)

abbrev pub sign : Characters → Line
sign text = put (Token.Punct text)

abbrev pub begin : Characters → Line
begin text = put (Token.Begin text)

-- a blank before what follows
abbrev pub blank : ℕ → Line
blank c (Written.End gap) = Written.End (Blank.Space c ∷ gap)
blank c (Written.Then gap token more) = Written.Then (Blank.Space c ∷ gap) token more

abbrev pub space : Line
space = blank 32

abbrev pub feed : Line
feed = blank 10

-- between spaces
abbrev pub apart : Line → Line
apart line = space ▹ line ▹ space

abbrev pub round : Line → Line
round inside = sign (codes "(") ▹ inside ▹ sign (codes ")")

abbrev pub square : Line → Line
square inside = sign (codes "[") ▹ inside ▹ sign (codes "]")

abbrev pub curly : Line → Line
curly inside = sign (codes "{") ▹ inside ▹ sign (codes "}")

-- in braces, with a space at both sides; the empty ones are `{ }`
abbrev pub braced : Bool → Line → Line
braced true inside = sign (codes "{") ▹ space ▹ inside ▹ sign (codes "}")
braced false inside = sign (codes "{") ▹ space ▹ inside ▹ space ▹ sign (codes "}")

-- statements in braces
abbrev pub block : Line → Line
block inside = sign (codes "{") ▹ space ▹ inside ▹ sign (codes "}")

abbrev pub comma : Line
comma = sign (codes ",") ▹ space

abbrev pub semicolon : Line
semicolon = sign (codes ";")

abbrev pub names_line : Names → Line
names_line (Last_name a) = name a
names_line (Last_comma a) = name a ▹ sign (codes ",")
names_line (Next_name a more) = name a ▹ comma ▹ names_line more

abbrev pub binding_line : Binding → Line
binding_line (Plain a) = name a
binding_line (Fields_of names) = braced false (names_line names)

abbrev pub bindings_line : Bindings → Line
bindings_line No_binding = empty
bindings_line (Only_binding b) = binding_line b
bindings_line (Binding_comma b more) = binding_line b ▹ comma ▹ bindings_line more

abbrev pub parameters_line : Parameters → Line
parameters_line (Bare a) = name a
parameters_line (In_brackets bindings) = round (bindings_line bindings)

abbrev pub word_line : Word → Line
word_line (Free a) = name a
word_line (Taken a) = word a

abbrev pub un_line : Un → Line
un_line un.Not = sign (codes "!")
un_line un.Neg = sign (codes "-")

abbrev pub bin_line : Bin → Line
bin_line bin.Or = apart (sign (codes "||"))
bin_line bin.And = apart (sign (codes "&&"))
bin_line bin.Coalesce = apart (sign (codes "??"))
bin_line bin.Same = apart (sign (codes "==="))
bin_line bin.NotSame = apart (sign (codes "!=="))
bin_line bin.Less = apart (sign (codes "<"))
bin_line bin.LessEq = apart (sign (codes "<="))
bin_line bin.More = apart (sign (codes ">"))
bin_line bin.MoreEq = apart (sign (codes ">="))
bin_line bin.Add = apart (sign (codes "+"))
bin_line bin.Sub = apart (sign (codes "-"))
bin_line bin.Mul = apart (sign (codes "*"))
bin_line bin.Rem = apart (sign (codes "%"))

abbrev pub assign_line : AssignOp → Line
assign_line assign.Set = apart (sign (codes "="))
assign_line assign.Add = apart (sign (codes "+="))
assign_line assign.Sub = apart (sign (codes "-="))
assign_line assign.Mul = apart (sign (codes "*="))

abbrev pub bump_line : Bool → Line
bump_line true = sign (codes "++")
bump_line false = sign (codes "--")

abbrev pub truth_line : Bool → Line
truth_line true = word (codes "true")
truth_line false = word (codes "false")

-- , b, c
abbrev pub scope_line : List Characters → Line
scope_line [] = empty
scope_line (a ∷ more) = comma ▹ name a ▹ scope_line more

abbrev pub no_field : Fields → Bool
no_field No_field = true
no_field (Only_field f) = false
no_field (Field_comma f more) = false

abbrev mutual
  pub line : Expression → Line
  line Undefined = word (codes "undefined")
  line Null = word (codes "null")
  line (Truth b) = truth_line b
  line (Number digits) = put (Token.Int digits)
  line (Quoted quote pieces) = put (Token.Text quote pieces)
  line (Named a) = name a
  line (Whole pieces) = put (Token.Template Edge.Backquote pieces Edge.Backquote)
  line (Holed pieces e more) = put (Token.Template Edge.Backquote pieces Edge.Hole) ▹ line e ▹ holes_line more
  line (Bracketed e) = round (line e)
  line (Listed arguments) = square (arguments_line arguments)
  line (Recorded fields) = braced (no_field fields) (fields_line fields)
  line (Markup element) = element_line element
  line (Log e) = name (codes "console") ▹ sign (codes ".") ▹ name (codes "log") ▹ round (line e)
  line (Keys e) = name (codes "Object") ▹ sign (codes ".") ▹ name (codes "keys") ▹ round (line e)
  line (Str e) = name (codes "String") ▹ round (line e)
  line (Trunc a b) = name (codes "Math") ▹ sign (codes ".") ▹ name (codes "trunc") ▹ round (line a ▹ apart (sign (codes "/")) ▹ line b)
  line (Postfix head link more) = line head ▹ link_line link ▹ links_line more
  line (Prefix op e) = un_line op ▹ line e
  line (Chain first op second more) = line first ▹ bin_line op ▹ line second ▹ operands_line more
  line (Choice test yes' no') = line test ▹ apart (sign (codes "?")) ▹ line yes' ▹ apart (sign (codes ":")) ▹ line no'
  line (Function parameters body) = parameters_line parameters ▹ apart (sign (codes "=>")) ▹ body_line body

  pub operands_line : Operands → Line
  operands_line No_operand = empty
  operands_line (Operand op e more) = bin_line op ▹ line e ▹ operands_line more

  pub holes_line : Holes → Line
  holes_line (Last_part pieces) = put (Token.Template Edge.Hole pieces Edge.Backquote)
  holes_line (Part_hole pieces e more) = put (Token.Template Edge.Hole pieces Edge.Hole) ▹ line e ▹ holes_line more

  pub link_line : Link → Line
  link_line (Dot w) = sign (codes ".") ▹ word_line w
  link_line (Index e) = square (line e)
  link_line (Call arguments) = round (arguments_line arguments)

  pub links_line : Links → Line
  links_line No_link = empty
  links_line (Next_link link more) = link_line link ▹ links_line more

  pub arguments_line : Arguments → Line
  arguments_line No_argument = empty
  arguments_line (Only e) = line e
  arguments_line (Comma e more) = line e ▹ comma ▹ arguments_line more

  pub field_line : Field → Line
  field_line (Key w e) = word_line w ▹ sign (codes ":") ▹ space ▹ line e
  field_line (Quoted_key quote pieces e) = put (Token.Text quote pieces) ▹ sign (codes ":") ▹ space ▹ line e
  field_line (Short a) = name a

  pub fields_line : Fields → Line
  fields_line No_field = empty
  fields_line (Only_field f) = field_line f
  fields_line (Field_comma f more) = field_line f ▹ comma ▹ fields_line more

  pub element_line : Element → Line
  element_line (Closed tag attributes) = begin (codes "<") ▹ name tag ▹ attributes_line attributes ▹ sign (codes "/>")
  element_line (Open tag attributes children end) = begin (codes "<") ▹ name tag ▹ attributes_line attributes ▹ sign (codes ">")
      ▹ children_line children ▹ sign (codes "</") ▹ name end ▹ sign (codes ">")
  element_line (Fragment children) = begin (codes "<>") ▹ children_line children ▹ sign (codes "</>")

  pub attributes_line : Attributes → Line
  attributes_line No_attribute = empty
  attributes_line (Set a more) = space ▹ name a ▹ attributes_line more
  attributes_line (Set_text a quote text more) = space ▹ name a ▹ sign (codes "=") ▹ put (Token.Attribute quote text) ▹ attributes_line more
  attributes_line (Set_value a e more) = space ▹ name a ▹ sign (codes "=") ▹ curly (line e) ▹ attributes_line more

  pub children_line : Children → Line
  children_line No_child = empty
  children_line (Text_child text more) = put (Token.JsxText text) ▹ children_line more
  children_line (Empty_child more) = curly empty ▹ children_line more
  children_line (Value_child e more) = curly (line e) ▹ children_line more
  children_line (Element_child element more) = element_line element ▹ children_line more

  pub body_line : Body → Line
  body_line (Block_body statements) = block (statements_line statements)
  body_line (Step_body step) = step_line step

  pub step_line : Step → Line
  step_line (Plain_step e) = line e
  step_line (Assign target op e) = line target ▹ assign_line op ▹ line e
  step_line (Bump target up) = line target ▹ bump_line up

  pub statement_line : Statement → Line
  statement_line (Const binding e) = word (codes "const") ▹ space ▹ binding_line binding ▹ apart (sign (codes "=")) ▹ line e ▹ semicolon
  statement_line (Scope a more) = word (codes "const") ▹ space ▹ square (name a ▹ scope_line more) ▹ apart (sign (codes "="))
      ▹ name (codes "useLexicalScope") ▹ round empty ▹ semicolon
  statement_line (Let a e) = word (codes "let") ▹ space ▹ name a ▹ apart (sign (codes "=")) ▹ line e ▹ semicolon
  statement_line Return = word (codes "return") ▹ semicolon
  statement_line (Return_step step) = word (codes "return") ▹ space ▹ step_line step ▹ semicolon
  statement_line (If test yes') = word (codes "if") ▹ space ▹ round (line test) ▹ space ▹ part_line yes'
  statement_line (If_else test yes' no') = word (codes "if") ▹ space ▹ round (line test) ▹ space ▹ part_line yes' ▹ apart (word (codes "else")) ▹ part_line no'
  statement_line (While test part) = word (codes "while") ▹ space ▹ round (line test) ▹ space ▹ part_line part
  statement_line (For_of a e part) = word (codes "for") ▹ space ▹ round (word (codes "const") ▹ space ▹ name a ▹ apart (name (codes "of")) ▹ line e) ▹ space ▹ part_line part
  statement_line Break = word (codes "break") ▹ semicolon
  statement_line Continue = word (codes "continue") ▹ semicolon
  statement_line (Delete target) = word (codes "delete") ▹ space ▹ line target ▹ semicolon
  statement_line (Block statements) = block (statements_line statements)
  statement_line (Do step) = step_line step ▹ semicolon

  pub statements_line : Statements → Line
  statements_line No_statement = empty
  statements_line (Then statement more) = statement_line statement ▹ space ▹ statements_line more

  pub part_line : Part → Line
  part_line (Block_part statements) = block (statements_line statements)
  part_line (Statement_part statement) = statement_line statement

abbrev pub import_line : Import_line → Line
import_line i = word (codes "import") ▹ space ▹ braced false (names_line i.names) ▹ apart (name (codes "from")) ▹ put (Token.Text i.quote i.source) ▹ semicolon ▹ feed

abbrev pub value_line : Characters → Expression → Line
value_line a e = word (codes "const") ▹ space ▹ name a ▹ apart (sign (codes "=")) ▹ line e ▹ semicolon ▹ feed

abbrev pub item_line : Item_line → Line
item_line i = export i.exported ▹ value_line i.name i.value
  where
    export : Bool → Line
    export true = word (codes "export") ▹ space
    export false = empty

abbrev pub imports_line : List Import_line → Line
imports_line [] = empty
imports_line (i ∷ more) = import_line i ▹ imports_line more

abbrev pub items_line : List Item_line → Line
items_line [] = empty
items_line (i ∷ more) = item_line i ▹ items_line more

abbrev pub module_line : Module_text → Line
module_line m = imports_line m.imports ▹ items_line m.items
