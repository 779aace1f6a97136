-- Lists of code, by one step for each member: what `Evaluation` says of a row, for whoever goes over a list.
use Rattle.std.specs.Prelude.{List, [], ◌∷◌, ◌++◌}
use Rattle.qk_ast.specs.declared.Expr.{Expr, end_of-Link, more_of-Link}
use Rattle.qk_ast.specs.declared.Field.{Field}
use Rattle.qk_ast.specs.declared.Operand.{Operand}
use Rattle.qk_ast.specs.declared.Stmt.{Stmt}
use Rattle.qk_ast.specs.declared.Link.{Link}
use Rattle.qk_ast.specs.Names.{declared_by}
use Rattle.qk_meaning.specs.Value.{Text, Value, Fields, end, field}
use Rattle.qk_meaning.specs.Operators.{binary, decides, text_of}
use Rattle.qk_meaning.specs.Doing.{Doing, ◌>>=◌, give, chosen, each}
use Rattle.qk_meaning.specs.Running.{Running, answered}
use Rattle.qk_meaning.specs.Setting.{Setting}
use Rattle.qk_meaning.specs.References.{Reference, valued}
use Rattle.qk_meaning.specs.Flow.{Flow, Onward, scoped, unless_left}
use Rattle.qk_meaning.specs.Evaluation.{refer, followed, ran}

-- the value of an expression, and those of a list
abbrev pub value_in : Setting → Expr → Doing Running Value
value_in here e = valued here (refer e here)

abbrev pub values_in : Setting → List Expr → Doing Running (List Value)
values_in here all = each (value_in here) all

-- the text of a hole of a template
abbrev pub hole_text : Setting → Expr → Doing Running Text
hole_text here e = do
  v ← value_in here e
  answered (text_of v)

-- the fields of a record, or the attributes of a JSX value
abbrev pub fields_in : Setting → List Field → Doing Running Fields
fields_in here [] = give end
fields_in here (f ∷ rest) = do
  v ← value_in here f.value
  fields ← fields_in here rest
  give (field f.key v fields)

-- a value combined with one operand behind it, and with all of a chain
abbrev pub operand_chained : Setting → Operand → Value → Doing Running Value
operand_chained here o v = chosen (decides o.op v) (give v) (◌>>=◌ (value_in here o.value) (λ u. answered (binary o.op v u)))

abbrev pub operands_chained : Setting → List Operand → Value → Doing Running Value
operands_chained here [] v = give v
operands_chained here (o ∷ rest) v = do
  w ← operand_chained here o v
  operands_chained here rest w

-- one postfix form, and all of a chain
abbrev pub link_followed : Setting → Link → Reference → Doing Running Reference
link_followed here l r = followed (more_of-Link l end_of-Link) here r

abbrev pub links_followed : Setting → List Link → Reference → Doing Running Reference
links_followed here [] r = give r
links_followed here (l ∷ rest) r = do
  next ← link_followed here l r
  links_followed here rest next

-- the statements of a list, as far as they go on
abbrev pub statements_ran : Setting → List Stmt → Doing Running Flow
statements_ran here [] = give Onward
statements_ran here (statement ∷ rest) = do
  flow ← ran statement here
  unless_left flow (statements_ran here rest)

-- the names that statements declare, and a block of them in a scope of its own
abbrev pub declared_of : List Stmt → List Text
declared_of [] = []
declared_of (statement ∷ rest) = declared_by statement ++ declared_of rest

abbrev pub block_ran : Setting → List Stmt → Doing Running Flow
block_ran here statements = scoped (declared_of statements) (statements_ran here statements)
