-- The texts of lists: of what the tree holds in a list, each item's text in order.
use Rattle.std.specs.Prelude.{Bool, false, List, [], ◌∷◌, map}
use Rattle.qk_ast.specs.declared.Expr.{Expr}
use Rattle.qk_ast.specs.declared.Stmt.{Stmt}
use Rattle.qk_ast.specs.declared.Link.{Link}
use Rattle.qk_ast.specs.declared.Field.{Field}
use Rattle.qk_ast.specs.declared.Operand.{Operand}
use Rattle.qk_print.specs.Letters.{Text, commas}
use Rattle.qk_print.specs.Shapes.{is_return}
use Rattle.qk_print.specs.Printing.{Printed, Keyed, Operated, expression_text, statement_text, block_text}

abbrev pub printed_of : Expr → Printed
printed_of x = record { form = x; text = expression_text x }

abbrev pub keyed_of : Field → Keyed
keyed_of f = record { key = f.key; text = expression_text f.value }

abbrev pub operated_of : Operand → Operated
operated_of o = record { op = o.op; form = o.value; text = expression_text o.value }

abbrev pub expressions_text : List Expr → Text
expressions_text xs = commas (map expression_text xs)

abbrev pub statements_text : List Stmt → Text
statements_text ss = block_text (map statement_text ss)

-- the last of the links is the property `return`
abbrev pub last_is_return : List Link → Bool
last_is_return [] = false
last_is_return (link ∷ []) = is_return link
last_is_return (link ∷ next ∷ rest) = last_is_return (next ∷ rest)
