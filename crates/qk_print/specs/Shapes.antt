-- Which expressions stand without parentheses, and where.
use Rattle.std.specs.Prelude.{Bool, true, false, not, ◌&&◌, ◌||◌, Option, Some, codes, bytes_eq}
use Rattle.qk_ast.specs.declared.Expr.{Expr, Row_of-Link, end_of-Link, more_of-Link}
use Rattle.qk_ast.specs.declared.Link.{Link}
use Rattle.qk_ast.specs.declared.Bin.{Bin}
use Rattle.qk_ast.specs.declared.Bin.TheVariants as bin
use Rattle.qk_ast.specs.declared.AssignOp.{AssignOp}
use Rattle.qk_ast.specs.declared.AssignOp.TheVariants as assign

-- names, literals, templates, lists and the known calls
abbrev pub is_plain : Expr → Bool
is_plain Expr.Undefined = true
is_plain Expr.Null = true
is_plain (Expr.Bool b) = true
is_plain (Expr.Int n) = true
is_plain (Expr.Text t) = true
is_plain (Expr.Name t) = true
is_plain (Expr.List' _ all) = true
is_plain (Expr.Template' parts _ holes) = true
is_plain (Expr.Known' known _ all) = true
is_plain _ = false

abbrev pub is_record : Expr → Bool
is_record (Expr.Record' _ fields) = true
is_record _ = false

abbrev pub is_markup : Expr → Bool
is_markup (Expr.Jsx' _ all) = true
is_markup _ = false

-- What stands where a postfix form begins. After one of the three names what follows would read as a known call.
abbrev pub is_head : Expr → Bool
is_head (Expr.Name t) = not (bytes_eq t (codes "console") || (bytes_eq t (codes "Object") || bytes_eq t (codes "String")))
is_head x = is_plain x

abbrev pub is_return : Link → Bool
is_return (Link.Prop name) = bytes_eq name (codes "return")
is_return link = false

abbrev pub ends_in_return : {m : _} → Row_of-Link m → Bool
ends_in_return end_of-Link = false
ends_in_return (more_of-Link link end_of-Link) = is_return link
ends_in_return (more_of-Link link (more_of-Link next rest)) = ends_in_return (more_of-Link next rest)

-- `<` after the word `return` would begin JSX
abbrev pub is_less : Option Bin → Bool
is_less (Some bin.Less) = true
is_less (Some bin.LessEq) = true
is_less _ = false

-- What stands as an operand, before that operator or none.
abbrev pub is_operand : Option Bin → Expr → Bool
is_operand next (Expr.Post' _ head _ links) = not (is_less next && ends_in_return links)
is_operand next x = is_plain x

-- what stands as a statement
abbrev pub is_statement : Expr → Bool
is_statement x = not (is_record x || is_markup x)

-- what stands behind an assignment's sign: `<` begins JSX behind `=` alone
abbrev pub is_right_side : AssignOp → Expr → Bool
is_right_side assign.Set x = true
is_right_side op x = not (is_markup x)
