-- What stands in the place of a dollar arrow: `qrl("SYMBOL", [captures])`.
use Rattle.std.specs.Prelude.{List, [], ◌∷◌, codes}
use mathlib.Core.Former.{arity, this, list}
use Rattle.qk_ast.specs.declared.Expr.{Expr, Row_of-Expr, end_of-Expr, more_of-Expr, end_of-Link, more_of-Link}
use Rattle.qk_ast.specs.declared.Link.{Link}
use Rattle.qk_ast.specs.Texts.{Text}

-- The symbol of a dollar arrow, and the names that the arrow captures.
pub record Reference : Type 0 where
  pub symbol : Text
  pub captures : List Text

-- how many there are, as the tree keeps it
abbrev pub counted : {A : Type 0} → List A → List (Unit {0})
counted [] = []
counted (x ∷ rest) = tt ∷ counted rest

abbrev pub names_row : (names : List Text) → Row_of-Expr (arity (list this) (counted names))
names_row [] = end_of-Expr
names_row (name ∷ rest) = more_of-Expr (Expr.Name name) (names_row rest)

-- `[a, b]`
abbrev pub listed : List Text → Expr
listed names = Expr.List' (counted names) (names_row names)

-- calls with none, one and two arguments
abbrev pub call_of_none : Link
call_of_none = Link.Call' [] end_of-Expr

abbrev pub call_of_one : Expr → Link
call_of_one a = Link.Call' (tt ∷ []) (more_of-Expr a end_of-Expr)

abbrev pub call_of_two : Expr → Expr → Link
call_of_two a b = Link.Call' (tt ∷ tt ∷ []) (more_of-Expr a (more_of-Expr b end_of-Expr))

-- `("SYMBOL", [captures])`
abbrev pub reference_link : Reference → Link
reference_link r = call_of_two (Expr.Text r.symbol) (listed r.captures)

-- an expression with one link
abbrev pub linked : Expr → Link → Expr
linked head link = Expr.Post' tt (more_of-Expr head end_of-Expr) (tt ∷ []) (more_of-Link link end_of-Link)

-- `qrl("SYMBOL", [captures])`
abbrev pub reference : Reference → Expr
reference r = linked (Expr.Name (codes "qrl")) (reference_link r)
