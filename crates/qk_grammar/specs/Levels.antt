-- What reads an operand of a level.
use Rattle.std.specs.Prelude.{ℕ, codes}
use Rattle.qk_ast.specs.declared.Expr.{Expr}
use Rattle.qk_ast.specs.declared.Form.{Form}
use Rattle.qk_ast.specs.Grammar.{Level, Or_level, Coalesce_level, And_level, Same_level, Order_level, Sum_level, Product_level}
use Rattle.qk_reading.specs.Input.{Input, Outcome, Reader, Read, ◌>>=◌, ◌>>◌, pure, expect, Sign}
use Rattle.qk_reading.specs.Forms.{nested, unary, product, sum, order, equality, conjunction}
use Rattle.qk_reading.specs.Parts.{arrow_head, later_fault}
use Rattle.qk_reading.specs.Reader.{nesting}

abbrev pub tighter_of : Form → ℕ → Level → Reader Read
tighter_of form room Or_level = conjunction form room (nesting form room)
tighter_of form room Coalesce_level = equality form room (nesting form room)
tighter_of form room And_level = equality form room (nesting form room)
tighter_of form room Same_level = order form room (nesting form room)
tighter_of form room Order_level = sum form room (nesting form room)
tighter_of form room Sum_level = product form room (nesting form room)
tighter_of form room Product_level = unary form room (nesting form room)

-- what a choice has behind its `?`
abbrev pub branches : Form → ℕ → Reader (Expr × Expr)
branches form room = do
  yes' ← nested form room (nesting form room)
  expect (Sign (codes ":"))
  no' ← nested form room (nesting form room)
  pure (yes', no')

-- the later of an expression's fault and that of an arrow's head
abbrev pub later_head : ℕ → Input → ℕ → Outcome Read
later_head room i left = later_fault (arrow_head room i) left
