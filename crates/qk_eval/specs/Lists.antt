-- The meaning of what the evaluator does in steps of its own.
use Rattle.std.specs.Prelude.{List, [], ◌∷◌, ◌++◌}
use Rattle.qk_ast.specs.declared.Expr.{Expr}
use Rattle.qk_ast.specs.declared.Field.{Field}
use Rattle.qk_ast.specs.declared.Stmt.{Stmt}
use Rattle.qk_ast.specs.declared.Tag.{Tag}
use Rattle.qk_ast.specs.declared.Body.TheBlock.{hidden-the_row-Expr-2}
use Rattle.qk_ast.specs.Texts.{Text}
use Rattle.qk_meaning.specs.Value.{Value, Fields, Shown, end, field}
use Rattle.qk_meaning.specs.Doing.{Doing, ◌>>=◌, ◌>>◌, give, chosen, each}
use Rattle.qk_meaning.specs.Running.{Running, assigned, locals_become}
use Rattle.qk_meaning.specs.Setting.{Setting}
use Rattle.qk_meaning.specs.Flow.{Flow, opened, scoped, repeated_for}
use Rattle.qk_meaning.specs.Parts.{zipped}
use Rattle.qk_meaning.specs.Making.{tag_told, shown_of}
use Rattle.qk_meaning.specs.Calls.{Callee, is_qrl, call}
use Rattle.qk_meaning.specs.Evaluation.{lifted_value, own_names, parameters_bound, body_value, inside}
use Rattle.qk_meaning.specs.In_order.{values_in, fields_in, block_ran}
use Rattle.qk_code.specs.declared.func.Func.{Func}
use Rattle.qk_code.specs.Standing.{code_of}

-- what was given so far, and then what is given of each
abbrev pub each_after : {A B : Type 0} → (A → Doing Running B) → List B → List A → Doing Running (List B)
each_after f so_far all = do
  rest ← each f all
  give (so_far ++ rest)

-- fields behind others
abbrev pub behind : Fields → Fields → Fields
behind end rest = rest
behind (field name v more) rest = field name v (behind more rest)

-- the fields so far, and then those with the values of expressions
abbrev pub fields_after : Setting → Fields → List Field → Doing Running Fields
fields_after here so_far all = do
  rest ← fields_in here all
  give (behind so_far rest)

-- what a tag shows, which is told where it names a component
abbrev pub tag_shown : Setting → Tag → Doing Running Shown
tag_shown here tag = do
  tag_told here tag
  give (shown_of here tag)

-- `qrl` with these arguments
abbrev pub lifted_of : Setting → List Expr → Doing Running Value
lifted_of here arguments = lifted_value (hidden-the_row-Expr-2 arguments) here

-- a call of what is called
abbrev pub call_made : Setting → Callee → List Expr → Doing Running Value
call_made here c arguments = chosen (is_qrl c) (lifted_of here arguments) (◌>>=◌ (values_in here arguments) (call here c))

-- a turn of a `for`, where the name is the item
abbrev pub turn_ran : Setting → Text → List Stmt → Value → Doing Running Flow
turn_ran here name statements item = scoped (name ∷ []) (◌>>◌ (assigned name item) (block_ran here statements))

-- the turns of a `for`, one for each item
abbrev pub each_ran : Setting → Text → List Stmt → List Value → Doing Running Flow
each_ran here name statements items = repeated_for (turn_ran here name statements) items

-- what is done inside an arrow that is entered, where its captures stand in scope
abbrev pub arrow_ran : Setting → Func → List Value → Doing Running Value
arrow_ran here f arguments = ◌>>◌ (locals_become (opened (own_names (code_of f)))) (◌>>◌ (parameters_bound here (code_of f) arguments) (body_value f.arrow.body here))

-- an arrow that is entered, with the values of its captures
abbrev pub arrow_entered : Setting → Func → List Value → List Value → Doing Running Value
arrow_entered here f captured arguments = inside (code_of f) here (zipped f.captures captured) arguments
