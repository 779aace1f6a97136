-- Function values that read what nests so many levels deeper.
use Rattle.std.specs.Prelude.{ℕ, List, Result}
use Rattle.std.specs.declared.alloc.Global.{Global}
use denote.Ref.{MutBor}
use Rattle.qk_ast.specs.declared.Body.{Body}
use Rattle.qk_ast.specs.declared.Form.{Form}
use Rattle.qk_ast.specs.declared.Stmt.{Stmt}
use Rattle.qk_reading.specs.Input.{Input}
use Rattle.qk_reading.specs.Reader.{nesting}
use Rattle.qk_token.specs.declared.fault.Fault.{Fault}
use Rattle.qk_token.specs.Reads.{Reads, ReadsAs}
use Rattle.qk_grammar.specs.declared.read.Read.{Read}
use Rattle.qk_grammar.specs.declared.read.Inner.{Inner}
use Rattle.qk_grammar.specs.declared.read.Group.{Group}
use Rattle.qk_grammar.specs.Seen.{read_of, inner_of, group_of}

-- an expression, an operand or an element
pub record Values (form : Form) (room : ℕ) (pre : Global → MutBor Input → Form → ℕ → Inner → Type 0)
    (post : Global → MutBor Input → Form → ℕ → Inner → Result Read Fault → MutBor Input → Type 0) : Type 0 where
  pub callable : (alloc : Global) (old : MutBor Input) (which : Inner) → pre alloc old form room which
  pub reads : (alloc : Global) (old new : MutBor Input) (which : Inner) (r : Result Read Fault) → post alloc old form room which r new
      → ReadsAs read_of ((nesting form room).value (inner_of which) old.now) r new.now

-- an arrow's body
pub record Bodies (form : Form) (room : ℕ) (pre : Global → MutBor Input → Form → ℕ → Type 0)
    (post : Global → MutBor Input → Form → ℕ → Result Body Fault → MutBor Input → Type 0) : Type 0 where
  pub callable : (alloc : Global) (old : MutBor Input) → pre alloc old form room
  pub reads : (alloc : Global) (old new : MutBor Input) (r : Result Body Fault) → post alloc old form room r new
      → Reads ((nesting form room).body old.now) r new.now

-- a block's statements, or those of a part that is none
pub record Groups (form : Form) (room : ℕ) (pre : Global → MutBor Input → Form → ℕ → Group → Type 0)
    (post : Global → MutBor Input → Form → ℕ → Group → Result (List Stmt) Fault → MutBor Input → Type 0) : Type 0 where
  pub callable : (alloc : Global) (old : MutBor Input) (which : Group) → pre alloc old form room which
  pub reads : (alloc : Global) (old new : MutBor Input) (which : Group) (r : Result (List Stmt) Fault) → post alloc old form room which r new
      → Reads ((nesting form room).group (group_of which) old.now) r new.now
