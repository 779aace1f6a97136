-- The rules of the reader for steps, bodies and statements.
use Rattle.std.specs.Prelude.{ℕ, zero, suc, Bool, true, false, ◌&&◌, ◌||◌, if◌then◌else◌, List, [], ◌∷◌, ◌++◌, Option, Some, None, codes}
use Rattle.qk_ast.specs.declared.Form.{Form}
use Rattle.qk_ast.specs.declared.Expr.{Expr}
use Rattle.qk_ast.specs.declared.Expr.TheVariants as e
use Rattle.qk_ast.specs.declared.Stmt.{Stmt}
use Rattle.qk_ast.specs.declared.Stmt.TheVariants as s
use Rattle.qk_ast.specs.declared.Body.{Body as Tree_body}
use Rattle.qk_ast.specs.declared.Body.TheVariants as b
use Rattle.qk_ast.specs.declared.AssignOp.{AssignOp}
use Rattle.qk_ast.specs.Characters.{Characters, same}
use Rattle.qk_ast.specs.Tokens.{Token}
use Rattle.qk_ast.specs.Tree.{bytes}
use Rattle.qk_ast.specs.Rules.{is_built}
use Rattle.qk_reading.specs.Input.{Reader, ◌>>=◌, ◌>>◌, ◌<$>◌, pure, maybe, Read, Group, Braced, Single, Otherwise, Nested, Sign, Word, Given, first, first_is, left, refuse, peek, take_token, look, eat, expect, name, enter}
use Rattle.qk_reading.specs.Ahead.{is_member_kind, is_target_kind, assign_sign, bump_sign}
use Rattle.qk_reading.specs.Parts.{pattern, ended, scope}
use Rattle.qk_reading.specs.Forms.{nested, postfix, whole}

module _ (form : Form) (room : ℕ) (inner : Nested) where
  -- ---- steps

  abbrev pub assign_by : Expr → Option AssignOp → Reader Expr
  assign_by x (Some op) = (λ (y : Read). e.Assign op x y.tree) <$> whole form room inner
  assign_by x None = (λ (up : Option Bool). maybe up x (λ b. e.Step b x)) <$> bump_sign

  abbrev pub step_by : Read → Bool → Reader Expr
  step_by x true = assign_sign >>= assign_by (x.tree)
  step_by x false = pure (x.tree)

  unfoldable pub step : Reader Expr
  step = do
    x ← whole form room inner
    step_by x (is_target_kind (x.kind))

  abbrev pub body_by : Bool → Reader Tree_body
  body_by true = b.Block <$> inner.group (Braced false)
  body_by false = b.Value <$> step

  -- behind an arrow's `=>`
  unfoldable pub body : Reader Tree_body
  body = eat (Sign (codes "{")) >>= body_by

  -- ---- statements

  abbrev pub block_part : Bool → Bool → Reader (List Stmt)
  block_part looped true = inner.group (Braced looped)
  block_part looped false = inner.group (Single looped)

  -- what `if`, `else`, `while` and `for` hold
  unfoldable pub held : Bool → Reader (List Stmt)
  held looped = eat (Sign (codes "{")) >>= block_part looped

  -- ( e )
  unfoldable pub condition : Reader Expr
  condition = do
    expect (Sign (codes "("))
    x ← nested form room inner
    expect (Sign (codes ")"))
    pure x

  unfoldable pub declared : Reader Stmt
  declared = do
    x ← pattern room
    expect (Sign (codes "="))
    v ← whole form room inner
    expect (Sign (codes ";"))
    pure (s.Const x (v.tree))

  abbrev pub const_by : Bool → Reader Stmt
  const_by true = scope room
  const_by false = declared

  -- behind `const`
  unfoldable pub constant : Bool → Reader Stmt
  constant first = look (Sign (codes "[")) >>= (λ is_scope. const_by (is_scope && first && is_built form))

  -- behind `let`
  unfoldable pub variable : Reader Stmt
  variable = do
    a ← name
    expect (Sign (codes "="))
    v ← whole form room inner
    expect (Sign (codes ";"))
    pure (s.Let (bytes a) (v.tree))

  abbrev pub return_by : Bool → Reader Stmt
  return_by true = take_token >> pure (s.Return None)
  return_by false = step >>= (λ x. ended (s.Return (Some x)))

  -- behind `return`
  unfoldable pub returned : Reader Stmt
  returned = look (Sign (codes ";")) >>= return_by

  abbrev pub else_by : Bool → Expr → List Stmt → Bool → Reader Stmt
  else_by looped x yes' true = s.If x yes' <$> inner.group (Otherwise looped)
  else_by looped x yes' false = pure (s.If x yes' [])

  -- behind `if`
  unfoldable pub conditional : Bool → Reader Stmt
  conditional looped = do
    enter room
    x ← condition
    yes' ← held looped
    other ← eat (Word (codes "else"))
    else_by looped x yes' other

  -- behind `while`
  unfoldable pub looping : Reader Stmt
  looping = do
    enter room
    x ← condition
    s.While x <$> held true

  -- behind `for`
  unfoldable pub each : Reader Stmt
  each = do
    enter room
    expect (Sign (codes "("))
    expect (Word (codes "const"))
    a ← name
    expect (Given (codes "of"))
    x ← nested form room inner
    expect (Sign (codes ")"))
    s.ForOf (bytes a) x <$> held true

  abbrev pub delete_by : Read → Bool → Reader Stmt
  delete_by x true = ended (s.Delete (x.tree))
  delete_by x false = refuse

  -- behind `delete`
  unfoldable pub deleted : Reader Stmt
  deleted = do
    x ← postfix form room inner
    delete_by x (is_member_kind (x.kind))

  unfoldable pub done : Reader Stmt
  done = step >>= (λ x. ended (s.Do x))

  abbrev pub word_statement : Bool → Bool → Characters → Reader Stmt
  word_statement looped first a = if same a (codes "const") then take_token >> constant first
      else (if same a (codes "let") then take_token >> variable
      else (if same a (codes "return") then take_token >> returned
      else (if same a (codes "if") then take_token >> conditional looped
      else (if same a (codes "while") then take_token >> looping
      else (if same a (codes "for") then take_token >> each
      else (if same a (codes "break") && looped then take_token >> ended s.Break
      else (if same a (codes "continue") && looped then take_token >> ended s.Continue
      else (if same a (codes "delete") then take_token >> deleted else done))))))))

  abbrev pub statement_by : Bool → Bool → Option Token → Reader Stmt
  statement_by looped first (Some (Token.Reserved a)) = word_statement looped first a
  statement_by looped first (Some (Token.Punct a)) = if same a (codes "{") then take_token >> (s.Block <$> inner.group (Braced looped)) else done
  statement_by looped first _ = done

  unfoldable pub statement : Bool → Bool → Reader Stmt
  statement looped first = peek >>= statement_by looped first

  -- statements up to `}`
  unfoldable pub statements_from : Bool → Bool → ℕ → List Stmt → Reader (List Stmt)
  statements_from looped first zero found = refuse
  statements_from looped first (suc n) found = do
    ended ← look (Sign (codes "}"))
    if ended then pure found else (statement looped first >>= (λ x. statements_from looped false n (found ++ x ∷ [])))

  unfoldable pub block : Bool → Reader (List Stmt)
  block looped i = (statements_from looped true (left i) [] >>= (λ xs. expect (Sign (codes "}")) >> pure xs)) i

  -- no declaration stands alone
  abbrev pub single_by : Bool → Bool → Reader (List Stmt)
  single_by looped true = refuse
  single_by looped false = (λ x. x ∷ []) <$> statement looped false

  unfoldable pub single : Bool → Reader (List Stmt)
  single looped i = single_by looped (first_is (Word (codes "const")) i.tokens || first_is (Word (codes "let")) i.tokens) i

  unfoldable pub group : Group → Reader (List Stmt)
  group (Braced looped) = block looped
  group (Single looped) = single looped
  group (Otherwise looped) = enter room >> held looped
