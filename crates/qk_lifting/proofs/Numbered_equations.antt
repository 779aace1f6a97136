-- Numbered code of each form, over the lists that it holds.
use Rattle.std.specs.Prelude.{◌≡◌, refl, ℕ, ◌+◌, List, [], ◌∷◌}
use Rattle.std.proofs.Common.{ap}
use denote.Hole.Carrier.{hidden}
use Rattle.qk_ast.specs.declared.Body.TheBlock.{shape-the_row-Expr-0, hidden-the_row-Expr-0, hidden-the_row-Expr-2, hidden-the_row-Stmt-1, hidden-the_row-Field-3, hidden-the_row-Operand-4, hidden-the_row-Link-5, shape-the_row-Arrow-6, hidden-the_row-Arrow-6}
use Rattle.qk_ast.specs.declared.Expr.{Expr, more_of-Expr, more_of-Field, more_of-Operand, more_of-Link}
use Rattle.qk_ast.specs.declared.Expr.TheVariants as e
use Rattle.qk_ast.specs.declared.Stmt.{Stmt, Block' as Statement_block', more_of-Stmt}
use Rattle.qk_ast.specs.declared.Stmt.TheVariants as s
use Rattle.qk_ast.specs.declared.Link.{Link}
use Rattle.qk_ast.specs.declared.Link.TheVariants as l
use Rattle.qk_ast.specs.declared.Body.{Body, Block' as Body_block'}
use Rattle.qk_ast.specs.declared.Body.TheVariants as b
use Rattle.qk_ast.specs.declared.Pattern.{Pattern}
use Rattle.qk_ast.specs.declared.Un.{Un}
use Rattle.qk_ast.specs.declared.AssignOp.{AssignOp}
use Rattle.qk_ast.specs.declared.Known.{Known}
use Rattle.qk_ast.specs.declared.Field.{Field}
use Rattle.qk_ast.specs.declared.Operand.{Operand}
use Rattle.qk_ast.specs.Texts.{Text}
use Rattle.qk_lifting.specs.Numbering.{count, link_count, statement_count, numbered, links_numbered, operands_numbered, link_numbered, statement_numbered, body_numbered}
use Rattle.qk_lifting.specs.Numbered_lists.{expressions_from, fields_from, operands_from, links_from, statements_from}

-- ---- one more at the front of what a form holds

item : Expr → Expr → Expr
item x (Expr.List' n all) = Expr.List' (tt ∷ n) (more_of-Expr x all)
item x (Expr.Template' parts n all) = Expr.Template' parts (tt ∷ n) (more_of-Expr x all)
item x (Expr.Known' known n all) = Expr.Known' known (tt ∷ n) (more_of-Expr x all)
item x other = other

field : Field → Expr → Expr
field f (Expr.Record' n all) = Expr.Record' (tt ∷ n) (more_of-Field f.key f.value all)
field f other = other

operand : Operand → Expr → Expr
operand o (Expr.Chain' m first n all) = Expr.Chain' m first (tt ∷ n) (more_of-Operand o.op o.value all)
operand o other = other

link : Link → Expr → Expr
link l (Expr.Post' m head n all) = Expr.Post' m head (tt ∷ n) (more_of-Link l all)
link l other = other

statement : Stmt → Stmt → Stmt
statement s (Statement_block' n all) = Statement_block' (tt ∷ n) (more_of-Stmt s all)
statement s other = other

first_statement : Stmt → Body → Body
first_statement s (Body_block' n all) = Body_block' (tt ∷ n) (more_of-Stmt s all)
first_statement s other = other

argument : Expr → Link → Link
argument x (Link.Call' n all) = Link.Call' (tt ∷ n) (more_of-Expr x all)
argument x other = other

-- ---- expressions

pub numbered_list : (xs : List Expr) (n : ℕ) → numbered n (e.List xs) ≡ e.List (expressions_from n xs)
unfolding item hidden-the_row-Expr-2 hidden
numbered_list [] n = refl
numbered_list (x ∷ xs) n = ap (item (numbered n x)) (numbered_list xs (n + count x))

pub numbered_template : (parts : List Text) (xs : List Expr) (n : ℕ) → numbered n (e.Template parts xs) ≡ e.Template parts (expressions_from n xs)
unfolding item hidden-the_row-Expr-2 hidden
numbered_template parts [] n = refl
numbered_template parts (x ∷ xs) n = ap (item (numbered n x)) (numbered_template parts xs (n + count x))

pub numbered_known : (known : Known) (xs : List Expr) (n : ℕ) → numbered n (e.Known known xs) ≡ e.Known known (expressions_from n xs)
unfolding item hidden-the_row-Expr-2 hidden
numbered_known known [] n = refl
numbered_known known (x ∷ xs) n = ap (item (numbered n x)) (numbered_known known xs (n + count x))

pub numbered_record : (fs : List Field) (n : ℕ) → numbered n (e.Record fs) ≡ e.Record (fields_from n fs)
unfolding field hidden-the_row-Field-3 hidden
numbered_record [] n = refl
numbered_record (f ∷ fs) n = ap (field (record { key = f.key; value = numbered n f.value })) (numbered_record fs (n + count f.value))

pub numbered_unary : (op : Un) (x : Expr) (n : ℕ) → numbered n (e.Unary op x) ≡ e.Unary op (numbered n x)
unfolding shape-the_row-Expr-0 hidden-the_row-Expr-0 hidden
numbered_unary op x n = refl

pub numbered_choice : (x y z : Expr) (n : ℕ) → numbered n (e.Cond x y z) ≡ e.Cond (numbered n x) (numbered (n + count x) y) (numbered (n + count x + count y) z)
unfolding shape-the_row-Expr-0 hidden-the_row-Expr-0 hidden
numbered_choice x y z n = refl

pub numbered_assign : (op : AssignOp) (target x : Expr) (n : ℕ) → numbered n (e.Assign op target x) ≡ e.Assign op (numbered n target) (numbered (n + count target) x)
unfolding shape-the_row-Expr-0 hidden-the_row-Expr-0 hidden
numbered_assign op target x n = refl

pub numbered_step : (up : _) (target : Expr) (n : ℕ) → numbered n (e.Step up target) ≡ e.Step up (numbered n target)
unfolding shape-the_row-Expr-0 hidden-the_row-Expr-0 hidden
numbered_step up target n = refl

pub numbered_arrow : (place : ℕ) (params : List Pattern) (x : Body) (n : ℕ)
    → numbered n (e.Arrow (record { place = place; params = params; body = x })) ≡ e.Arrow (record { place = n; params = params; body = body_numbered (n + 1) x })
unfolding shape-the_row-Arrow-6 hidden-the_row-Arrow-6 hidden
numbered_arrow place params x n = refl

-- a chain whose operands, and a postfix form whose links, are numbered alone
abbrev operands_alone : ℕ → Expr → Expr
operands_alone n (Expr.Chain' m first k all) = Expr.Chain' m first k (operands_numbered n all)
operands_alone n other = other

abbrev links_alone : ℕ → Expr → Expr
links_alone n (Expr.Post' m head k all) = Expr.Post' m head k (links_numbered n all)
links_alone n other = other

operands_row : (x : Expr) (os : List Operand) (n : ℕ) → operands_alone n (e.Chain x os) ≡ e.Chain x (operands_from n os)
unfolding operand shape-the_row-Expr-0 hidden-the_row-Expr-0 hidden-the_row-Operand-4 hidden
operands_row x [] n = refl
operands_row x (o ∷ os) n = ap (operand (record { op = o.op; value = numbered n o.value })) (operands_row x os (n + count o.value))

links_row : (x : Expr) (ls : List Link) (n : ℕ) → links_alone n (e.Post x ls) ≡ e.Post x (links_from n ls)
unfolding link shape-the_row-Expr-0 hidden-the_row-Expr-0 hidden-the_row-Link-5 hidden
links_row x [] n = refl
links_row x (y ∷ ls) n = ap (link (link_numbered n y)) (links_row x ls (n + link_count y))

pub numbered_chain : (x : Expr) (os : List Operand) (n : ℕ) → numbered n (e.Chain x os) ≡ e.Chain (numbered n x) (operands_from (n + count x) os)
unfolding shape-the_row-Expr-0 hidden-the_row-Expr-0 hidden
numbered_chain x os n = operands_row (numbered n x) os (n + count x)

pub numbered_post : (x : Expr) (ls : List Link) (n : ℕ) → numbered n (e.Post x ls) ≡ e.Post (numbered n x) (links_from (n + count x) ls)
unfolding shape-the_row-Expr-0 hidden-the_row-Expr-0 hidden
numbered_post x ls n = links_row (numbered n x) ls (n + count x)

-- ---- links, blocks, bodies

pub numbered_call : (xs : List Expr) (n : ℕ) → link_numbered n (l.Call xs) ≡ l.Call (expressions_from n xs)
unfolding argument hidden-the_row-Expr-2 hidden
numbered_call [] n = refl
numbered_call (x ∷ xs) n = ap (argument (numbered n x)) (numbered_call xs (n + count x))

pub numbered_block : (ss : List Stmt) (n : ℕ) → statement_numbered n (s.Block ss) ≡ s.Block (statements_from n ss)
unfolding statement hidden-the_row-Stmt-1 hidden
numbered_block [] n = refl
numbered_block (x ∷ ss) n = ap (statement (statement_numbered n x)) (numbered_block ss (n + statement_count x))

pub numbered_body : (ss : List Stmt) (n : ℕ) → body_numbered n (b.Block ss) ≡ b.Block (statements_from n ss)
unfolding first_statement hidden-the_row-Stmt-1 hidden
numbered_body [] n = refl
numbered_body (x ∷ ss) n = ap (first_statement (statement_numbered n x)) (numbered_body ss (n + statement_count x))

pub numbered_value : (x : Expr) (n : ℕ) → body_numbered n (b.Value x) ≡ b.Value (numbered n x)
unfolding shape-the_row-Expr-0 hidden-the_row-Expr-0 hidden
numbered_value x n = refl
