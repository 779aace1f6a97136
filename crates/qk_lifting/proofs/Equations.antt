-- Lifted code of each form, over the lists that it holds.
use Rattle.std.specs.Prelude.{◌≡◌, refl, ℕ, List, [], ◌∷◌, map, Some}
use Rattle.std.proofs.Common.{ap}
use denote.Hole.Carrier.{hidden, roll}
use Rattle.qk_ast.specs.declared.Body.TheBlock.{shape-the_row-Expr-0, hidden-the_row-Expr-0, hidden-the_row-Expr-2, hidden-the_row-Stmt-1, hidden-the_row-Field-3, hidden-the_row-Operand-4, hidden-the_row-Link-5, shape-the_row-Arrow-6, hidden-the_row-Arrow-6, shape-the_row-Jsx-7, hidden-the_row-Jsx-7}
use Rattle.qk_ast.specs.declared.Expr.{Expr, more_of-Expr, more_of-Field, more_of-Operand, more_of-Link}
use Rattle.qk_ast.specs.declared.Expr.TheVariants as e
use Rattle.qk_ast.specs.declared.Stmt.{Stmt, Block' as Statement_block', more_of-Stmt}
use Rattle.qk_ast.specs.declared.Stmt.TheVariants as s
use Rattle.qk_ast.specs.declared.Link.{Link}
use Rattle.qk_ast.specs.declared.Link.TheVariants as l
use Rattle.qk_ast.specs.declared.Body.{Body, Block' as Body_block'}
use Rattle.qk_ast.specs.declared.Body.TheVariants as b
use Rattle.qk_ast.specs.declared.Jsx.{Jsx, Jsx', roll-Jsx}
use Rattle.qk_ast.specs.declared.Tag.{Tag}
use Rattle.qk_ast.specs.declared.Pattern.{Pattern}
use Rattle.qk_ast.specs.declared.Un.{Un}
use Rattle.qk_ast.specs.declared.AssignOp.{AssignOp}
use Rattle.qk_ast.specs.declared.Known.{Known}
use Rattle.qk_ast.specs.declared.Field.{Field}
use Rattle.qk_ast.specs.declared.Operand.{Operand}
use Rattle.qk_ast.specs.Texts.{Text}
use Rattle.qk_lifting.specs.Kinds.{Place, Unmarked, argument_place}
use Rattle.qk_lifting.specs.References.{Reference}
use Rattle.qk_lifting.specs.Lifting.{lifted, links_lifted, link_lifted, jsx_lifted, body_lifted, statement_lifted}
use Rattle.qk_lifting.specs.Lists.{expressions_of, field_of, attribute_of, operand_of, links_of, statements_of}

-- ---- one more at the front of what a form holds

item : Expr → Expr → Expr
item x (Expr.List' n all) = Expr.List' (tt ∷ n) (more_of-Expr x all)
item x (Expr.Template' parts n all) = Expr.Template' parts (tt ∷ n) (more_of-Expr x all)
item x (Expr.Known' known n all) = Expr.Known' known (tt ∷ n) (more_of-Expr x all)
item x other = other

field : Field → Expr → Expr
field f (Expr.Record' n all) = Expr.Record' (tt ∷ n) (more_of-Field f.key f.value all)
field f other = other

operand : Operand → Expr → Expr
operand o (Expr.Chain' m first n all) = Expr.Chain' m first (tt ∷ n) (more_of-Operand o.op o.value all)
operand o other = other

link : Link → Expr → Expr
link l (Expr.Post' m head n all) = Expr.Post' m head (tt ∷ n) (more_of-Link l all)
link l other = other

-- ---- expressions

pub lifted_list : (refer : ℕ → Reference) (xs : List Expr) (there : Place) → lifted refer (e.List xs) there ≡ e.List (expressions_of refer Unmarked xs)
unfolding item hidden-the_row-Expr-2 hidden
lifted_list refer [] there = refl
lifted_list refer (x ∷ xs) there = ap (item (lifted refer x Unmarked)) (lifted_list refer xs there)

pub lifted_template : (refer : ℕ → Reference) (parts : List Text) (xs : List Expr) (there : Place) → lifted refer (e.Template parts xs) there ≡ e.Template parts (expressions_of refer Unmarked xs)
unfolding item hidden-the_row-Expr-2 hidden
lifted_template refer parts [] there = refl
lifted_template refer parts (x ∷ xs) there = ap (item (lifted refer x Unmarked)) (lifted_template refer parts xs there)

pub lifted_known : (refer : ℕ → Reference) (known : Known) (xs : List Expr) (there : Place) → lifted refer (e.Known known xs) there ≡ e.Known known (expressions_of refer Unmarked xs)
unfolding item hidden-the_row-Expr-2 hidden
lifted_known refer known [] there = refl
lifted_known refer known (x ∷ xs) there = ap (item (lifted refer x Unmarked)) (lifted_known refer known xs there)

pub lifted_record : (refer : ℕ → Reference) (fs : List Field) (there : Place) → lifted refer (e.Record fs) there ≡ e.Record (map (field_of refer) fs)
unfolding field hidden-the_row-Field-3 hidden
lifted_record refer [] there = refl
lifted_record refer (f ∷ fs) there = ap (field (field_of refer f)) (lifted_record refer fs there)

pub lifted_unary : (refer : ℕ → Reference) (op : Un) (x : Expr) (there : Place) → lifted refer (e.Unary op x) there ≡ e.Unary op (lifted refer x Unmarked)
unfolding shape-the_row-Expr-0 hidden-the_row-Expr-0 hidden
lifted_unary refer op x there = refl

pub lifted_chain : (refer : ℕ → Reference) (x : Expr) (os : List Operand) (there : Place) → lifted refer (e.Chain x os) there ≡ e.Chain (lifted refer x Unmarked) (map (operand_of refer) os)
unfolding operand shape-the_row-Expr-0 hidden-the_row-Expr-0 hidden-the_row-Operand-4 hidden
lifted_chain refer x [] there = refl
lifted_chain refer x (o ∷ os) there = ap (operand (operand_of refer o)) (lifted_chain refer x os there)

pub lifted_choice : (refer : ℕ → Reference) (x y z : Expr) (there : Place) → lifted refer (e.Cond x y z) there ≡ e.Cond (lifted refer x Unmarked) (lifted refer y Unmarked) (lifted refer z Unmarked)
unfolding shape-the_row-Expr-0 hidden-the_row-Expr-0 hidden
lifted_choice refer x y z there = refl

pub lifted_assign : (refer : ℕ → Reference) (op : AssignOp) (target x : Expr) (there : Place) → lifted refer (e.Assign op target x) there ≡ e.Assign op (lifted refer target Unmarked) (lifted refer x Unmarked)
unfolding shape-the_row-Expr-0 hidden-the_row-Expr-0 hidden
lifted_assign refer op target x there = refl

pub lifted_step : (refer : ℕ → Reference) (up : _) (target : Expr) (there : Place) → lifted refer (e.Step up target) there ≡ e.Step up (lifted refer target Unmarked)
unfolding shape-the_row-Expr-0 hidden-the_row-Expr-0 hidden
lifted_step refer up target there = refl

pub lifted_plain_arrow : (refer : ℕ → Reference) (place : ℕ) (params : List Pattern) (x : Body)
    → lifted refer (e.Arrow (record { place = place; params = params; body = x })) Unmarked ≡ e.Arrow (record { place = place; params = params; body = body_lifted refer x })
unfolding shape-the_row-Arrow-6 hidden-the_row-Arrow-6 hidden
lifted_plain_arrow refer place params x = refl

-- a postfix form whose links are lifted alone
abbrev links_alone : (ℕ → Reference) → Place → Expr → Expr
links_alone refer there (Expr.Post' m head n all) = Expr.Post' m head n (links_lifted refer all there)
links_alone refer there other = other

links_row : (refer : ℕ → Reference) (there : Place) (x : Expr) (ls : List Link) → links_alone refer there (e.Post x ls) ≡ e.Post x (links_of refer there ls)
unfolding link shape-the_row-Expr-0 hidden-the_row-Expr-0 hidden-the_row-Link-5 hidden
links_row refer there x [] = refl
links_row refer there x (y ∷ ls) = ap (link (link_lifted refer y there)) (links_row refer Unmarked x ls)

pub lifted_post : (refer : ℕ → Reference) (x : Expr) (ls : List Link) (there : Place) → lifted refer (e.Post x ls) there ≡ e.Post (lifted refer x Unmarked) (links_of refer (argument_place x) ls)
unfolding shape-the_row-Expr-0 hidden-the_row-Expr-0 hidden
lifted_post refer x ls there = links_row refer (argument_place x) (lifted refer x Unmarked) ls

-- ---- statements

statement : Stmt → Stmt → Stmt
statement s (Statement_block' n all) = Statement_block' (tt ∷ n) (more_of-Stmt s all)
statement s (Stmt.While' x n all) = Stmt.While' x (tt ∷ n) (more_of-Stmt s all)
statement s (Stmt.ForOf' name x n all) = Stmt.ForOf' name x (tt ∷ n) (more_of-Stmt s all)
statement s other = other

first_statement : Body → Stmt → Body
first_statement (Body_block' n all) s = Body_block' (tt ∷ n) (more_of-Stmt s all)
first_statement other s = other

pub lifted_block : (refer : ℕ → Reference) (ss : List Stmt) → statement_lifted refer (s.Block ss) ≡ s.Block (statements_of refer ss)
unfolding statement hidden-the_row-Stmt-1 hidden
lifted_block refer [] = refl
lifted_block refer (x ∷ ss) = ap (statement (statement_lifted refer x)) (lifted_block refer ss)

pub lifted_while : (refer : ℕ → Reference) (x : Expr) (ss : List Stmt) → statement_lifted refer (s.While x ss) ≡ s.While (lifted refer x Unmarked) (statements_of refer ss)
unfolding statement hidden-the_row-Stmt-1 hidden
lifted_while refer x [] = refl
lifted_while refer x (y ∷ ss) = ap (statement (statement_lifted refer y)) (lifted_while refer x ss)

pub lifted_for : (refer : ℕ → Reference) (name : Text) (x : Expr) (ss : List Stmt) → statement_lifted refer (s.ForOf name x ss) ≡ s.ForOf name (lifted refer x Unmarked) (statements_of refer ss)
unfolding statement hidden-the_row-Stmt-1 hidden
lifted_for refer name x [] = refl
lifted_for refer name x (y ∷ ss) = ap (statement (statement_lifted refer y)) (lifted_for refer name x ss)

pub lifted_body : (refer : ℕ → Reference) (ss : List Stmt) → body_lifted refer (b.Block ss) ≡ b.Block (statements_of refer ss)
unfolding first_statement hidden-the_row-Stmt-1 hidden
lifted_body refer [] = refl
lifted_body refer (x ∷ ss) = ap (λ body. first_statement body (statement_lifted refer x)) (lifted_body refer ss)

pub lifted_value : (refer : ℕ → Reference) (x : Expr) → body_lifted refer (b.Value x) ≡ b.Value (lifted refer x Unmarked)
unfolding shape-the_row-Expr-0 hidden-the_row-Expr-0 hidden
lifted_value refer x = refl

then_statement : Stmt → Stmt → Stmt
then_statement s (Stmt.If' x m then n otherwise) = Stmt.If' x (tt ∷ m) (more_of-Stmt s then) n otherwise
then_statement s other = other

else_statement : Stmt → Stmt → Stmt
else_statement s (Stmt.If' x m then n otherwise) = Stmt.If' x m then (tt ∷ n) (more_of-Stmt s otherwise)
else_statement s other = other

pub lifted_if : (refer : ℕ → Reference) (x : Expr) (ss ts : List Stmt) → statement_lifted refer (s.If x ss ts) ≡ s.If (lifted refer x Unmarked) (statements_of refer ss) (statements_of refer ts)
unfolding then_statement else_statement hidden-the_row-Stmt-1 hidden
lifted_if refer x [] [] = refl
lifted_if refer x [] (y ∷ ts) = ap (else_statement (statement_lifted refer y)) (lifted_if refer x [] ts)
lifted_if refer x (y ∷ ss) ts = ap (then_statement (statement_lifted refer y)) (lifted_if refer x ss ts)

pub lifted_return : (refer : ℕ → Reference) (x : Expr) → statement_lifted refer (s.Return (Some x)) ≡ s.Return (Some (lifted refer x Unmarked))
lifted_return refer x = refl

-- ---- links and elements

argument : Expr → Link → Link
argument x (Link.Call' n all) = Link.Call' (tt ∷ n) (more_of-Expr x all)
argument x other = other

pub lifted_call : (refer : ℕ → Reference) (xs : List Expr) → link_lifted refer (l.Call xs) Unmarked ≡ l.Call (expressions_of refer Unmarked xs)
unfolding argument hidden-the_row-Expr-2 hidden
lifted_call refer [] = refl
lifted_call refer (x ∷ xs) = ap (argument (lifted refer x Unmarked)) (lifted_call refer xs)

attribute : Field → Jsx → Jsx
attribute f (Jsx' tag m attributes n children) = Jsx' tag (tt ∷ m) (more_of-Field f.key f.value attributes) n children

child : Expr → Jsx → Jsx
child x (Jsx' tag m attributes n children) = Jsx' tag m attributes (tt ∷ n) (more_of-Expr x children)

pub lifted_element : (refer : ℕ → Reference) (tag : Tag) (fs : List Field) (xs : List Expr)
    → jsx_lifted refer (roll-Jsx (record { tag = tag; attrs = fs; children = xs })) ≡ roll-Jsx (record { tag = tag; attrs = map (attribute_of refer) fs; children = expressions_of refer Unmarked xs })
unfolding attribute child roll-Jsx hidden-the_row-Expr-2 hidden-the_row-Field-3 hidden roll
lifted_element refer tag [] [] = refl
lifted_element refer tag [] (x ∷ xs) = ap (child (lifted refer x Unmarked)) (lifted_element refer tag [] xs)
lifted_element refer tag (f ∷ fs) xs = ap (attribute (attribute_of refer f)) (lifted_element refer tag fs xs)

pub lifted_markup : (refer : ℕ → Reference) (jsx : Jsx) (there : Place) → lifted refer (e.Jsx jsx) there ≡ e.Jsx (jsx_lifted refer jsx)
unfolding shape-the_row-Jsx-7 hidden-the_row-Jsx-7 hidden
lifted_markup refer jsx there = refl
