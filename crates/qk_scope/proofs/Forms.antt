-- The mentions of each form of the tree: those of its parts, one after another.
use Rattle.std.specs.Prelude.{◌≡◌, refl, ◌<◌, Bool, true, false, List, [], ◌∷◌, ◌++◌, length, drop, flat_map, Option, Some, None}
use Rattle.std.proofs.Common.{sym, ◌∙◌, ap, arith}
use Rattle.std.proofs.lemmas.List.{append-nil}
use denote.Hole.Carrier.{hidden, roll}
use Rattle.qk_ast.specs.declared.Body.TheBlock.{shape-the_row-Expr-0, hidden-the_row-Expr-0, hidden-the_row-Expr-2, hidden-the_row-Stmt-1, hidden-the_row-Field-3, hidden-the_row-Operand-4, hidden-the_row-Link-5, shape-the_row-Arrow-6, hidden-the_row-Arrow-6, shape-the_row-Jsx-7, hidden-the_row-Jsx-7}
use Rattle.qk_ast.specs.declared.Expr.{Expr}
use Rattle.qk_ast.specs.declared.Expr.TheVariants as e
use Rattle.qk_ast.specs.declared.Stmt.{Stmt}
use Rattle.qk_ast.specs.declared.Stmt.TheVariants as s
use Rattle.qk_ast.specs.declared.Link.{Link}
use Rattle.qk_ast.specs.declared.Link.TheVariants as l
use Rattle.qk_ast.specs.declared.Arrow.{Arrow}
use Rattle.qk_ast.specs.declared.Body.TheVariants as b
use Rattle.qk_ast.specs.declared.Un.{Un}
use Rattle.qk_ast.specs.declared.AssignOp.{AssignOp}
use Rattle.qk_ast.specs.declared.Known.{Known}
use Rattle.qk_ast.specs.declared.Pattern.{Pattern}
use Rattle.qk_ast.specs.declared.Tag.{Tag}
use Rattle.qk_ast.specs.declared.Jsx.{Jsx, roll-Jsx, out-Jsx, roll-out-Jsx}
use Rattle.qk_ast.specs.declared.Field.{Field}
use Rattle.qk_ast.specs.declared.Operand.{Operand}
use Rattle.qk_ast.specs.Texts.{Text}
use Rattle.qk_ast.specs.Names.{pattern_names}
use Rattle.qk_ast.specs.Arrows.{Mark, Unmarked, call_mark}
use Rattle.qk_ast.specs.Scopes.{Scope, declarations, declarations_of, block_scope, behind}
use Rattle.qk_ast.specs.Mentions.{Mention, Declares, declared_after, mentions, all_mentions, field_mentions, attribute_mentions, operand_mentions, link_mentions, jsx_mentions, tag_mentions, statement_mentions, block_mentions}
use Rattle.qk_locals.specs.Layers.{block_of, for_of, own}
use Rattle.qk_scope.specs.Parts.{part_of, field_part, attribute_part, operand_part, link_part, links_part, target_part, returned_part, arrow_part, row_part, block_part, statement_part, statements_part, body_part, for_part}

-- ---- rows are their lists

all_row : (xs : List Expr) (mark : Mark) (scopes : List Scope) → all_mentions (hidden-the_row-Expr-2 xs) mark scopes ≡ flat_map (part_of mark scopes) xs
unfolding hidden-the_row-Expr-2 hidden
all_row [] mark scopes = refl
all_row (x ∷ xs) mark scopes = ap (λ ms. mentions x mark scopes ++ ms) (all_row xs mark scopes)

fields_row : (fs : List Field) (scopes : List Scope) → field_mentions (hidden-the_row-Field-3 fs) scopes ≡ flat_map (field_part scopes) fs
unfolding hidden-the_row-Field-3 hidden
fields_row [] scopes = refl
fields_row (f ∷ fs) scopes = ap (λ ms. field_part scopes f ++ ms) (fields_row fs scopes)

attributes_row : (fs : List Field) (scopes : List Scope) → attribute_mentions (hidden-the_row-Field-3 fs) scopes ≡ flat_map (attribute_part scopes) fs
unfolding hidden-the_row-Field-3 hidden
attributes_row [] scopes = refl
attributes_row (f ∷ fs) scopes = ap (λ ms. attribute_part scopes f ++ ms) (attributes_row fs scopes)

operands_row : (os : List Operand) (scopes : List Scope) → operand_mentions (hidden-the_row-Operand-4 os) scopes ≡ flat_map (operand_part scopes) os
unfolding hidden-the_row-Operand-4 hidden
operands_row [] scopes = refl
operands_row (o ∷ os) scopes = ap (λ ms. operand_part scopes o ++ ms) (operands_row os scopes)

links_row : (ls : List Link) (mark : Mark) (scopes : List Scope) → link_mentions (hidden-the_row-Link-5 ls) mark scopes ≡ links_part mark scopes ls
unfolding hidden-the_row-Link-5 hidden
links_row [] mark scopes = refl
links_row (Link.Prop name ∷ ls) mark scopes = links_row ls Unmarked scopes
links_row (Link.Index x ∷ ls) mark scopes = ap (λ ms. mentions x Unmarked scopes ++ ms) (links_row ls Unmarked scopes)
links_row (Link.Call' _ all ∷ ls) mark scopes = ap (λ ms. all_mentions all mark scopes ++ ms) (links_row ls Unmarked scopes)

statements_row : (ss : List Stmt) (scope : Scope) (outer : List Scope) → block_mentions (hidden-the_row-Stmt-1 ss) scope outer ≡ row_part scope outer ss
unfolding hidden-the_row-Stmt-1 hidden
statements_row [] scope outer = refl
statements_row (s ∷ ss) scope outer = ap (λ ms. statement_mentions s scope outer ++ ms) (statements_row ss (behind s scope) outer)

declarations_row : (ss : List Stmt) → declarations (hidden-the_row-Stmt-1 ss) ≡ flat_map declarations_of ss
unfolding hidden-the_row-Stmt-1 hidden
declarations_row [] = refl
declarations_row (s ∷ ss) = ap (λ ds. declarations_of s ++ ds) (declarations_row ss)

scope_row : (ss : List Stmt) → block_scope (hidden-the_row-Stmt-1 ss) ≡ block_of ss
scope_row ss = λ i. record { of_arrow = false; declared = declarations_row ss i; ended = [] }

block_row : (ss : List Stmt) (scopes : List Scope) → block_mentions (hidden-the_row-Stmt-1 ss) (block_scope (hidden-the_row-Stmt-1 ss)) scopes ≡ block_part scopes ss
block_row ss scopes = statements_row ss (block_scope (hidden-the_row-Stmt-1 ss)) scopes ∙ ap (λ scope. row_part scope scopes ss) (scope_row ss)

-- ---- expressions

pub list_parts : (xs : List Expr) (mark : Mark) (scopes : List Scope) → mentions (e.List xs) mark scopes ≡ flat_map (part_of Unmarked scopes) xs
list_parts xs mark scopes = all_row xs Unmarked scopes

pub record_parts : (fs : List Field) (mark : Mark) (scopes : List Scope) → mentions (e.Record fs) mark scopes ≡ flat_map (field_part scopes) fs
record_parts fs mark scopes = fields_row fs scopes

pub template_parts : (parts : List Text) (xs : List Expr) (mark : Mark) (scopes : List Scope) → mentions (e.Template parts xs) mark scopes ≡ flat_map (part_of Unmarked scopes) xs
template_parts parts xs mark scopes = all_row xs Unmarked scopes

pub unary_parts : (op : Un) (x : Expr) (mark : Mark) (scopes : List Scope) → mentions (e.Unary op x) mark scopes ≡ mentions x Unmarked scopes
unfolding shape-the_row-Expr-0 hidden-the_row-Expr-0 hidden
unary_parts op x mark scopes = append-nil (mentions x Unmarked scopes)

pub chain_parts : (x : Expr) (os : List Operand) (mark : Mark) (scopes : List Scope) → mentions (e.Chain x os) mark scopes ≡ mentions x Unmarked scopes ++ flat_map (operand_part scopes) os
unfolding shape-the_row-Expr-0 hidden-the_row-Expr-0 hidden
chain_parts x os mark scopes = ap (λ ms. ms ++ operand_mentions (hidden-the_row-Operand-4 os) scopes) (append-nil (mentions x Unmarked scopes))
    ∙ ap (λ ms. mentions x Unmarked scopes ++ ms) (operands_row os scopes)

pub choice_parts : (x y z : Expr) (mark : Mark) (scopes : List Scope)
    → mentions (e.Cond x y z) mark scopes ≡ mentions x Unmarked scopes ++ (mentions y Unmarked scopes ++ mentions z Unmarked scopes)
unfolding shape-the_row-Expr-0 hidden-the_row-Expr-0 hidden
choice_parts x y z mark scopes = let f : Expr → List Mention = λ q. mentions q Unmarked scopes in
    ap (λ ms. ms ++ ((f y ++ []) ++ (f z ++ []))) (append-nil (f x)) ∙ ap (λ ms. f x ++ (ms ++ (f z ++ []))) (append-nil (f y)) ∙ ap (λ ms. f x ++ (f y ++ ms)) (append-nil (f z))

pub post_parts : (x : Expr) (ls : List Link) (mark : Mark) (scopes : List Scope) → mentions (e.Post x ls) mark scopes ≡ mentions x Unmarked scopes ++ links_part (call_mark x) scopes ls
unfolding shape-the_row-Expr-0 hidden-the_row-Expr-0 hidden
post_parts x ls mark scopes = ap (λ ms. mentions x Unmarked scopes ++ ms) (links_row ls (call_mark x) scopes)

pub assign_parts : (op : AssignOp) (target x : Expr) (mark : Mark) (scopes : List Scope) → mentions (e.Assign op target x) mark scopes ≡ target_part scopes target ++ mentions x Unmarked scopes
unfolding shape-the_row-Expr-0 hidden-the_row-Expr-0 hidden
assign_parts op target x mark scopes = ap (λ ms. target_part scopes target ++ ms) (append-nil (mentions x Unmarked scopes))

pub step_parts : (up : Bool) (target : Expr) (mark : Mark) (scopes : List Scope) → mentions (e.Step up target) mark scopes ≡ target_part scopes target
unfolding shape-the_row-Expr-0 hidden-the_row-Expr-0 hidden
step_parts up target mark scopes = refl

pub known_parts : (known : Known) (xs : List Expr) (mark : Mark) (scopes : List Scope) → mentions (e.Known known xs) mark scopes ≡ flat_map (part_of Unmarked scopes) xs
known_parts known xs mark scopes = all_row xs Unmarked scopes

pub arrow_parts : (arrow : Arrow) (mark : Mark) (scopes : List Scope) → mentions (e.Arrow arrow) mark scopes ≡ arrow_part mark scopes arrow
unfolding shape-the_row-Arrow-6 hidden-the_row-Arrow-6 hidden
arrow_parts arrow mark scopes = refl

pub markup_parts : (jsx : Jsx) (mark : Mark) (scopes : List Scope) → mentions (e.Jsx jsx) mark scopes ≡ jsx_mentions jsx scopes
unfolding shape-the_row-Jsx-7 hidden-the_row-Jsx-7 hidden
markup_parts jsx mark scopes = refl

-- ---- what expressions hold

pub call_parts : (xs : List Expr) (mark : Mark) (scopes : List Scope) → link_part mark scopes (l.Call xs) ≡ flat_map (part_of mark scopes) xs
call_parts xs mark scopes = all_row xs mark scopes

element : (tag : Tag) (fs : List Field) (xs : List Expr) (scopes : List Scope)
    → jsx_mentions (roll-Jsx (record { tag = tag; attrs = fs; children = xs })) scopes ≡ tag_mentions tag scopes ++ (flat_map (attribute_part scopes) fs ++ flat_map (part_of Unmarked scopes) xs)
unfolding roll-Jsx hidden roll
element tag fs xs scopes = ap (λ ms. tag_mentions tag scopes ++ (ms ++ all_mentions (hidden-the_row-Expr-2 xs) Unmarked scopes)) (attributes_row fs scopes)
    ∙ ap (λ ms. tag_mentions tag scopes ++ (flat_map (attribute_part scopes) fs ++ ms)) (all_row xs Unmarked scopes)

pub element_parts : (jsx : Jsx) (scopes : List Scope)
    → jsx_mentions jsx scopes ≡ tag_mentions (out-Jsx jsx).tag scopes ++ (flat_map (attribute_part scopes) (out-Jsx jsx).attrs ++ flat_map (part_of Unmarked scopes) (out-Jsx jsx).children)
element_parts jsx scopes = let j = out-Jsx jsx in ap (λ x. jsx_mentions x scopes) (sym (roll-out-Jsx jsx)) ∙ element j.tag j.attrs j.children scopes

-- ---- in the innermost scope

pub value_parts : (x : Expr) (scopes : List Scope) → 0 < length scopes → body_part scopes (b.Value x) ≡ mentions x Unmarked scopes
unfolding shape-the_row-Expr-0 hidden-the_row-Expr-0 hidden
value_parts x [] inside = absurd (omega arith)
value_parts x (scope ∷ outer) inside = append-nil (mentions x Unmarked (scope ∷ outer))

pub body_parts : (ss : List Stmt) (scopes : List Scope) → body_part scopes (b.Block ss) ≡ statements_part scopes ss
body_parts ss scopes = statements_row ss (own scopes) (drop 1 scopes)

pub const_parts : (p : Pattern) (x : Expr) (scopes : List Scope) → 0 < length scopes
    → statement_part scopes (s.Const p x) ≡ declared_after (own scopes).ended (pattern_names p) ++ mentions x Unmarked scopes
const_parts p x [] inside = absurd (omega arith)
const_parts p x (scope ∷ outer) inside = refl

pub let_parts : (name : Text) (x : Expr) (scopes : List Scope) → 0 < length scopes
    → statement_part scopes (s.Let name x) ≡ Declares name (own scopes).ended ∷ mentions x Unmarked scopes
let_parts name x [] inside = absurd (omega arith)
let_parts name x (scope ∷ outer) inside = refl

pub do_parts : (x : Expr) (scopes : List Scope) → 0 < length scopes → statement_part scopes (s.Do x) ≡ mentions x Unmarked scopes
do_parts x [] inside = absurd (omega arith)
do_parts x (scope ∷ outer) inside = refl

pub delete_parts : (x : Expr) (scopes : List Scope) → 0 < length scopes → statement_part scopes (s.Delete x) ≡ mentions x Unmarked scopes
delete_parts x [] inside = absurd (omega arith)
delete_parts x (scope ∷ outer) inside = refl

pub return_parts : (x : Option Expr) (scopes : List Scope) → 0 < length scopes → statement_part scopes (s.Return x) ≡ returned_part scopes x
return_parts x [] inside = absurd (omega arith)
return_parts None (scope ∷ outer) inside = refl
return_parts (Some x) (scope ∷ outer) inside = refl

pub if_parts : (x : Expr) (ss ts : List Stmt) (scopes : List Scope) → 0 < length scopes
    → statement_part scopes (s.If x ss ts) ≡ mentions x Unmarked scopes ++ (block_part scopes ss ++ block_part scopes ts)
if_parts x ss ts [] inside = absurd (omega arith)
if_parts x ss ts (scope ∷ outer) inside =
    ap (λ ms. mentions x Unmarked (scope ∷ outer) ++ (ms ++ block_mentions (hidden-the_row-Stmt-1 ts) (block_scope (hidden-the_row-Stmt-1 ts)) (scope ∷ outer))) (block_row ss (scope ∷ outer))
    ∙ ap (λ ms. mentions x Unmarked (scope ∷ outer) ++ (block_part (scope ∷ outer) ss ++ ms)) (block_row ts (scope ∷ outer))

pub while_parts : (x : Expr) (ss : List Stmt) (scopes : List Scope) → 0 < length scopes
    → statement_part scopes (s.While x ss) ≡ mentions x Unmarked scopes ++ block_part scopes ss
while_parts x ss [] inside = absurd (omega arith)
while_parts x ss (scope ∷ outer) inside = ap (λ ms. mentions x Unmarked (scope ∷ outer) ++ ms) (block_row ss (scope ∷ outer))

pub for_parts : (name : Text) (x : Expr) (ss : List Stmt) (scopes : List Scope) → 0 < length scopes
    → statement_part scopes (s.ForOf name x ss) ≡ for_part name x ss scopes
for_parts name x ss [] inside = absurd (omega arith)
for_parts name x ss (scope ∷ outer) inside = ap (λ ms. Declares name [] ∷ (mentions x Unmarked (for_of name false ∷ scope ∷ outer) ++ ms)) (block_row ss (for_of name true ∷ scope ∷ outer))

pub inner_parts : (ss : List Stmt) (scopes : List Scope) → 0 < length scopes → statement_part scopes (s.Block ss) ≡ block_part scopes ss
inner_parts ss [] inside = absurd (omega arith)
inner_parts ss (scope ∷ outer) inside = block_row ss (scope ∷ outer)
