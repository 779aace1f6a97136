-- The walk over the forms: each is its parts one after another.
use Rattle.std.specs.Prelude.{◌≡◌, refl, ℕ, ◌+◌, ◌<◌, ◌≤◌, Bool, List, [], ◌∷◌, ◌++◌, length, take, drop, flat_map, Option, Some, None}
use Rattle.std.proofs.Common.{sym, ◌∙◌, ap}
use Rattle.std.proofs.Math.ListN.{get_or}
use Rattle.std.proofs.lemmas.List.{append_assoc, append-nil, at_drop_more, at_drop_all}
use denote.Hole.Carrier.{hidden, roll}
use Rattle.qk_ast.specs.declared.Body.TheBlock.{shape-the_row-Expr-0, hidden-the_row-Expr-0, hidden-the_row-Expr-2, hidden-the_row-Stmt-1, hidden-the_row-Field-3, hidden-the_row-Operand-4, hidden-the_row-Link-5, shape-the_row-Arrow-6, hidden-the_row-Arrow-6, shape-the_row-Jsx-7, hidden-the_row-Jsx-7}
use Rattle.qk_ast.specs.declared.Expr.{Expr}
use Rattle.qk_ast.specs.declared.Expr.TheVariants as e
use Rattle.qk_ast.specs.declared.Stmt.{Stmt}
use Rattle.qk_ast.specs.declared.Stmt.TheVariants as s
use Rattle.qk_ast.specs.declared.Link.{Link}
use Rattle.qk_ast.specs.declared.Link.TheVariants as l
use Rattle.qk_ast.specs.declared.Body.{Body}
use Rattle.qk_ast.specs.declared.Body.TheVariants as b
use Rattle.qk_ast.specs.declared.Tag.{Tag}
use Rattle.qk_ast.specs.declared.Un.{Un}
use Rattle.qk_ast.specs.declared.AssignOp.{AssignOp}
use Rattle.qk_ast.specs.declared.Known.{Known}
use Rattle.qk_ast.specs.declared.Pattern.{Pattern}
use Rattle.qk_ast.specs.declared.Jsx.{Jsx, roll-Jsx, out-Jsx, roll-out-Jsx}
use Rattle.qk_ast.specs.declared.Field.{Field}
use Rattle.qk_ast.specs.declared.Operand.{Operand}
use Rattle.qk_ast.specs.declared.walk.Walk.{Walk}
use Rattle.qk_ast.specs.Texts.{Text}
use Rattle.qk_ast.specs.Names.{patterns_names, declared_in, declared_by, others_than, each_once}
use Rattle.qk_ast.specs.Uses.{uses, all_uses, field_uses, operand_uses, link_uses, jsx_uses, statement_uses, block_uses, body_uses, tag_use}
use Rattle.qk_ast.specs.Walking.{with_names, found_next, field_use, operand_use, link_use, constant_use, returned_use, names_declared, block_use, behind}
use Rattle.qk_ast.proofs.Bound.{outer_kept, found_both, found_inside, found_once}

-- ---- the walk

pub behind_none : (w : Walk) → behind [] w ≡ w
unfolding behind
behind_none w = λ j. record { bound = w.bound; seen = append-nil w.seen j; found = append-nil w.found j }

pub behind_both : (xs ys : List Text) (w : Walk) → behind (xs ++ ys) w ≡ behind ys (behind xs w)
unfolding behind
behind_both xs ys w = λ j. record { bound = w.bound; seen = longer w.seen j; found = longer w.found j }
  where
    longer : (front : List Text) → front ++ found_next w.bound w.seen (xs ++ ys) ≡ (front ++ found_next w.bound w.seen xs) ++ found_next w.bound (w.seen ++ found_next w.bound w.seen xs) ys
    longer front = ap (λ all. front ++ all) (found_both w.bound w.seen xs ys) ∙ sym (append_assoc front (found_next w.bound w.seen xs) (found_next w.bound (w.seen ++ found_next w.bound w.seen xs) ys))

-- behind one item more
pub behind_next : {X : Type 0} (f : X → List Text) (xs : List X) (i : ℕ) (x : X) (w : Walk) → i < length xs → x ≡ get_or xs i x
    → behind (flat_map f (drop (i + 1) xs)) (behind (f x) w) ≡ behind (flat_map f (drop i xs)) w
behind_next f xs i x w below here = sym (behind_both (f x) (flat_map f (drop (i + 1) xs)) w)
    ∙ ap (λ ns. behind ns w) (ap (λ y. flat_map f (y ∷ drop (i + 1) xs)) here ∙ sym (at_drop_more (flat_map f) xs i x below))

-- behind the last item
pub behind_last : {X : Type 0} (f : X → List Text) (xs : List X) (i : ℕ) (old done : Walk) → length xs ≤ i
    → behind (flat_map f (drop i xs)) done ≡ behind (flat_map f xs) old → done ≡ behind (flat_map f xs) old
behind_last f xs i old done past h = sym (behind_none done) ∙ ap (λ names. behind names done) (sym (at_drop_all (flat_map f) xs i past)) ∙ h

-- out of a scope whose names were bound inside
pub behind_scope : (old done : Walk) (outside : ℕ) (inside cut names xs : List Text) → outside ≡ length old.bound → inside ≡ with_names old.bound names
    → done ≡ behind xs (record { bound = inside; seen = old.seen; found = old.found }) → cut ≡ take outside done.bound
    → record { bound = cut; seen = done.seen; found = done.found } ≡ behind (others_than names xs) old
unfolding behind
behind_scope old done outside inside cut names xs at opened walked closed = λ j. record { bound = again j; seen = seen j; found = found j }
  where
    next : found_next inside old.seen xs ≡ found_next old.bound old.seen (others_than names xs)
    next = ap (λ bound. found_next bound old.seen xs) opened ∙ found_inside old.bound names old.seen xs

    again : cut ≡ old.bound
    again = closed ∙ ap (λ w. take outside w.bound) walked ∙ ap (take outside) opened ∙ ap (λ n. take n (with_names old.bound names)) at ∙ outer_kept old.bound names

    seen : done.seen ≡ old.seen ++ found_next old.bound old.seen (others_than names xs)
    seen = ap (λ w. w.seen) walked ∙ ap (λ all. old.seen ++ all) next

    found : done.found ≡ old.found ++ found_next old.bound old.seen (others_than names xs)
    found = ap (λ w. w.found) walked ∙ ap (λ all. old.found ++ all) next

-- ---- rows are their lists

uses_row : (xs : List Expr) → all_uses (hidden-the_row-Expr-2 xs) ≡ flat_map uses xs
unfolding hidden-the_row-Expr-2 hidden
uses_row [] = refl
uses_row (x ∷ xs) = ap (λ ns. uses x ++ ns) (uses_row xs)

fields_row : (fs : List Field) → field_uses (hidden-the_row-Field-3 fs) ≡ flat_map field_use fs
unfolding hidden-the_row-Field-3 hidden
fields_row [] = refl
fields_row (f ∷ fs) = ap (λ ns. field_use f ++ ns) (fields_row fs)

operands_row : (os : List Operand) → operand_uses (hidden-the_row-Operand-4 os) ≡ flat_map operand_use os
unfolding hidden-the_row-Operand-4 hidden
operands_row [] = refl
operands_row (o ∷ os) = ap (λ ns. operand_use o ++ ns) (operands_row os)

-- `link_uses` over a row, by the form of the link in front
links_row : (ls : List Link) → link_uses (hidden-the_row-Link-5 ls) ≡ flat_map link_use ls
unfolding hidden-the_row-Link-5 hidden
links_row [] = refl
links_row (Link.Prop name ∷ ls) = links_row ls
links_row (Link.Index x ∷ ls) = ap (λ ns. uses x ++ ns) (links_row ls)
links_row (Link.Call' _ all ∷ ls) = ap (λ ns. all_uses all ++ ns) (links_row ls)

statements_row : (ss : List Stmt) → block_uses (hidden-the_row-Stmt-1 ss) ≡ flat_map statement_uses ss
unfolding hidden-the_row-Stmt-1 hidden
statements_row [] = refl
statements_row (s ∷ ss) = ap (λ ns. statement_uses s ++ ns) (statements_row ss)

declared_row : (ss : List Stmt) → declared_in (hidden-the_row-Stmt-1 ss) ≡ names_declared ss
unfolding hidden-the_row-Stmt-1 hidden
declared_row [] = refl
declared_row (s ∷ ss) = ap (λ ns. declared_by s ++ ns) (declared_row ss)

block_row : (ss : List Stmt) → others_than (declared_in (hidden-the_row-Stmt-1 ss)) (block_uses (hidden-the_row-Stmt-1 ss)) ≡ block_use ss
block_row ss = ap (λ names. others_than names (block_uses (hidden-the_row-Stmt-1 ss))) (declared_row ss) ∙ ap (others_than (names_declared ss)) (statements_row ss)

-- ---- expressions

pub uses_of_list : (xs : List Expr) → uses (e.List xs) ≡ flat_map uses xs
uses_of_list xs = uses_row xs

pub uses_of_record : (fs : List Field) → uses (e.Record fs) ≡ flat_map field_use fs
uses_of_record fs = fields_row fs

pub uses_of_template : (parts : List Text) (xs : List Expr) → uses (e.Template parts xs) ≡ flat_map uses xs
uses_of_template parts xs = uses_row xs

pub uses_of_unary : (op : Un) (x : Expr) → uses (e.Unary op x) ≡ uses x
unfolding shape-the_row-Expr-0 hidden-the_row-Expr-0 hidden
uses_of_unary op x = append-nil (uses x)

pub behind_chain : (x : Expr) (os : List Operand) (w : Walk) → behind (uses (e.Chain x os)) w ≡ behind (flat_map operand_use os) (behind (uses x) w)
unfolding shape-the_row-Expr-0 hidden-the_row-Expr-0 hidden
behind_chain x os w = ap (λ ns. behind (ns ++ operand_uses (hidden-the_row-Operand-4 os)) w) (append-nil (uses x))
    ∙ ap (λ ns. behind (uses x ++ ns) w) (operands_row os) ∙ behind_both (uses x) (flat_map operand_use os) w

pub behind_choice : (a b c : Expr) (w : Walk) → behind (uses (e.Cond a b c)) w ≡ behind (uses c) (behind (uses b) (behind (uses a) w))
unfolding shape-the_row-Expr-0 hidden-the_row-Expr-0 hidden
behind_choice a b c w = ap (λ ns. behind (ns ++ ((uses b ++ []) ++ (uses c ++ []))) w) (append-nil (uses a))
    ∙ ap (λ ns. behind (uses a ++ (ns ++ (uses c ++ []))) w) (append-nil (uses b))
    ∙ ap (λ ns. behind (uses a ++ (uses b ++ ns)) w) (append-nil (uses c))
    ∙ behind_both (uses a) (uses b ++ uses c) w ∙ behind_both (uses b) (uses c) (behind (uses a) w)

pub behind_post : (x : Expr) (ls : List Link) (w : Walk) → behind (uses (e.Post x ls)) w ≡ behind (flat_map link_use ls) (behind (uses x) w)
unfolding shape-the_row-Expr-0 hidden-the_row-Expr-0 hidden
behind_post x ls w = ap (λ ns. behind (ns ++ link_uses (hidden-the_row-Link-5 ls)) w) (append-nil (uses x))
    ∙ ap (λ ns. behind (uses x ++ ns) w) (links_row ls) ∙ behind_both (uses x) (flat_map link_use ls) w

pub behind_assign : (op : AssignOp) (target x : Expr) (w : Walk) → behind (uses (e.Assign op target x)) w ≡ behind (uses x) (behind (uses target) w)
unfolding shape-the_row-Expr-0 hidden-the_row-Expr-0 hidden
behind_assign op target x w = ap (λ ns. behind (ns ++ (uses x ++ [])) w) (append-nil (uses target))
    ∙ ap (λ ns. behind (uses target ++ ns) w) (append-nil (uses x)) ∙ behind_both (uses target) (uses x) w

pub uses_of_step : (up : Bool) (target : Expr) → uses (e.Step up target) ≡ uses target
unfolding shape-the_row-Expr-0 hidden-the_row-Expr-0 hidden
uses_of_step up target = append-nil (uses target)

pub uses_of_known : (known : Known) (xs : List Expr) → uses (e.Known known xs) ≡ flat_map uses xs
uses_of_known known xs = uses_row xs

pub uses_of_arrow : (place : ℕ) (params : List Pattern) (body : Body) → uses (e.Arrow (record { place = place; params = params; body = body })) ≡ others_than (patterns_names params) (body_uses body)
unfolding shape-the_row-Arrow-6 hidden-the_row-Arrow-6 hidden
uses_of_arrow place params body = refl

pub uses_of_markup : (jsx : Jsx) → uses (e.Jsx jsx) ≡ jsx_uses jsx
unfolding shape-the_row-Jsx-7 hidden-the_row-Jsx-7 hidden
uses_of_markup jsx = refl

-- ---- what expressions hold

pub use_of_call : (xs : List Expr) → link_use (l.Call xs) ≡ flat_map uses xs
use_of_call xs = uses_row xs

element : (tag : Tag) (fs : List Field) (xs : List Expr) → jsx_uses (roll-Jsx (record { tag = tag; attrs = fs; children = xs })) ≡ tag_use tag ++ (flat_map field_use fs ++ flat_map uses xs)
unfolding roll-Jsx hidden roll
element tag fs xs = ap (λ ns. tag_use tag ++ (ns ++ all_uses (hidden-the_row-Expr-2 xs))) (fields_row fs) ∙ ap (λ ns. tag_use tag ++ (flat_map field_use fs ++ ns)) (uses_row xs)

pub behind_jsx : (jsx : Jsx) (w : Walk) → behind (jsx_uses jsx) w ≡ behind (flat_map uses (out-Jsx jsx).children) (behind (flat_map field_use (out-Jsx jsx).attrs) (behind (tag_use (out-Jsx jsx).tag) w))
behind_jsx jsx w = let j = out-Jsx jsx in
    ap (λ x. behind (jsx_uses x) w) (sym (roll-out-Jsx jsx)) ∙ ap (λ ns. behind ns w) (element j.tag j.attrs j.children)
    ∙ behind_both (tag_use j.tag) (flat_map field_use j.attrs ++ flat_map uses j.children) w
    ∙ behind_both (flat_map field_use j.attrs) (flat_map uses j.children) (behind (tag_use j.tag) w)

pub uses_of_value : (x : Expr) → body_uses (b.Value x) ≡ uses x
unfolding shape-the_row-Expr-0 hidden-the_row-Expr-0 hidden
uses_of_value x = append-nil (uses x)

pub uses_of_body : (ss : List Stmt) → body_uses (b.Block ss) ≡ block_use ss
uses_of_body ss = block_row ss

-- ---- statements

pub uses_of_constant : (p : Pattern) (x : Expr) → statement_uses (s.Const p x) ≡ constant_use p x
uses_of_constant (Pattern.Name t) x = refl
uses_of_constant (Pattern.Fields ts) x = refl
uses_of_constant (Pattern.Scope ts) x = refl

pub uses_of_return : (x : Option Expr) → statement_uses (s.Return x) ≡ returned_use x
uses_of_return None = refl
uses_of_return (Some x) = refl

pub behind_if : (x : Expr) (ss ts : List Stmt) (w : Walk) → behind (statement_uses (s.If x ss ts)) w ≡ behind (block_use ts) (behind (block_use ss) (behind (uses x) w))
behind_if x ss ts w = ap (λ ns. behind (uses x ++ (ns ++ others_than (declared_in (hidden-the_row-Stmt-1 ts)) (block_uses (hidden-the_row-Stmt-1 ts)))) w) (block_row ss)
    ∙ ap (λ ns. behind (uses x ++ (block_use ss ++ ns)) w) (block_row ts)
    ∙ behind_both (uses x) (block_use ss ++ block_use ts) w ∙ behind_both (block_use ss) (block_use ts) (behind (uses x) w)

pub behind_while : (x : Expr) (ss : List Stmt) (w : Walk) → behind (statement_uses (s.While x ss)) w ≡ behind (block_use ss) (behind (uses x) w)
behind_while x ss w = ap (λ ns. behind (uses x ++ ns) w) (block_row ss) ∙ behind_both (uses x) (block_use ss) w

pub behind_for : (name : Text) (x : Expr) (ss : List Stmt) (w : Walk) → behind (statement_uses (s.ForOf name x ss)) w ≡ behind (others_than (name ∷ []) (block_use ss)) (behind (uses x) w)
behind_for name x ss w = ap (λ ns. behind (uses x ++ others_than (name ∷ []) ns) w) (block_row ss) ∙ behind_both (uses x) (others_than (name ∷ []) (block_use ss)) w

pub uses_of_block : (ss : List Stmt) → statement_uses (s.Block ss) ≡ block_use ss
uses_of_block ss = block_row ss

-- ---- the whole

-- a walk that begins with nothing finds each name once
pub found_from_nothing : (start done : Walk) (names : List Text) → start.bound ≡ [] → start.seen ≡ [] → start.found ≡ [] → done ≡ behind names start → done.found ≡ each_once [] names
unfolding behind
found_from_nothing start done names bound seen found walked = ap (λ w. w.found) walked
    ∙ ap (λ front. front ++ found_next start.bound start.seen names) found
    ∙ ap (λ bound. found_next bound start.seen names) bound
    ∙ ap (λ seen. found_next [] seen names) seen
    ∙ found_once [] [] names (λ q. refl)
