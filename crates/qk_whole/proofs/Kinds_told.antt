-- The index tells tasks and components as they stand.
use Rattle.std.specs.Prelude.{◌≡◌, refl, ℕ, zero, suc, ◌+◌, ◌<◌, ◌||◌, ◌&&◌, Bool, true, false, List, [], ◌∷◌, ◌++◌, codes, length, map, Contains, Option, Some, None}
use Rattle.std.proofs.Common.{sym, ◌∙◌, ap, subst, arith}
use Rattle.std.proofs.lemmas.Bool.{false≢true}
use Rattle.std.proofs.lemmas.List.{length-map, length-append}
use Rattle.std.proofs.lemmas.Slice.Eq.{bytes_eq-Decides}
use Rattle.qk_ast.specs.declared.Expr.{Expr, Row_of-Expr, end_of-Expr, more_of-Expr, Row_of-Link, end_of-Link, more_of-Link, more_of-Arrow}
use Rattle.qk_ast.specs.declared.Item.{Item}
use Rattle.qk_ast.specs.declared.Link.{Link}
use Rattle.qk_ast.specs.Texts.{Text, same_text}
use Rattle.qk_ast.specs.Arrows as ast
use Rattle.qk_ast.specs.Arrows.{Mark, Found_arrow, arrows, item_arrows, is_dollar, same_kind, of_kind, nth_arrow}
use Rattle.qk_ast.specs.Spots.{arguments_of, With, called}
use Rattle.qk_ast.specs.Placing.{Root_kind, A_component, A_context, Else, is_one_text, is_made, called_kind}
use Rattle.qk_meaning.specs.Index.{Kind, is_for_task}
use Rattle.qk_meaning.specs.Roots.{place_of, first_of, first_argument}
use Rattle.qk_meaning.specs.Sites.{is_task}
use Rattle.qk_names.specs.Handed.{handed_in}
use Rattle.qk_lifting.specs.declared.SegmentKind.{SegmentKind}
use Rattle.qk_lifting.specs.declared.SegmentKind.TheVariants.{Component, Task, Computed, Fn}
use Rattle.qk_lifting.specs.Kinds.{For, Unmarked, kinds, all_kinds, body_kinds, link_kinds, item_kinds}
use Rattle.qk_lifting.specs.Marks.{mark_of}
use Rattle.qk_lifting.proofs.Kinds_alike.{of_kind_both, expression, items}
use Rattle.qk_whole.specs.Kinds.{kind_for, nth_kind}

abbrev head_or : {X : Type 0} → X → List X → X
head_or d [] = d
head_or d (x ∷ xs) = x

abbrev tail_of : {X : Type 0} → List X → List X
tail_of [] = []
tail_of (x ∷ xs) = xs

-- ---- tasks

task_for : (k : SegmentKind) → is_for_task (kind_for k) ≡ is_task (mark_of k)
task_for Component = refl
task_for Task = refl
task_for Computed = refl
task_for Fn = refl

tasks_at : (ks : List SegmentKind) (xs : List Found_arrow) (n : ℕ) → map mark_of ks ≡ map (λ a. a.mark) xs → is_for_task (nth_kind ks n) ≡ is_task (nth_arrow xs n).mark
tasks_at [] [] n e = refl
tasks_at [] (a ∷ xs) n e = absurd (nothing (ap length e))
  where
    nothing : 0 ≡ suc (length (map (λ a. a.mark) xs)) → ⊥
    nothing e = omega (arith, e)
tasks_at (k ∷ ks) [] n e = absurd (nothing (ap length e))
  where
    nothing : suc (length (map mark_of ks)) ≡ 0 → ⊥
    nothing e = omega (arith, e)
tasks_at (k ∷ ks) (a ∷ xs) zero e = task_for k ∙ ap is_task (ap (head_or ast.Unmarked) e)
tasks_at (k ∷ ks) (a ∷ xs) (suc n) e = tasks_at ks xs n (ap tail_of e)

-- a dollar arrow is a task's where its kind is that of a task
pub tasks_told : (is : List Item) (n : ℕ) → is_for_task (nth_kind (item_kinds is) n) ≡ is_task (nth_arrow (of_kind true (item_arrows is)) n).mark
tasks_told is n = tasks_at (item_kinds is) (of_kind true (item_arrows is)) n (items is).marks'

-- ---- components

nth_behind : (xs ys : List Found_arrow) (n : ℕ) → nth_arrow (xs ++ ys) (length xs + n) ≡ nth_arrow ys n
nth_behind [] ys n = ap (nth_arrow ys) (omega arith)
nth_behind (x ∷ xs) ys n = ap (nth_arrow (x ∷ (xs ++ ys))) (one (length xs) n) ∙ nth_behind xs ys n
  where
    one : (a b : ℕ) → suc a + b ≡ suc (a + b)
    one a b = omega arith

kind_behind : (ks ls : List SegmentKind) (n : ℕ) → nth_kind (ks ++ ls) (length ks + n) ≡ nth_kind ls n
kind_behind [] ls n = ap (nth_kind ls) (omega arith)
kind_behind (k ∷ ks) ls n = ap (nth_kind (k ∷ (ks ++ ls))) (one (length ks) n) ∙ kind_behind ks ls n
  where
    one : (a b : ℕ) → suc a + b ≡ suc (a + b)
    one a b = omega arith

-- a dollar arrow of the items, with its kind
pub record Kept_kind (is : List Item) (a : Found_arrow) (kind : Kind) : Type 0 where
  pub number : ℕ
  pub below : number < length (of_kind true (item_arrows is))
  pub arrow : nth_arrow (of_kind true (item_arrows is)) number ≡ a
  pub kind' : nth_kind (item_kinds is) number ≡ kind

as_many : (x : Expr) → length (kinds x Unmarked) ≡ length (of_kind true (arrows x ast.Unmarked []))
as_many x = sym (length-map (kinds x Unmarked) mark_of) ∙ ap length (expression x Unmarked ast.Unmarked [] refl).marks' ∙ length-map (of_kind true (arrows x ast.Unmarked [])) (λ a. a.mark)

pub first_kind : (is : List Item) (i : Item) (a : Found_arrow) (inner : List Found_arrow) (kind : SegmentKind) (rest : List SegmentKind) → Contains is i
    → arrows i.init ast.Unmarked [] ≡ a ∷ inner → is_dollar a ≡ true → kinds i.init Unmarked ≡ kind ∷ rest → Kept_kind is a (kind_for kind)
first_kind [] i a inner kind rest (k, l, e) whole d ks = absurd (omega (arith, l))
first_kind (j ∷ is) i a inner kind rest (zero, l, e) whole d ks = record { number = 0; below = below; arrow = ap (λ xs. nth_arrow xs 0) front; kind' = ap (λ x. nth_kind (kinds x Unmarked ++ item_kinds is) 0) (ap (λ i. i.init) e) ∙ ap (λ xs. nth_kind (xs ++ item_kinds is) 0) ks }
  where
    own : of_kind true (a ∷ inner) ≡ a ∷ of_kind true inner
    own = ap (λ b. elim (same_kind true b) as (λ y. List Found_arrow) [ true ↦ a ∷ of_kind true inner | false ↦ of_kind true inner ]) d

    front : of_kind true (arrows j.init ast.Unmarked [] ++ item_arrows is) ≡ a ∷ (of_kind true inner ++ of_kind true (item_arrows is))
    front = of_kind_both true (arrows j.init ast.Unmarked []) (item_arrows is) ∙ ap (λ xs. of_kind true xs ++ of_kind true (item_arrows is)) (ap (λ i. arrows i.init ast.Unmarked []) e ∙ whole) ∙ ap (λ xs. xs ++ of_kind true (item_arrows is)) own

    below : 0 < length (of_kind true (arrows j.init ast.Unmarked [] ++ item_arrows is))
    below = let n = ap length front in omega (arith, n)
first_kind (j ∷ is) i a inner kind rest (suc k, l, e) whole d ks = go (first_kind is i a inner kind rest (k, omega (arith, l), e) whole d ks)
  where
    both : of_kind true (arrows j.init ast.Unmarked [] ++ item_arrows is) ≡ of_kind true (arrows j.init ast.Unmarked []) ++ of_kind true (item_arrows is)
    both = of_kind_both true (arrows j.init ast.Unmarked []) (item_arrows is)

    go : Kept_kind is a (kind_for kind) → Kept_kind (j ∷ is) a (kind_for kind)
    go r = record {
      number = length (of_kind true (arrows j.init ast.Unmarked [])) + r.number;
      below = (let n = ap length both ∙ length-append (of_kind true (arrows j.init ast.Unmarked [])) (of_kind true (item_arrows is)) in let b = r.below in omega (arith, n, b));
      arrow = ap (λ xs. nth_arrow xs (length (of_kind true (arrows j.init ast.Unmarked [])) + r.number)) both ∙ nth_behind (of_kind true (arrows j.init ast.Unmarked [])) (of_kind true (item_arrows is)) r.number ∙ r.arrow;
      kind' = ap (λ n. nth_kind (kinds j.init Unmarked ++ item_kinds is) (n + r.number)) (sym (as_many j.init)) ∙ kind_behind (kinds j.init Unmarked) (item_kinds is) r.number ∙ r.kind';
    }

-- ---- what a call is handed

abbrev is_some : {A : Type 0} → Option A → Bool
is_some (Some a) = true
is_some None = false

pub record Handed_row {m : _} (links : Row_of-Link m) (a : Found_arrow) : Type 0 where
  pub place : place_of (first_argument links) ≡ a.place
  pub rest : List SegmentKind
  pub kinds' : link_kinds links (For Component) ≡ Component ∷ rest

record Handed_all {m : _} (all : Row_of-Expr m) (a : Found_arrow) : Type 0 where
  place : place_of (first_of all) ≡ a.place
  rest : List SegmentKind
  kinds' : all_kinds all (For Component) ≡ Component ∷ rest

handed_all : {m : _} (all : Row_of-Expr m) (mark : Mark) (a : Found_arrow) → handed_in mark (With (arguments_of all) true) ≡ Some a → Handed_all all a
handed_all (more_of-Expr (Expr.Arrow' _ (more_of-Arrow place params body _)) end_of-Expr) mark a e =
    record { place = ap (λ o. elim o as (λ y. ℕ) [ Some x ↦ x.place | None ↦ 0 ]) e; rest = body_kinds body ++ []; kinds' = refl }
handed_all _ mark a e = absurd (false≢true (ap is_some e))

not_whole : (mark : Mark) (xs : List Expr) → is_some (handed_in mark (With xs false)) ≡ false
not_whole mark (Expr.Arrow' _ (more_of-Arrow place params body _) ∷ []) = refl
not_whole mark _ = refl

pub handed_row : {m : _} (links : Row_of-Link m) (mark : Mark) (a : Found_arrow) → handed_in mark (called links) ≡ Some a → Handed_row links a
handed_row (more_of-Link (Link.Call' v all) end_of-Link) mark a e = go (handed_all all mark a e)
  where
    go : Handed_all all a → Handed_row (more_of-Link (Link.Call' v all) end_of-Link) a
    go h = record { place = h.place; rest = h.rest ++ []; kinds' = ap (λ ks. ks ++ []) h.kinds' }
handed_row (more_of-Link (Link.Call' v all) (more_of-Link x y)) mark a e = absurd (false≢true (sym (not_whole mark (arguments_of all)) ∙ ap is_some e))
handed_row _ mark a e = absurd (false≢true (ap is_some e))

-- a call of that name that makes something makes a component
pub component_called : (callee : Text) {m : _} (links : Row_of-Link m) → (is_made (called_kind (Some callee) (called links)) || false || false) ≡ true → same_text callee (codes "component$") ≡ true → called_kind (Some callee) (called links) ≡ A_component
component_called callee (more_of-Link (Link.Call' v all) end_of-Link) f h =
    ap (λ b. elim b as (λ y. Root_kind) [ true ↦ A_component | false ↦ elim (same_text callee (codes "createContextId") && is_one_text (arguments_of all)) as (λ y. Root_kind) [ true ↦ A_context | false ↦ Else ] ]) h
component_called callee _ f h = absurd (false≢true f)

-- and in a source there is no `componentQrl`
pub none_built : (callee : Text) {m : _} (links : Row_of-Link m) → (is_made (called_kind (Some callee) (called links)) || false || false) ≡ true → same_text callee (codes "componentQrl") ≡ false
none_built callee links f = go (same_text callee (codes "componentQrl")) refl
  where
    at : {m : _} (links : Row_of-Link m) → (is_made (called_kind (Some (codes "componentQrl")) (called links)) || false || false) ≡ false
    at (more_of-Link (Link.Call' v all) end_of-Link) = refl
    at _ = refl

    go : (b : Bool) → same_text callee (codes "componentQrl") ≡ b → b ≡ false
    go false e = refl
    go true e = absurd (false≢true (sym (at links) ∙ subst (λ c. (is_made (called_kind (Some c) (called links)) || false || false) ≡ true) ((bytes_eq-Decides callee (codes "componentQrl")).0 e) f))
