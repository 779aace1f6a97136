-- The kinds of dollar arrows are listed as the arrows are: one for each, a task where the arrow is marked as a task.
use Rattle.std.specs.Prelude.{◌≡◌, refl, ℕ, suc, Bool, true, false, ◌||◌, List, [], ◌∷◌, ◌++◌, map, codes}
use Rattle.std.proofs.Common.{sym, ◌∙◌, ap, true≢false}
use Rattle.std.proofs.lemmas.List.{map-append}
use Rattle.qk_ast.specs.declared.Item.{Item}
use Rattle.qk_ast.specs.declared.Expr.{Expr, Row_of-Expr, end_of-Expr, more_of-Expr, Row_of-Field, end_of-Field, more_of-Field, Row_of-Operand, end_of-Operand, more_of-Operand, Row_of-Link, end_of-Link, more_of-Link, more_of-Arrow, more_of-Jsx}
use Rattle.qk_ast.specs.declared.Stmt.{Stmt, Block' as Statement_block', Row_of-Stmt, end_of-Stmt, more_of-Stmt, None', Some'}
use Rattle.qk_ast.specs.declared.Link.{Link}
use Rattle.qk_ast.specs.declared.Jsx.{Jsx, Jsx'}
use Rattle.qk_ast.specs.declared.Body.{Body, Block' as Body_block'}
use Rattle.qk_ast.specs.Texts.{Text, same_text, ends_in_dollar}
use Rattle.qk_ast.specs.Arrows as ast
use Rattle.qk_ast.specs.Arrows.{Mark, Found_arrow, arrows, all_arrows, field_arrows, attribute_arrows, operand_arrows, link_arrows, jsx_arrows, statement_arrows, block_arrows, body_arrows, item_arrows, of_kind, is_dollar, same_kind, call_mark, name_mark, attribute_mark, inner_scope}
use Rattle.qk_lifting.specs.declared.SegmentKind.{SegmentKind}
use Rattle.qk_lifting.specs.declared.SegmentKind.TheVariants.{Component, Task, Computed, Fn}
use Rattle.qk_lifting.specs.Kinds.{Place, Unmarked, For, place_of_name, argument_place, attribute_place, kind_there, kinds, all_kinds, field_kinds, attribute_kinds, operand_kinds, link_kinds, jsx_kinds, statement_kinds, block_kinds, body_kinds, item_kinds}
use Rattle.qk_lifting.specs.Marks.{mark_of, mark_there}
use Rattle.qk_lifting.specs.Segments.{dollar_arrows, sites_after}
use Rattle.qk_lifting.specs.Laws.{arrow_of, kind_of, SitesAreArrows, KindsAreMarks}

abbrev marks : List Found_arrow → List Mark
marks found = map (λ a. a.mark) (of_kind true found)

-- the kinds are those of the dollar arrows among these
pub record Alike (ks : List SegmentKind) (found : List Found_arrow) : Type 0 where
  pub marks' : map mark_of ks ≡ marks found

-- ---- one list behind another

abbrev kept_if : Bool → Found_arrow → List Found_arrow → List Found_arrow
kept_if b a rest = elim b [ true ↦ a ∷ rest | false ↦ rest ]

kept_both : (b : Bool) (a : Found_arrow) (xs ys both : List Found_arrow) → both ≡ xs ++ ys → kept_if b a both ≡ kept_if b a xs ++ ys
kept_both true a xs ys both e = ap (λ rest. a ∷ rest) e
kept_both false a xs ys both e = e

pub of_kind_both : (dollar : Bool) (xs ys : List Found_arrow) → of_kind dollar (xs ++ ys) ≡ of_kind dollar xs ++ of_kind dollar ys
of_kind_both dollar [] ys = refl
of_kind_both dollar (a ∷ xs) ys = kept_both (same_kind dollar (is_dollar a)) a (of_kind dollar xs) (of_kind dollar ys) (of_kind dollar (xs ++ ys)) (of_kind_both dollar xs ys)

marks_both : (xs ys : List Found_arrow) → marks (xs ++ ys) ≡ marks xs ++ marks ys
marks_both xs ys = ap (map (λ a. a.mark)) (of_kind_both true xs ys) ∙ map-append (λ a. a.mark) (of_kind true xs) (of_kind true ys)

infixr 60 ◌▸◌
◌▸◌ : {ks ls : List SegmentKind} {xs ys : List Found_arrow} → Alike ks xs → Alike ls ys → Alike (ks ++ ls) (xs ++ ys)
◌▸◌ {ks} {ls} {xs} {ys} h g = record { marks' = map-append mark_of ks ls ∙ ap (λ ms. ms ++ map mark_of ls) h.marks' ∙ ap (λ ms. marks xs ++ ms) g.marks' ∙ sym (marks_both xs ys) }

none : Alike [] []
none = record { marks' = refl }

-- ---- an arrow

one : (there : Place) (a : Found_arrow) → a.mark ≡ mark_there there → Alike (kind_there there) (a ∷ [])
one there a e = record { marks' = by there ∙ sym (ap (λ m. marks (record a { mark = m } ∷ [])) e) }
  where
    by : (there : Place) → map mark_of (kind_there there) ≡ marks (record a { mark = mark_there there } ∷ [])
    by Unmarked = refl
    by (For Component) = refl
    by (For Task) = refl
    by (For Computed) = refl
    by (For Fn) = refl

arrow : (there : Place) (a : Found_arrow) (ks : List SegmentKind) (inside : List Found_arrow) → a.mark ≡ mark_there there → Alike ks inside → Alike (kind_there there ++ ks) (a ∷ inside)
arrow there a ks inside e h = one there a e ▸ h

-- ---- the marks of places

name_there : (t : Text) → name_mark t ≡ mark_there (place_of_name t)
name_there t = by (same_text t (codes "useTask$")) (same_text t (codes "component$")) (same_text t (codes "$")) (same_text t (codes "useComputed$"))
  where
    by : (task component dollar computed : Bool) → elim task [ true ↦ ast.Tasked | false ↦ elim (component || (dollar || (computed || false))) [ true ↦ ast.Marked | false ↦ ast.Unmarked ] ]
        ≡ mark_there (elim task [ true ↦ For Task | false ↦ elim component [ true ↦ For Component | false ↦ elim dollar [ true ↦ For Fn | false ↦ elim computed [ true ↦ For Computed | false ↦ Unmarked ] ] ] ])
    by true component dollar computed = refl
    by false true dollar computed = refl
    by false false true computed = refl
    by false false false true = refl
    by false false false false = refl

pub callee_there : (e : Expr) → call_mark e ≡ mark_there (argument_place e)
callee_there (Expr.Name t) = name_there t
callee_there _ = refl

pub attribute_there : (t : Text) → attribute_mark t ≡ mark_there (attribute_place t)
attribute_there t = by (ends_in_dollar t)
  where
    by : (b : Bool) → elim b [ true ↦ ast.Marked | false ↦ ast.Unmarked ] ≡ mark_there (elim b [ true ↦ For Fn | false ↦ Unmarked ])
    by true = refl
    by false = refl

-- ---- the whole

mutual
  pub expression : (x : Expr) (there : Place) (mark : Mark) (scope : List Text) → mark ≡ mark_there there → Alike (kinds x there) (arrows x mark scope)
  expression (Expr.Arrow' _ (more_of-Arrow place params x _)) there mark scope e = arrow there _ _ _ e (body x (inner_scope mark params scope))
  expression (Expr.List' _ xs) there mark scope e = all xs Unmarked ast.Unmarked scope refl
  expression (Expr.Record' _ xs) there mark scope e = fields xs scope
  expression (Expr.Template' parts _ xs) there mark scope e = all xs Unmarked ast.Unmarked scope refl
  expression (Expr.Unary' operator _ xs) there mark scope e = all xs Unmarked ast.Unmarked scope refl
  expression (Expr.Chain' _ first _ rest) there mark scope e = all first Unmarked ast.Unmarked scope refl ▸ operands rest scope
  expression (Expr.Cond' _ a _ b _ c) there mark scope e = all a Unmarked ast.Unmarked scope refl ▸ all b Unmarked ast.Unmarked scope refl ▸ all c Unmarked ast.Unmarked scope refl
  expression (Expr.Post' _ (more_of-Expr head _) _ xs) there mark scope e = expression head Unmarked ast.Unmarked scope refl ▸ links xs (argument_place head) (call_mark head) scope (callee_there head)
  expression (Expr.Assign' operator _ target _ x) there mark scope e = all target Unmarked ast.Unmarked scope refl ▸ all x Unmarked ast.Unmarked scope refl
  expression (Expr.Step' up _ target) there mark scope e = all target Unmarked ast.Unmarked scope refl
  expression (Expr.Known' known _ xs) there mark scope e = all xs Unmarked ast.Unmarked scope refl
  expression (Expr.Jsx' _ (more_of-Jsx x _)) there mark scope e = jsx x scope
  expression x there mark scope e = none

  pub all : {m : _} (xs : Row_of-Expr m) (there : Place) (mark : Mark) (scope : List Text) → mark ≡ mark_there there → Alike (all_kinds xs there) (all_arrows xs mark scope)
  all end_of-Expr there mark scope e = none
  all (more_of-Expr x rest) there mark scope e = expression x there mark scope e ▸ all rest there mark scope e

  pub fields : {m : _} (xs : Row_of-Field m) (scope : List Text) → Alike (field_kinds xs) (field_arrows xs scope)
  fields end_of-Field scope = none
  fields (more_of-Field key x rest) scope = expression x Unmarked ast.Unmarked scope refl ▸ fields rest scope

  pub attributes : {m : _} (xs : Row_of-Field m) (scope : List Text) → Alike (attribute_kinds xs) (attribute_arrows xs scope)
  attributes end_of-Field scope = none
  attributes (more_of-Field key x rest) scope = expression x (attribute_place key) (attribute_mark key) scope (attribute_there key) ▸ attributes rest scope

  pub operands : {m : _} (xs : Row_of-Operand m) (scope : List Text) → Alike (operand_kinds xs) (operand_arrows xs scope)
  operands end_of-Operand scope = none
  operands (more_of-Operand operator x rest) scope = expression x Unmarked ast.Unmarked scope refl ▸ operands rest scope

  pub links : {m : _} (xs : Row_of-Link m) (there : Place) (mark : Mark) (scope : List Text) → mark ≡ mark_there there → Alike (link_kinds xs there) (link_arrows xs mark scope)
  links end_of-Link there mark scope e = none
  links (more_of-Link (Link.Prop name) rest) there mark scope e = links rest Unmarked ast.Unmarked scope refl
  links (more_of-Link (Link.Index x) rest) there mark scope e = expression x Unmarked ast.Unmarked scope refl ▸ links rest Unmarked ast.Unmarked scope refl
  links (more_of-Link (Link.Call' _ xs) rest) there mark scope e = all xs there mark scope e ▸ links rest Unmarked ast.Unmarked scope refl

  pub jsx : (x : Jsx) (scope : List Text) → Alike (jsx_kinds x) (jsx_arrows x scope)
  jsx (Jsx' tag _ xs _ children) scope = attributes xs scope ▸ all children Unmarked ast.Unmarked scope refl

  pub statement : (x : Stmt) (scope : List Text) → Alike (statement_kinds x) (statement_arrows x scope)
  statement (Stmt.Const pattern x) scope = expression x Unmarked ast.Unmarked scope refl
  statement (Stmt.Let name x) scope = expression x Unmarked ast.Unmarked scope refl
  statement (Stmt.Do x) scope = expression x Unmarked ast.Unmarked scope refl
  statement (Stmt.Delete x) scope = expression x Unmarked ast.Unmarked scope refl
  statement (Stmt.Return' None') scope = none
  statement (Stmt.Return' (Some' x)) scope = expression x Unmarked ast.Unmarked scope refl
  statement (Stmt.If' x _ then _ otherwise) scope = expression x Unmarked ast.Unmarked scope refl ▸ block then _ ▸ block otherwise _
  statement (Stmt.While' x _ xs) scope = expression x Unmarked ast.Unmarked scope refl ▸ block xs _
  statement (Stmt.ForOf' name x _ xs) scope = expression x Unmarked ast.Unmarked scope refl ▸ block xs _
  statement Stmt.Break scope = none
  statement Stmt.Continue scope = none
  statement (Statement_block' _ xs) scope = block xs _

  pub block : {m : _} (xs : Row_of-Stmt m) (scope : List Text) → Alike (block_kinds xs) (block_arrows xs scope)
  block end_of-Stmt scope = none
  block (more_of-Stmt x rest) scope = statement x scope ▸ block rest scope

  pub body : (x : Body) (scope : List Text) → Alike (body_kinds x) (body_arrows x scope)
  body (Body.Value' _ xs) scope = all xs Unmarked ast.Unmarked scope refl
  body (Body_block' _ xs) scope = block xs _

pub items : (is : List Item) → Alike (item_kinds is) (item_arrows is)
items [] = none
items (i ∷ rest) = expression i.init Unmarked ast.Unmarked [] refl ▸ items rest

-- ---- the dollar sites of a module

abbrev rest_of : List Mark → List Mark
rest_of [] = []
rest_of (m ∷ ms) = ms

abbrev is_none : List Mark → Bool
is_none [] = true
is_none (m ∷ ms) = false

sites_arrows : (file : Text) (n : ℕ) (ks : List SegmentKind) (xs : List Found_arrow) → map mark_of ks ≡ map (λ a. a.mark) xs → map arrow_of (sites_after file n ks xs) ≡ xs
sites_arrows file n [] [] e = refl
sites_arrows file n [] (a ∷ xs) e = absurd (true≢false (ap is_none e))
sites_arrows file n (k ∷ ks) [] e = absurd (true≢false (sym (ap is_none e)))
sites_arrows file n (k ∷ ks) (a ∷ xs) e = ap (λ rest. a ∷ rest) (sites_arrows file (suc n) ks xs (ap rest_of e))

sites_kinds : (file : Text) (n : ℕ) (ks : List SegmentKind) (xs : List Found_arrow) → map mark_of ks ≡ map (λ a. a.mark) xs → map kind_of (sites_after file n ks xs) ≡ ks
sites_kinds file n [] xs e = refl
sites_kinds file n (k ∷ ks) [] e = absurd (true≢false (sym (ap is_none e)))
sites_kinds file n (k ∷ ks) (a ∷ xs) e = ap (λ rest. k ∷ rest) (sites_kinds file (suc n) ks xs (ap rest_of e))

pub sites_are_arrows : SitesAreArrows
sites_are_arrows file m = sites_arrows file 0 (item_kinds m.items) (dollar_arrows m) (items m.items).marks'

pub kinds_are_marks : KindsAreMarks
kinds_are_marks file m = ap (map mark_of) (sites_kinds file 0 (item_kinds m.items) (dollar_arrows m) (items m.items).marks') ∙ (items m.items).marks'
