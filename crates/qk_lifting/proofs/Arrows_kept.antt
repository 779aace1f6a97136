-- The arrows of lifted code are those that are no dollar arrows and stand in none.
use Rattle.std.specs.Prelude.{◌≡◌, refl, ℕ, zero, Bool, true, false, ◌||◌, Option, Some, None, List, [], ◌∷◌, ◌++◌, length, map, codes, ⊤}
use Rattle.std.proofs.Common.{sym, ◌∙◌, ap, subst}
use Rattle.std.proofs.lemmas.List.{append-nil, append_assoc}
use Rattle.qk_ast.specs.declared.Expr.{Expr, Row_of-Expr, end_of-Expr, more_of-Expr, Row_of-Field, end_of-Field, more_of-Field, Row_of-Operand, end_of-Operand, more_of-Operand, Row_of-Link, end_of-Link, more_of-Link, more_of-Arrow, more_of-Jsx}
use Rattle.qk_ast.specs.declared.Stmt.{Stmt, Block' as Statement_block', Row_of-Stmt, end_of-Stmt, more_of-Stmt, None', Some'}
use Rattle.qk_ast.specs.declared.Link.{Link}
use Rattle.qk_ast.specs.declared.Jsx.{Jsx, Jsx'}
use Rattle.qk_ast.specs.declared.Body.{Body, Block' as Body_block'}
use Rattle.qk_ast.specs.declared.Pattern.{Pattern}
use Rattle.qk_ast.specs.Texts.{Text, same_text, ends_in_dollar}
use Rattle.qk_ast.specs.Names.{around, patterns_names, declared_in}
use Rattle.qk_ast.specs.Arrows as ast
use Rattle.qk_ast.specs.Arrows.{Mark, Found_arrow, arrows, all_arrows, field_arrows, attribute_arrows, operand_arrows, link_arrows, jsx_arrows, statement_arrows, block_arrows, body_arrows, call_mark, name_mark, attribute_mark, is_dollar}
use Rattle.qk_names.specs.Inside.{inside}
use Rattle.qk_lifting.specs.declared.SegmentKind.{SegmentKind}
use Rattle.qk_lifting.specs.declared.SegmentKind.TheVariants.{Component, Task, Computed, Fn}
use Rattle.qk_lifting.specs.Kinds.{Place, Unmarked, For, argument_place, attribute_place}
use Rattle.qk_lifting.specs.Marks.{mark_of, mark_there}
use Rattle.qk_lifting.specs.References.{Reference, reference, reference_link, names_row}
use Rattle.qk_lifting.specs.Lifting.{built_name, place_alone, dollar_link, lifted, all_lifted, fields_lifted, attributes_lifted, operands_lifted, links_lifted, jsx_lifted, statement_lifted, block_lifted, body_lifted}
use Rattle.qk_lifting.specs.Laws.{outside_after, lifted_arrow, LiftingKeepsArrows}
use Rattle.qk_lifting.proofs.Kinds_alike.{callee_there, attribute_there}
use Rattle.qk_lifting.proofs.Uses_kept.{block_declares}

-- the former are those of the latter that stay, each lifted
pub record Stay (refer : ℕ → Reference) (then found : List Found_arrow) : Type 0 where
  pub stay : (rest : List Found_arrow) → then ++ map (lifted_arrow refer) (outside_after 0 rest) ≡ map (lifted_arrow refer) (outside_after 0 (found ++ rest))

none : {refer : ℕ → Reference} → Stay refer [] []
none = record { stay = λ rest. refl }

infixr 60 ◌▸◌
◌▸◌ : {refer : ℕ → Reference} {a b c d : List Found_arrow} → Stay refer a b → Stay refer c d → Stay refer (a ++ c) (b ++ d)
◌▸◌ {refer} {a} {b} {c} {d} h g = record {
  stay = λ rest. append_assoc a c (map (lifted_arrow refer) (outside_after 0 rest))
      ∙ ap (λ xs. a ++ xs) (g.stay rest)
      ∙ h.stay (d ++ rest)
      ∙ ap (λ xs. map (lifted_arrow refer) (outside_after 0 xs)) (sym (append_assoc b d rest));
}

as_stay : {refer : ℕ → Reference} {a b found : List Found_arrow} → a ≡ b → Stay refer b found → Stay refer a found
as_stay {refer} {a} {b} {found} e h = subst (λ xs. Stay refer xs found) (sym e) h

-- ---- arrows

abbrev arrow_at : ℕ → Mark → List Text → List Pattern → Body → Found_arrow
arrow_at place mark scope params x = record { place = place; scope = scope; mark = mark; params = params; body = x }

plain : (refer : ℕ → Reference) (place : ℕ) (scope : List Text) (params : List Pattern) (x : Body) (then : List Found_arrow) → Stay refer then (body_arrows x (around (patterns_names params) scope))
    → Stay refer (lifted_arrow refer (arrow_at place ast.Unmarked scope params x) ∷ then) (arrow_at place ast.Unmarked scope params x ∷ body_arrows x (around (patterns_names params) scope))
plain refer place scope params x then h = record { stay = λ rest. ap (λ xs. lifted_arrow refer (arrow_at place ast.Unmarked scope params x) ∷ xs) (h.stay rest) }

passed : (xs rest : List Found_arrow) → outside_after (length xs) (xs ++ rest) ≡ outside_after 0 rest
passed [] [] = refl
passed [] (y ∷ rest) = refl
passed (x ∷ xs) rest = passed xs rest

dollar : (refer : ℕ → Reference) (a : Found_arrow) → is_dollar a ≡ true → Stay refer [] (a ∷ inside a)
dollar refer a e = record {
  stay = λ rest. ap (map (lifted_arrow refer)) (sym (ap (λ b. elim b [ true ↦ outside_after (length (inside a)) (inside a ++ rest) | false ↦ a ∷ outside_after zero (inside a ++ rest) ]) e ∙ passed (inside a) rest));
}

marked_dollar : (kind : SegmentKind) (a : Found_arrow) → a.mark ≡ mark_of kind → is_dollar a ≡ true
marked_dollar kind a e = ap (λ m. is_dollar (record a { mark = m })) e ∙ by kind
  where
    by : (kind : SegmentKind) → is_dollar (record a { mark = mark_of kind }) ≡ true
    by Component = refl
    by Task = refl
    by Computed = refl
    by Fn = refl

-- ---- references have no arrows

no_names : (names : List Text) (mark : Mark) (scope : List Text) → all_arrows (names_row names) mark scope ≡ []
no_names [] mark scope = refl
no_names (name ∷ rest) mark scope = no_names rest mark scope

no_link : (r : Reference) {m : _} (rest : Row_of-Link m) (mark : Mark) (scope : List Text) → link_arrows (more_of-Link (reference_link r) rest) mark scope ≡ link_arrows rest ast.Unmarked scope
no_link r rest mark scope = ap (λ xs. (xs ++ []) ++ link_arrows rest ast.Unmarked scope) (no_names r.captures ast.Unmarked scope)

no_reference : (r : Reference) (mark : Mark) (scope : List Text) → arrows (reference r) mark scope ≡ []
no_reference r mark scope = no_link r end_of-Link ast.Unmarked scope

-- ---- marks of lifted code

-- where code stands that is lifted
abbrev Fits : Place → Mark → Type 0
Fits Unmarked mark = mark ≡ ast.Unmarked
Fits (For kind) mark = ⊤

plainly : (there : Place) (mark : Mark) → mark ≡ ast.Unmarked → Fits there mark
plainly Unmarked mark e = e
plainly (For kind) mark e = tt

-- the mark of a name by which of the four dollar names it is
abbrev mark_by : (task component one computed : Bool) → Mark
mark_by task component one computed = elim task [ true ↦ ast.Tasked | false ↦ elim (component || (one || (computed || false))) [ true ↦ ast.Marked | false ↦ ast.Unmarked ] ]

name_unmarked : (t : Text) → name_mark (built_name t) ≡ ast.Unmarked
name_unmarked t = by (same_text t (codes "component$")) (same_text t (codes "useTask$")) (same_text t (codes "useComputed$")) (same_text t (codes "$")) refl refl refl refl
  where
    by : (a b c d : Bool) → same_text t (codes "component$") ≡ a → same_text t (codes "useTask$") ≡ b → same_text t (codes "useComputed$") ≡ c → same_text t (codes "$") ≡ d
        → name_mark (elim a [ true ↦ codes "componentQrl" | false ↦ elim b [ true ↦ codes "useTaskQrl" | false ↦ elim c [ true ↦ codes "useComputedQrl" | false ↦ elim d [ true ↦ codes "qrl" | false ↦ t ] ] ] ]) ≡ ast.Unmarked
    by true b c d e f g h = refl
    by false true c d e f g h = refl
    by false false true d e f g h = refl
    by false false false true e f g h = refl
    by false false false false e f g h = ap (λ x. mark_by x (same_text t (codes "component$")) (same_text t (codes "$")) (same_text t (codes "useComputed$"))) f
        ∙ ap (λ x. mark_by false x (same_text t (codes "$")) (same_text t (codes "useComputed$"))) e
        ∙ ap (λ x. mark_by false false x (same_text t (codes "useComputed$"))) h
        ∙ ap (λ x. mark_by false false false x) g

callee_unmarked : (refer : ℕ → Reference) (head : Expr) → call_mark (lifted refer head Unmarked) ≡ ast.Unmarked
callee_unmarked refer (Expr.Name t) = name_unmarked t
callee_unmarked refer (Expr.Arrow' _ (more_of-Arrow place params x _)) = refl
callee_unmarked refer (Expr.Post' _ (more_of-Expr head _) _ links) = refl
callee_unmarked refer (Expr.Jsx' _ (more_of-Jsx x _)) = refl
callee_unmarked refer head = refl

attribute_fits : (key : Text) → Fits (attribute_place key) (attribute_mark key)
attribute_fits key = by (ends_in_dollar key)
  where
    by : (b : Bool) → Fits (elim b [ true ↦ For Fn | false ↦ Unmarked ]) (elim b [ true ↦ ast.Marked | false ↦ ast.Unmarked ])
    by true = tt
    by false = refl

-- ---- the one arrow of a `$`

abbrev dollar_arrows : Option ℕ → List Found_arrow → List Found_arrow
dollar_arrows (Some place) found = []
dollar_arrows None found = found

dollar_link_arrows : (refer : ℕ → Reference) (o : Option ℕ) (n : _) (xs : Row_of-Expr _) {m : _} (rest : Row_of-Link m) (mark : Mark) (scope : List Text)
    → link_arrows (more_of-Link (dollar_link refer o (Link.Call' n xs)) rest) mark scope ≡ dollar_arrows o (all_arrows xs mark scope) ++ link_arrows rest ast.Unmarked scope
dollar_link_arrows refer (Some place) n xs rest mark scope = no_link (refer place) rest mark scope
dollar_link_arrows refer None n xs rest mark scope = refl

alone : (refer : ℕ → Reference) {m : _} (xs : Row_of-Expr m) (then : List Found_arrow) (mark : Mark) (scope : List Text) → mark ≡ mark_of Fn
    → Stay refer then (all_arrows xs mark scope) → Stay refer (dollar_arrows (place_alone xs) then) (all_arrows xs mark scope)
alone refer (more_of-Expr (Expr.Arrow' _ (more_of-Arrow place params x _)) end_of-Expr) then mark scope e h = dollar refer (arrow_at place mark scope params x) (marked_dollar Fn (arrow_at place mark scope params x) e) ▸ none
alone refer (more_of-Expr (Expr.Arrow' _ (more_of-Arrow place params x _)) (more_of-Expr y rest)) then mark scope e h = h
alone refer (more_of-Expr x rest) then mark scope e h = h
alone refer end_of-Expr then mark scope e h = h

-- ---- blocks

block_around : (refer : ℕ → Reference) {m : _} (xs : Row_of-Stmt m) (scope : List Text) → block_arrows (block_lifted refer xs) (around (declared_in (block_lifted refer xs)) scope) ≡ block_arrows (block_lifted refer xs) (around (declared_in xs) scope)
block_around refer xs scope = ap (λ names. block_arrows (block_lifted refer xs) (around names scope)) (block_declares refer xs)

-- ---- the whole

mutual
  pub expression : (refer : ℕ → Reference) (x : Expr) (there : Place) (mark now : Mark) (scope : List Text) → mark ≡ mark_there there → Fits there now → Stay refer (arrows (lifted refer x there) now scope) (arrows x mark scope)
  expression refer (Expr.Arrow' n (more_of-Arrow place params x end)) Unmarked mark now scope e f =
      subst (λ m. Stay refer (arrows (lifted refer (Expr.Arrow' n (more_of-Arrow place params x end)) Unmarked) m scope) (arrows (Expr.Arrow' n (more_of-Arrow place params x end)) mark scope)) (sym f)
      (subst (λ m. Stay refer (arrows (lifted refer (Expr.Arrow' n (more_of-Arrow place params x end)) Unmarked) ast.Unmarked scope) (arrows (Expr.Arrow' n (more_of-Arrow place params x end)) m scope)) (sym e)
      (plain refer place scope params x (body_arrows (body_lifted refer x) (around (patterns_names params) scope)) (body refer x (around (patterns_names params) scope))))
  expression refer (Expr.Arrow' _ (more_of-Arrow place params x _)) (For kind) mark now scope e f =
      as_stay (no_reference (refer place) now scope) (dollar refer (arrow_at place mark scope params x) (marked_dollar kind (arrow_at place mark scope params x) e))
  expression refer (Expr.List' _ xs) there mark now scope e f = all refer xs Unmarked ast.Unmarked ast.Unmarked scope refl refl
  expression refer (Expr.Record' _ xs) there mark now scope e f = fields refer xs scope
  expression refer (Expr.Template' parts _ xs) there mark now scope e f = all refer xs Unmarked ast.Unmarked ast.Unmarked scope refl refl
  expression refer (Expr.Unary' operator _ xs) there mark now scope e f = all refer xs Unmarked ast.Unmarked ast.Unmarked scope refl refl
  expression refer (Expr.Chain' _ first _ rest) there mark now scope e f = all refer first Unmarked ast.Unmarked ast.Unmarked scope refl refl ▸ operands refer rest scope
  expression refer (Expr.Cond' _ a _ b _ c) there mark now scope e f = all refer a Unmarked ast.Unmarked ast.Unmarked scope refl refl
      ▸ (all refer b Unmarked ast.Unmarked ast.Unmarked scope refl refl ▸ all refer c Unmarked ast.Unmarked ast.Unmarked scope refl refl)
  expression refer (Expr.Post' _ (more_of-Expr head _) _ xs) there mark now scope e f = expression refer head Unmarked ast.Unmarked ast.Unmarked scope refl refl
      ▸ links refer xs (argument_place head) (call_mark head) (call_mark (lifted refer head Unmarked)) scope (callee_there head) (plainly (argument_place head) _ (callee_unmarked refer head))
  expression refer (Expr.Assign' operator _ target _ x) there mark now scope e f = all refer target Unmarked ast.Unmarked ast.Unmarked scope refl refl ▸ all refer x Unmarked ast.Unmarked ast.Unmarked scope refl refl
  expression refer (Expr.Step' up _ target) there mark now scope e f = all refer target Unmarked ast.Unmarked ast.Unmarked scope refl refl
  expression refer (Expr.Known' known _ xs) there mark now scope e f = all refer xs Unmarked ast.Unmarked ast.Unmarked scope refl refl
  expression refer (Expr.Jsx' _ (more_of-Jsx x _)) there mark now scope e f = jsx refer x scope
  expression refer x there mark now scope e f = none

  all : (refer : ℕ → Reference) {m : _} (xs : Row_of-Expr m) (there : Place) (mark now : Mark) (scope : List Text) → mark ≡ mark_there there → Fits there now → Stay refer (all_arrows (all_lifted refer xs there) now scope) (all_arrows xs mark scope)
  all refer end_of-Expr there mark now scope e f = none
  all refer (more_of-Expr x rest) there mark now scope e f = expression refer x there mark now scope e f ▸ all refer rest there mark now scope e f

  fields : (refer : ℕ → Reference) {m : _} (xs : Row_of-Field m) (scope : List Text) → Stay refer (field_arrows (fields_lifted refer xs) scope) (field_arrows xs scope)
  fields refer end_of-Field scope = none
  fields refer (more_of-Field key x rest) scope = expression refer x Unmarked ast.Unmarked ast.Unmarked scope refl refl ▸ fields refer rest scope

  attributes : (refer : ℕ → Reference) {m : _} (xs : Row_of-Field m) (scope : List Text) → Stay refer (attribute_arrows (attributes_lifted refer xs) scope) (attribute_arrows xs scope)
  attributes refer end_of-Field scope = none
  attributes refer (more_of-Field key x rest) scope = expression refer x (attribute_place key) (attribute_mark key) (attribute_mark key) scope (attribute_there key) (attribute_fits key) ▸ attributes refer rest scope

  operands : (refer : ℕ → Reference) {m : _} (xs : Row_of-Operand m) (scope : List Text) → Stay refer (operand_arrows (operands_lifted refer xs) scope) (operand_arrows xs scope)
  operands refer end_of-Operand scope = none
  operands refer (more_of-Operand operator x rest) scope = expression refer x Unmarked ast.Unmarked ast.Unmarked scope refl refl ▸ operands refer rest scope

  links : (refer : ℕ → Reference) {m : _} (xs : Row_of-Link m) (there : Place) (mark now : Mark) (scope : List Text) → mark ≡ mark_there there → Fits there now → Stay refer (link_arrows (links_lifted refer xs there) now scope) (link_arrows xs mark scope)
  links refer end_of-Link there mark now scope e f = none
  links refer (more_of-Link (Link.Prop name) rest) there mark now scope e f = links refer rest Unmarked ast.Unmarked ast.Unmarked scope refl refl
  links refer (more_of-Link (Link.Index x) rest) there mark now scope e f = expression refer x Unmarked ast.Unmarked ast.Unmarked scope refl refl ▸ links refer rest Unmarked ast.Unmarked ast.Unmarked scope refl refl
  links refer (more_of-Link (Link.Call' n xs) rest) (For Fn) mark now scope e f =
      as_stay (dollar_link_arrows refer (place_alone xs) n (all_lifted refer xs (For Fn)) (links_lifted refer rest Unmarked) now scope)
      (alone refer xs (all_arrows (all_lifted refer xs (For Fn)) now scope) mark scope e (all refer xs (For Fn) mark now scope e f) ▸ links refer rest Unmarked ast.Unmarked ast.Unmarked scope refl refl)
  links refer (more_of-Link (Link.Call' n xs) rest) there mark now scope e f = all refer xs there mark now scope e f ▸ links refer rest Unmarked ast.Unmarked ast.Unmarked scope refl refl

  jsx : (refer : ℕ → Reference) (x : Jsx) (scope : List Text) → Stay refer (jsx_arrows (jsx_lifted refer x) scope) (jsx_arrows x scope)
  jsx refer (Jsx' tag _ xs _ children) scope = attributes refer xs scope ▸ all refer children Unmarked ast.Unmarked ast.Unmarked scope refl refl

  statement : (refer : ℕ → Reference) (x : Stmt) (scope : List Text) → Stay refer (statement_arrows (statement_lifted refer x) scope) (statement_arrows x scope)
  statement refer (Stmt.Const pattern x) scope = expression refer x Unmarked ast.Unmarked ast.Unmarked scope refl refl
  statement refer (Stmt.Let name x) scope = expression refer x Unmarked ast.Unmarked ast.Unmarked scope refl refl
  statement refer (Stmt.Do x) scope = expression refer x Unmarked ast.Unmarked ast.Unmarked scope refl refl
  statement refer (Stmt.Delete x) scope = expression refer x Unmarked ast.Unmarked ast.Unmarked scope refl refl
  statement refer (Stmt.Return' None') scope = none
  statement refer (Stmt.Return' (Some' x)) scope = expression refer x Unmarked ast.Unmarked ast.Unmarked scope refl refl
  statement refer (Stmt.If' x _ then _ otherwise) scope = expression refer x Unmarked ast.Unmarked ast.Unmarked scope refl refl
      ▸ (as_stay (block_around refer then scope) (block refer then (around (declared_in then) scope)) ▸ as_stay (block_around refer otherwise scope) (block refer otherwise (around (declared_in otherwise) scope)))
  statement refer (Stmt.While' x _ xs) scope = expression refer x Unmarked ast.Unmarked ast.Unmarked scope refl refl ▸ as_stay (block_around refer xs scope) (block refer xs (around (declared_in xs) scope))
  statement refer (Stmt.ForOf' name x _ xs) scope = expression refer x Unmarked ast.Unmarked ast.Unmarked scope refl refl ▸ as_stay (block_around refer xs (name ∷ scope)) (block refer xs (around (declared_in xs) (name ∷ scope)))
  statement refer Stmt.Break scope = none
  statement refer Stmt.Continue scope = none
  statement refer (Statement_block' _ xs) scope = as_stay (block_around refer xs scope) (block refer xs (around (declared_in xs) scope))

  block : (refer : ℕ → Reference) {m : _} (xs : Row_of-Stmt m) (scope : List Text) → Stay refer (block_arrows (block_lifted refer xs) scope) (block_arrows xs scope)
  block refer end_of-Stmt scope = none
  block refer (more_of-Stmt x rest) scope = statement refer x scope ▸ block refer rest scope

  body : (refer : ℕ → Reference) (x : Body) (scope : List Text) → Stay refer (body_arrows (body_lifted refer x) scope) (body_arrows x scope)
  body refer (Body.Value' _ xs) scope = all refer xs Unmarked ast.Unmarked ast.Unmarked scope refl refl
  body refer (Body_block' _ xs) scope = as_stay (block_around refer xs scope) (block refer xs (around (declared_in xs) scope))

pub lifting_keeps_arrows : LiftingKeepsArrows
lifting_keeps_arrows refer x scope = sym (append-nil (body_arrows (body_lifted refer x) scope)) ∙ (body refer x scope).stay [] ∙ ap (λ xs. map (lifted_arrow refer) (outside_after 0 xs)) (append-nil (body_arrows x scope))
