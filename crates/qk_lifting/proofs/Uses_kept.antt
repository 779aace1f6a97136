-- Lifting keeps which locals code uses, in the order of first use, where each dollar arrow is replaced by what it captures.
use Rattle.std.specs.Prelude.{◌≡◌, refl, ℕ, Bool, true, false, Option, Some, None, List, [], ◌∷◌, ◌++◌, codes}
use Rattle.std.proofs.Common.{sym, ◌∙◌, ap, subst}
use Rattle.std.proofs.lemmas.List.{append-nil}
use Rattle.std.specs.Cmp.Lexicographic.{same_text as told_same}
use Rattle.qk_ast.specs.declared.Expr.{Expr, Row_of-Expr, end_of-Expr, more_of-Expr, Row_of-Field, end_of-Field, more_of-Field, Row_of-Operand, end_of-Operand, more_of-Operand, Row_of-Link, end_of-Link, more_of-Link, more_of-Arrow, more_of-Jsx}
use Rattle.qk_ast.specs.declared.Pattern.{Pattern}
use Rattle.qk_ast.specs.declared.Stmt.{Stmt, Block' as Statement_block', Row_of-Stmt, end_of-Stmt, more_of-Stmt, None', Some'}
use Rattle.qk_ast.specs.declared.Link.{Link}
use Rattle.qk_ast.specs.declared.Jsx.{Jsx, Jsx'}
use Rattle.qk_ast.specs.declared.Body.{Body, Block' as Body_block'}
use Rattle.qk_ast.specs.Texts.{Text, same_text}
use Rattle.qk_ast.specs.Names.{is_listed, around, others_than, patterns_names, declared_by, declared_in}
use Rattle.qk_ast.specs.Arrows as ast
use Rattle.qk_ast.specs.Arrows.{Mark, Found_arrow, arrows, all_arrows, field_arrows, attribute_arrows, operand_arrows, link_arrows, jsx_arrows, statement_arrows, block_arrows, body_arrows, call_mark, attribute_mark, inner_scope}
use Rattle.qk_ast.specs.Uses.{uses, all_uses, field_uses, operand_uses, link_uses, jsx_uses, statement_uses, block_uses, body_uses, free_names, captures_of}
use Rattle.qk_lifting.specs.declared.SegmentKind.TheVariants.{Fn}
use Rattle.qk_lifting.specs.Kinds.{Place, Unmarked, For, argument_place, attribute_place}
use Rattle.qk_lifting.specs.Marks.{mark_there}
use Rattle.qk_lifting.specs.References.{Reference, reference, reference_link, names_row}
use Rattle.qk_lifting.specs.Lifting.{built_name, place_alone, dollar_link, lifted, all_lifted, fields_lifted, attributes_lifted, operands_lifted, links_lifted, jsx_lifted, statement_lifted, block_lifted, body_lifted}
use Rattle.qk_lifting.specs.Laws.{Tells, Told}
use Rattle.qk_lifting.proofs.Kinds_alike.{callee_there, attribute_there}
use Rattle.qk_lifting.proofs.Once.{renamed, Alike, ◌▸◌, same, as_same, undeclared, unseen, ◌⟷◌, turned, captured}

-- ---- what is told of the arrows

front_told : (refer : ℕ → Reference) (xs ys : List Found_arrow) → Tells refer (xs ++ ys) → Tells refer xs
front_told refer [] ys h = tt
front_told refer (a ∷ xs) ys h = (h.0, front_told refer xs ys h.1)

back_told : (refer : ℕ → Reference) (xs ys : List Found_arrow) → Tells refer (xs ++ ys) → Tells refer ys
back_told refer [] ys h = h
back_told refer (a ∷ xs) ys h = back_told refer xs ys h.1

pub front : {refer : ℕ → Reference} {xs : List Found_arrow} (ys : List Found_arrow) → Told refer (xs ++ ys) → Told refer xs
front {refer} {xs} ys h = record { tells = front_told refer xs ys h.tells }

pub back : {refer : ℕ → Reference} (xs : List Found_arrow) {ys : List Found_arrow} → Told refer (xs ++ ys) → Told refer ys
back {refer} xs {ys} h = record { tells = back_told refer xs ys h.tells }

-- ---- names and references

name_kept : (scope : List Text) (t : Text) → Alike scope (built_name t ∷ []) (t ∷ [])
name_kept scope t = by (same_text t (codes "component$")) (same_text t (codes "useTask$")) (same_text t (codes "useComputed$")) (same_text t (codes "$")) refl refl refl refl
  where
    both : (u v : Text) → same_text t u ≡ true → is_listed u renamed ≡ true → is_listed v renamed ≡ true → Alike scope (v ∷ []) (t ∷ [])
    both u v e h g = unseen scope v [] g ⟷ turned (unseen scope t [] (ap (λ w. is_listed w renamed) (told_same t u (sym e)) ∙ h))

    by : (a b c d : Bool) → same_text t (codes "component$") ≡ a → same_text t (codes "useTask$") ≡ b → same_text t (codes "useComputed$") ≡ c → same_text t (codes "$") ≡ d
        → Alike scope (elim a [ true ↦ codes "componentQrl" | false ↦ elim b [ true ↦ codes "useTaskQrl" | false ↦ elim c [ true ↦ codes "useComputedQrl" | false ↦ elim d [ true ↦ codes "qrl" | false ↦ t ] ] ] ] ∷ []) (t ∷ [])
    by true b c d e f g h = both (codes "component$") (codes "componentQrl") e refl refl
    by false true c d e f g h = both (codes "useTask$") (codes "useTaskQrl") f refl refl
    by false false true d e f g h = both (codes "useComputed$") (codes "useComputedQrl") g refl refl
    by false false false true e f g h = both (codes "$") (codes "qrl") h refl refl
    by false false false false e f g h = same

names_row_uses : (names : List Text) → all_uses (names_row names) ≡ names
names_row_uses [] = refl
names_row_uses (name ∷ rest) = ap (λ xs. name ∷ xs) (names_row_uses rest)

link_names : (r : Reference) {m : _} (rest : Row_of-Link m) → link_uses (more_of-Link (reference_link r) rest) ≡ r.captures ++ link_uses rest
link_names r rest = ap (λ xs. xs ++ link_uses rest) (append-nil (all_uses (names_row r.captures)) ∙ names_row_uses r.captures)

reference_names : (r : Reference) → uses (reference r) ≡ codes "qrl" ∷ r.captures
reference_names r = ap (λ xs. codes "qrl" ∷ xs) (link_names r end_of-Link ∙ append-nil r.captures)

-- what an arrow captures stands for it
arrow_kept : (refer : ℕ → Reference) (a : Found_arrow) → (refer a.place).captures ≡ captures_of a → Alike a.scope (uses (reference (refer a.place))) (free_names a.params a.body)
arrow_kept refer a e = as_same (reference_names (refer a.place)) ⟷ unseen a.scope (codes "qrl") (refer a.place).captures refl ⟷ as_same e ⟷ captured a.scope (free_names a.params a.body)

abbrev dollar_uses : (ℕ → Reference) → Option ℕ → List Text → List Text
dollar_uses refer (Some place) names = (refer place).captures
dollar_uses refer None names = names

dollar_link_uses : (refer : ℕ → Reference) (o : Option ℕ) (n : _) (xs : Row_of-Expr _) {m : _} (rest : Row_of-Link m)
    → link_uses (more_of-Link (dollar_link refer o (Link.Call' n xs)) rest) ≡ dollar_uses refer o (all_uses xs) ++ link_uses rest
dollar_link_uses refer (Some place) n xs rest = link_names (refer place) rest
dollar_link_uses refer None n xs rest = refl

alone : (refer : ℕ → Reference) {m : _} (xs : Row_of-Expr m) (mark : Mark) (scope : List Text) → Told refer (all_arrows xs mark scope)
    → Alike scope (all_uses (all_lifted refer xs (For Fn))) (all_uses xs) → Alike scope (dollar_uses refer (place_alone xs) (all_uses (all_lifted refer xs (For Fn)))) (all_uses xs)
alone refer (more_of-Expr (Expr.Arrow' _ (more_of-Arrow place params body _)) end_of-Expr) mark scope told h =
    as_same told.tells.0 ⟷ captured scope (free_names params body) ⟷ as_same (sym (append-nil (free_names params body)))
alone refer (more_of-Expr (Expr.Arrow' _ (more_of-Arrow place params body _)) (more_of-Expr x rest)) mark scope told h = h
alone refer (more_of-Expr x rest) mark scope told h = h
alone refer end_of-Expr mark scope told h = h

-- ---- blocks declare the same

statement_declares : (refer : ℕ → Reference) (s : Stmt) → declared_by (statement_lifted refer s) ≡ declared_by s
statement_declares refer (Stmt.Const (Pattern.Scope names) x) = refl
statement_declares refer (Stmt.Const (Pattern.Name name) x) = refl
statement_declares refer (Stmt.Const (Pattern.Fields names) x) = refl
statement_declares refer (Stmt.Return' None') = refl
statement_declares refer (Stmt.Return' (Some' x)) = refl
statement_declares refer _ = refl

pub block_declares : (refer : ℕ → Reference) {m : _} (xs : Row_of-Stmt m) → declared_in (block_lifted refer xs) ≡ declared_in xs
block_declares refer end_of-Stmt = refl
block_declares refer (more_of-Stmt s rest) = ap (λ names. names ++ declared_in (block_lifted refer rest)) (statement_declares refer s) ∙ ap (λ names. declared_by s ++ names) (block_declares refer rest)

inside : (refer : ℕ → Reference) {m : _} (xs : Row_of-Stmt m) (scope : List Text) → Alike (around (declared_in xs) scope) (block_uses (block_lifted refer xs)) (block_uses xs)
    → Alike scope (others_than (declared_in (block_lifted refer xs)) (block_uses (block_lifted refer xs))) (others_than (declared_in xs) (block_uses xs))
inside refer xs scope h = as_same (ap (λ names. others_than names (block_uses (block_lifted refer xs))) (block_declares refer xs)) ⟷ undeclared (declared_in xs) h

-- ---- the whole

mutual
  pub expression : (refer : ℕ → Reference) (x : Expr) (there : Place) (mark : Mark) (scope : List Text) → mark ≡ mark_there there → Told refer (arrows x mark scope) → Alike scope (uses (lifted refer x there)) (uses x)
  expression refer (Expr.Arrow' _ (more_of-Arrow place params x _)) Unmarked mark scope e told =
      undeclared (patterns_names params) (body refer x (around (patterns_names params) scope) (subst (λ m. Told refer (body_arrows x (inner_scope m params scope))) e (back (record { place = place; scope = scope; mark = mark; params = params; body = x } ∷ []) told)))
  expression refer (Expr.Arrow' _ (more_of-Arrow place params x _)) (For kind) mark scope e told = arrow_kept refer (record { place = place; scope = scope; mark = mark; params = params; body = x }) told.tells.0
  expression refer (Expr.Name t) there mark scope e told = name_kept scope t
  expression refer (Expr.List' _ xs) there mark scope e told = all refer xs Unmarked ast.Unmarked scope refl told
  expression refer (Expr.Record' _ xs) there mark scope e told = fields refer xs scope told
  expression refer (Expr.Template' parts _ xs) there mark scope e told = all refer xs Unmarked ast.Unmarked scope refl told
  expression refer (Expr.Unary' operator _ xs) there mark scope e told = all refer xs Unmarked ast.Unmarked scope refl told
  expression refer (Expr.Chain' _ first _ rest) there mark scope e told = all refer first Unmarked ast.Unmarked scope refl (front _ told) ▸ operands refer rest scope (back (all_arrows first ast.Unmarked scope) told)
  expression refer (Expr.Cond' _ a _ b _ c) there mark scope e told = all refer a Unmarked ast.Unmarked scope refl (front _ told)
      ▸ (all refer b Unmarked ast.Unmarked scope refl (front _ (back (all_arrows a ast.Unmarked scope) told))
      ▸ all refer c Unmarked ast.Unmarked scope refl (back (all_arrows b ast.Unmarked scope) (back (all_arrows a ast.Unmarked scope) told)))
  expression refer (Expr.Post' _ (more_of-Expr head end_of-Expr) _ xs) there mark scope e told =
      (expression refer head Unmarked ast.Unmarked scope refl (front _ told) ▸ same) ▸ links refer xs (argument_place head) (call_mark head) scope (callee_there head) (back (arrows head ast.Unmarked scope) told)
  expression refer (Expr.Assign' operator _ target _ x) there mark scope e told = all refer target Unmarked ast.Unmarked scope refl (front _ told) ▸ all refer x Unmarked ast.Unmarked scope refl (back (all_arrows target ast.Unmarked scope) told)
  expression refer (Expr.Step' up _ target) there mark scope e told = all refer target Unmarked ast.Unmarked scope refl told
  expression refer (Expr.Known' known _ xs) there mark scope e told = all refer xs Unmarked ast.Unmarked scope refl told
  expression refer (Expr.Jsx' _ (more_of-Jsx x _)) there mark scope e told = jsx refer x scope told
  expression refer x there mark scope e told = same

  pub all : (refer : ℕ → Reference) {m : _} (xs : Row_of-Expr m) (there : Place) (mark : Mark) (scope : List Text) → mark ≡ mark_there there → Told refer (all_arrows xs mark scope) → Alike scope (all_uses (all_lifted refer xs there)) (all_uses xs)
  all refer end_of-Expr there mark scope e told = same
  all refer (more_of-Expr x rest) there mark scope e told = expression refer x there mark scope e (front _ told) ▸ all refer rest there mark scope e (back (arrows x mark scope) told)

  fields : (refer : ℕ → Reference) {m : _} (xs : Row_of-Field m) (scope : List Text) → Told refer (field_arrows xs scope) → Alike scope (field_uses (fields_lifted refer xs)) (field_uses xs)
  fields refer end_of-Field scope told = same
  fields refer (more_of-Field key x rest) scope told = expression refer x Unmarked ast.Unmarked scope refl (front _ told) ▸ fields refer rest scope (back (arrows x ast.Unmarked scope) told)

  attributes : (refer : ℕ → Reference) {m : _} (xs : Row_of-Field m) (scope : List Text) → Told refer (attribute_arrows xs scope) → Alike scope (field_uses (attributes_lifted refer xs)) (field_uses xs)
  attributes refer end_of-Field scope told = same
  attributes refer (more_of-Field key x rest) scope told = expression refer x (attribute_place key) (attribute_mark key) scope (attribute_there key) (front _ told) ▸ attributes refer rest scope (back (arrows x (attribute_mark key) scope) told)

  operands : (refer : ℕ → Reference) {m : _} (xs : Row_of-Operand m) (scope : List Text) → Told refer (operand_arrows xs scope) → Alike scope (operand_uses (operands_lifted refer xs)) (operand_uses xs)
  operands refer end_of-Operand scope told = same
  operands refer (more_of-Operand operator x rest) scope told = expression refer x Unmarked ast.Unmarked scope refl (front _ told) ▸ operands refer rest scope (back (arrows x ast.Unmarked scope) told)

  links : (refer : ℕ → Reference) {m : _} (xs : Row_of-Link m) (there : Place) (mark : Mark) (scope : List Text) → mark ≡ mark_there there → Told refer (link_arrows xs mark scope) → Alike scope (link_uses (links_lifted refer xs there)) (link_uses xs)
  links refer end_of-Link there mark scope e told = same
  links refer (more_of-Link (Link.Prop name) rest) there mark scope e told = links refer rest Unmarked ast.Unmarked scope refl told
  links refer (more_of-Link (Link.Index x) rest) there mark scope e told = expression refer x Unmarked ast.Unmarked scope refl (front _ told) ▸ links refer rest Unmarked ast.Unmarked scope refl (back (arrows x ast.Unmarked scope) told)
  links refer (more_of-Link (Link.Call' n xs) rest) (For Fn) mark scope e told =
      as_same (dollar_link_uses refer (place_alone xs) n (all_lifted refer xs (For Fn)) (links_lifted refer rest Unmarked))
      ⟷ (alone refer xs mark scope (front _ told) (all refer xs (For Fn) mark scope e (front _ told)) ▸ links refer rest Unmarked ast.Unmarked scope refl (back (all_arrows xs mark scope) told))
  links refer (more_of-Link (Link.Call' n xs) rest) there mark scope e told = all refer xs there mark scope e (front _ told) ▸ links refer rest Unmarked ast.Unmarked scope refl (back (all_arrows xs mark scope) told)

  jsx : (refer : ℕ → Reference) (x : Jsx) (scope : List Text) → Told refer (jsx_arrows x scope) → Alike scope (jsx_uses (jsx_lifted refer x)) (jsx_uses x)
  jsx refer (Jsx' tag _ xs _ children) scope told = same ▸ (attributes refer xs scope (front _ told) ▸ all refer children Unmarked ast.Unmarked scope refl (back (attribute_arrows xs scope) told))

  statement : (refer : ℕ → Reference) (x : Stmt) (scope : List Text) → Told refer (statement_arrows x scope) → Alike scope (statement_uses (statement_lifted refer x)) (statement_uses x)
  statement refer (Stmt.Const (Pattern.Scope names) x) scope told = same
  statement refer (Stmt.Const (Pattern.Name name) x) scope told = expression refer x Unmarked ast.Unmarked scope refl told
  statement refer (Stmt.Const (Pattern.Fields names) x) scope told = expression refer x Unmarked ast.Unmarked scope refl told
  statement refer (Stmt.Let name x) scope told = expression refer x Unmarked ast.Unmarked scope refl told
  statement refer (Stmt.Do x) scope told = expression refer x Unmarked ast.Unmarked scope refl told
  statement refer (Stmt.Delete x) scope told = expression refer x Unmarked ast.Unmarked scope refl told
  statement refer (Stmt.Return' None') scope told = same
  statement refer (Stmt.Return' (Some' x)) scope told = expression refer x Unmarked ast.Unmarked scope refl told
  statement refer (Stmt.If' x _ then _ otherwise) scope told = expression refer x Unmarked ast.Unmarked scope refl (front _ told)
      ▸ (inside refer then scope (block refer then (around (declared_in then) scope) (front _ (back (arrows x ast.Unmarked scope) told)))
      ▸ inside refer otherwise scope (block refer otherwise (around (declared_in otherwise) scope) (back (block_arrows then (around (declared_in then) scope)) (back (arrows x ast.Unmarked scope) told))))
  statement refer (Stmt.While' x _ xs) scope told = expression refer x Unmarked ast.Unmarked scope refl (front _ told) ▸ inside refer xs scope (block refer xs (around (declared_in xs) scope) (back (arrows x ast.Unmarked scope) told))
  statement refer (Stmt.ForOf' name x _ xs) scope told = expression refer x Unmarked ast.Unmarked scope refl (front _ told)
      ▸ undeclared (name ∷ []) (inside refer xs (name ∷ scope) (block refer xs (around (declared_in xs) (name ∷ scope)) (back (arrows x ast.Unmarked scope) told)))
  statement refer Stmt.Break scope told = same
  statement refer Stmt.Continue scope told = same
  statement refer (Statement_block' _ xs) scope told = inside refer xs scope (block refer xs (around (declared_in xs) scope) told)

  block : (refer : ℕ → Reference) {m : _} (xs : Row_of-Stmt m) (scope : List Text) → Told refer (block_arrows xs scope) → Alike scope (block_uses (block_lifted refer xs)) (block_uses xs)
  block refer end_of-Stmt scope told = same
  block refer (more_of-Stmt x rest) scope told = statement refer x scope (front _ told) ▸ block refer rest scope (back (statement_arrows x scope) told)

  pub body : (refer : ℕ → Reference) (x : Body) (scope : List Text) → Told refer (body_arrows x scope) → Alike scope (body_uses (body_lifted refer x)) (body_uses x)
  body refer (Body.Value' _ xs) scope told = all refer xs Unmarked ast.Unmarked scope refl told
  body refer (Body_block' _ xs) scope told = inside refer xs scope (block refer xs (around (declared_in xs) scope) told)
