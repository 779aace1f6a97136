-- Fixed data has no arrows and uses no names.
use Rattle.std.proofs.Common.{◌≡◌, refl, ◌∙◌, ap}
use Rattle.std.proofs.lemmas.Bool.{false≢true}
use Rattle.std.specs.Prelude.{true, List, [], ◌++◌}
use Rattle.qk_ast.specs.declared.Un.TheVariants as un
use Rattle.qk_ast.specs.declared.Expr.{Expr, Row_of-Expr, end_of-Expr, more_of-Expr, Row_of-Field, end_of-Field, more_of-Field}
use Rattle.qk_ast.specs.Texts.{Text}
use Rattle.qk_ast.specs.Arrows.{Mark, Unmarked, arrows, all_arrows, field_arrows}
use Rattle.qk_ast.specs.Uses.{uses, all_uses, field_uses}
use Rattle.qk_ast.specs.Placing.{is_data, are_data, are_data_fields}
use Rattle.qk_ast.proofs.FrontToken.{left, right}

both_empty : {X : Type 0} (xs ys : List X) → xs ≡ [] → ys ≡ [] → xs ++ ys ≡ []
both_empty xs ys e f = ap (λ zs. zs ++ ys) e ∙ f

mutual
  pub no_arrows : (x : Expr) → is_data x ≡ true → (mark : Mark) (scope : List Text) → arrows x mark scope ≡ []
  no_arrows Expr.Undefined h mark scope = refl
  no_arrows Expr.Null h mark scope = refl
  no_arrows (Expr.Bool b) h mark scope = refl
  no_arrows (Expr.Int n) h mark scope = refl
  no_arrows (Expr.Text t) h mark scope = refl
  no_arrows (Expr.Unary' un.Neg _ (more_of-Expr (Expr.Int n) end_of-Expr)) h mark scope = refl
  no_arrows (Expr.List' _ xs) h mark scope = all_no_arrows xs h Unmarked scope
  no_arrows (Expr.Record' _ xs) h mark scope = fields_no_arrows xs h scope
  no_arrows x h mark scope = absurd (false≢true h)

  pub all_no_arrows : {m : _} (xs : Row_of-Expr m) → are_data xs ≡ true → (mark : Mark) (scope : List Text) → all_arrows xs mark scope ≡ []
  all_no_arrows end_of-Expr h mark scope = refl
  all_no_arrows (more_of-Expr x rest) h mark scope =
      both_empty (arrows x mark scope) (all_arrows rest mark scope) (no_arrows x (left (is_data x) (are_data rest) h) mark scope) (all_no_arrows rest (right (is_data x) (are_data rest) h) mark scope)

  pub fields_no_arrows : {m : _} (xs : Row_of-Field m) → are_data_fields xs ≡ true → (scope : List Text) → field_arrows xs scope ≡ []
  fields_no_arrows end_of-Field h scope = refl
  fields_no_arrows (more_of-Field key x rest) h scope =
      both_empty (arrows x Unmarked scope) (field_arrows rest scope) (no_arrows x (left (is_data x) (are_data_fields rest) h) Unmarked scope) (fields_no_arrows rest (right (is_data x) (are_data_fields rest) h) scope)

mutual
  pub no_uses : (x : Expr) → is_data x ≡ true → uses x ≡ []
  no_uses Expr.Undefined h = refl
  no_uses Expr.Null h = refl
  no_uses (Expr.Bool b) h = refl
  no_uses (Expr.Int n) h = refl
  no_uses (Expr.Text t) h = refl
  no_uses (Expr.Unary' un.Neg _ (more_of-Expr (Expr.Int n) end_of-Expr)) h = refl
  no_uses (Expr.List' _ xs) h = all_no_uses xs h
  no_uses (Expr.Record' _ xs) h = fields_no_uses xs h
  no_uses x h = absurd (false≢true h)

  pub all_no_uses : {m : _} (xs : Row_of-Expr m) → are_data xs ≡ true → all_uses xs ≡ []
  all_no_uses end_of-Expr h = refl
  all_no_uses (more_of-Expr x rest) h = both_empty (uses x) (all_uses rest) (no_uses x (left (is_data x) (are_data rest) h)) (all_no_uses rest (right (is_data x) (are_data rest) h))

  pub fields_no_uses : {m : _} (xs : Row_of-Field m) → are_data_fields xs ≡ true → field_uses xs ≡ []
  fields_no_uses end_of-Field h = refl
  fields_no_uses (more_of-Field key x rest) h = both_empty (uses x) (field_uses rest) (no_uses x (left (is_data x) (are_data_fields rest) h)) (fields_no_uses rest (right (is_data x) (are_data_fields rest) h))
