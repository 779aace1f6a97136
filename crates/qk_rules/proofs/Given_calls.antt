-- What calls are given, by the form of what they are given.
use Rattle.std.specs.Prelude.{◌≡◌, refl, ℕ, Bool, List, [], ◌∷◌}
use denote.Hole.Carrier.{hidden}
use Rattle.qk_ast.specs.declared.Body.TheBlock.{shape-the_row-Arrow-6, hidden-the_row-Arrow-6}
use Rattle.qk_ast.specs.declared.Body.{Body, Block' as Body_block'}
use Rattle.qk_ast.specs.declared.Expr.{Expr, more_of-Arrow}
use Rattle.qk_ast.specs.declared.Expr.TheVariants as e
use Rattle.qk_ast.specs.declared.Pattern.{Pattern}
use Rattle.qk_ast.specs.Texts.{Text}
use Rattle.qk_ast.specs.Spots.{With}
use Rattle.qk_ast.specs.Placing.{has_parameters, is_dollar_argument, is_tracking}
use Rattle.qk_rules.specs.Given_calls.{arrow_given, are_given, value_of, tracked, are_tracked}

pub given_arrow : (callee : Text) (place : ℕ) (params : List Pattern) (body : Body) → arrow_given callee (e.Arrow (record { place = place; params = params; body = body })) ≡ has_parameters callee params
unfolding shape-the_row-Arrow-6 hidden-the_row-Arrow-6 hidden
given_arrow callee place params body = refl

pub tracked_arrow : (place : ℕ) (params : List Pattern) (body : Body) → tracked (e.Arrow (record { place = place; params = params; body = body })) ≡ value_of params body
unfolding shape-the_row-Arrow-6 hidden-the_row-Arrow-6 hidden
tracked_arrow place params body = refl

pub given_is : (callee : Text) (xs : List Expr) → is_dollar_argument callee xs ≡ are_given callee xs
given_is callee [] = refl
given_is callee (Expr.Undefined ∷ []) = refl
given_is callee (Expr.Null ∷ []) = refl
given_is callee ((Expr.Bool b) ∷ []) = refl
given_is callee ((Expr.Int n) ∷ []) = refl
given_is callee ((Expr.Text t) ∷ []) = refl
given_is callee ((Expr.Name t) ∷ []) = refl
given_is callee ((Expr.List' _ xs) ∷ []) = refl
given_is callee ((Expr.Record' _ fs) ∷ []) = refl
given_is callee ((Expr.Template' parts _ xs) ∷ []) = refl
given_is callee ((Expr.Unary' op _ x) ∷ []) = refl
given_is callee ((Expr.Chain' _ x _ os) ∷ []) = refl
given_is callee ((Expr.Cond' _ x _ y _ z) ∷ []) = refl
given_is callee ((Expr.Post' _ x _ ls) ∷ []) = refl
given_is callee ((Expr.Assign' op _ x _ y) ∷ []) = refl
given_is callee ((Expr.Step' up _ x) ∷ []) = refl
given_is callee ((Expr.Known' known _ xs) ∷ []) = refl
given_is callee ((Expr.Arrow' _ (more_of-Arrow place params body _)) ∷ []) = refl
given_is callee ((Expr.Jsx' _ j) ∷ []) = refl
given_is callee (Expr.Undefined ∷ (second ∷ rest)) = refl
given_is callee (Expr.Null ∷ (second ∷ rest)) = refl
given_is callee ((Expr.Bool b) ∷ (second ∷ rest)) = refl
given_is callee ((Expr.Int n) ∷ (second ∷ rest)) = refl
given_is callee ((Expr.Text t) ∷ (second ∷ rest)) = refl
given_is callee ((Expr.Name t) ∷ (second ∷ rest)) = refl
given_is callee ((Expr.List' _ xs) ∷ (second ∷ rest)) = refl
given_is callee ((Expr.Record' _ fs) ∷ (second ∷ rest)) = refl
given_is callee ((Expr.Template' parts _ xs) ∷ (second ∷ rest)) = refl
given_is callee ((Expr.Unary' op _ x) ∷ (second ∷ rest)) = refl
given_is callee ((Expr.Chain' _ x _ os) ∷ (second ∷ rest)) = refl
given_is callee ((Expr.Cond' _ x _ y _ z) ∷ (second ∷ rest)) = refl
given_is callee ((Expr.Post' _ x _ ls) ∷ (second ∷ rest)) = refl
given_is callee ((Expr.Assign' op _ x _ y) ∷ (second ∷ rest)) = refl
given_is callee ((Expr.Step' up _ x) ∷ (second ∷ rest)) = refl
given_is callee ((Expr.Known' known _ xs) ∷ (second ∷ rest)) = refl
given_is callee ((Expr.Arrow' _ (more_of-Arrow place params body _)) ∷ (second ∷ rest)) = refl
given_is callee ((Expr.Jsx' _ j) ∷ (second ∷ rest)) = refl

pub tracked_is : (xs : List Expr) (whole : Bool) → is_tracking (With xs whole) ≡ are_tracked xs
tracked_is [] whole = refl
tracked_is (Expr.Undefined ∷ []) whole = refl
tracked_is (Expr.Null ∷ []) whole = refl
tracked_is ((Expr.Bool b) ∷ []) whole = refl
tracked_is ((Expr.Int n) ∷ []) whole = refl
tracked_is ((Expr.Text t) ∷ []) whole = refl
tracked_is ((Expr.Name t) ∷ []) whole = refl
tracked_is ((Expr.List' _ xs) ∷ []) whole = refl
tracked_is ((Expr.Record' _ fs) ∷ []) whole = refl
tracked_is ((Expr.Template' parts _ xs) ∷ []) whole = refl
tracked_is ((Expr.Unary' op _ x) ∷ []) whole = refl
tracked_is ((Expr.Chain' _ x _ os) ∷ []) whole = refl
tracked_is ((Expr.Cond' _ x _ y _ z) ∷ []) whole = refl
tracked_is ((Expr.Post' _ x _ ls) ∷ []) whole = refl
tracked_is ((Expr.Assign' op _ x _ y) ∷ []) whole = refl
tracked_is ((Expr.Step' up _ x) ∷ []) whole = refl
tracked_is ((Expr.Known' known _ xs) ∷ []) whole = refl
tracked_is (Expr.Arrow' _ (more_of-Arrow place [] (Body.Value' _ x) _) ∷ []) whole = refl
tracked_is (Expr.Arrow' _ (more_of-Arrow place [] (Body_block' _ ss) _) ∷ []) whole = refl
tracked_is (Expr.Arrow' _ (more_of-Arrow place (p ∷ ps) (Body.Value' _ x) _) ∷ []) whole = refl
tracked_is (Expr.Arrow' _ (more_of-Arrow place (p ∷ ps) (Body_block' _ ss) _) ∷ []) whole = refl
tracked_is ((Expr.Jsx' _ j) ∷ []) whole = refl
tracked_is (Expr.Undefined ∷ (second ∷ rest)) whole = refl
tracked_is (Expr.Null ∷ (second ∷ rest)) whole = refl
tracked_is ((Expr.Bool b) ∷ (second ∷ rest)) whole = refl
tracked_is ((Expr.Int n) ∷ (second ∷ rest)) whole = refl
tracked_is ((Expr.Text t) ∷ (second ∷ rest)) whole = refl
tracked_is ((Expr.Name t) ∷ (second ∷ rest)) whole = refl
tracked_is ((Expr.List' _ xs) ∷ (second ∷ rest)) whole = refl
tracked_is ((Expr.Record' _ fs) ∷ (second ∷ rest)) whole = refl
tracked_is ((Expr.Template' parts _ xs) ∷ (second ∷ rest)) whole = refl
tracked_is ((Expr.Unary' op _ x) ∷ (second ∷ rest)) whole = refl
tracked_is ((Expr.Chain' _ x _ os) ∷ (second ∷ rest)) whole = refl
tracked_is ((Expr.Cond' _ x _ y _ z) ∷ (second ∷ rest)) whole = refl
tracked_is ((Expr.Post' _ x _ ls) ∷ (second ∷ rest)) whole = refl
tracked_is ((Expr.Assign' op _ x _ y) ∷ (second ∷ rest)) whole = refl
tracked_is ((Expr.Step' up _ x) ∷ (second ∷ rest)) whole = refl
tracked_is ((Expr.Known' known _ xs) ∷ (second ∷ rest)) whole = refl
tracked_is (Expr.Arrow' _ (more_of-Arrow place [] (Body.Value' _ x) _) ∷ (second ∷ rest)) whole = refl
tracked_is (Expr.Arrow' _ (more_of-Arrow place [] (Body_block' _ ss) _) ∷ (second ∷ rest)) whole = refl
tracked_is (Expr.Arrow' _ (more_of-Arrow place (p ∷ ps) (Body.Value' _ x) _) ∷ (second ∷ rest)) whole = refl
tracked_is (Expr.Arrow' _ (more_of-Arrow place (p ∷ ps) (Body_block' _ ss) _) ∷ (second ∷ rest)) whole = refl
tracked_is ((Expr.Jsx' _ j) ∷ (second ∷ rest)) whole = refl
