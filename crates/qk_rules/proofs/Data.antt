-- Fixed data and the kinds of values, by the form of the tree.
use Rattle.std.specs.Prelude.{◌≡◌, refl, ◌&&◌, List, [], ◌∷◌}
use Rattle.std.proofs.Common.{ap}
use denote.Hole.Carrier.{hidden}
use Rattle.qk_ast.specs.declared.Body.TheBlock.{shape-the_row-Expr-0, hidden-the_row-Expr-0, hidden-the_row-Expr-2, hidden-the_row-Field-3}
use Rattle.qk_ast.specs.declared.Expr.{Expr}
use Rattle.qk_ast.specs.declared.Expr.TheVariants as e
use Rattle.qk_ast.specs.declared.Un.{Un}
use Rattle.qk_ast.specs.declared.Un.TheVariants as un
use Rattle.qk_ast.specs.declared.Field.{Field}
use Rattle.qk_ast.specs.declared.Link.{Link}
use Rattle.qk_ast.specs.Mentions.{name_in}
use Rattle.qk_ast.specs.Placing.{is_data, are_data, are_data_fields, called_kind, kind_of_value}
use Rattle.qk_rules.specs.Standings.{called_by}
use Rattle.qk_rules.specs.Breaches.{is_negative, all_data, field_data}
use Rattle.qk_rules.proofs.Rows.{called_row}

data_row : (xs : List Expr) → are_data (hidden-the_row-Expr-2 xs) ≡ all_data xs
unfolding hidden-the_row-Expr-2 hidden
data_row [] = refl
data_row (x ∷ xs) = ap (λ b. is_data x && b) (data_row xs)

fields_row : (fs : List Field) → are_data_fields (hidden-the_row-Field-3 fs) ≡ field_data fs
unfolding hidden-the_row-Field-3 hidden
fields_row [] = refl
fields_row (f ∷ fs) = ap (λ b. is_data f.value && b) (fields_row fs)

pub data_of_list : (xs : List Expr) → is_data (e.List xs) ≡ all_data xs
data_of_list xs = data_row xs

pub data_of_record : (fs : List Field) → is_data (e.Record fs) ≡ field_data fs
data_of_record fs = fields_row fs

pub data_of_unary : (op : Un) (x : Expr) → is_data (e.Unary op x) ≡ is_negative op x
unfolding shape-the_row-Expr-0 hidden-the_row-Expr-0 hidden
data_of_unary un.Not x = refl
data_of_unary un.Neg Expr.Undefined = refl
data_of_unary un.Neg Expr.Null = refl
data_of_unary un.Neg (Expr.Bool b) = refl
data_of_unary un.Neg (Expr.Int n) = refl
data_of_unary un.Neg (Expr.Text t) = refl
data_of_unary un.Neg (Expr.Name t) = refl
data_of_unary un.Neg (Expr.List' _ xs) = refl
data_of_unary un.Neg (Expr.Record' _ fs) = refl
data_of_unary un.Neg (Expr.Template' parts _ xs) = refl
data_of_unary un.Neg (Expr.Unary' sign _ x) = refl
data_of_unary un.Neg (Expr.Chain' _ x _ os) = refl
data_of_unary un.Neg (Expr.Cond' _ x _ y _ z) = refl
data_of_unary un.Neg (Expr.Post' _ x _ ls) = refl
data_of_unary un.Neg (Expr.Assign' sign _ x _ y) = refl
data_of_unary un.Neg (Expr.Step' up _ x) = refl
data_of_unary un.Neg (Expr.Known' known _ xs) = refl
data_of_unary un.Neg (Expr.Arrow' _ a) = refl
data_of_unary un.Neg (Expr.Jsx' _ j) = refl

pub kind_of_post : (x : Expr) (ls : List Link) → kind_of_value (e.Post x ls) ≡ called_kind (name_in x) (called_by ls)
unfolding shape-the_row-Expr-0 hidden-the_row-Expr-0 hidden
kind_of_post x ls = ap (called_kind (name_in x)) (called_row ls)
