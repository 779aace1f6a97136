-- Fixed data by the lists of its parts.
use Rattle.std.specs.Prelude.{◌≡◌, refl, ℕ, ◌+◌, ◌<◌, ◌≤◌, ℤ, Bool, true, false, List, [], ◌∷◌, map, length, drop}
use Rattle.std.proofs.Common.{sym, ◌∙◌, ap}
use Rattle.std.proofs.Math.ListN.{get_or}
use Rattle.std.proofs.lemmas.List.{at_drop_more, at_drop_all}
use denote.Hole.Carrier.{hidden}
use Rattle.qk_ast.specs.declared.Body.TheBlock.{shape-the_row-Expr-0, hidden-the_row-Expr-0, hidden-the_row-Expr-2, hidden-the_row-Field-3}
use Rattle.qk_ast.specs.declared.Expr.{Expr}
use Rattle.qk_ast.specs.declared.Expr.TheVariants as e
use Rattle.qk_ast.specs.declared.Field.{Field}
use Rattle.qk_ast.specs.declared.Un.{Un}
use Rattle.qk_ast.specs.Texts.{Text}
use Rattle.qk_meaning.specs.Value as M
use Rattle.qk_meaning.specs.Value.{Site, Values, Fields, none, item, end}
use Rattle.qk_meaning.specs.Parts.{packed, with_field}
use Rattle.qk_meaning.specs.Roots.{negated, literal, literals, literal_fields}
use Rattle.qk_value.specs.declared.value.Value.{Value, Fun', Elem', more_of-Elem}
use Rattle.qk_value.specs.declared.value.Value.TheVariants as w
use Rattle.qk_value.specs.declared.value.FunCode.{FunCode}
use Rattle.qk_value.specs.View.{seen, seen_row, seen_all, fits, plain_of, plain_site}
use Rattle.qk_whole.specs.Literals.{all_literals, fields_behind}

-- ---- rows are their lists

literals_row : (xs : List Expr) → literals (hidden-the_row-Expr-2 xs) ≡ all_literals xs
unfolding hidden-the_row-Expr-2 hidden
literals_row [] = refl
literals_row (x ∷ rest) = ap (item (literal x)) (literals_row rest)

fields_row : (fs : List Field) (done : Fields) → literal_fields (hidden-the_row-Field-3 fs) done ≡ fields_behind done fs
unfolding hidden-the_row-Field-3 hidden
fields_row [] done = refl
fields_row (f ∷ rest) done = fields_row rest (with_field f.key (literal f.value) done)

pub literal-List : (xs : List Expr) → literal (e.List xs) ≡ M.Items (all_literals xs)
literal-List xs = ap M.Items (literals_row xs)

pub literal-Record : (fs : List Field) → literal (e.Record fs) ≡ M.Record (fields_behind end fs)
literal-Record fs = ap M.Record (fields_row fs end)

pub literal-Unary : (op : Un) (x : Expr) → literal (e.Unary op x) ≡ negated (literal x)
unfolding shape-the_row-Expr-0 hidden-the_row-Expr-0 hidden
literal-Unary op x = refl

-- ---- lists that are read one by one

pub literals_packed : (xs : List Expr) → all_literals xs ≡ packed (map literal xs)
literals_packed [] = refl
literals_packed (x ∷ rest) = ap (item (literal x)) (literals_packed rest)

pub seen_packed : (names : Site → List Text) (vs : List Value) → seen_all names vs ≡ packed (map (seen names) vs)
seen_packed names [] = refl
seen_packed names (v ∷ rest) = ap (item (seen names v)) (seen_packed names rest)

-- one field more
pub next_field : (fields : List Field) (i : ℕ) (f : Field) (old new done : Fields) → i < length fields → f ≡ get_or fields i f → new ≡ with_field f.key (literal f.value) old
    → fields_behind old (drop i fields) ≡ done → fields_behind new (drop (i + 1) fields) ≡ done
next_field fields i f old new done below here e h =
    ap (λ o. fields_behind o (drop (i + 1) fields)) e ∙ ap (λ g. fields_behind old (g ∷ drop (i + 1) fields)) here ∙ sym (at_drop_more (fields_behind old) fields i f below) ∙ h

pub all_fields : (fields : List Field) (i : ℕ) (done : Fields) → length fields ≤ i → fields_behind done (drop i fields) ≡ fields_behind end fields → done ≡ fields_behind end fields
all_fields fields i done past h = sym (at_drop_all (fields_behind done) fields i past) ∙ h

-- ---- all but numbers stay

stays : (b : Bool) (names : List Text) (file : Text) (number : ℕ) (captured : Values) (hidden : Bool) → negated (plain_of b names file number captured hidden) ≡ plain_of b names file number captured hidden
stays true names file number captured hidden = refl
stays false names file number captured hidden = refl

pub negated_itself : (names : Site → List Text) (v : Value) → ((n : ℤ) → v ≡ w.Int n → ⊥) → seen names v ≡ negated (seen names v)
negated_itself names (w.Int n) h = absurd (h n refl)
negated_itself names (Fun' (FunCode.Plain file number) _ captured hidden) h = sym (stays (fits (names (plain_site file number)) (seen_row names captured)) (names (plain_site file number)) file number (seen_row names captured) hidden)
negated_itself names (Fun' (FunCode.Symbol symbol) _ captured hidden) h = refl
negated_itself names (Elem' _ (more_of-Elem tag key slot _ attributes _ children _)) h = refl
negated_itself names _ h = refl
