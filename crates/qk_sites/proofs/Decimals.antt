-- The digits of a site's number, and the number that they write.
use Rattle.std.proofs.Common.{◌≡◌, ◌<◌, ◌≤◌, ◌^◌, ℕ, suc, [], ◌∷◌, refl, sym, ap, subst, ◌∙◌, arith, append-nil, true, false, Bool, not, ◌&&◌, ◌==◌, length, nat_le, ◌≢◌, zero, get_or, Some, None, if◌then◌else◌, Result, Ok, Err}
use Rattle.std.specs.Result.{OkIff, result_ok}
use Rattle.std.proofs.lemmas.Bool.{false≢true}
use lib.Dec.{ltb}
use Rattle.std.specs.Fmt as fmt
use Rattle.std.specs.Char as std
use Rattle.std.specs.Str.Parse.{AllDigits, ParsesUnsigned, digits_value_after}
use Rattle.std.proofs.lemmas.Str.Parse.{IsNumeralModel, digit_from_value, parse_plain}
use Rattle.std.proofs.lemmas.Fmt.{PrependsLastDigit, decimal_digit, decimal_from_prepends, length-decimal-le, first_decimal, digits_decimal, digits_value-decimal, decimal-digits_value}
use Rattle.qk_ast.specs.Characters.{every, is_digit, digit_value, number_after}
use Rattle.qk_ast.specs.Texts.{Text, digits_before, decimal}
use Rattle.qk_ast.specs.Framework.{is_site_number}
use Rattle.qk_sites.specs.Symbols.{site_number}
use Rattle.qk_ast.proofs.FrontToken.{left, right}
use Rattle.qk_ast.proofs.Pieces.{nat_is}
use Rattle.qk_ast.proofs.OneToken.{a_digit, at_least}

pub both : {a b : Bool} → a ≡ true → b ≡ true → (a && b) ≡ true
both {b = b} e f = ap (λ a. a && b) e ∙ f

-- ---- numbers that are equal or not

pub differs : (c k : ℕ) → c ≢ k → (c == k) ≡ false
differs c k h = by (c == k) refl
  where
    by : (b : Bool) → (c == k) ≡ b → b ≡ false
    by true e = absurd (h (nat_is c k e))
    by false e = refl

no_zero : (d : ℕ) → 48 < d → not (d == 48) ≡ true
no_zero d h = ap not (differs d 48 (λ e. absurd (omega (arith, e, h))))

no_zero_is : (d : ℕ) → not (d == 48) ≡ true → d ≢ 48
no_zero_is d h e = absurd (false≢true (subst (λ x. not (x == 48) ≡ true) e h))

within : (n : ℕ) → n ≤ 4294967295 → nat_le n 4294967295 ≡ true
within n h = grind (arith, h)

abbrev first_of : Text → ℕ
first_of [] = 48
first_of (d ∷ ds) = d

-- ---- in digits is what a format writes

below_ten : (n : ℕ) → n < 10 → ltb n 10 ≡ true
below_ten n h = grind (arith, h)

from_ten : (n : ℕ) → 10 ≤ n → ltb n 10 ≡ false
from_ten n h = grind (arith, h)

prepends : PrependsLastDigit digits_before
prepends = record {
  one = λ k n acc h. rw (below_ten n h, digits_before) refl;
  more = λ k n acc h. rw (from_ten n h, digits_before) refl;
}

pub decimal_is : (n : ℕ) → n < 2 ^ 64 → decimal n ≡ fmt.decimal n
decimal_is n h = decimal_from_prepends digits_before prepends 64 n [] h (omega (arith, length-decimal-le 20 n (omega arith) (omega arith) h)) ∙ append-nil _

-- ---- digits as the parser of numbers sees them

one_digit : (c : ℕ) → is_digit c ≡ true → (std.digit_value c ≡ digit_value c) × (std.digit_value c < 10)
one_digit c h = a_digit (λ d. (std.digit_value d ≡ digit_value d) × (std.digit_value d < 10)) c h (refl, omega arith) (refl, omega arith) (refl, omega arith) (refl, omega arith) (refl, omega arith) (refl, omega arith) (refl, omega arith) (refl, omega arith) (refl, omega arith) (refl, omega arith)

pub all_digits : (ds : Text) → every is_digit ds ≡ true → AllDigits 10 ds
all_digits [] h = tt
all_digits (d ∷ ds) h = ((one_digit d (left (is_digit d) _ h)).1, all_digits ds (right (is_digit d) _ h))

pub same_value : (ds : Text) (m n : ℕ) → m ≡ n → every is_digit ds ≡ true → digits_value_after 10 m ds ≡ number_after 10 n ds
same_value [] m n e h = e
same_value (d ∷ ds) m n e h = let k = (one_digit d (left (is_digit d) _ h)).0 in same_value ds _ _ (omega (arith, e, k)) (right (is_digit d) _ h)

is_one : (c : ℕ) → std.digit_value c < 10 → is_digit c ≡ true
is_one c h = let within = digit_from_value c h in grind (arith, within)

from_digits : (ds : Text) → AllDigits 10 ds → every is_digit ds ≡ true
from_digits [] h = refl
from_digits (d ∷ ds) h = both (is_one d h.0) (from_digits ds h.1)

pub numerals : IsNumeralModel (λ ds. every is_digit ds ≡ true) (number_after 10 0)
numerals = record { to = all_digits; from = from_digits; same = λ ds h. sym (same_value ds 0 0 refl (from_digits ds h)) }

-- ---- numbers of sites

-- a number from 1 on is written with another digit than `0` first
written_digits : (n : ℕ) (ds : Text) → n ≤ 4294967295 → every is_digit ds ≡ true → number_after 10 0 ds ≡ n → 48 < get_or ds 0 0 → is_site_number ds ≡ true
written_digits n [] high all value first = absurd (omega (arith, first))
written_digits n (d ∷ ds) high all value first = both (both (both (left (is_digit d) _ all) (no_zero d first)) (right (is_digit d) _ all)) (within _ (omega (arith, value, high)))

pub site_of_number : (n : ℕ) → 0 < n → n ≤ 4294967295 → is_site_number (decimal n) ≡ true
site_of_number n low high = let small : n < 2 ^ 64 = omega (arith, high) in
    ap is_site_number (decimal_is n small) ∙ written_digits n (fmt.decimal n) high (digits_decimal numerals n small) (digits_value-decimal numerals n small) (first_decimal n low small)

digits_of_site : (ds : Text) → is_site_number ds ≡ true → every is_digit ds ≡ true
digits_of_site [] h = absurd (false≢true h)
digits_of_site (d ∷ ds) h = let front = left (is_digit d && not (d == 48) && every is_digit ds) _ h in
    both (left (is_digit d) _ (left (is_digit d && not (d == 48)) _ front)) (right (is_digit d && not (d == 48)) _ front)

some_digits : (ds : Text) → is_site_number ds ≡ true → 0 < length ds
some_digits [] h = absurd (false≢true h)
some_digits (d ∷ ds) h = omega arith

-- what writes the number of a site is the number in digits
pub record Site_number (ds : Text) : Type 0 where
  pub low : 0 < number_after 10 0 ds
  pub high : number_after 10 0 ds ≤ 4294967295
  pub spelled : decimal (number_after 10 0 ds) ≡ ds

pub number_of_site : (ds : Text) → is_site_number ds ≡ true → Site_number ds
number_of_site [] h = absurd (false≢true h)
number_of_site (d ∷ ds) h = record {
  low = positive (number_after 10 0 (d ∷ ds)) refl;
  high = most;
  spelled = decimal_is _ (omega (arith, most)) ∙ same;
}
  where
    other : d ≢ 48
    other = no_zero_is d (right (is_digit d) _ (left (is_digit d && not (d == 48)) _ (left (is_digit d && not (d == 48) && every is_digit ds) _ h)))

    most : number_after 10 0 (d ∷ ds) ≤ 4294967295
    most = at_least _ _ (right (is_digit d && not (d == 48) && every is_digit ds) _ h)

    same : fmt.decimal (number_after 10 0 (d ∷ ds)) ≡ d ∷ ds
    same = decimal-digits_value numerals (d ∷ ds) (digits_of_site (d ∷ ds) h) (omega arith) (λ e. absurd (other e)) (omega (arith, most))

    positive : (n : ℕ) → number_after 10 0 (d ∷ ds) ≡ n → 0 < number_after 10 0 (d ∷ ds)
    positive zero e = absurd (other (ap first_of (sym same ∙ ap fmt.decimal e ∙ decimal_digit 0 (omega arith))))
    positive (suc n) e = omega (arith, e)

-- ---- what the parser of numbers makes of digits of which the first isn't `0`

module _ (ds : Text) where
  chosen : (b : Bool) (n : ℕ) → b ≡ true → number_after 10 0 ds ≡ n → Some n ≡ (if b then Some (number_after 10 0 ds) else None)
  chosen b n e f = ap Some (sym f) ∙ ap (λ b. if b then Some (number_after 10 0 ds) else None) (sym e)

  refused : (b : Bool) → is_site_number ds ≡ b → ((every is_digit ds ≡ true) × (0 < length ds) × (number_after 10 0 ds < 2 ^ 32) → ⊥) → None ≡ (if b then Some (number_after 10 0 ds) else None)
  refused true e fails = absurd (let site = number_of_site ds e in let high = site.high in fails (digits_of_site ds e, some_digits ds e, omega (arith, high)))
  refused false e fails = refl

pub parsed : {E : Type 0} (ds : Text) (r : Result ℕ E) → 48 < get_or ds 0 0 → OkIff r ((every is_digit ds ≡ true) × (0 < length ds) × (number_after 10 0 ds < 2 ^ 32)) (number_after 10 0 ds) → result_ok r ≡ site_number ds
parsed ds (Ok n) first h = let small = h.0.2 in chosen ds (is_site_number ds) n (written_digits _ ds (omega (arith, small)) h.0.0 refl first) (sym h.1)
parsed ds (Err e) first fails = refused ds (is_site_number ds) refl fails

pub read_digits : {E : Type 0} (ds : Text) (d : ℕ) (r : Result ℕ E) → d ≡ get_or ds 0 0 → 49 ≤ d → ParsesUnsigned 32 10 ds r → d ≤ 57 → result_ok r ≡ site_number ds
read_digits ds d r same first h last = parsed ds r (omega (arith, same, first)) (parse_plain numerals 32 ds r h (λ e. absurd (omega (arith, e, same, first, last))))

pub no_number : (ds : Text) → site_number ds ≡ None → is_site_number ds ≡ false
no_number ds h = by (is_site_number ds) h
  where
    by : (b : Bool) → (if b then Some (number_after 10 0 ds) else None) ≡ None → b ≡ false
    by true e = cc
    by false e = refl

pub some_number : (ds : Text) (n : ℕ) → site_number ds ≡ Some n → (is_site_number ds ≡ true) × (number_after 10 0 ds ≡ n)
some_number ds n h = by (is_site_number ds) h
  where
    by : (b : Bool) → (if b then Some (number_after 10 0 ds) else None) ≡ Some n → (b ≡ true) × (number_after 10 0 ds ≡ n)
    by true e = (refl, cc)
    by false e = cc
