-- Numbers in digits are what a format writes.
use Rattle.std.proofs.Common.{◌≡◌, ◌<◌, ◌≤◌, ◌^◌, ℕ, suc, [], ◌∷◌, refl, sym, ap, ◌∙◌, arith, append-nil, ℤ, pos, negsuc, true, false}
use lib.Dec.{ltb}
use lib.Signed.{mag}
use Rattle.std.specs.Fmt as fmt
use Rattle.std.proofs.lemmas.Fmt.{PrependsLastDigit, decimal_from_prepends, length-decimal-le}
use Rattle.qk_ast.specs.Texts.{digits_before, decimal}
use Rattle.qk_top.specs.Decimals.{count_text, number_text}

below_ten : (n : ℕ) → n < 10 → ltb n 10 ≡ true
below_ten n h = grind (arith, h)

from_ten : (n : ℕ) → 10 ≤ n → ltb n 10 ≡ false
from_ten n h = grind (arith, h)

prepends : PrependsLastDigit digits_before
prepends = record {
  one = λ k n acc h. rw (below_ten n h, digits_before) refl;
  more = λ k n acc h. rw (from_ten n h, digits_before) refl;
}

decimal_is : (n : ℕ) → n < 2 ^ 64 → decimal n ≡ fmt.decimal n
decimal_is n h = decimal_from_prepends digits_before prepends 64 n [] h (omega (arith, length-decimal-le 20 n (omega arith) (omega arith) h)) ∙ append-nil _

pub count_written : (n : ℕ) → n < 2 ^ 64 → fmt.decimal n ≡ count_text n
unfolding count_text
count_written n h = sym (decimal_is n h)

pub number_written : (z : ℤ) → mag z < 2 ^ 63 → fmt.signed_decimal z ≡ number_text z
unfolding number_text
number_written (pos n) h = sym (decimal_is n (omega arith))
number_written (negsuc n) h = ap (λ ds. 45 ∷ ds) (sym (decimal_is (suc n) (omega arith)))
