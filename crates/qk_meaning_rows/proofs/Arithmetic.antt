-- Sums, products, remainders and quotients of integers, and their faults.
use Rattle.std.specs.Prelude.{◌≡◌, refl, pos, negsuc, [], ◌∷◌}
use Rattle.qk_ast.specs.declared.Expr.{Expr}
use Rattle.qk_ast.specs.declared.Bin.{Bin}
use Rattle.qk_ast.specs.declared.Un.{Un}
use Rattle.qk_ast.specs.declared.Known.{Known}
use Rattle.qk_meaning.specs.Value.{Int}
use Rattle.qk_meaning.specs.Fault.{TypeMismatch, OutOfSafeRange, ZeroDivisor}
use Rattle.qk_meaning_rows.specs.Trees.{int, text, unary, chain, known}
use Rattle.qk_meaning_rows.proofs.Calls.{pure, is, fails}

-- `-7 % 3`: a remainder has the dividend's sign
remainder_of_a_negative : pure (chain (unary Un.Neg (int 7)) ((Bin.Rem, int 3) ∷ [])) ≡ is (Int (negsuc 0))
remainder_of_a_negative = refl

-- `7 % -3`
remainder_by_a_negative : pure (chain (int 7) ((Bin.Rem, unary Un.Neg (int 3)) ∷ [])) ≡ is (Int (pos 1))
remainder_by_a_negative = refl

-- `Math.trunc(-7 / 2)`: a quotient is rounded toward zero
quotient_of_a_negative : pure (known Known.Trunc (unary Un.Neg (int 7) ∷ int 2 ∷ [])) ≡ is (Int (negsuc 2))
quotient_of_a_negative = refl

-- `Math.trunc(2 * 7 / 4)`: the dividend is the whole product
quotient_of_a_product : pure (known Known.Trunc (chain (int 2) ((Bin.Mul, int 7) ∷ []) ∷ int 4 ∷ [])) ≡ is (Int (pos 3))
quotient_of_a_product = refl

-- `-9007199254740991 - 1`
below_the_safe_integers : pure (chain (unary Un.Neg (int 9007199254740991)) ((Bin.Sub, int 1) ∷ [])) ≡ fails OutOfSafeRange
below_the_safe_integers = refl

-- `5 % 0`
remainder_by_zero : pure (chain (int 5) ((Bin.Rem, int 0) ∷ [])) ≡ fails ZeroDivisor
remainder_by_zero = refl

-- `1 < "a"`
integer_below_text : pure (chain (int 1) ((Bin.Less, text "a") ∷ [])) ≡ fails TypeMismatch
integer_below_text = refl

-- `null ?? 3`
null_or_three : pure (chain Expr.Null ((Bin.Coalesce, int 3) ∷ [])) ≡ is (Int (pos 3))
null_or_three = refl

-- `0 && 5 % 0`: an operand that isn't needed isn't evaluated
zero_decides : pure (chain (int 0) ((Bin.And, chain (int 5) ((Bin.Rem, int 0) ∷ [])) ∷ [])) ≡ is (Int (pos 0))
zero_decides = refl
