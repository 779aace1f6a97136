-- A number grows with its digits, so what is small in the end is small on the way.
use Rattle.std.specs.Prelude.{ℕ, ◌+◌, ◌*◌, ◌≤◌, [], ◌∷◌}
use native.Mathlib.Omega.{arith}
use Rattle.std.proofs.Math.Nat.{mul-le-mul_left}
use Rattle.qk_ast.specs.Characters.{Characters, digit_value, number_after}

pub grows : (base : ℕ) → 1 ≤ base → (n : ℕ) (ds : Characters) → n ≤ number_after base n ds
grows base h n [] = omega arith
grows base h n (d ∷ ds) =
    below n (n * base) (digit_value d) (number_after base (n * base + digit_value d) ds) (mul-le-mul_left n h) (grows base h (n * base + digit_value d) ds)
  where
    below : (n p v k : ℕ) → n * 1 ≤ p → p + v ≤ k → n ≤ k
    below n p v k a b = omega (arith, a, b)

-- with the digits that follow, the number is a safe integer
pub record Within (n : ℕ) (digits : Characters) : Type 0 where
  pub safe : number_after 10 n digits ≤ 9007199254740991

pub value_small : (n : ℕ) (ds : Characters) → Within n ds → n ≤ 9007199254740991
value_small n ds w = through (grows 10 (omega arith) n ds) w.safe
  where
    through : {a b c : ℕ} → a ≤ b → b ≤ c → a ≤ c
    through h k = omega (arith, h, k)
