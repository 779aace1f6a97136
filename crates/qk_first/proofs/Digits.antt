-- A number that is written in digits is read as that number.
use Rattle.std.specs.Prelude.{◌≡◌, refl, ℕ, zero, suc, ◌+◌, ◌/◌, ◌%◌, ◌^◌, ◌<◌, ltb, nat_le, Bool, true, false, ◌∷◌}
use Rattle.std.proofs.Common.{ap, ◌∙◌, arith}
use Rattle.std.proofs.Math.Nat.{pow-suc}
use Rattle.std.proofs.lemmas.Bool.{le-leb, ltb-true}
use Rattle.qk_ast.specs.Characters.{Characters, is_digit, digit_value, number_after}
use Rattle.qk_ast.specs.Texts.{digits_before}
use Rattle.qk_first.proofs.Texts.{both}

digit_is : (d : ℕ) → d < 10 → digit_value (48 + d) ≡ d
digit_is d h =
    let e : is_digit (48 + d) ≡ true = both (nat_le 48 (48 + d)) (nat_le (48 + d) 57) (le-leb 48 (48 + d) (omega arith)) (le-leb (48 + d) 57 (omega arith)) in
    rw e (omega arith)

pub digits_read : (most n : ℕ) (after : Characters) → n < 10 ^ most → number_after 10 0 (digits_before most n after) ≡ number_after 10 n after
digits_read zero n after h = ap (λ k. number_after 10 k after) (omega (arith, h))
digits_read (suc most) n after h = go (ltb n 10) refl (digits_read most (n / 10) ((48 + n % 10) ∷ after) (omega (arith, h, pow-suc 10 most)))
  where
    go : (b : Bool) → ltb n 10 ≡ b → number_after 10 0 (digits_before most (n / 10) ((48 + n % 10) ∷ after)) ≡ number_after 10 (n / 10) ((48 + n % 10) ∷ after)
        → number_after 10 0 (digits_before (suc most) n after) ≡ number_after 10 n after
    go true e k = rw (e, digits_before) (ap (λ k. number_after 10 k after) (let d = digit_is n (ltb-true n 10 e) in omega (arith, d)))
    go false e k = rw (e, digits_before) (k ∙ ap (λ k. number_after 10 k after) (let d = digit_is (n % 10) (omega arith) in omega (arith, d)))
