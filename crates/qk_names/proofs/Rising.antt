-- Arrows whose places rise, and the numbers by which they are found.
use Rattle.std.proofs.Common.{◌≡◌, refl, ◌∙◌, ap, subst, arith}
use Rattle.std.specs.Prelude.{ℕ, zero, suc, ◌+◌, ◌≤◌, ◌<◌, ◌==◌, Bool, true, false, List, [], ◌∷◌, length, Contains, slice_index_or, ⊤}
use Rattle.qk_ast.proofs.Pieces.{nat_is}
use Rattle.qk_ast.specs.Arrows.{Found_arrow, nth_arrow, arrow_at, number_at, of_kind, same_kind, is_dollar}
use Rattle.qk_names.proofs.Numbered.{Numbers, Numbered}

-- from a number on
abbrev pub Rises : List Found_arrow → ℕ → Type 0
Rises [] n = ⊤
Rises (a ∷ xs) n = (n ≤ a.place) × Rises xs (a.place + 1)

from_lower : (xs : List Found_arrow) (n k : ℕ) → k ≤ n → Rises xs n → Rises xs k
from_lower [] n k l h = tt
from_lower (a ∷ xs) n k l h = let e = h.0 in (omega (arith, e, l), h.1)

rises : (xs : List Found_arrow) (n m : ℕ) → Numbers xs n m → Rises xs n
rises [] n m h = tt
rises (a ∷ xs) n m h = let e = h.0 in (omega (arith, e), from_lower xs (n + 1) (a.place + 1) (omega (arith, e)) (rises xs (n + 1) m h.1))

kept : (dollar : Bool) (xs : List Found_arrow) (n : ℕ) → Rises xs n → Rises (of_kind dollar xs) n
kept dollar [] n h = tt
kept dollar (a ∷ xs) n h = let e = h.0 in
    either (same_kind dollar (is_dollar a)) (e, kept dollar xs (a.place + 1) h.1) (from_lower (of_kind dollar xs) (a.place + 1) n (omega (arith, e)) (kept dollar xs (a.place + 1) h.1))
  where
    either : (b : Bool) → Rises (a ∷ of_kind dollar xs) n → Rises (of_kind dollar xs) n → Rises (elim b [ true ↦ a ∷ of_kind dollar xs | false ↦ of_kind dollar xs ]) n
    either true g k = g
    either false g k = k

above : (xs : List Found_arrow) (n k : ℕ) → Rises xs n → k < length xs → n ≤ (nth_arrow xs k).place
above [] n k h l = absurd (omega (arith, l))
above (a ∷ xs) n zero h l = h.0
above (a ∷ xs) n (suc k) h l = let e = h.0 in let f = above xs (a.place + 1) k h.1 (omega (arith, l)) in omega (arith, e, f)

same_place : (n : ℕ) → (n == n) ≡ true
same_place n = grind arith

lower_place : (n k : ℕ) → n < k → (n == k) ≡ false
lower_place n k h = by (n == k) refl
  where
    by : (b : Bool) → (n == k) ≡ b → b ≡ false
    by true e = let f = nat_is n k e in absurd (omega (arith, f, h))
    by false e = refl

found : (xs : List Found_arrow) (n k : ℕ) → Rises xs n → k < length xs → arrow_at xs (nth_arrow xs k).place ≡ nth_arrow xs k
found [] n k h l = absurd (omega (arith, l))
found (a ∷ xs) n zero h l = ap (λ b. elim b [ true ↦ a | false ↦ arrow_at xs a.place ]) (same_place a.place)
found (a ∷ xs) n (suc k) h l = let f = above xs (a.place + 1) k h.1 (omega (arith, l)) in
    ap (λ b. elim b [ true ↦ a | false ↦ arrow_at xs (nth_arrow xs k).place ]) (lower_place a.place (nth_arrow xs k).place (omega (arith, f))) ∙ found xs (a.place + 1) k h.1 (omega (arith, l))

number : (xs : List Found_arrow) (n k : ℕ) → Rises xs n → k < length xs → number_at xs (nth_arrow xs k).place ≡ k + 1
number [] n k h l = absurd (omega (arith, l))
number (a ∷ xs) n zero h l = ap (λ b. elim b [ true ↦ 1 | false ↦ suc (number_at xs a.place) ]) (same_place a.place) ∙ omega arith
number (a ∷ xs) n (suc k) h l = let f = above xs (a.place + 1) k h.1 (omega (arith, l)) in let e = number xs (a.place + 1) k h.1 (omega (arith, l)) in
    ap (λ b. elim b [ true ↦ 1 | false ↦ suc (number_at xs (nth_arrow xs k).place) ]) (lower_place a.place (nth_arrow xs k).place (omega (arith, f))) ∙ omega (arith, e)

nth_is : (xs : List Found_arrow) (k : ℕ) (d : Found_arrow) → k < length xs → nth_arrow xs k ≡ slice_index_or xs k d
nth_is [] k d l = absurd (omega (arith, l))
nth_is (a ∷ xs) zero d l = refl
nth_is (a ∷ xs) (suc k) d l = nth_is xs k d (omega (arith, l))

pub found_at_place : (xs : List Found_arrow) (m : ℕ) (a : Found_arrow) → Numbered xs 0 m → Contains xs a → arrow_at xs a.place ≡ a
found_at_place xs m a h (k, l, e) = subst (λ b. arrow_at xs b.place ≡ b) (nth_is xs k a l ∙ e) (found xs 0 k (rises xs 0 m h.numbers) l)

pub of_kind_found : (dollar : Bool) (xs : List Found_arrow) (m k : ℕ) → Numbered xs 0 m → k < length (of_kind dollar xs)
    → (arrow_at (of_kind dollar xs) (nth_arrow (of_kind dollar xs) k).place ≡ nth_arrow (of_kind dollar xs) k) × (number_at (of_kind dollar xs) (nth_arrow (of_kind dollar xs) k).place ≡ k + 1)
of_kind_found dollar xs m k h l = let r = kept dollar xs 0 (rises xs 0 m h.numbers) in (found (of_kind dollar xs) 0 k r l, number (of_kind dollar xs) 0 k r l)
