-- Arrows that are numbered one after another.
use Rattle.std.proofs.Common.{◌≡◌, refl, sym, subst, arith}
use Rattle.std.specs.Prelude.{ℕ, zero, suc, ◌+◌, ◌<◌, List, [], ◌∷◌, ◌++◌, length}
use Rattle.qk_ast.specs.Arrows.{Found_arrow, nth_arrow}

-- from one number up to another
abbrev pub Numbers : List Found_arrow → ℕ → ℕ → Type 0
Numbers [] n m = n ≡ m
Numbers (a ∷ xs) n m = (a.place ≡ n) × Numbers xs (n + 1) m

pub record Numbered (xs : List Found_arrow) (n m : ℕ) : Type 0 where
  pub numbers : Numbers xs n m

joined : (xs ys : List Found_arrow) (n k m : ℕ) → Numbers xs n k → Numbers ys k m → Numbers (xs ++ ys) n m
joined [] ys n k m e h = subst (λ j. Numbers ys j m) (sym e) h
joined (a ∷ xs) ys n k m h g = (h.0, joined xs ys (n + 1) k m h.1 g)

infixr 60 ◌▹◌
pub ◌▹◌ : {xs ys : List Found_arrow} {n k m : ℕ} → Numbered xs n k → Numbered ys k m → Numbered (xs ++ ys) n m
◌▹◌ {xs} {ys} {n} {k} {m} h g = record { numbers = joined xs ys n k m h.numbers g.numbers }

pub no_arrows : {n m : ℕ} → n ≡ m → Numbered [] n m
no_arrows e = record { numbers = e }

pub alone : {xs : List Found_arrow} {n m : ℕ} → Numbered xs n m → Numbered (xs ++ []) n m
alone h = h ▹ no_arrows refl

pub begins : {a : Found_arrow} {xs : List Found_arrow} {n m : ℕ} → a.place ≡ n → Numbered xs (n + 1) m → Numbered (a ∷ xs) n m
begins e h = record { numbers = (e, h.numbers) }

pub moved : {xs : List Found_arrow} {n k m : ℕ} → n ≡ k → Numbered xs k m → Numbered xs n m
moved {xs} {n} {k} {m} e h = subst (λ j. Numbered xs j m) (sym e) h

-- the n-th of them has the n-th number
nth : (xs : List Found_arrow) (n m k : ℕ) → Numbers xs n m → k < length xs → (nth_arrow xs k).place ≡ n + k
nth [] n m k h l = absurd (omega (arith, l))
nth (a ∷ xs) n m zero h l = let e = h.0 in omega (arith, e)
nth (a ∷ xs) n m (suc k) h l = let e = nth xs (n + 1) m k h.1 (omega (arith, l)) in omega (arith, e)

pub nth_place : (xs : List Found_arrow) (m k : ℕ) → Numbered xs 0 m → k < length xs → (nth_arrow xs k).place ≡ k
nth_place xs m k h l = let e = nth xs 0 m k h.numbers l in omega (arith, e)
