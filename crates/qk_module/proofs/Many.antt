-- A loop that begins behind some items reads the same ones.
use Rattle.std.proofs.Common.{◌≡◌, refl, ℕ, zero, suc, List, [], ◌∷◌, ◌++◌, Option, Some, None, Ok, Err, append_assoc, ap, ◌∙◌}
use Rattle.qk_reading.specs.Input.{Input, Outcome, Reader, and_then, many_from, many, left, pure, maybe}

abbrev behind : {A : Type 0} → List A → Outcome (List A) → Outcome (List A)
behind front o = and_then o (λ xs. pure (front ++ xs))

then_behind : {A : Type 0} (o : Outcome (Option A)) (front found : List A) (more less : A → Reader (List A)) → ((x : A) (i : Input) → more x i ≡ behind front (less x i))
    → and_then o (λ one. maybe one (pure (front ++ found)) more) ≡ behind front (and_then o (λ one. maybe one (pure found) less))
then_behind (Err e) front found more less same = refl
then_behind (Ok (None, i)) front found more less same = refl
then_behind (Ok (Some x, i)) front found more less same = same x i

many_from_behind : {A : Type 0} (step : Reader (Option A)) (front : List A) (n : ℕ) (found : List A) (i : Input)
    → many_from step n (front ++ found) i ≡ behind front (many_from step n found i)
unfolding many_from
many_from_behind step front zero found i = refl
many_from_behind step front (suc n) found i = then_behind (step i) front found _ _
    (λ x j. ap (λ l. many_from step n l j) (append_assoc front found (x ∷ [])) ∙ many_from_behind step front n (found ++ x ∷ []) j)

pub many_behind : {A : Type 0} (step : Reader (Option A)) (x : A) (i : Input)
    → many_from step (left i) (x ∷ []) i ≡ and_then (many step i) (λ xs. pure (x ∷ xs))
unfolding many
many_behind step x i = many_from_behind step (x ∷ []) (left i) [] i
