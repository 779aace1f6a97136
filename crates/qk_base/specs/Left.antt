-- What is left of a budget.
use Rattle.std.specs.Prelude.{ℕ, refl}
use Rattle.std.specs.Coded.{Coded, code_by, coded×, coded_ℕ}

pub record Left : Type 0 where
  -- turns that can still be taken
  pub turns : ℕ
  -- levels that can still be entered
  pub depth : ℕ
  -- levels that were entered and not left
  pub entered : ℕ

abbrev pub coded_left : Coded Left
coded_left = code_by (ℕ × (ℕ × ℕ)) (coded× coded_ℕ (coded× coded_ℕ coded_ℕ)) (λ l. (l.turns, (l.depth, l.entered))) (λ p. record { turns = p.0; depth = p.1.0; entered = p.1.1 }) (λ _. refl)
