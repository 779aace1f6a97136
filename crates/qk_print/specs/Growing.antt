-- Bytes that grow at their end.
use Rattle.std.specs.Prelude.{◌≡◌, List, ℕ, ◌++◌}

-- The bytes begin with those.
pub record Begins (front bytes : List ℕ) : Type 0 where
  pub rest : List ℕ
  pub is : bytes ≡ front ++ rest
