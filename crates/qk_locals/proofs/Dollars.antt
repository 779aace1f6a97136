-- A name ends in `$` where its last byte is one.
use Rattle.std.specs.Prelude.{◌≡◌, refl, ℕ, ◌-◌, Bool, false, ◌==◌, [], ◌∷◌, length, slice_get, Option, Some, None}
use Rattle.std.proofs.Common.{◌∙◌, ap, arith}
use Rattle.qk_ast.specs.Texts.{Text, ends_in_dollar}

abbrev pub is_dollar : Option ℕ → Bool
is_dollar None = false
is_dollar (Some byte) = byte == 36

at_end : (b : ℕ) (rest : Text) → is_dollar (slice_get (b ∷ rest) (length rest)) ≡ ends_in_dollar (b ∷ rest)
at_end b [] = refl
at_end b (c ∷ rest) = at_end c rest

pub last_dollar : (name : Text) → is_dollar (slice_get name (length name - 1)) ≡ ends_in_dollar name
last_dollar [] = refl
last_dollar (b ∷ rest) = let last : length (b ∷ rest) - 1 ≡ length rest = omega arith in
    ap (λ i. is_dollar (slice_get (b ∷ rest) i)) last ∙ at_end b rest
