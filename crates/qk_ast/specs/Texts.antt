-- Words on texts: which are equal, numbers in digits, names that end in `$`.
use Rattle.std.specs.Prelude.{ℕ, zero, suc, ◌+◌, ◌/◌, ◌%◌, ltb, Bool, true, false, ◌||◌, List, [], ◌∷◌, ◌==◌, bytes_eq}

-- a text is its bytes in UTF-8
abbrev pub Text : Type 0
Text = List ℕ

abbrev pub same_text : Text → Text → Bool
same_text = bytes_eq

-- the text is one of these
abbrev pub is_among : Text → List Text → Bool
is_among t [] = false
is_among t (u ∷ rest) = same_text t u || is_among t rest

-- the digits of a number in front of a text; the first argument bounds how many there are
abbrev pub digits_before : ℕ → ℕ → Text → Text
digits_before zero n after = after
digits_before (suc most) n after = elim (ltb n 10) [ true ↦ (48 + n) ∷ after | false ↦ digits_before most (n / 10) ((48 + n % 10) ∷ after) ]

-- a number below 10 ^ 64 in digits, without a leading zero
abbrev pub decimal : ℕ → Text
decimal n = digits_before 64 n []

-- a name that ends in `$`
abbrev pub ends_in_dollar : Text → Bool
ends_in_dollar [] = false
ends_in_dollar (b ∷ []) = b == 36
ends_in_dollar (b ∷ (c ∷ rest)) = ends_in_dollar (c ∷ rest)
