-- A text has no more UTF-16 code units than bytes.
use Rattle.std.specs.Prelude.{◌≡◌, refl, ℕ, ◌+◌, ◌/◌, ◌<◌, ◌≤◌, Bool, true, false, List, [], ◌∷◌, ◌++◌, length, cond}
use Rattle.std.proofs.Common.{subst, arith, ltb}
use borrow.Author.Tests.{ltb-true}
use Rattle.std.proofs.lemmas.List.{length-append}
use Rattle.std.proofs.lemmas.Bool.Decides.{nat_tests}
use Rattle.std.specs.Str.{IsUtf8}
use lib.Utf8.{encode, encodes, next}
use Rattle.qk_meaning.specs.Texts.{units_at, utf16_length}
use Rattle.qk_meaning.specs.Value.{Text}

-- of the first byte of a character at most two, of any other none
first_units : (b : ℕ) → units_at b ≤ 2
first_units b = grind (arith, nat_tests)

ascii_units : (b : ℕ) → b < 128 → units_at b ≡ 1
ascii_units b h = grind (arith, nat_tests)

later_units : (c : ℕ) → units_at (next c) ≡ 0
later_units c = grind (arith, nat_tests)

units_of_both : (t u : Text) → utf16_length (t ++ u) ≡ utf16_length t + utf16_length u
units_of_both [] u = omega arith
units_of_both (b ∷ t) u = omega (arith, units_of_both t u)

units_of_bytes : (b c d : ℕ) → (utf16_length (b ∷ next c ∷ []) ≤ 2) × (utf16_length (b ∷ next d ∷ next c ∷ []) ≤ 3)
units_of_bytes b c d = (omega (arith, first_units b, later_units c), omega (arith, first_units b, later_units c, later_units d))

units_of_four : (b c d e : ℕ) → utf16_length (b ∷ next e ∷ next d ∷ next c ∷ []) ≤ 4
units_of_four b c d e = omega (arith, first_units b, later_units c, later_units d, later_units e)

-- the bytes of a character, by how many they are
units_chosen : (c : ℕ) (x y z : Bool) → ltb c 128 ≡ x
    → (let bytes = cond x (c ∷ []) (cond y ((192 + c / 64) ∷ next c ∷ []) (cond z ((224 + c / 4096) ∷ next (c / 64) ∷ next c ∷ []) ((240 + c / 262144) ∷ next (c / 4096) ∷ next (c / 64) ∷ next c ∷ []))) in utf16_length bytes ≤ length bytes)
units_chosen c true y z e = omega (arith, ascii_units c (ltb-true c 128 e))
units_chosen c false true z e = (units_of_bytes (192 + c / 64) c c).0
units_chosen c false false true e = (units_of_bytes (224 + c / 4096) c (c / 64)).1
units_chosen c false false false e = units_of_four (240 + c / 262144) c (c / 64) (c / 4096)

units_of_one : (c : ℕ) → utf16_length (encode c) ≤ length (encode c)
unfolding encode
units_of_one c = units_chosen c (ltb c 128) (ltb c 2048) (ltb c 65536) refl

units_of_all : (cs : List ℕ) → utf16_length (encodes cs) ≤ length (encodes cs)
units_of_all [] = omega arith
units_of_all (c ∷ cs) = omega (arith, units_of_all cs, units_of_one c, units_of_both (encode c) (encodes cs), length-append (encode c) (encodes cs))

pub units_within : (t : Text) → IsUtf8 t → utf16_length t ≤ length t
units_within t h = subst (λ t. utf16_length t ≤ length t) h.1.1 (units_of_all h.0)
