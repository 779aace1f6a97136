-- The first character of a text whose first byte is one of ASCII.
use Rattle.std.specs.Prelude.{◌≡◌, refl, ℕ, ◌≤◌, ◌<◌, List, [], ◌∷◌, ◌++◌, length, drop, chars}
use Rattle.std.specs.Char.{encode_utf8}
use Rattle.std.specs.Str.{IsUtf8, IsCharBoundary}
use mathlib.Core.Path.{sym, ◌∙◌, ap, subst}
use native.Mathlib.Omega.{arith}
use Rattle.std.proofs.Common.{get_or}
use Rattle.std.proofs.lemmas.Str.{chars-encodes, chars_past_char, encode_ascii, IsCharBoundary-after_ascii}

front_ascii : (bytes : List ℕ) → 1 ≤ length bytes → get_or bytes 0 0 < 128 → bytes ≡ encode_utf8 (get_or bytes 0 0) ++ drop 1 bytes
front_ascii [] l h = absurd (omega (arith, l))
front_ascii (b ∷ bs) l h = sym (ap (λ x. x ++ bs) (encode_ascii b h))

pub first_ascii : (text bytes rest : List ℕ) → IsUtf8 text → bytes ≡ text → 1 ≤ length bytes → get_or bytes 0 0 < 128 → rest ≡ drop 1 text → chars text ≡ get_or bytes 0 0 ∷ chars rest
first_ascii text bytes rest u e l h r =
    let here : text ≡ encode_utf8 (get_or bytes 0 0) ++ rest =
    sym e ∙ (front_ascii bytes l h ∙ ap (λ x. encode_utf8 (get_or bytes 0 0) ++ x) (ap (λ t. drop 1 t) e ∙ sym r)) in
    chars_past_char text rest (get_or bytes 0 0) u here

pub boundary_ascii : (text bytes : List ℕ) → IsUtf8 text → bytes ≡ text → 1 ≤ length bytes → get_or bytes 0 0 < 128 → IsCharBoundary text 1
boundary_ascii text bytes u e l h =
    let some : 0 < length text = subst (λ t. 0 < length t) e (omega arith) in
    IsCharBoundary-after_ascii text 0 u some (subst (λ t. get_or t 0 0 < 128) e h)

pub no_characters : (text bytes : List ℕ) → bytes ≡ text → length bytes < 1 → chars text ≡ []
no_characters text bytes e l = ap chars (sym e) ∙ (ap chars (nothing bytes l) ∙ chars-encodes [] refl)
  where
    nothing : (bs : List ℕ) → length bs < 1 → bs ≡ []
    nothing [] l = refl
    nothing (b ∷ bs) l = absurd (omega (arith, l))
