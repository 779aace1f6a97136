-- The first and the last character of a text.
use Rattle.std.specs.Prelude.{◌≡◌, refl, ℕ, List, [], ◌∷◌, ◌++◌, length}
use Rattle.std.specs.Str.{chars, IsUtf8}
use Rattle.std.specs.Char.{encode_utf8, IsScalar}
use mathlib.Core.Path.{sym, ◌∙◌, ap}
use native.Mathlib.Omega.{arith}
use Rattle.std.proofs.Common.{append-nil}
use Rattle.std.proofs.lemmas.Str.{chars-nil, chars-append, chars_past_char, IsUtf8-encode}
use Rattle.qk_ast.specs.Characters.{Characters}
use Rattle.qk_token.specs.Lexed.{last_of, without_last}

pub no_characters : (text bytes : List ℕ) → bytes ≡ text → length bytes ≡ 0 → chars text ≡ []
no_characters text [] e h = ap chars (sym e) ∙ chars-nil
no_characters text (b ∷ bs) e h = absurd (omega (arith, h))

pub characters_last : (text rest before : List ℕ) (c : ℕ) → before ≡ text → before ≡ rest ++ encode_utf8 c → IsUtf8 rest → IsScalar c → chars text ≡ chars rest ++ c ∷ []
characters_last text rest before c e h u s =
    ap chars (sym e ∙ h) ∙ (chars-append rest (encode_utf8 c) u
    ∙ ap (λ t. chars rest ++ t) (chars_past_char (encode_utf8 c) [] c (IsUtf8-encode c s) (sym (append-nil (encode_utf8 c))) ∙ ap (λ t. c ∷ t) chars-nil))

pub last_there : (a : Characters) (c : ℕ) → last_of (a ++ c ∷ []) ≡ c
last_there [] c = refl
last_there (x ∷ []) c = refl
last_there (x ∷ y ∷ a) c = last_there (y ∷ a) c

pub before_last : (a : Characters) (c : ℕ) → without_last (a ++ c ∷ []) ≡ a
before_last [] c = refl
before_last (x ∷ []) c = refl
before_last (x ∷ y ∷ a) c = ap (λ t. x ∷ t) (before_last (y ∷ a) c)

pub last_is : (text a : Characters) (c : ℕ) → text ≡ a ++ c ∷ [] → c ≡ last_of text
last_is text a c e = sym (ap last_of e ∙ last_there a c)

pub before_is : (text a : Characters) (c : ℕ) → text ≡ a ++ c ∷ [] → a ≡ without_last text
before_is text a c e = sym (ap without_last e ∙ before_last a c)
