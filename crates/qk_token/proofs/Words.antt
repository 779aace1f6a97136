-- A word of ASCII is the bytes of a text where it is the text's characters.
use Rattle.std.specs.Prelude.{◌≡◌, refl, ℕ, true, ◌&&◌, nat_lt, chars, List, [], ◌∷◌}
use Rattle.std.specs.Str.{IsUtf8, encode_utf8_all}
use mathlib.Core.Path.{sym, ◌∙◌, ap}
use Rattle.std.proofs.lemmas.Str.{encodes-chars}
use Rattle.qk_ast.specs.Characters.{Characters, same}
use Rattle.qk_lex.proofs.BytesLemmas.{same_bytes, is_ascii_word, ascii_word}
use Rattle.qk_token.specs.View.{is_ascii}

ascii_same : (w : Characters) → is_ascii w ≡ is_ascii_word w
ascii_same [] = refl
ascii_same (c ∷ cs) = ap (λ b. nat_lt c 128 && b) (ascii_same cs)

pub same_word : (text word bytes : List ℕ) → IsUtf8 text → is_ascii word ≡ true → bytes ≡ text → same bytes word ≡ same (chars text) word
same_word text word bytes u h e =
    ap (λ b. same b word) (e ∙ sym (encodes-chars text u)) ∙ same_bytes word (ascii_word word (sym (ascii_same word) ∙ h)) (chars text)

pub name_bytes : (text : List ℕ) → IsUtf8 text → text ≡ encode_utf8_all (chars text)
name_bytes text u = sym (encodes-chars text u)
