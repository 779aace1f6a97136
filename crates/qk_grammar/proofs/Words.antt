-- Texts, their characters and their bytes.
use Rattle.std.specs.Prelude.{◌≡◌, refl, ℕ, ◌<◌, ◌≤◌, ◌+◌, Bool, true, false, ◌&&◌, Some, None, length, ◌==◌, nat_lt, List, [], ◌∷◌, ◌++◌, bytes_eq}
use Rattle.std.specs.Str.{IsUtf8, chars, encode_utf8_all}
use Rattle.std.specs.Char.{encode_utf8}
use mathlib.Core.Path.{sym, ◌∙◌, ap, subst}
use Rattle.std.proofs.Common.{arith, length-append}
use Rattle.std.proofs.lemmas.Str.{encode_ascii, encodes-chars, length-encode, len_utf8_bounds}
use lib.Dec.{T, ltb→lt, eqb→eq, eqb}
use Rattle.std.proofs.lemmas.Bool.{false≢true, eq-eqb}
use Rattle.qk_ast.specs.declared.Expr.TheVariants as e
use Rattle.qk_ast.specs.Characters.{Characters, same}
use Rattle.qk_reading.specs.Parts.{child_text}
use Rattle.qk_token.specs.View.{is_ascii}

-- what two tests that both hold say
left : (a b : Bool) → (a && b) ≡ true → a ≡ true
left true b h = refl
left false b h = absurd (false≢true h)

right : (a b : Bool) → (a && b) ≡ true → b ≡ true
right true b h = h
right false b h = absurd (false≢true h)

below : (c n : ℕ) → nat_lt c n ≡ true → c < n
below c n h = ltb→lt c n (subst T (sym h) tt)

pub ascii_bytes : (w : List ℕ) → is_ascii w ≡ true → w ≡ encode_utf8_all w
ascii_bytes [] h = refl
ascii_bytes (c ∷ cs) h = ap (λ x. c ∷ x) (ascii_bytes cs (right (nat_lt c 128) (is_ascii cs) h))
    ∙ ap (λ x. x ++ encode_utf8_all cs) (sym (encode_ascii c (below c 128 (left (nat_lt c 128) (is_ascii cs) h))))

pub same_bytes : (a b : List ℕ) → bytes_eq a b ≡ same a b
same_bytes [] [] = refl
same_bytes [] (d ∷ ds) = refl
same_bytes (c ∷ cs) [] = refl
same_bytes (c ∷ cs) (d ∷ ds) = ap (λ b. (c == d) && b) (same_bytes cs ds)

pub same_is : (a b : List ℕ) → same a b ≡ true → a ≡ b
same_is [] [] h = refl
same_is [] (d ∷ ds) h = absurd (false≢true h)
same_is (c ∷ cs) [] h = absurd (false≢true h)
same_is (c ∷ cs) (d ∷ ds) h = ap (λ x. x ∷ cs) (eqb→eq c d (subst T (sym (left (eqb c d) (same cs ds) h)) tt)) ∙ ap (λ xs. d ∷ xs) (same_is cs ds (right (eqb c d) (same cs ds) h))

both : (a b : Bool) → a ≡ true → b ≡ true → (a && b) ≡ true
both a b h k = ap (λ c. c && b) h ∙ k

pub same_own : (a : List ℕ) → same a a ≡ true
same_own [] = refl
same_own (c ∷ cs) = both (eqb c c) (same cs cs) (eq-eqb c c refl) (same_own cs)

-- two tests that hold together
pub together : (a b : Bool) → (a ≡ true → b ≡ true) → (b ≡ true → a ≡ true) → a ≡ b
together true b h k = sym (h refl)
together false true h k = k refl
together false false h k = refl

-- texts are the same where their characters are
pub same_text : (a b : List ℕ) → IsUtf8 a → IsUtf8 b → bytes_eq a b ≡ same (chars a) (chars b)
same_text a b u v = same_bytes a b ∙ together (same a b) (same (chars a) (chars b))
    (λ h. subst (λ x. same (chars a) (chars x) ≡ true) (same_is a b h) (same_own (chars a)))
    (λ h. subst (λ x. same a x ≡ true) (sym (encodes-chars a u) ∙ ap encode_utf8_all (same_is (chars a) (chars b) h) ∙ encodes-chars b v) (same_own a))

-- only the empty text has no bytes
some_bytes : (c : ℕ) (bs : List ℕ) → length (encode_utf8 c ++ bs) ≡ 0 → ⊥
some_bytes c bs h =
    let some : 1 ≤ length (encode_utf8 c) = subst (λ n. 1 ≤ n) (sym (length-encode c)) (len_utf8_bounds c).0 in
    let all : length (encode_utf8 c ++ bs) ≡ length (encode_utf8 c) + length bs = length-append (encode_utf8 c) bs in
    absurd (omega (arith, some, all, h))

pub no_text : (cs : Characters) → length (encode_utf8_all cs) ≡ 0 → child_text cs ≡ None
no_text [] h = refl
no_text (c ∷ cs) h = absurd (some_bytes c (encode_utf8_all cs) h)

pub some_text : (cs : Characters) → (length (encode_utf8_all cs) ≡ 0 → ⊥) → child_text cs ≡ Some (e.Text (encode_utf8_all cs))
some_text [] h = absurd (h refl)
some_text (c ∷ cs) h = refl
