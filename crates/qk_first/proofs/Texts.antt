-- Texts of small letters: each letter is its own byte, and nothing in them is decoded or written by name.
use Rattle.std.specs.Prelude.{◌≡◌, refl, ℕ, ◌≤◌, Bool, true, false, ◌&&◌, ◌||◌, not, nat_le, List, [], ◌∷◌, length, IsTrue, bytes_eq}
use Rattle.std.specs.Str.{encode_utf8_all}
use Rattle.std.proofs.Common.{ap, ◌∙◌, arith}
use mathlib.Core.Path.{sym, subst}
use mathlib.Core.Logic.{◌⊎◌, inl, inr}
use lib.Dec.{eqb→eq, eqb, leb, T}
use Rattle.std.proofs.lemmas.Bool.{eq-eqb, ne_eqb, leb-true, false≢true}
use Rattle.std.proofs.lemmas.Str.{encode_ascii}
use Rattle.qk_ast.specs.Characters.{Characters, same, is_one_of, every, is_small_letter}
use Rattle.qk_ast.specs.JsxText.{decoded}
use Rattle.qk_ast.specs.First.{is_short_word}

-- ---- tests

pub left : (a b : Bool) → (a && b) ≡ true → a ≡ true
left true b h = refl
left false b h = h

pub right : (a b : Bool) → (a && b) ≡ true → b ≡ true
right true b h = h
right false b h = absurd (false≢true h)

pub either : (a b : Bool) → (a || b) ≡ true → (a ≡ true) ⊎ (b ≡ true)
either true b h = inl refl
either false b h = inr h

pub both : (a b : Bool) → a ≡ true → b ≡ true → (a && b) ≡ true
both a b h k = ap (λ c. c && b) h ∙ k

pub denied : (a : Bool) → not a ≡ true → a ≡ false
denied true h = absurd (false≢true h)
denied false h = refl

-- ---- the same text

pub same_is : (a b : Characters) → same a b ≡ true → a ≡ b
same_is [] [] h = refl
same_is [] (d ∷ ds) h = absurd (false≢true h)
same_is (c ∷ cs) [] h = absurd (false≢true h)
same_is (c ∷ cs) (d ∷ ds) h = ap (λ x. x ∷ cs) (eqb→eq c d (subst T (sym (left (eqb c d) (same cs ds) h)) tt)) ∙ ap (λ xs. d ∷ xs) (same_is cs ds (right (eqb c d) (same cs ds) h))

pub text_own : (a : List ℕ) → bytes_eq a a ≡ true
text_own [] = refl
text_own (c ∷ cs) = both (eqb c c) (bytes_eq cs cs) (eq-eqb c c refl) (text_own cs)

abbrev pub AllHave : (Characters → Type 0) → List Characters → Type 0
AllHave P [] = Unit {0}
AllHave P (b ∷ all) = P b × AllHave P all

-- a text that is one of these has what each of them has
pub among : (P : Characters → Type 0) (a : Characters) (all : List Characters) → IsTrue (is_one_of a all) → AllHave P all → P a
among P a [] h each = absurd (false≢true h)
among P a (b ∷ all) h each = elim (either (same a b) (is_one_of a all) h) [ inl e ↦ subst P (sym (same_is a b e)) each.0 | inr e ↦ among P a all e each.1 ]

-- ---- letters

pub record IsLetter (c : ℕ) : Type 0 where
  pub low : 97 ≤ c
  pub high : c ≤ 122

pub letter : (c : ℕ) → is_small_letter c ≡ true → IsLetter c
letter c h = record { low = leb-true 97 c (left (nat_le 97 c) (nat_le c 122) h); high = leb-true c 122 (right (nat_le 97 c) (nat_le c 122) h) }

pub letters_bytes : (a : Characters) → IsTrue (every is_small_letter a) → encode_utf8_all a ≡ a
letters_bytes [] h = refl
letters_bytes (c ∷ cs) h =
    let l = letter c (left (is_small_letter c) (every is_small_letter cs) h) in
    rw (encode_ascii c (omega arith), letters_bytes cs (right (is_small_letter c) (every is_small_letter cs) h))

pub letters_decoded : (a : Characters) → IsTrue (every is_small_letter a) → decoded a ≡ a
letters_decoded [] h = refl
letters_decoded (c ∷ cs) h =
    let l = letter c (left (is_small_letter c) (every is_small_letter cs) h) in
    let e : eqb 38 c ≡ false = ne_eqb 38 c (λ k. omega arith) in
    rw (e, letters_decoded cs (right (is_small_letter c) (every is_small_letter cs) h))

-- what a short word is
pub record IsWord (a : Characters) : Type 0 where
  pub letters : IsTrue (every is_small_letter a)
  pub short : length a ≤ 8

pub word : (a : Characters) → IsTrue (is_short_word a) → IsWord a
word a h = record { letters = left _ _ (left _ _ h); short = leb-true _ _ (right _ _ h) }
