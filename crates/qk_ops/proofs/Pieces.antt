-- Pieces of texts: where a text has a piece, and that a search finds it.
use Rattle.std.specs.Prelude.{◌≡◌, refl, ◌≤◌, ℕ, zero, suc, ◌+◌, Bool, true, false, ◌&&◌, ◌||◌, ◌==◌, [], ◌∷◌, ◌++◌, take, drop, length, nat_eq, Option, Some, None, is_some}
use Rattle.std.proofs.Common.{sym, ◌∙◌, ap, arith, true≢false}
use Rattle.std.specs.List as list
use Rattle.memchr.specs.Find.{FindsNeedle}
use Rattle.memchr.proofs.lemmas.MatchLemmas.{OccursAt-from_part, OccursAt-split}
use Rattle.qk_ast.specs.Texts.{Text}
use Rattle.qk_meaning.specs.Texts.{starts_with, includes}

turned : (b c : ℕ) → nat_eq c b ≡ (b == c)
turned b c = grind arith

pub begins : (xs ys : Text) → list.starts_with nat_eq xs ys ≡ starts_with xs ys
begins xs [] = refl
begins [] (c ∷ ys) = refl
begins (b ∷ xs) (c ∷ ys) = λ i. turned b c i && begins xs ys i

-- ---- a text has the piece that stands in it

itself : (c : ℕ) → (c == c) ≡ true
itself c = grind arith

front_starts : (p rest : Text) → starts_with (p ++ rest) p ≡ true
front_starts [] rest = refl
front_starts (c ∷ p) rest = ap (λ b. b && starts_with (p ++ rest) p) (itself c) ∙ front_starts p rest

or_true : (a b : Bool) → b ≡ true → (a || b) ≡ true
or_true true b h = refl
or_true false b h = h

starts : (xs p rest : Text) → xs ≡ p ++ rest → starts_with xs p ≡ true
starts xs p rest e = ap (λ t. starts_with t p) e ∙ front_starts p rest

has_piece : (xs p rest : Text) (k : ℕ) → drop k xs ≡ p ++ rest → includes xs p ≡ true
has_piece [] p rest zero e = starts [] p rest e
has_piece [] p rest (suc k) e = starts [] p rest e
has_piece (b ∷ xs) p rest zero e = ap (λ s. s || includes xs p) (starts (b ∷ xs) p rest e)
has_piece (b ∷ xs) p rest (suc k) e = or_true (starts_with (b ∷ xs) p) (includes xs p) (has_piece xs p rest k e)

-- ---- the piece that a text has stands in it

record Standing (xs p : Text) : Type 0 where
  at : ℕ
  fits : at + length p ≤ length xs
  there : take (length p) (drop at xs) ≡ p

record Front (xs p : Text) : Type 0 where
  fits : length p ≤ length xs
  there : take (length p) xs ≡ p

and_left : (a b : Bool) → (a && b) ≡ true → a ≡ true
and_left true b h = refl
and_left false b h = h

and_right : (a b : Bool) → (a && b) ≡ true → b ≡ true
and_right true b h = h
and_right false b h = absurd (true≢false (sym h))

is_byte : (b c : ℕ) → (b == c) ≡ true → b ≡ c
is_byte b c h = grind (arith, h)

front : (xs p : Text) → starts_with xs p ≡ true → Front xs p
front [] [] h = record { fits = omega arith; there = refl }
front (b ∷ xs) [] h = record { fits = omega arith; there = refl }
front [] (c ∷ p) h = absurd (true≢false (sym h))
front (b ∷ xs) (c ∷ p) h =
    let f : Front xs p = front xs p (and_right (b == c) (starts_with xs p) h) in
    let e : b ≡ c = is_byte b c (and_left (b == c) (starts_with xs p) h) in
    record { fits = omega (arith, f.fits); there = λ i. e i ∷ f.there i }

at_front : (xs p : Text) → starts_with xs p ≡ true → Standing xs p
at_front [] p h = let f : Front [] p = front [] p h in record { at = 0; fits = omega (arith, f.fits); there = f.there }
at_front (b ∷ xs) p h = let f : Front (b ∷ xs) p = front (b ∷ xs) p h in record { at = 0; fits = omega (arith, f.fits); there = f.there }

stands : (xs p : Text) → includes xs p ≡ true → Standing xs p
stands [] p h = at_front [] p h
stands (b ∷ xs) p h = by (starts_with (b ∷ xs) p) refl (stands xs p)
  where
    by : (s : Bool) → starts_with (b ∷ xs) p ≡ s → (includes xs p ≡ true → Standing xs p) → Standing (b ∷ xs) p
    by true e more = at_front (b ∷ xs) p e
    by false e more =
        let further : Standing xs p = more (ap (λ s. s || includes xs p) (sym e) ∙ h) in
        record { at = suc further.at; fits = omega (arith, further.fits); there = further.there }

-- ---- so a search finds a piece exactly where the text has it

pub search_finds : (xs p : Text) (r : Option ℕ) → FindsNeedle xs p 0 r → is_some r ≡ includes xs p
search_finds xs p (Some k) h = sym (has_piece xs p (drop (k + length p) xs) k (OccursAt-split xs p k h.1))
search_finds xs p None h = by (includes xs p) refl
  where
    by : (b : Bool) → includes xs p ≡ b → false ≡ includes xs p
    by false e = sym e
    by true e =
        let s : Standing xs p = stands xs p e in
        absurd (h s.at (omega arith) (omega (arith, s.fits)) (OccursAt-from_part xs p s.at s.fits s.there))
