-- Tests, and when texts are the same.
use Rattle.std.specs.Prelude.{◌≡◌, refl, ℕ, Bool, true, false, ◌&&◌, List, [], ◌∷◌, bytes_eq}
use Rattle.std.proofs.Common.{ap, sym, subst, ◌∙◌}
use lib.Dec.{eqb→eq, eqb, T}
use Rattle.std.proofs.lemmas.Bool.{false≢true, eq-eqb}

pub left : (a b : Bool) → (a && b) ≡ true → a ≡ true
left true b h = refl
left false b h = absurd (false≢true h)

pub right : (a b : Bool) → (a && b) ≡ true → b ≡ true
right true b h = h
right false b h = absurd (false≢true h)

pub both : (a b : Bool) → a ≡ true → b ≡ true → (a && b) ≡ true
both a b h k = ap (λ c. c && b) h ∙ k

-- two tests that hold together
pub together : (a b : Bool) → (a ≡ true → b ≡ true) → (b ≡ true → a ≡ true) → a ≡ b
together true b h k = sym (h refl)
together false true h k = k refl
together false false h k = refl

pub text_is : (a b : List ℕ) → bytes_eq a b ≡ true → a ≡ b
text_is [] [] h = refl
text_is [] (d ∷ ds) h = absurd (false≢true h)
text_is (c ∷ cs) [] h = absurd (false≢true h)
text_is (c ∷ cs) (d ∷ ds) h = ap (λ x. x ∷ cs) (eqb→eq c d (subst T (sym (left (eqb c d) (bytes_eq cs ds) h)) tt)) ∙ ap (λ xs. d ∷ xs) (text_is cs ds (right (eqb c d) (bytes_eq cs ds) h))

pub text_own : (a : List ℕ) → bytes_eq a a ≡ true
text_own [] = refl
text_own (c ∷ cs) = both (eqb c c) (bytes_eq cs cs) (eq-eqb c c refl) (text_own cs)
