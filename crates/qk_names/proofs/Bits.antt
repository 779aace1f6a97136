-- Tests, and when texts are the same.
use Rattle.std.specs.Prelude.{◌≡◌, refl, ℕ, true, List, [], ◌∷◌, bytes_eq}
use Rattle.std.proofs.Common.{ap, sym, subst, ◌∙◌}
use lib.Dec.{eqb→eq, eqb, T}
use Rattle.std.proofs.lemmas.Bool.{false≢true, eq-eqb, and_from}
use Rattle.qk_ast.proofs.FrontToken.{left, right}

pub text_is : (a b : List ℕ) → bytes_eq a b ≡ true → a ≡ b
text_is [] [] h = refl
text_is [] (d ∷ ds) h = absurd (false≢true h)
text_is (c ∷ cs) [] h = absurd (false≢true h)
text_is (c ∷ cs) (d ∷ ds) h = ap (λ x. x ∷ cs) (eqb→eq c d (subst T (sym (left (eqb c d) (bytes_eq cs ds) h)) tt)) ∙ ap (λ xs. d ∷ xs) (text_is cs ds (right (eqb c d) (bytes_eq cs ds) h))

pub text_own : (a : List ℕ) → bytes_eq a a ≡ true
text_own [] = refl
text_own (c ∷ cs) = and_from (eqb c c) (bytes_eq cs cs) (eq-eqb c c refl) (text_own cs)
