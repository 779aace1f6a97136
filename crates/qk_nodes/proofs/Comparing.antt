-- How paths compare, by their lengths.
use Rattle.std.proofs.Common.{◌≡◌, ◌≤◌, ◌<◌, ◌&&◌, ℕ, suc, Bool, true, false, List, [], ◌∷◌, length, drop, refl, ap, ◌∙◌, sym, subst, arith}
use Rattle.std.proofs.lemmas.List.{drop_all, length-drop}
use Rattle.qk_meaning.specs.Places.{same_step, same_path, is_above}
use Rattle.qk_nodes.specs.declared.node.Step.{Step}
use Rattle.qk_nodes.specs.Tree.{step_of, path_of}

and_false : (b : Bool) → (b && false) ≡ false
and_false true = refl
and_false false = refl

-- paths of different lengths are not the same
pub unlike : (p q : List Step) → (length p ≡ length q → ⊥) → same_path (path_of p) (path_of q) ≡ false
unlike [] [] other = absurd (other refl)
unlike [] (b ∷ q) other = refl
unlike (a ∷ p) [] other = refl
unlike (a ∷ p) (b ∷ q) other = ap (λ rest. same_step (step_of a) (step_of b) && rest) (unlike p q (λ e. other (ap (λ n. suc n) e))) ∙ and_false (same_step (step_of a) (step_of b))

-- one that isn't shorter is not above the other
pub not_above : (a b : List Step) → length b ≤ length a → is_above (path_of a) (path_of b) ≡ false
not_above [] [] h = refl
not_above [] (s ∷ b) h = absurd (omega (arith, h))
not_above (s ∷ a) [] h = refl
not_above (s ∷ a) (t ∷ b) h = ap (λ x. same_step (step_of s) (step_of t) && x) (not_above a b (omega (arith, h))) ∙ and_false (same_step (step_of s) (step_of t))

nothing_above : (b : List Step) → 0 < length b → is_above [] (path_of b) ≡ true
nothing_above [] h = absurd (omega (arith, h))
nothing_above (s ∷ b) h = refl

-- nothing is left of the first, and something of the other
pub all_same : (a b : List Step) (i : ℕ) → length a ≤ i → i < length b → is_above (path_of (drop i a)) (path_of (drop i b)) ≡ true
all_same a b i none some = ap (λ x. is_above (path_of x) (path_of (drop i b))) (drop_all i a none) ∙ nothing_above (drop i b) (left i b some)
  where
    left : (i : ℕ) (b : List Step) → i < length b → 0 < length (drop i b)
    left i b h = subst (λ n. 0 < n) (sym (length-drop i b)) (omega (arith, h))
