-- Lists that are walked from the front on.
use Rattle.std.specs.Prelude.{◌≡◌, ◌+◌, ◌<◌, ◌≤◌, ℕ, suc, List, [], ◌∷◌, length, drop, get_or}
use Rattle.std.proofs.Common.{sym, ◌∙◌, ap, add-one, drop-cons}
use Rattle.std.proofs.lemmas.List.{at_drop_all}

module _ {A : Type 0} (xs : List A) (i : ℕ) where
  -- what is left begins with the item at this place
  pub next_left : (x : A) → i < length xs → x ≡ get_or xs i x → drop i xs ≡ x ∷ drop (i + 1) xs
  next_left x lt is = drop-cons xs i x lt ∙ (ap (λ y. y ∷ drop (suc i) xs) (sym is) ∙ ap (λ k. x ∷ drop k xs) (sym (add-one i)))

  pub none_left : length xs ≤ i → drop i xs ≡ []
  none_left h = at_drop_all (λ (ys : List A). ys) xs i h
