-- What stands before the first point, found from the front.
use Rattle.std.specs.Prelude.{◌≡◌, ℕ, ◌+◌, ◌<◌, ◌≤◌, ◌==◌, true, false, [], ◌∷◌, ◌++◌, take, drop, length}
use Rattle.std.proofs.Common.{ap, sym, ◌∙◌}
use Rattle.std.proofs.Math.ListN.{get_or}
use Rattle.std.proofs.lemmas.List.{append-nil, append_assoc, at_drop_more, at_drop_all, take_more, take_all}
use Rattle.qk_ast.specs.Texts.{Text}
use Rattle.qk_ast.specs.Sources.{up_to_dot}

module _ (bytes : Text) (i x : ℕ) (within : i < length bytes) (here : x ≡ get_or bytes i x) where
  from_here : up_to_dot (drop i bytes) ≡ up_to_dot (x ∷ drop (i + 1) bytes)
  from_here = at_drop_more up_to_dot bytes i x within ∙ ap (λ y. up_to_dot (y ∷ drop (i + 1) bytes)) (sym here)

  pub point_here : x ≡ 46 → take i bytes ++ up_to_dot (drop i bytes) ≡ up_to_dot bytes → take i bytes ≡ up_to_dot bytes
  point_here point so_far =
      sym (append-nil (take i bytes))
      ∙ ap (λ l. take i bytes ++ l) (sym (from_here ∙ ap (λ y. up_to_dot (y ∷ drop (i + 1) bytes)) point))
      ∙ so_far

  pub no_point_here : (x == 46) ≡ false → take i bytes ++ up_to_dot (drop i bytes) ≡ up_to_dot bytes → take (i + 1) bytes ++ up_to_dot (drop (i + 1) bytes) ≡ up_to_dot bytes
  no_point_here other so_far =
      ap (λ l. l ++ up_to_dot (drop (i + 1) bytes)) (take_more bytes i x within ∙ ap (λ y. take i bytes ++ y ∷ []) (sym here))
      ∙ append_assoc (take i bytes) (x ∷ []) (up_to_dot (drop (i + 1) bytes))
      ∙ ap (λ l. take i bytes ++ l) (ap (λ b. elim b as (λ _. Text) [ true ↦ [] | false ↦ x ∷ up_to_dot (drop (i + 1) bytes) ]) (sym other) ∙ sym from_here)
      ∙ so_far

pub no_point : (bytes : Text) (i : ℕ) → length bytes ≤ i → take i bytes ++ up_to_dot (drop i bytes) ≡ up_to_dot bytes → bytes ≡ up_to_dot bytes
no_point bytes i past so_far =
    sym (append-nil bytes) ∙ ap (λ l. l ++ []) (sym (take_all i bytes past)) ∙ ap (λ l. take i bytes ++ l) (sym (at_drop_all up_to_dot bytes i past)) ∙ so_far
