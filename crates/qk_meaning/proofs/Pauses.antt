-- The first place of a plain function is found exactly where the walk meets one.
use Rattle.std.specs.Prelude.{◌≡◌, refl, ℕ, suc, Bool, true, false, not, ◌||◌, List, [], ◌∷◌, Option, Some, None, is_some}
use Rattle.std.proofs.Common.{sym, ap, ◌∙◌}
use Rattle.std.proofs.lemmas.List.Folds.{list_any-append}
use Rattle.qk_meaning.specs.Value.{Text, Site}
use Rattle.qk_meaning.specs.World.{Object, Instance}
use Rattle.qk_meaning.specs.Parts.{or_else}
use Rattle.qk_meaning.specs.Walk.{Walk_place, In_instance, In_row, seen_in_instance, seen_in_instances, seen_at, walk, seen_in_rows, is_plain_function, meets_plain, plain_instance, plain_row}
use Rattle.qk_meaning.specs.Laws as Laws

either_some : (o p : Option Walk_place) → is_some (or_else o p) ≡ (is_some o || is_some p)
either_some (Some a) p = refl
either_some None p = refl

module _ (captures : Site → List Text) where
  some_of : (b : Bool) (place : Walk_place) (rest : Option Walk_place) → is_some (elim b [ true ↦ Some place | false ↦ rest ]) ≡ (b || is_some rest)
  some_of true place rest = refl
  some_of false place rest = refl

  in_instances : (n : ℕ) (all : List Instance) → is_some (plain_instance captures n all) ≡ meets_plain captures (seen_in_instances captures all)
  in_instances n [] = refl
  in_instances n (i ∷ rest) =
      let met = meets_plain captures (seen_in_instance captures i) in
      some_of met (In_instance n) (plain_instance captures (suc n) rest)
      ∙ (ap (λ b. met || b) (in_instances (suc n) rest) ∙ sym (list_any-append (is_plain_function captures) (seen_in_instance captures i) (seen_in_instances captures rest)))

  in_rows : (heap : List Object) (n : ℕ) (rows : List ℕ) → is_some (plain_row captures heap n rows) ≡ meets_plain captures (seen_in_rows captures heap rows)
  in_rows heap n [] = refl
  in_rows heap n (a ∷ rest) =
      let met = meets_plain captures (seen_at captures heap a) in
      some_of met (In_row n) (plain_row captures heap (suc n) rest)
      ∙ (ap (λ b. met || b) (in_rows heap (suc n) rest) ∙ sym (list_any-append (is_plain_function captures) (seen_at captures heap a) (seen_in_rows captures heap rest)))

pub pauses_meet_none : Laws.PausesMeetNone
pauses_meet_none captures w =
    let rows = walk captures w in
    ap not (either_some (plain_instance captures 0 w.instances) (plain_row captures w.heap 0 rows)
    ∙ (ap (λ b. b || is_some (plain_row captures w.heap 0 rows)) (in_instances captures 0 w.instances)
    ∙ (ap (λ b. meets_plain captures (seen_in_instances captures w.instances) || b) (in_rows captures w.heap 0 rows)
    ∙ sym (list_any-append (is_plain_function captures) (seen_in_instances captures w.instances) (seen_in_rows captures w.heap rows)))))
