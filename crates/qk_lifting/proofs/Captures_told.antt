-- In a module each arrow is found at its place, so what it captures is told there.
use Rattle.std.specs.Prelude.{◌≡◌, ℕ, List, [], ◌∷◌, Contains}
use Rattle.std.proofs.Common.{ap}
use Rattle.std.proofs.lemmas.List.Elements.{Contains-append_left, Contains-append_right, Contains-push}
use Rattle.qk_ast.specs.Arrows.{Found_arrow}
use Rattle.qk_ast.specs.Uses.{captures_of}
use Rattle.qk_names.specs.Inside.{inside}
use Rattle.qk_names.specs.Laws.{ArrowsAreFound, InsideIsListed}
use Rattle.qk_lifting.specs.References.{Reference}
use Rattle.qk_lifting.specs.Segments.{reference_at}
use Rattle.qk_lifting.specs.Laws.{Tells, CapturesAreTold}

tells_all : (refer : ℕ → Reference) (xs : List Found_arrow) → ((b : Found_arrow) → Contains xs b → (refer b.place).captures ≡ captures_of b) → Tells refer xs
tells_all refer [] h = tt
tells_all refer (x ∷ xs) h = (h x (Contains-append_left (x ∷ []) xs x (Contains-push [] x)), tells_all refer xs (λ b in_xs. h b (Contains-append_right (x ∷ []) xs b in_xs)))

pub captures_are_told : ArrowsAreFound → InsideIsListed → CapturesAreTold
captures_are_told found listed form bytes file m d a in_m = record {
  tells = tells_all (reference_at file m) (inside a) (λ b in_a. ap captures_of (found form bytes m d b (listed m.items a b in_m in_a)));
}
