-- What is found in two traces, one behind the other, is what is found in each.
use Rattle.std.specs.Prelude.{◌≡◌, refl, List, [], ◌∷◌, ◌++◌}
use Rattle.std.proofs.Common.{ap}
use Rattle.qk_meaning.specs.Happening.{Happening, Did_log, Did_print, Hooked}
use Rattle.qk_meaning.specs.Trace.{logged_in, printed_in, answers_in}

pub logged_then : (one other : List Happening) → logged_in (one ++ other) ≡ logged_in one ++ logged_in other
logged_then [] other = refl
logged_then (Did_log l ∷ rest) other = ap (λ all. l ∷ all) (logged_then rest other)
logged_then (_ ∷ rest) other = logged_then rest other

pub printed_then : (one other : List Happening) → printed_in (one ++ other) ≡ printed_in one ++ printed_in other
printed_then [] other = refl
printed_then (Did_print line ∷ rest) other = ap (λ all. line ∷ all) (printed_then rest other)
printed_then (_ ∷ rest) other = printed_then rest other

pub answers_then : (one other : List Happening) → answers_in (one ++ other) ≡ answers_in one ++ answers_in other
answers_then [] other = refl
answers_then (Hooked kind arguments answered ∷ rest) other = ap (λ all. answered ∷ all) (answers_then rest other)
answers_then (_ ∷ rest) other = answers_then rest other
