-- What a longer log makes due.
use Rattle.std.specs.Prelude.{drop}
use Rattle.std.specs.List.{list_any}
use Rattle.std.proofs.Common.{ap, ◌∙◌}
use Rattle.std.proofs.lemmas.List.{drop-append-le}
use Rattle.std.proofs.lemmas.List.Folds.{list_any-append}
use Rattle.qk_meaning.specs.World.{Loc}
use Rattle.qk_meaning.specs.Places.{same_location}
use Rattle.qk_meaning.specs.Laws as Laws

pub due_over_more : Laws.DueOverMore
due_over_more log more task h =
    let tracks = λ (l : Loc). list_any (same_location l) task.tracked in
    ap (list_any tracks) (drop-append-le task.began log more h) ∙ list_any-append tracks (drop task.began log) more
