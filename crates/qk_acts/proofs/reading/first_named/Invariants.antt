use Rattle.std.proofs.Common.{◌≡◌, drop}
use Rattle.qk_meaning.specs.Parts.{found}
use Rattle.qk_value.specs.View.{seen_fields}
use Rattle.qk_environment.specs.Scoping.{Captures}
use Rattle.qk_acts.proofs.reading.first_named.Given as goal

abbrev pub invariant-loop-other : goal.invariant-loop-other
invariant-loop-other l = (captured : Captures) → found l.name (seen_fields captured (drop l.other-index l.fields)) ≡ found l.name (seen_fields captured l.fields)
