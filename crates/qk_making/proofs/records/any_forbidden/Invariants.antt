use Rattle.std.specs.Prelude.{◌≡◌, drop}
use Rattle.qk_meaning.specs.Parts.{names_of}
use Rattle.qk_meaning.specs.Making as making
use Rattle.qk_value.specs.View.{seen_fields}
use Rattle.qk_environment.specs.Scoping.{Captures}
use Rattle.qk_making.proofs.records.any_forbidden.Given as goal

abbrev pub invariant-loop-field : goal.invariant-loop-field
invariant-loop-field l = (names : Captures) → making.any_forbidden (names_of (seen_fields names (drop l.field-index l.fields))) ≡ making.any_forbidden (names_of (seen_fields names l.fields))
