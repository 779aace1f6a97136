use Rattle.std.specs.Prelude.{◌≡◌, drop}
use Rattle.qk_meaning.specs.Parts as parts
use Rattle.qk_value.specs.View.{seen_fields}
use Rattle.qk_environment.specs.Scoping.{Captures}
use Rattle.qk_making.proofs.attributes.found.Given as goal

abbrev pub invariant-loop-attribute : goal.invariant-loop-attribute
invariant-loop-attribute l = (names : Captures) → parts.found l.name (seen_fields names (drop l.attribute-index l.attributes)) ≡ parts.found l.name (seen_fields names l.attributes)
