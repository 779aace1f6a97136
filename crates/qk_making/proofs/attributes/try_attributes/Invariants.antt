use Rattle.std.specs.Prelude.{◌≡◌, drop}
use Rattle.qk_meaning.specs.Markup as meaning
use Rattle.qk_value.specs.View.{seen_fields}
use Rattle.qk_environment.specs.Scoping.{Captures}
use Rattle.qk_making.proofs.attributes.try_attributes.Given as goal

abbrev pub invariant-loop-attribute : goal.invariant-loop-attribute
invariant-loop-attribute l = (names : Captures) → meaning.attributes_fault l.element (seen_fields names (drop l.attribute-index l.attributes)) ≡ meaning.attributes_fault l.element (seen_fields names l.attributes)
