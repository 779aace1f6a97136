use Rattle.std.specs.Prelude.{◌≡◌, drop}
use Rattle.qk_meaning.specs.Markup as meaning
use Rattle.qk_meaning.specs.Props.{appended}
use Rattle.qk_value.specs.View.{seen_fields}
use Rattle.qk_environment.specs.Scoping.{Captures}
use Rattle.qk_making.proofs.attributes.shown_attributes.Given as goal

abbrev pub invariant-loop-attribute : goal.invariant-loop-attribute
invariant-loop-attribute l = (names : Captures) → appended (seen_fields names l.shown) (meaning.shown_attributes (seen_fields names (drop l.attribute-index l.attributes))) ≡ meaning.shown_attributes (seen_fields names l.attributes)
