use Rattle.std.specs.Prelude.{◌≡◌, List, drop}
use Rattle.qk_meaning.specs.Parts as parts
use Rattle.qk_meaning.specs.Value.{Text, Site}
use Rattle.qk_value.specs.View.{seen_fields}
use Rattle.qk_html.proofs.attributes.found.Given as goal

abbrev pub invariant-loop-attribute : goal.invariant-loop-attribute
invariant-loop-attribute l = (names : Site → List Text) → parts.found l.name (seen_fields names (drop l.attribute-index l.all)) ≡ parts.found l.name (seen_fields names l.all)
