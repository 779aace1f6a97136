use Rattle.std.specs.Prelude.{List, drop}
use Rattle.qk_meaning.specs.Value.{Text, Site}
use Rattle.qk_meaning.specs.Html.{attributes_html}
use Rattle.qk_value.specs.View.{seen_fields}
use Rattle.qk_html.proofs.Walking.{Left}
use Rattle.qk_html.proofs.attributes.attributes_html.Given as goal

abbrev pub invariant-loop-attribute : goal.invariant-loop-attribute
invariant-loop-attribute l = (names : Site → List Text) → Left l.most l.fn.out.items (attributes_html (seen_fields names l.all)) l.out.items (attributes_html (seen_fields names (drop l.attribute-index l.all)))
