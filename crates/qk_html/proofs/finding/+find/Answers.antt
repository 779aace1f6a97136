use Rattle.std.proofs.Common.{◌∙◌, sym}
use Rattle.qk_html.proofs.Elements_found.{in_element, in_instance}
use Rattle.qk_html.proofs.finding.+find.Goals as goal

pub find_in-returns-else-shows_id : goal.find_in-returns-else-shows_id
find_in-returns-else-shows_id t c = λ names.
    c.find_among.ensures names
    ∙ in_element names c.args.id.now c.args.node.now c.in-Element.element _ _ c.in-Element.is c.as_slice.ensures c.as_slice-in-Element.ensures (sym (c.shows_id.ensures names) ∙ c.if-shows_id.false)

pub find_in-returns-in-Instance : goal.find_in-returns-in-Instance
find_in-returns-in-Instance t c = λ names.
    c.find_among-in-Instance.ensures names ∙ in_instance names c.args.id.now c.args.node.now c.in-Instance.inside _ c.in-Instance.is c.as_slice-in-Instance.ensures
