use Rattle.std.proofs.Common.{◌∙◌, ap, sym}
use Rattle.qk_meaning.specs.Html as meaning
use Rattle.qk_value.specs.View.{seen}
use Rattle.qk_value.proofs.Viewing.{seen-Elem}
use Rattle.qk_html.proofs.attributes.shown_as.Goals as goal

pub returns-in-Elem : goal.returns-in-Elem
returns-in-Elem c = λ names. ap meaning.shown_as (sym (ap (seen names) c.in-Elem.is ∙ seen-Elem names _))
