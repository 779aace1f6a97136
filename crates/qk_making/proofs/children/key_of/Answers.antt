use Rattle.std.proofs.Common.{◌∙◌, ap, sym}
use Rattle.qk_meaning.specs.Markup as meaning
use Rattle.qk_value.specs.declared.value.Elem.{Elem}
use Rattle.qk_value.specs.View.{seen}
use Rattle.qk_value.proofs.Viewing.{seen-Elem}
use Rattle.qk_making.proofs.children.key_of.Goals as goal

pub returns-in-Elem : goal.returns-in-Elem
returns-in-Elem c = λ names. c.as_ref.ensures.value ∙ ap (λ (e : Elem). e.key) c.get.ensures ∙ ap meaning.key_of (sym (ap (seen names) c.in-Elem.is ∙ seen-Elem names c.in-Elem.element))
