use Rattle.std.proofs.Common.{◌≡◌, ◌∙◌, ap, sym}
use Rattle.qk_meaning.specs.Markup.{key_of}
use Rattle.qk_value.specs.View.{seen}
use Rattle.qk_value.proofs.Viewing.{seen-Elem}
use Rattle.qk_tree.proofs.step.place_at.Goals as goal

pub returns-in-Elem-clause-place : goal.returns-in-Elem-clause-place
returns-in-Elem-clause-place c = λ names others.
    let k : key_of (seen names c.args.item.now) ≡ c.get.result.now.key = ap key_of (ap (seen names) c.in-Elem.is ∙ seen-Elem names c.in-Elem.element) ∙ sym (ap (λ e. e.key) c.get.ensures) in
    rw k (c.element_place.ensures.place (seen names c.args.item.now) others)
