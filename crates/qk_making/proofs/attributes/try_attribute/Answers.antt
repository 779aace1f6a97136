use Rattle.std.specs.Prelude.{codes}
use Rattle.std.proofs.Common.{◌≡◌, false, rules}
use Rattle.qk_ast.specs.Texts.{same_text}
use Rattle.qk_meaning.specs.Markup as meaning
use Rattle.qk_value.specs.View.{seen}
use Rattle.qk_making.proofs.Trying.{tried_so}
use Rattle.qk_making.proofs.Written_attributes.{on_element}
use Rattle.qk_making.proofs.attributes.try_attribute.Goals as goal

pub returns-then-element : goal.returns-then-element
returns-then-element c =
    let other : same_text c.args.name.now (codes "key") ≡ false = search rules in
    λ names. tried_so
    (meaning.element_attribute_fault c.args.name.now (seen names c.args.v.now)) (meaning.attribute_fault c.args.element c.args.name.now (seen names c.args.v.now)) c.try_on_element.result
    (on_element c.args.element c.args.name.now (seen names c.args.v.now) other c.if-element.true)
    (c.try_on_element.ensures names)
