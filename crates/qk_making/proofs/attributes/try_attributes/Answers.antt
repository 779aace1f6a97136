use Rattle.std.proofs.Common.{◌≡◌, ◌∙◌, Err, rules}
use Rattle.qk_making.proofs.Trying.{tried_as}
use Rattle.qk_making.proofs.Written_attributes.{attribute_passes, attribute_fails}
use Rattle.qk_making.proofs.attributes.try_attributes.Goals as goal

pub returns-in_err-try_attribute : goal.returns-in_err-try_attribute
returns-in_err-try_attribute c =
    let failed : c.from_residual.result ≡ Err c.in_err-try_attribute.field-0.0 = search rules in
    λ names. tried_as _ c.in_err-try_attribute.field-0.0 c.from_residual.result failed
    (attribute_fails names c.args.attributes.now c.loop-attribute.attribute-index _ c.loop-attribute-test.true c.attribute-item.is c.args.element _ c.in_err-try_attribute.field-0.0 (c.loop-attribute.invariant names) (c.in_err-try_attribute.ensures names))

pub loop-attribute-preserved : goal.loop-attribute-preserved
loop-attribute-preserved c = λ names.
    attribute_passes names c.args.attributes.now c.loop-attribute.attribute-index _ c.loop-attribute-test.true c.attribute-item.is c.args.element (c.in_ok-try_attribute.ensures names)
    ∙ c.loop-attribute.invariant names
