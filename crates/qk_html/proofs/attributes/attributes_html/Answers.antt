use Rattle.std.proofs.Common.{◌≡◌, rules, arith, Err}
use Rattle.qk_html.proofs.Walking.{begin, goes_on, ends_at, finish}
use Rattle.qk_html.proofs.Listed.{next_attribute, no_attribute}
use Rattle.qk_html.proofs.attributes.attributes_html.Goals as goal

pub loop-attribute-init : goal.loop-attribute-init
loop-attribute-init c = λ names. begin c.args.out.now.items _

pub returns-in_err-attribute_html : goal.returns-in_err-attribute_html
returns-in_err-attribute_html c =
    let is : c.from_residual.result ≡ Err c.in_err-attribute_html.field-0.0 = search rules in
    λ names. ends_at _ _ (next_attribute names c.args.all.now c.loop-attribute.attribute-index _ c.loop-attribute-test.true c.attribute-item.is) (c.loop-attribute.invariant names) is (c.in_err-attribute_html.ensures names)

pub loop-attribute-preserved : goal.loop-attribute-preserved
loop-attribute-preserved c = λ names.
    goes_on _ _ (next_attribute names c.args.all.now c.loop-attribute.attribute-index _ c.loop-attribute-test.true c.attribute-item.is) (c.loop-attribute.invariant names) (c.in_ok-attribute_html.ensures names)

pub returns : goal.returns
returns c = λ names. finish (no_attribute names c.args.all.now c.loop-attribute.attribute-index (omega (arith, c.loop-attribute-test.false))) (c.loop-attribute.invariant names)
