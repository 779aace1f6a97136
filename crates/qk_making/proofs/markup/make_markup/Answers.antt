use Rattle.std.proofs.Common.{◌≡◌, ◌∙◌, ap, Err, rules}
use Rattle.qk_meaning.specs.Setting.{captures}
use Rattle.qk_value.specs.View.{shown_by, seen_fields, seen_element}
use Rattle.qk_making.proofs.Elements.{attributes_stop, children_stop, element_made}
use Rattle.qk_making.proofs.markup.make_markup.Goals as goal

pub returns-in_err-try_attributes : goal.returns-in_err-try_attributes
returns-in_err-try_attributes c =
    let failed : c.from_residual.result ≡ Err c.in_err-try_attributes.field-0.0 = search rules in
    λ here. attributes_stop
    here (shown_by c.args.tag) c.is_element.result c.is_element.ensures (seen_fields (captures here) c.args.attributes.now) c.args.children c.args.children (λ i. c.args.children) c.in_err-try_attributes.field-0.0 c.from_residual.result failed
    (c.in_err-try_attributes.ensures (captures here))

pub returns-in_err-try_children : goal.returns-in_err-try_children
returns-in_err-try_children c =
    let failed : c.from_residual-in_err-try_children.result ≡ Err c.in_err-try_children.field-0.0 = search rules in
    λ here. children_stop
    here (shown_by c.args.tag) c.is_element.result c.is_element.ensures (seen_fields (captures here) c.args.attributes.now) c.args.children c.as_slice.result.now c.as_slice.ensures c.in_err-try_children.field-0.0 c.from_residual-in_err-try_children.result failed
    (c.in_ok-try_attributes.ensures (captures here)) (c.in_err-try_children.ensures (captures here))

pub returns : goal.returns
returns c = λ here. element_made
    here (shown_by c.args.tag) c.is_element.result c.is_element.ensures (seen_fields (captures here) c.args.attributes.now) c.args.children c.as_slice.result.now c.as_slice.ensures c.in_ok-new.field-0 c.fixed.result
    (c.in_ok-try_attributes.ensures (captures here)) (c.in_ok-try_children.ensures (captures here))
    (ap (seen_element (captures here)) c.in_ok-new.ensures ∙ c.in_ok-made.ensures (captures here))
    (c.fixed.ensures here)
