use Rattle.std.proofs.Common.{◌≡◌, rules, Err}
use Rattle.qk_html.proofs.Appending.{both, stops}
use Rattle.qk_html.proofs.attributes.shown_attribute.Goals as goal

pub returns-in_err-push : goal.returns-in_err-push
returns-in_err-push c =
    let is : c.from_residual.result ≡ Err c.in_err-push.field-0.0 = search rules in
    stops _ is c.in_err-push.ensures

pub returns-in_err-put : goal.returns-in_err-put
returns-in_err-put c =
    let is : c.from_residual-in_err-put.result ≡ Err c.in_err-put.field-0.0 = search rules in
    both c.in_ok-push.ensures (stops _ is c.in_err-put.ensures)

pub returns-in_err-push-2 : goal.returns-in_err-push-2
returns-in_err-push-2 c =
    let is : c.from_residual-in_err-push-2.result ≡ Err c.in_err-push-2.field-0.0 = search rules in
    both c.in_ok-push.ensures (both c.in_ok-put.ensures (stops _ is c.in_err-push-2.ensures))

pub returns-in_err-attribute_text : goal.returns-in_err-attribute_text
returns-in_err-attribute_text c =
    let is : c.from_residual-in_err-attribute_text.result ≡ Err c.in_err-attribute_text.field-0.0 = search rules in
    both c.in_ok-push.ensures (both c.in_ok-put.ensures (both c.in_ok-push-2.ensures (stops _ is c.in_err-attribute_text.ensures)))

pub returns : goal.returns
returns c =
    both c.in_ok-push.ensures (both c.in_ok-put.ensures (both c.in_ok-push-2.ensures (both c.in_ok-attribute_text.ensures c.push-3.ensures)))
