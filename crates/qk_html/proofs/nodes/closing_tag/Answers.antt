use Rattle.std.proofs.Common.{◌≡◌, rules, Err}
use Rattle.qk_html.proofs.Appending.{both, stops}
use Rattle.qk_html.proofs.nodes.closing_tag.Goals as goal

pub returns-in_err-push : goal.returns-in_err-push
returns-in_err-push c =
    let is : c.from_residual.result ≡ Err c.in_err-push.field-0.0 = search rules in
    stops _ is c.in_err-push.ensures

pub returns-in_err-put : goal.returns-in_err-put
returns-in_err-put c =
    let is : c.from_residual-in_err-put.result ≡ Err c.in_err-put.field-0.0 = search rules in
    both c.in_ok-push.ensures (stops _ is c.in_err-put.ensures)

pub returns : goal.returns
returns c =
    both c.in_ok-push.ensures (both c.in_ok-put.ensures c.push-2.ensures)
