use Rattle.std.specs.Fmt.{signed_decimal}
use Rattle.std.proofs.Common.{◌≡◌, ◌∙◌, sym, rules}
use Rattle.qk_value.proofs.Digits.{integer_is}
use Rattle.qk_html.proofs.attributes.integer_text.Goals as goal

pub returns : goal.returns
returns c =
    let written : c.format.result.now ≡ signed_decimal c.args.n = search rules in
    written ∙ sym (integer_is c.args.n c.ranges.n.sfits)
