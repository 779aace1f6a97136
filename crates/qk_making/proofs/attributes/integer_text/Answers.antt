use Rattle.std.specs.Prelude.{IfOk}
use Rattle.std.proofs.Common.{◌≡◌, ◌∙◌, rules, sym, subst}
use Rattle.std.specs.Fmt.{signed_decimal}
use Rattle.qk_ast.specs.Texts.{Text}
use Rattle.qk_value.proofs.Digits.{integer_is}
use Rattle.qk_making.proofs.attributes.integer_text.Goals as goal

pub returns : goal.returns
returns c =
    let written : c.format.result.now ≡ signed_decimal c.args.n = search rules in
    subst (λ (t : Text). IfOk c.from_str.result (λ text. text ≡ t)) (written ∙ sym (integer_is c.args.n c.ranges.n.sfits)) c.from_str.ensures
