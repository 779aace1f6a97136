use Rattle.std.proofs.Common.{◌≡◌, ◌∙◌, rules, sym, subst}
use Rattle.std.specs.Fmt.{signed_decimal}
use Rattle.qk_value.proofs.Digits.{integer_is}
use Rattle.qk_tree.specs.Doings.{TextDone}
use Rattle.qk_tree.proofs.shown.shown_integer.Goals as goal

pub returns : goal.returns
returns g c = λ names.
    let written : c.format.result.now ≡ signed_decimal c.args.n = search rules in
    subst (λ t. TextDone names t c.args.room.now c.shown_text.new.room c.args.out.now.items c.shown_text.new.out.items c.shown_text.result) (c.in_ok-text.ensures ∙ written ∙ sym (integer_is c.args.n c.ranges.n.sfits)) (c.shown_text.ensures names)
