use Rattle.std.proofs.Common.{◌≡◌, refl, rules, Err}
use Rattle.qk_meaning.specs.Html.{written, attribute_char}
use Rattle.qk_html.proofs.Walking.{begin, goes_on, ends_at}
use Rattle.qk_html.proofs.Listed.{next_byte}
use Rattle.qk_html.proofs.escaping.attribute_text.Goals as goal

pub loop-byte-init : goal.loop-byte-init
loop-byte-init c = begin c.args.out.now.items (written attribute_char c.args.bytes.now)

pub returns-in_err-attribute_byte : goal.returns-in_err-attribute_byte
returns-in_err-attribute_byte c =
    let is : c.from_residual.result ≡ Err c.in_err-attribute_byte.field-0.0 = search rules in
    ends_at _ _ (next_byte attribute_char c.args.bytes.now c.loop-byte.byte-index _ c.loop-byte-test.true refl) c.loop-byte.invariant is c.in_err-attribute_byte.ensures

pub loop-byte-preserved : goal.loop-byte-preserved
loop-byte-preserved c = goes_on _ _ (next_byte attribute_char c.args.bytes.now c.loop-byte.byte-index _ c.loop-byte-test.true refl) c.loop-byte.invariant c.in_ok-attribute_byte.ensures
