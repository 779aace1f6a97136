use Rattle.std.proofs.Common.{◌∙◌, ap, length, rules}
use Rattle.std.specs.Str.{chars, IsUtf8}
use Rattle.qk_token.specs.Pieces.{by_digits, shown}
use Rattle.qk_token.proofs.Hex.{braced_there, characters_few}
use Rattle.qk_token.proofs.escapes.numbered.Goals as goal

pub returns-in-Some-clause-value : goal.returns-in-Some-clause-value
returns-in-Some-clause-value c =
    let utf8 : IsUtf8 c.in-Some.digits.now = search rules in
    braced_there _ (length c.in-Some.digits.now) (chars c.hex_character-c.result.1.now) (chars c.in-Some.digits.now) _ (characters_few c.in-Some.digits.now utf8)
    c.hex_character-c.ensures.value c.hex_character-c.ensures.rest c.without_first.ensures.value
    ∙ ap (λ o. shown (by_digits (chars c.args.text.now) o)) c.in-Some.ensures.value
