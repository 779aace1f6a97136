use Rattle.std.proofs.Common.{◌≡◌, ◌∙◌, ◌++◌, sym, ap}
use Rattle.std.specs.Char.{encode_utf8}
use Rattle.std.proofs.lemmas.Str.{chars_past_char}
use Rattle.qk_lex.proofs.scan.split_first_decoded.Goals as goal

pub returns-in-Some-clause-value : goal.returns-in-Some-clause-value
returns-in-Some-clause-value c =
    let here : c.args.text.now ≡ encode_utf8 c.in-Some.c ++ c.as_str.result.now =
    sym c.chars-characters.ensures.rest ∙ (c.in-Some.ensures.steps.0 ∙ ap (λ r. encode_utf8 c.in-Some.c ++ r) (sym c.as_str.ensures)) in
    chars_past_char c.args.text.now c.as_str.result.now c.in-Some.c c.utf8.text here
