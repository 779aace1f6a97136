use Rattle.std.proofs.Common.{◌∙◌, sym}
use Rattle.qk_lex.proofs.TagSteps.{tag_name_steps, attribute_steps, tag_sign_steps, tag_empty}
use Rattle.qk_lex.proofs.step.tag_token.Goals as goal

pub returns-in_default-clause-value : goal.returns-in_default-clause-value
returns-in_default-clause-value c = λ around opens. tag_empty around opens _ c.in_default.ensures.value

pub returns-then-is_letter-clause-value : goal.returns-then-is_letter-clause-value
returns-then-is_letter-clause-value c = λ around opens.
    tag_name_steps around opens _ c.in-Some.c _ _ _ c.in-Some.ensures.value (sym c.is_letter.ensures ∙ c.if-is_letter.true) c.after_tag_name.ensures.value c.plain.ensures.value

pub returns-then-is_quote-clause-value : goal.returns-then-is_quote-clause-value
returns-then-is_quote-clause-value c = λ around opens.
    attribute_steps around opens _ c.in-Some.c _ _ c.in-Some.ensures.value (sym c.is_quote.ensures.value ∙ c.if-is_quote.true) c.attribute_text.ensures.value

pub returns-clause-value : goal.returns-clause-value
returns-clause-value c = λ around opens.
    tag_sign_steps around opens _ c.in-Some.c _ _ c.in-Some.ensures.value (sym c.is_letter.ensures ∙ c.if-is_letter.false) (sym c.is_quote.ensures.value ∙ c.if-is_quote.false)
    (c.tag_sign.ensures.value c.in-Some.c c.in-Some.ensures.value)
