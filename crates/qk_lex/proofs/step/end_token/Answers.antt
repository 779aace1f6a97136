use Rattle.std.proofs.Common.{◌∙◌, sym}
use Rattle.qk_lex.proofs.TagSteps.{end_name_steps, end_sign_steps, end_stops, end_empty}
use Rattle.qk_lex.proofs.step.end_token.Goals as goal

pub returns-in_default-clause-value : goal.returns-in_default-clause-value
returns-in_default-clause-value c = λ around opens. end_empty around opens _ c.in_default.ensures.value

pub returns-then-is_letter-clause-value : goal.returns-then-is_letter-clause-value
returns-then-is_letter-clause-value c = λ around opens.
    end_name_steps around opens _ c.in-Some.c _ _ _ c.in-Some.ensures.value (sym c.is_letter.ensures ∙ c.if-is_letter.true) c.after_tag_name.ensures.value c.plain.ensures.value

pub returns-then-c-eq62-clause-value : goal.returns-then-c-eq62-clause-value
returns-then-c-eq62-clause-value c = λ around opens. end_sign_steps around opens _ c.in-Some.c _ c.in-Some.ensures.value c.if-c-eq62.true

pub returns-clause-value : goal.returns-clause-value
returns-clause-value c = λ around opens. end_stops around opens _ c.in-Some.c _ c.in-Some.ensures.value (sym c.is_letter.ensures ∙ c.if-is_letter.false) c.if-c-eq62.false
