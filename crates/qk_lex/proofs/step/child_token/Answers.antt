use Rattle.std.proofs.Common.{◌∙◌, sym}
use Rattle.qk_lex.proofs.TagSteps.{text_steps, child_sign_steps, child_empty}
use Rattle.qk_lex.proofs.step.child_token.Goals as goal

pub returns-in_default-clause-value : goal.returns-in_default-clause-value
returns-in_default-clause-value c = λ around opens. child_empty around opens _ c.in_default.ensures.value

pub returns-then-has-clause-value : goal.returns-then-has-clause-value
returns-then-has-clause-value c = λ around opens.
    text_steps around opens _ c.in-Some.c _ _ _ c.in-Some.ensures.value (sym c.has.ensures ∙ c.if-has.true) c.after_run.ensures.value c.plain.ensures.value

pub returns-clause-value : goal.returns-clause-value
returns-clause-value c = λ around opens.
    child_sign_steps around opens _ c.in-Some.c _ _ c.in-Some.ensures.value (sym c.has.ensures ∙ c.if-has.false) (c.child_sign.ensures.value c.in-Some.ensures.value)
