use Rattle.std.proofs.Common.{◌∙◌, sym}
use Rattle.qk_lex.proofs.CodeSteps.{word_steps, int_steps, quoted_steps, template_steps, hole_steps, begin_steps, only_signs, code_sign_steps, code_empty}
use Rattle.qk_lex.proofs.step.code_token.Goals as goal

pub returns-in_default-clause-value : goal.returns-in_default-clause-value
returns-in_default-clause-value c = code_empty c.args.in_hole c.args.before_jsx _ c.in_default.ensures.value

pub returns-then-begins_name-clause-value : goal.returns-then-begins_name-clause-value
returns-then-begins_name-clause-value c =
    word_steps c.args.in_hole c.args.before_jsx _ c.in-Some.c _ _ c.in-Some.ensures.value (sym c.begins_name.ensures ∙ c.if-begins_name.true) (c.word.ensures.value c.in-Some.c c.in-Some.ensures.value)

pub returns-then-is_digit-clause-value : goal.returns-then-is_digit-clause-value
returns-then-is_digit-clause-value c = int_steps c.args.in_hole c.args.before_jsx _ c.in-Some.c _ _ c.in-Some.ensures.value (sym c.is_digit.ensures ∙ c.if-is_digit.true) c.int.ensures.value

pub returns-then-is_quote-clause-value : goal.returns-then-is_quote-clause-value
returns-then-is_quote-clause-value c =
    quoted_steps c.args.in_hole c.args.before_jsx _ c.in-Some.c _ _ c.in-Some.ensures.value (sym c.is_quote.ensures.value ∙ c.if-is_quote.true) c.quoted.ensures.value

pub returns-then-c-eq96-clause-value : goal.returns-then-c-eq96-clause-value
returns-then-c-eq96-clause-value c = template_steps c.args.in_hole c.args.before_jsx _ c.in-Some.c _ _ c.in-Some.ensures.value c.if-c-eq96.true c.template.ensures.value

pub returns-then-goes_on-clause-value : goal.returns-then-goes_on-clause-value
returns-then-goes_on-clause-value c =
    hole_steps c.args.in_hole c.args.before_jsx _ c.in-Some.c _ _ c.in-Some.ensures.value (sym c.goes_on.ensures ∙ c.if-goes_on.true) c.template-then-goes_on.ensures.value

pub returns-then-begins_jsx-clause-value : goal.returns-then-begins_jsx-clause-value
returns-then-begins_jsx-clause-value c =
    begin_steps c.args.in_hole c.args.before_jsx _ c.in-Some.c _ _ c.in-Some.ensures.value (sym c.begins_jsx.ensures ∙ c.if-begins_jsx.true) c.begin.ensures.value

pub returns-clause-value : goal.returns-clause-value
returns-clause-value c =
    code_sign_steps c.args.in_hole c.args.before_jsx _ _ (only_signs c.args.in_hole c.args.before_jsx _ c.in-Some.c _ c.in-Some.ensures.value (sym c.begins_name.ensures ∙ c.if-begins_name.false)
    (sym c.is_digit.ensures ∙ c.if-is_digit.false) (sym c.is_quote.ensures.value ∙ c.if-is_quote.false) c.if-c-eq96.false (sym c.goes_on.ensures ∙ c.if-goes_on.false)
    (sym c.begins_jsx.ensures ∙ c.if-begins_jsx.false)) (c.code_sign.ensures.value c.in-Some.c c.in-Some.ensures.value)
