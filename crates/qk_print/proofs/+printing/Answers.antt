use Rattle.std.proofs.Common.{rules, arith, not, map, codes, ap, ◌∙◌}
use Rattle.std.proofs.lemmas.Grind.{common_steps}
use Rattle.qk_print.specs.Letters.{commas, unless_bare}
use Rattle.qk_print.specs.Shapes.{is_markup}
use Rattle.qk_print.specs.Printing.{expression_text, statement_text, link_text, body_text, attribute_text, child_text, element_text}
use Rattle.qk_print.specs.Lists.{printed_of, keyed_of}
use Rattle.qk_ast.specs.declared.Jsx.{out-Jsx}
use Rattle.qk_print.proofs.Equations.{text_of_list, text_of_record, text_of_template, text_of_unary, text_of_chain, text_of_choice, text_of_post, text_of_assign, text_of_step, text_of_known, text_of_arrow, text_of_markup, text_of_call, text_of_jsx, texts_are, text_of_value, text_of_body, text_of_if, text_of_while, text_of_for, text_of_block}
use Rattle.qk_print.proofs.Fronts.{begins_with, begins_after, begins_at_last, on_any_err, after_two}
use Rattle.qk_print.proofs.+printing.Goals as goal

pub elements::element-returns-in_ok-attributes-in-Some-clause-ok : goal.elements::element-returns-in_ok-attributes-in-Some-clause-ok
elements::element-returns-in_ok-attributes-in-Some-clause-ok t c = rw (text_of_jsx c.args.jsx.now ∙ c.in-Some.ensures.some _ _) (grind (arith, common_steps))

pub elements::element-returns-in_ok-children-in-None-clause-ok : goal.elements::element-returns-in_ok-children-in-None-clause-ok
elements::element-returns-in_ok-children-in-None-clause-ok t c = rw (text_of_jsx c.args.jsx.now ∙ ap (λ tag. element_text tag (map attribute_text (map keyed_of (out-Jsx c.args.jsx.now).attrs)) (map child_text (map printed_of (out-Jsx c.args.jsx.now).children))) c.in-None.ensures.none)
    (grind (arith, common_steps))

pub expressions::body-returns-in-Value-clause-ok : goal.expressions::body-returns-in-Value-clause-ok
expressions::body-returns-in-Value-clause-ok t c = rw (ap body_text c.in-Value.is ∙ text_of_value c.in-Value.x) (grind (arith, common_steps))

pub expressions::body-returns-in-Block-clause-ok : goal.expressions::body-returns-in-Block-clause-ok
expressions::body-returns-in-Block-clause-ok t c = rw (ap body_text c.in-Block.is ∙ text_of_body c.in-Block.statements) (search rules)

pub expressions::expression-returns-in_ok-expressions-in-List-clause-ok : goal.expressions::expression-returns-in_ok-expressions-in-List-clause-ok
expressions::expression-returns-in_ok-expressions-in-List-clause-ok t c = rw (ap expression_text c.in-List.is ∙ text_of_list c.in-List.items) (grind (arith, common_steps))

pub expressions::expression-returns-in-Record-clause-ok : goal.expressions::expression-returns-in-Record-clause-ok
expressions::expression-returns-in-Record-clause-ok t c = rw (ap expression_text c.in-Record.is ∙ text_of_record c.in-Record.items) (search rules)

pub expressions::expression-returns-in_ok-template-in-Template-clause-ok : goal.expressions::expression-returns-in_ok-template-in-Template-clause-ok
expressions::expression-returns-in_ok-template-in-Template-clause-ok t c = rw (ap expression_text c.in-Template.is ∙ text_of_template c.in-Template.parts c.in-Template.holes) (grind (arith, common_steps))

pub expressions::expression-returns-in_ok-put-in-Unary-clause-ok : goal.expressions::expression-returns-in_ok-put-in-Unary-clause-ok
expressions::expression-returns-in_ok-put-in-Unary-clause-ok t c = rw (ap expression_text c.in-Unary.is ∙ text_of_unary c.in-Unary.op c.in-Unary.value) (grind (arith, common_steps))

pub expressions::expression-returns-in_ok-operand-in-Chain-clause-ok : goal.expressions::expression-returns-in_ok-operand-in-Chain-clause-ok
expressions::expression-returns-in_ok-operand-in-Chain-clause-ok t c = rw (ap expression_text c.in-Chain.is ∙ text_of_chain c.in-Chain.first c.in-Chain.later) (grind (arith, common_steps))

pub expressions::expression-returns-in_ok-put-in-Cond-2-clause-ok : goal.expressions::expression-returns-in_ok-put-in-Cond-2-clause-ok
expressions::expression-returns-in_ok-put-in-Cond-2-clause-ok t c = rw (ap expression_text c.in-Cond.is ∙ text_of_choice c.in-Cond.test c.in-Cond.yes c.in-Cond.no) (grind (arith, common_steps))

pub expressions::expression-returns-in_ok-unless_bare-in-Post-clause-ok : goal.expressions::expression-returns-in_ok-unless_bare-in-Post-clause-ok
expressions::expression-returns-in_ok-unless_bare-in-Post-clause-ok t c = rw (ap expression_text c.in-Post.is ∙ text_of_post c.in-Post.head c.in-Post.later) (grind (arith, common_steps))

pub expressions::expression-returns-in_ok-put-in-Assign-clause-ok : goal.expressions::expression-returns-in_ok-put-in-Assign-clause-ok
expressions::expression-returns-in_ok-put-in-Assign-clause-ok t c = rw (ap expression_text c.in-Assign.is ∙ text_of_assign c.in-Assign.op c.in-Assign.target c.in-Assign.value) (grind (arith, common_steps))

pub expressions::expression-returns-in_ok-expression-in-Step-clause-ok : goal.expressions::expression-returns-in_ok-expression-in-Step-clause-ok
expressions::expression-returns-in_ok-expression-in-Step-clause-ok t c = rw (ap expression_text c.in-Step.is ∙ text_of_step c.in-Step.up c.in-Step.target) (grind (arith, common_steps))

pub expressions::expression-returns-in_ok-known_arguments-in-Known-clause-ok : goal.expressions::expression-returns-in_ok-known_arguments-in-Known-clause-ok
expressions::expression-returns-in_ok-known_arguments-in-Known-clause-ok t c = rw (ap expression_text c.in-Known.is ∙ text_of_known c.in-Known.known c.in-Known.values) (grind (arith, common_steps))

pub expressions::expression-returns-in-Arrow-clause-ok : goal.expressions::expression-returns-in-Arrow-clause-ok
expressions::expression-returns-in-Arrow-clause-ok t c = rw (ap expression_text c.in-Arrow.is ∙ text_of_arrow c.in-Arrow.arrow.place c.in-Arrow.arrow.params c.in-Arrow.arrow.body) (grind (arith, common_steps))

pub expressions::expression-returns-in-Jsx-clause-ok : goal.expressions::expression-returns-in-Jsx-clause-ok
expressions::expression-returns-in-Jsx-clause-ok t c = rw (ap expression_text c.in-Jsx.is ∙ text_of_markup c.in-Jsx.jsx) (grind (arith, common_steps))

pub expressions::known_arguments-returns-in-Log-clause-ok : goal.expressions::known_arguments-returns-in-Log-clause-ok
expressions::known_arguments-returns-in-Log-clause-ok t c = rw (c.in-Log.is, ap commas (texts_are c.args.xs.now)) (grind (arith, common_steps))

pub expressions::known_arguments-returns-in-Keys-clause-ok : goal.expressions::known_arguments-returns-in-Keys-clause-ok
expressions::known_arguments-returns-in-Keys-clause-ok t c = rw (c.in-Keys.is, ap commas (texts_are c.args.xs.now)) (grind (arith, common_steps))

pub expressions::known_arguments-returns-in-Str-clause-ok : goal.expressions::known_arguments-returns-in-Str-clause-ok
expressions::known_arguments-returns-in-Str-clause-ok t c = rw (c.in-Str.is, ap commas (texts_are c.args.xs.now)) (grind (arith, common_steps))

pub expressions::link-returns-in_ok-expressions-in-Call-clause-ok : goal.expressions::link-returns-in_ok-expressions-in-Call-clause-ok
expressions::link-returns-in_ok-expressions-in-Call-clause-ok t c = rw (ap link_text c.in-Call.is ∙ text_of_call c.in-Call.values) (grind (arith, common_steps))

pub statements::statement-returns-in_ok-block-in-If-clause-ok : goal.statements::statement-returns-in_ok-block-in-If-clause-ok
statements::statement-returns-in_ok-block-in-If-clause-ok t c = rw (ap statement_text c.in-If.is ∙ text_of_if c.in-If.test c.in-If.then c.in-If.otherwise) (grind (arith, common_steps))

pub statements::statement-returns-in_ok-block-in-If-clause-front : goal.statements::statement-returns-in_ok-block-in-If-clause-front
statements::statement-returns-in_ok-block-in-If-clause-front t c =
    begins_at_last _ _ (begins_after (begins_after (begins_after (begins_with _ c.in_ok-put-in-If.ensures.ok) (begins_with _ c.in_ok-expression-in-If.ensures.ok))
    (begins_with _ c.in_ok-put-in-If-2.ensures.ok)) (begins_with _ c.in_ok-block-in-If.ensures.ok)) c.else_block.ensures.front

pub statements::statement-returns-in_ok-put-in-While-2-clause-ok : goal.statements::statement-returns-in_ok-put-in-While-2-clause-ok
statements::statement-returns-in_ok-put-in-While-2-clause-ok t c = rw (ap statement_text c.in-While.is ∙ text_of_while c.in-While.test c.in-While.inside) (grind (arith, common_steps))

pub statements::statement-returns-in_ok-over-in-ForOf-clause-ok : goal.statements::statement-returns-in_ok-over-in-ForOf-clause-ok
statements::statement-returns-in_ok-over-in-ForOf-clause-ok t c =
    let x = c.in-ForOf.x in
    let whole = ap statement_text c.in-ForOf.is ∙ text_of_for c.in-ForOf.name x c.in-ForOf.inside in
    rw whole (rw (← c.as_slice-in-ForOf.ensures) (after_two _ _ _ _ _ (codes "for (const ") c.in-ForOf.name (codes " of ") (unless_bare (not (is_markup x)) (expression_text x)) (codes ") ") _
    c.in_ok-for_each-in-ForOf.ensures.ok c.in_ok-over-in-ForOf.ensures.ok c.block-in-ForOf.ensures.ok))

pub statements::statement-returns-in-Block-clause-ok : goal.statements::statement-returns-in-Block-clause-ok
statements::statement-returns-in-Block-clause-ok t c = rw (ap statement_text c.in-Block.is ∙ text_of_block c.in-Block.inside) (grind (arith, common_steps))

pub elements::attributes-returns-in_err-attribute-clause-front : goal.elements::attributes-returns-in_err-attribute-clause-front
elements::attributes-returns-in_err-attribute-clause-front t c = on_any_err _ (begins_after c.loop-one.invariant.front c.in_err-attribute.ensures.front)

pub elements::children-returns-in_err-child-clause-front : goal.elements::children-returns-in_err-child-clause-front
elements::children-returns-in_err-child-clause-front t c = on_any_err _ (begins_after c.loop-one.invariant.front c.in_err-child.ensures.front)

pub expressions::links-returns-in_err-link-clause-front : goal.expressions::links-returns-in_err-link-clause-front
expressions::links-returns-in_err-link-clause-front t c = on_any_err _ (begins_after c.loop-one.invariant.front c.in_err-link.ensures.front)

pub expressions::expressions-returns-in_err-put-clause-front : goal.expressions::expressions-returns-in_err-put-clause-front
expressions::expressions-returns-in_err-put-clause-front t c = on_any_err _ (begins_after c.loop-x.invariant.front c.in_err-put.ensures.front)

pub expressions::expressions-returns-in_err-expression-2-clause-front : goal.expressions::expressions-returns-in_err-expression-2-clause-front
expressions::expressions-returns-in_err-expression-2-clause-front t c = on_any_err _ (begins_after (begins_after c.loop-x.invariant.front (begins_with _ c.in_ok-put.ensures.ok)) c.in_err-expression-2.ensures.front)

pub expressions::quotient-returns-in_err-put-clause-front : goal.expressions::quotient-returns-in_err-put-clause-front
expressions::quotient-returns-in_err-put-clause-front t c = on_any_err _ (begins_after c.loop-x.invariant.front c.in_err-put.ensures.front)

pub expressions::quotient-returns-in_err-operand-2-clause-front : goal.expressions::quotient-returns-in_err-operand-2-clause-front
expressions::quotient-returns-in_err-operand-2-clause-front t c = on_any_err _ (begins_after (begins_after c.loop-x.invariant.front (begins_with _ c.in_ok-put.ensures.ok)) c.in_err-operand-2.ensures.front)

pub expressions::fields-returns-in_err-put-2-clause-front : goal.expressions::fields-returns-in_err-put-2-clause-front
expressions::fields-returns-in_err-put-2-clause-front t c = on_any_err _ (begins_after c.loop-one.invariant.front c.in_err-put-2.ensures.front)

pub expressions::fields-returns-in_err-field-2-clause-front : goal.expressions::fields-returns-in_err-field-2-clause-front
expressions::fields-returns-in_err-field-2-clause-front t c = on_any_err _ (begins_after (begins_after c.loop-one.invariant.front (begins_with _ c.in_ok-put-2.ensures.ok)) c.in_err-field-2.ensures.front)

pub expressions::operands-returns-in_err-put-clause-front : goal.expressions::operands-returns-in_err-put-clause-front
expressions::operands-returns-in_err-put-clause-front t c = on_any_err _ (begins_after c.loop-at.invariant.front c.in_err-put.ensures.front)

pub expressions::operands-returns-in_err-operand-clause-front : goal.expressions::operands-returns-in_err-operand-clause-front
expressions::operands-returns-in_err-operand-clause-front t c = on_any_err _ (begins_after (begins_after c.loop-at.invariant.front (begins_with _ c.in_ok-put.ensures.ok)) c.in_err-operand.ensures.front)

pub expressions::template-returns-in_err-left-clause-front : goal.expressions::template-returns-in_err-left-clause-front
expressions::template-returns-in_err-left-clause-front t c = on_any_err _ (begins_after c.loop-x.invariant.front c.in_err-left.ensures.front)

pub expressions::template-returns-in_err-hole-clause-front : goal.expressions::template-returns-in_err-hole-clause-front
expressions::template-returns-in_err-hole-clause-front t c = on_any_err _ (begins_after (begins_after c.loop-x.invariant.front (begins_with _ c.in_ok-left.ensures.ok.1)) c.in_err-hole.ensures.front)

pub statements::block-returns-in_err-statement-clause-front : goal.statements::block-returns-in_err-statement-clause-front
statements::block-returns-in_err-statement-clause-front t c = on_any_err _ (begins_after c.loop-one.invariant.front c.in_err-statement.ensures.front)

pub statements::block-returns-in_err-put-2-clause-front : goal.statements::block-returns-in_err-put-2-clause-front
statements::block-returns-in_err-put-2-clause-front t c = on_any_err _ (begins_after (begins_after c.loop-one.invariant.front (begins_with _ c.in_ok-statement.ensures.ok)) c.in_err-put-2.ensures.front)

pub expressions::fields-returns-clause-front : goal.expressions::fields-returns-clause-front
expressions::fields-returns-clause-front t c = begins_at_last _ _ c.loop-one.invariant.front c.put-3.ensures.front
