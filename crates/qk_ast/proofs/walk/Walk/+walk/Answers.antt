use Rattle.std.proofs.Common.{rules, ◌+◌, [], ◌∷◌, drop, flat_map, ap, ◌∙◌}
use Rattle.qk_ast.specs.Names.{patterns_names}
use Rattle.qk_ast.specs.Uses.{uses, body_uses, statement_uses}
use Rattle.qk_ast.specs.Walking.{with_name, with_names, names_declared, block_use, link_use, field_use, operand_use, behind}
use Rattle.qk_ast.proofs.Walks.{behind_scope, behind_next, behind_last, uses_of_list, uses_of_record, uses_of_template, uses_of_unary, behind_chain, behind_choice, behind_post, behind_assign, uses_of_step, uses_of_known, uses_of_arrow, uses_of_markup, use_of_call, behind_jsx, uses_of_value, uses_of_body, behind_if, behind_while, behind_for, uses_of_constant, uses_of_return, uses_of_block}
use Rattle.qk_ast.proofs.walk.Walk.+walk.Goals as goal

pub arrow-returns : goal.arrow-returns
arrow-returns t c = behind_scope c.args.self.now c.body.new.self c.len-outside.result c.add_parameters.new.self c.cut.new.self (patterns_names c.args.arrow.now.params) (body_uses c.args.arrow.now.body) c.len-outside.ensures (c.in_ok-add_parameters.ensures ∙ ap (λ ps. with_names c.args.self.now.bound (patterns_names ps)) c.as_slice.ensures)
    c.in_ok-body.ensures c.cut.ensures

pub block-returns : goal.block-returns
block-returns t c = behind_scope c.args.self.now c.statements.new.self c.len-outside.result c.add_declared.new.self c.cut.new.self (names_declared c.args.statements.now) (flat_map statement_uses c.args.statements.now) c.len-outside.ensures c.in_ok-add_declared.ensures c.in_ok-statements.ensures c.cut.ensures

pub block_with-returns : goal.block_with-returns
block_with-returns t c = behind_scope c.args.self.now c.block.new.self c.len-outside.result c.add.new.self c.cut.new.self (c.args.name.now ∷ []) (block_use c.args.statements.now) c.len-outside.ensures (c.in_ok-add.ensures.names ∙ ap (with_name c.args.self.now.bound) c.as_str.ensures)
    c.in_ok-block.ensures c.cut.ensures

pub body-returns-in-Value : goal.body-returns-in-Value
body-returns-in-Value t c = rw (ap body_uses c.in-Value.is ∙ uses_of_value c.in-Value.x) (search rules)

pub body-returns-in-Block : goal.body-returns-in-Block
body-returns-in-Block t c = rw (ap body_uses c.in-Block.is ∙ uses_of_body c.in-Block.statements) (search rules)

pub expression-returns-in-List : goal.expression-returns-in-List
expression-returns-in-List t c = rw (ap uses c.in-List.is ∙ uses_of_list c.in-List.items) (search rules)

pub expression-returns-in-Record : goal.expression-returns-in-Record
expression-returns-in-Record t c = rw (ap uses c.in-Record.is ∙ uses_of_record c.in-Record.fields) (search rules)

pub expression-returns-in-Template : goal.expression-returns-in-Template
expression-returns-in-Template t c = rw (ap uses c.in-Template.is ∙ uses_of_template c.in-Template.field-0 c.in-Template.holes) (search rules)

pub expression-returns-in-Unary : goal.expression-returns-in-Unary
expression-returns-in-Unary t c = rw (ap uses c.in-Unary.is ∙ uses_of_unary c.in-Unary.field-0 c.in-Unary.value) (search rules)

pub expression-returns-in_ok-expression-in-Chain : goal.expression-returns-in_ok-expression-in-Chain
expression-returns-in_ok-expression-in-Chain t c = rw (ap (λ x. behind (uses x) c.args.self.now) c.in-Chain.is ∙ behind_chain c.in-Chain.first c.in-Chain.later c.args.self.now) (search rules)

pub expression-returns-in_ok-expression-in-Cond-2 : goal.expression-returns-in_ok-expression-in-Cond-2
expression-returns-in_ok-expression-in-Cond-2 t c = rw (ap (λ x. behind (uses x) c.args.self.now) c.in-Cond.is ∙ behind_choice c.in-Cond.test c.in-Cond.yes c.in-Cond.no c.args.self.now) (search rules)

pub expression-returns-in_ok-expression-in-Post : goal.expression-returns-in_ok-expression-in-Post
expression-returns-in_ok-expression-in-Post t c = rw (ap (λ x. behind (uses x) c.args.self.now) c.in-Post.is ∙ behind_post c.in-Post.head c.in-Post.links c.args.self.now) (search rules)

pub expression-returns-in_ok-expression-in-Assign : goal.expression-returns-in_ok-expression-in-Assign
expression-returns-in_ok-expression-in-Assign t c = rw (ap (λ x. behind (uses x) c.args.self.now) c.in-Assign.is ∙ behind_assign c.in-Assign.field-0 c.in-Assign.target c.in-Assign.value c.args.self.now) (search rules)

pub expression-returns-in-Step : goal.expression-returns-in-Step
expression-returns-in-Step t c = rw (ap uses c.in-Step.is ∙ uses_of_step c.in-Step.field-0 c.in-Step.target) (search rules)

pub expression-returns-in-Known : goal.expression-returns-in-Known
expression-returns-in-Known t c = rw (ap uses c.in-Known.is ∙ uses_of_known c.in-Known.field-0 c.in-Known.values) (search rules)

pub expression-returns-in-Arrow : goal.expression-returns-in-Arrow
expression-returns-in-Arrow t c = rw (ap uses c.in-Arrow.is ∙ uses_of_arrow c.in-Arrow.arrow.place c.in-Arrow.arrow.params c.in-Arrow.arrow.body) (search rules)

pub expression-returns-in-Jsx : goal.expression-returns-in-Jsx
expression-returns-in-Jsx t c = rw (ap uses c.in-Jsx.is ∙ uses_of_markup c.in-Jsx.jsx) (search rules)

pub link-returns-in-Call : goal.link-returns-in-Call
link-returns-in-Call t c = rw (ap link_use c.in-Call.is ∙ use_of_call c.in-Call.values) (search rules)

pub markup-returns : goal.markup-returns
markup-returns t c = rw (behind_jsx c.args.jsx.now c.args.self.now) (search rules)

pub statement-returns-in_ok-block-in-If : goal.statement-returns-in_ok-block-in-If
statement-returns-in_ok-block-in-If t c = rw (ap (λ s. behind (statement_uses s) c.args.self.now) c.in-If.is ∙ behind_if c.in-If.test c.in-If.then c.in-If.otherwise c.args.self.now) (search rules)

pub statement-returns-in_ok-expression-in-While : goal.statement-returns-in_ok-expression-in-While
statement-returns-in_ok-expression-in-While t c = rw (ap (λ s. behind (statement_uses s) c.args.self.now) c.in-While.is ∙ behind_while c.in-While.test c.in-While.inside c.args.self.now) (search rules)

pub statement-returns-in_ok-expression-in-ForOf : goal.statement-returns-in_ok-expression-in-ForOf
statement-returns-in_ok-expression-in-ForOf t c = rw (ap (λ s. behind (statement_uses s) c.args.self.now) c.in-ForOf.is ∙ behind_for c.in-ForOf.name c.in-ForOf.x c.in-ForOf.inside c.args.self.now) (search rules)

pub statement-returns-in-Block : goal.statement-returns-in-Block
statement-returns-in-Block t c = rw (ap statement_uses c.in-Block.is ∙ uses_of_block c.in-Block.inside) (search rules)

pub expressions-loop-x-preserved : goal.expressions-loop-x-preserved
expressions-loop-x-preserved t c = ap (behind (flat_map uses (drop (c.loop-x.x-index + 1) c.args.xs.now))) c.in_ok-expression.ensures
    ∙ behind_next uses c.args.xs.now c.loop-x.x-index c.x-item.result c.loop-x.self c.loop-x-test.true c.x-item.is ∙ c.loop-x.invariant

pub fields-loop-field-preserved : goal.fields-loop-field-preserved
fields-loop-field-preserved t c = ap (behind (flat_map field_use (drop (c.loop-field.field-index + 1) c.args.fields.now))) c.in_ok-expression.ensures
    ∙ behind_next field_use c.args.fields.now c.loop-field.field-index c.field-item.result c.loop-field.self c.loop-field-test.true c.field-item.is ∙ c.loop-field.invariant

pub operands-loop-operand-preserved : goal.operands-loop-operand-preserved
operands-loop-operand-preserved t c = ap (behind (flat_map operand_use (drop (c.loop-operand.operand-index + 1) c.args.operands.now))) c.in_ok-expression.ensures
    ∙ behind_next operand_use c.args.operands.now c.loop-operand.operand-index c.operand-item.result c.loop-operand.self c.loop-operand-test.true c.operand-item.is ∙ c.loop-operand.invariant

pub links-loop-link-preserved : goal.links-loop-link-preserved
links-loop-link-preserved t c = ap (behind (flat_map link_use (drop (c.loop-link.link-index + 1) c.args.links.now))) c.in_ok-link.ensures
    ∙ behind_next link_use c.args.links.now c.loop-link.link-index c.link-item.result c.loop-link.self c.loop-link-test.true c.link-item.is ∙ c.loop-link.invariant

pub statements-loop-statement-preserved : goal.statements-loop-statement-preserved
statements-loop-statement-preserved t c = ap (behind (flat_map statement_uses (drop (c.loop-statement.statement-index + 1) c.args.statements.now))) c.in_ok-statement.ensures
    ∙ behind_next statement_uses c.args.statements.now c.loop-statement.statement-index c.statement-item.result c.loop-statement.self c.loop-statement-test.true c.statement-item.is ∙ c.loop-statement.invariant

pub expressions-returns : goal.expressions-returns
expressions-returns t c = behind_last uses c.args.xs.now c.loop-x.x-index c.args.self.now c.loop-x.self c.loop-x-test.false c.loop-x.invariant

pub fields-returns : goal.fields-returns
fields-returns t c = behind_last field_use c.args.fields.now c.loop-field.field-index c.args.self.now c.loop-field.self c.loop-field-test.false c.loop-field.invariant

pub operands-returns : goal.operands-returns
operands-returns t c = behind_last operand_use c.args.operands.now c.loop-operand.operand-index c.args.self.now c.loop-operand.self c.loop-operand-test.false c.loop-operand.invariant

pub links-returns : goal.links-returns
links-returns t c = behind_last link_use c.args.links.now c.loop-link.link-index c.args.self.now c.loop-link.self c.loop-link-test.false c.loop-link.invariant

pub statements-returns : goal.statements-returns
statements-returns t c = behind_last statement_uses c.args.statements.now c.loop-statement.statement-index c.args.self.now c.loop-statement.self c.loop-statement-test.false c.loop-statement.invariant

pub statement-returns-in-Return : goal.statement-returns-in-Return
statement-returns-in-Return t c = rw (ap statement_uses c.in-Return.is ∙ uses_of_return c.in-Return.value) (search rules)

pub statement-returns-in-Const : goal.statement-returns-in-Const
statement-returns-in-Const t c = rw (ap statement_uses c.in-Const.is ∙ uses_of_constant c.in-Const.pattern c.in-Const.x) (search rules)
