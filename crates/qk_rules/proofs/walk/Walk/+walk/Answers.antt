use Rattle.std.proofs.Common.{rules, ◌+◌, [], ◌∷◌, ◌++◌, ◌&&◌, false, drop, flat_map, ap, sym, refl, ◌∙◌, None}
use Rattle.std.specs.Option.{option_copied}
use Rattle.qk_ast.specs.declared.Jsx.{out-Jsx}
use Rattle.qk_ast.specs.Mentions.{name_in}
use Rattle.qk_ast.specs.Spots.{Anywhere, argument_of, lets_hooks_follow}
use Rattle.qk_locals.specs.Meanings.{mark_of}
use Rattle.qk_rules.specs.Standings.{standing_of, called_of, called_by}
use Rattle.qk_rules.specs.Parts.{of_expression, of_field, of_operand, of_arguments, of_link, of_links, of_head, of_tag, is_any, of_attributes, attribute_breaches, of_markup, of_body, of_arrow, of_statement, of_statements, of_block}
use Rattle.qk_rules.specs.Walking.{place}
use Rattle.qk_rules.proofs.Forms.{of_undefined, of_null, of_bool, of_int, of_text, of_named, of_list, of_record, of_template, of_unary, of_chain, of_choice, of_post, of_assign, of_step, of_known, of_function, of_element, of_property, of_index, of_call, of_jsx, of_value, of_whole_block, of_constant, of_let, of_do, of_delete, of_return, of_if, of_while, of_for, of_inner_block, of_break, of_continue}
use Rattle.qk_rules.proofs.Answering.{by_form, by_result, wants, clear, stops, goes_on, stops_at, past_item, at_end, as_before}
use Rattle.qk_rules.proofs.Entering.{attribute_first, among, arrow_entered, block_entered, for_entered}
use Rattle.qk_rules.proofs.walk.Walk.+walk.Goals as goal

pub expression-returns-in-Undefined-clause-answers : goal.expression-returns-in-Undefined-clause-answers
expression-returns-in-Undefined-clause-answers t c = clear (ap (of_expression (place c.args.self.now) (standing_of c.args.standing)) c.in-Undefined.is ∙ of_undefined (place c.args.self.now) (standing_of c.args.standing))

pub expression-returns-in-Null-clause-answers : goal.expression-returns-in-Null-clause-answers
expression-returns-in-Null-clause-answers t c = clear (ap (of_expression (place c.args.self.now) (standing_of c.args.standing)) c.in-Null.is ∙ of_null (place c.args.self.now) (standing_of c.args.standing))

pub expression-returns-in-Bool-clause-answers : goal.expression-returns-in-Bool-clause-answers
expression-returns-in-Bool-clause-answers t c = clear (ap (of_expression (place c.args.self.now) (standing_of c.args.standing)) c.in-Bool.is ∙ of_bool (place c.args.self.now) (standing_of c.args.standing) c.in-Bool.field-0)

pub expression-returns-in-Int-clause-answers : goal.expression-returns-in-Int-clause-answers
expression-returns-in-Int-clause-answers t c = clear (ap (of_expression (place c.args.self.now) (standing_of c.args.standing)) c.in-Int.is ∙ of_int (place c.args.self.now) (standing_of c.args.standing) c.in-Int.field-0)

pub expression-returns-in-Text-clause-answers : goal.expression-returns-in-Text-clause-answers
expression-returns-in-Text-clause-answers t c = clear (ap (of_expression (place c.args.self.now) (standing_of c.args.standing)) c.in-Text.is ∙ of_text (place c.args.self.now) (standing_of c.args.standing) c.in-Text.field-0)

pub expression-returns-in-Name-clause-answers : goal.expression-returns-in-Name-clause-answers
expression-returns-in-Name-clause-answers t c = by_form (ap (of_expression (place c.args.self.now) (standing_of c.args.standing)) c.in-Name.is ∙ of_named (place c.args.self.now) (standing_of c.args.standing) c.in-Name.name) c.name.ensures

pub expression-returns-in-List-clause-answers : goal.expression-returns-in-List-clause-answers
expression-returns-in-List-clause-answers t c = by_form (ap (of_expression (place c.args.self.now) (standing_of c.args.standing)) c.in-List.is ∙ of_list (place c.args.self.now) (standing_of c.args.standing) c.in-List.items ∙ ap (flat_map (of_expression (place c.args.self.now) Anywhere)) (sym c.as_slice.ensures)) c.expressions.ensures.answers

pub expression-returns-in-Record-clause-answers : goal.expression-returns-in-Record-clause-answers
expression-returns-in-Record-clause-answers t c = by_form (ap (of_expression (place c.args.self.now) (standing_of c.args.standing)) c.in-Record.is ∙ of_record (place c.args.self.now) (standing_of c.args.standing) c.in-Record.fields ∙ ap (flat_map (of_field (place c.args.self.now))) (sym c.as_slice-in-Record.ensures)) c.fields.ensures.answers

pub expression-returns-in-Template-clause-answers : goal.expression-returns-in-Template-clause-answers
expression-returns-in-Template-clause-answers t c = by_form (ap (of_expression (place c.args.self.now) (standing_of c.args.standing)) c.in-Template.is ∙ of_template (place c.args.self.now) (standing_of c.args.standing) c.in-Template.field-0 c.in-Template.holes ∙ ap (flat_map (of_expression (place c.args.self.now) Anywhere)) (sym c.as_slice-in-Template.ensures)) c.expressions-in-Template.ensures.answers

pub expression-returns-in-Unary-clause-answers : goal.expression-returns-in-Unary-clause-answers
expression-returns-in-Unary-clause-answers t c = by_form (ap (of_expression (place c.args.self.now) (standing_of c.args.standing)) c.in-Unary.is ∙ of_unary (place c.args.self.now) (standing_of c.args.standing) c.in-Unary.field-0 c.in-Unary.value ∙ ap (of_expression (place c.args.self.now) Anywhere) (sym c.get.ensures)) c.expression.ensures.answers

pub expression-returns-in-Step-clause-answers : goal.expression-returns-in-Step-clause-answers
expression-returns-in-Step-clause-answers t c = by_form (ap (of_expression (place c.args.self.now) (standing_of c.args.standing)) c.in-Step.is ∙ of_step (place c.args.self.now) (standing_of c.args.standing) c.in-Step.field-0 c.in-Step.target ∙ ap (of_expression (place c.args.self.now) Anywhere) (sym c.get-in-Step.ensures)) c.expression-in-Step.ensures.answers

pub expression-returns-in-Known-clause-answers : goal.expression-returns-in-Known-clause-answers
expression-returns-in-Known-clause-answers t c = by_form (ap (of_expression (place c.args.self.now) (standing_of c.args.standing)) c.in-Known.is ∙ of_known (place c.args.self.now) (standing_of c.args.standing) c.in-Known.field-0 c.in-Known.values ∙ ap (flat_map (of_expression (place c.args.self.now) Anywhere)) (sym c.as_slice-in-Known.ensures)) c.expressions-in-Known.ensures.answers

pub expression-returns-in-Arrow-clause-answers : goal.expression-returns-in-Arrow-clause-answers
expression-returns-in-Arrow-clause-answers t c = by_form (ap (of_expression (place c.args.self.now) (standing_of c.args.standing)) c.in-Arrow.is ∙ of_function (place c.args.self.now) (standing_of c.args.standing) c.in-Arrow.arrow.place c.in-Arrow.arrow.params c.in-Arrow.arrow.body ∙ ap (λ a. of_arrow (place c.args.self.now) (standing_of c.args.standing) a.params a.body) (sym c.get-in-Arrow.ensures)) c.arrow.ensures.answers

pub expression-returns-in-Jsx-clause-answers : goal.expression-returns-in-Jsx-clause-answers
expression-returns-in-Jsx-clause-answers t c = by_form (ap (of_expression (place c.args.self.now) (standing_of c.args.standing)) c.in-Jsx.is ∙ of_element (place c.args.self.now) (standing_of c.args.standing) c.in-Jsx.jsx ∙ ap (of_markup (place c.args.self.now)) (sym c.get-in-Jsx.ensures)) c.markup.ensures.answers

pub expression-returns-in_err-expression-in-Chain-clause-answers : goal.expression-returns-in_err-expression-in-Chain-clause-answers
expression-returns-in_err-expression-in-Chain-clause-answers t c = stops (flat_map (of_operand (place c.args.self.now)) c.in-Chain.later) (ap (of_expression (place c.args.self.now) (standing_of c.args.standing)) c.in-Chain.is ∙ of_chain (place c.args.self.now) (standing_of c.args.standing) c.in-Chain.first c.in-Chain.later ∙ ap (λ x. of_expression (place c.args.self.now) Anywhere x ++ flat_map (of_operand (place c.args.self.now)) c.in-Chain.later) (sym c.get-in-Chain.ensures)) c.in_err-expression-in-Chain.ensures.answers (search rules)

pub expression-returns-in_ok-expression-in-Chain-clause-answers : goal.expression-returns-in_ok-expression-in-Chain-clause-answers
expression-returns-in_ok-expression-in-Chain-clause-answers t c = goes_on (ap (of_expression (place c.args.self.now) (standing_of c.args.standing)) c.in-Chain.is ∙ of_chain (place c.args.self.now) (standing_of c.args.standing) c.in-Chain.first c.in-Chain.later ∙ ap (λ x. of_expression (place c.args.self.now) Anywhere x ++ flat_map (of_operand (place c.args.self.now)) c.in-Chain.later) (sym c.get-in-Chain.ensures) ∙ ap (λ os. of_expression (place c.args.self.now) Anywhere c.get-in-Chain.result.now ++ flat_map (of_operand (place c.args.self.now)) os) (sym c.as_slice-in-Chain.ensures)) c.in_ok-expression-in-Chain.ensures.answers (as_before (λ w. flat_map (of_operand (place w)) c.as_slice-in-Chain.result.now) c.in_ok-expression-in-Chain.ensures.kept c.operands.ensures.answers)

pub expression-returns-in_err-expression-in-Cond-clause-answers : goal.expression-returns-in_err-expression-in-Cond-clause-answers
expression-returns-in_err-expression-in-Cond-clause-answers t c = stops (of_expression (place c.args.self.now) Anywhere c.in-Cond.yes ++ of_expression (place c.args.self.now) Anywhere c.in-Cond.no) (ap (of_expression (place c.args.self.now) (standing_of c.args.standing)) c.in-Cond.is ∙ of_choice (place c.args.self.now) (standing_of c.args.standing) c.in-Cond.test c.in-Cond.yes c.in-Cond.no ∙ ap (λ x. of_expression (place c.args.self.now) Anywhere x ++ (of_expression (place c.args.self.now) Anywhere c.in-Cond.yes ++ of_expression (place c.args.self.now) Anywhere c.in-Cond.no)) (sym c.get-in-Cond.ensures)) c.in_err-expression-in-Cond.ensures.answers (search rules)

pub expression-returns-in_err-expression-in-Cond-2-clause-answers : goal.expression-returns-in_err-expression-in-Cond-2-clause-answers
expression-returns-in_err-expression-in-Cond-2-clause-answers t c = goes_on (ap (of_expression (place c.args.self.now) (standing_of c.args.standing)) c.in-Cond.is ∙ of_choice (place c.args.self.now) (standing_of c.args.standing) c.in-Cond.test c.in-Cond.yes c.in-Cond.no ∙ ap (λ x. of_expression (place c.args.self.now) Anywhere x ++ (of_expression (place c.args.self.now) Anywhere c.in-Cond.yes ++ of_expression (place c.args.self.now) Anywhere c.in-Cond.no)) (sym c.get-in-Cond.ensures)) c.in_ok-expression-in-Cond.ensures.answers (stops (of_expression (place c.args.self.now) Anywhere c.in-Cond.no) (ap (λ x. of_expression (place c.args.self.now) Anywhere x ++ of_expression (place c.args.self.now) Anywhere c.in-Cond.no) (sym c.get-in-Cond-2.ensures)) (as_before (λ w. of_expression (place w) Anywhere c.get-in-Cond-2.result.now) c.in_ok-expression-in-Cond.ensures.kept c.in_err-expression-in-Cond-2.ensures.answers) (search rules))

pub expression-returns-in_ok-expression-in-Cond-2-clause-answers : goal.expression-returns-in_ok-expression-in-Cond-2-clause-answers
expression-returns-in_ok-expression-in-Cond-2-clause-answers t c = goes_on (ap (of_expression (place c.args.self.now) (standing_of c.args.standing)) c.in-Cond.is ∙ of_choice (place c.args.self.now) (standing_of c.args.standing) c.in-Cond.test c.in-Cond.yes c.in-Cond.no ∙ ap (λ x. of_expression (place c.args.self.now) Anywhere x ++ (of_expression (place c.args.self.now) Anywhere c.in-Cond.yes ++ of_expression (place c.args.self.now) Anywhere c.in-Cond.no)) (sym c.get-in-Cond.ensures)) c.in_ok-expression-in-Cond.ensures.answers (goes_on (ap (λ x. of_expression (place c.args.self.now) Anywhere x ++ of_expression (place c.args.self.now) Anywhere c.in-Cond.no) (sym c.get-in-Cond-2.ensures) ∙ ap (λ x. of_expression (place c.args.self.now) Anywhere c.get-in-Cond-2.result.now ++ of_expression (place c.args.self.now) Anywhere x) (sym c.get-in-Cond-3.ensures)) (as_before (λ w. of_expression (place w) Anywhere c.get-in-Cond-2.result.now) c.in_ok-expression-in-Cond.ensures.kept c.in_ok-expression-in-Cond-2.ensures.answers) (as_before (λ w. of_expression (place w) Anywhere c.get-in-Cond-3.result.now) (c.in_ok-expression-in-Cond-2.ensures.kept ∙ c.in_ok-expression-in-Cond.ensures.kept) c.expression-in-Cond-3.ensures.answers))

pub expression-returns-in_err-expression-in-Assign-clause-answers : goal.expression-returns-in_err-expression-in-Assign-clause-answers
expression-returns-in_err-expression-in-Assign-clause-answers t c = stops (of_expression (place c.args.self.now) Anywhere c.in-Assign.value) (ap (of_expression (place c.args.self.now) (standing_of c.args.standing)) c.in-Assign.is ∙ of_assign (place c.args.self.now) (standing_of c.args.standing) c.in-Assign.field-0 c.in-Assign.target c.in-Assign.value ∙ ap (λ x. of_expression (place c.args.self.now) Anywhere x ++ of_expression (place c.args.self.now) Anywhere c.in-Assign.value) (sym c.get-in-Assign.ensures)) c.in_err-expression-in-Assign.ensures.answers (search rules)

pub expression-returns-in_ok-expression-in-Assign-clause-answers : goal.expression-returns-in_ok-expression-in-Assign-clause-answers
expression-returns-in_ok-expression-in-Assign-clause-answers t c = goes_on (ap (of_expression (place c.args.self.now) (standing_of c.args.standing)) c.in-Assign.is ∙ of_assign (place c.args.self.now) (standing_of c.args.standing) c.in-Assign.field-0 c.in-Assign.target c.in-Assign.value ∙ ap (λ x. of_expression (place c.args.self.now) Anywhere x ++ of_expression (place c.args.self.now) Anywhere c.in-Assign.value) (sym c.get-in-Assign.ensures) ∙ ap (λ x. of_expression (place c.args.self.now) Anywhere c.get-in-Assign.result.now ++ of_expression (place c.args.self.now) Anywhere x) (sym c.get-in-Assign-2.ensures)) c.in_ok-expression-in-Assign.ensures.answers (as_before (λ w. of_expression (place w) Anywhere c.get-in-Assign-2.result.now) c.in_ok-expression-in-Assign.ensures.kept c.expression-in-Assign-2.ensures.answers)

pub expression-returns-in_err-head-in-Post-clause-answers : goal.expression-returns-in_err-head-in-Post-clause-answers
expression-returns-in_err-head-in-Post-clause-answers t c = stops (of_links (place c.args.self.now) (name_in c.in-Post.head) c.in-Post.links) (ap (of_expression (place c.args.self.now) (standing_of c.args.standing)) c.in-Post.is ∙ of_post (place c.args.self.now) (standing_of c.args.standing) c.in-Post.head c.in-Post.links ∙ ap (λ x. of_head (place c.args.self.now) x (called_by c.in-Post.links) (standing_of c.args.standing) ++ of_links (place c.args.self.now) (name_in c.in-Post.head) c.in-Post.links) (sym c.get-in-Post.ensures) ∙ ap (λ call. of_head (place c.args.self.now) c.get-in-Post.result.now call (standing_of c.args.standing) ++ of_links (place c.args.self.now) (name_in c.in-Post.head) c.in-Post.links) (sym (c.call_by.ensures ∙ ap called_by c.as_slice-in-Post.ensures))) c.in_err-head-in-Post.ensures.answers (search rules)

pub expression-returns-in_ok-head-in-Post-clause-answers : goal.expression-returns-in_ok-head-in-Post-clause-answers
expression-returns-in_ok-head-in-Post-clause-answers t c = goes_on (ap (of_expression (place c.args.self.now) (standing_of c.args.standing)) c.in-Post.is ∙ of_post (place c.args.self.now) (standing_of c.args.standing) c.in-Post.head c.in-Post.links ∙ ap (λ x. of_head (place c.args.self.now) x (called_by c.in-Post.links) (standing_of c.args.standing) ++ of_links (place c.args.self.now) (name_in c.in-Post.head) c.in-Post.links) (sym c.get-in-Post.ensures) ∙ ap (λ call. of_head (place c.args.self.now) c.get-in-Post.result.now call (standing_of c.args.standing) ++ of_links (place c.args.self.now) (name_in c.in-Post.head) c.in-Post.links) (sym (c.call_by.ensures ∙ ap called_by c.as_slice-in-Post.ensures)) ∙ ap (λ n. of_head (place c.args.self.now) c.get-in-Post.result.now (called_of c.call_by.result) (standing_of c.args.standing) ++ of_links (place c.args.self.now) n c.in-Post.links) (sym (c.name_in.ensures ∙ ap name_in c.get-in-Post-2.ensures)) ∙ ap (λ ls. of_head (place c.args.self.now) c.get-in-Post.result.now (called_of c.call_by.result) (standing_of c.args.standing) ++ of_links (place c.args.self.now) (option_copied c.name_in.result) ls) (sym c.as_slice-in-Post-2.ensures)) c.in_ok-head-in-Post.ensures.answers (as_before (λ w. of_links (place w) (option_copied c.name_in.result) c.as_slice-in-Post-2.result.now) c.in_ok-head-in-Post.ensures.kept c.links.ensures.answers)

pub body-returns-in-Value-clause-answers : goal.body-returns-in-Value-clause-answers
body-returns-in-Value-clause-answers t c = by_form (ap (of_body (place c.args.self.now) c.args.component) c.in-Value.is ∙ of_value (place c.args.self.now) c.args.component c.in-Value.x ∙ ap (of_expression (place c.args.self.now) Anywhere) (sym c.get.ensures)) c.expression.ensures.answers

pub body-returns-in-Block-clause-answers : goal.body-returns-in-Block-clause-answers
body-returns-in-Block-clause-answers t c = by_form (ap (of_body (place c.args.self.now) c.args.component) c.in-Block.is ∙ of_whole_block (place c.args.self.now) c.args.component c.in-Block.statements ∙ ap (of_statements (place c.args.self.now) c.args.component) (sym c.as_slice.ensures)) c.statements.ensures.answers

pub link-returns-in-Prop-clause-answers : goal.link-returns-in-Prop-clause-answers
link-returns-in-Prop-clause-answers t c = clear (ap (of_link (place c.args.self.now) (option_copied c.args.callee)) c.in-Prop.is ∙ of_property (place c.args.self.now) (option_copied c.args.callee) c.in-Prop.field-0)

pub link-returns-in-Index-clause-answers : goal.link-returns-in-Index-clause-answers
link-returns-in-Index-clause-answers t c = by_form (ap (of_link (place c.args.self.now) (option_copied c.args.callee)) c.in-Index.is ∙ of_index (place c.args.self.now) (option_copied c.args.callee) c.in-Index.x) c.expression.ensures.answers

pub link-returns-in-Call-clause-answers : goal.link-returns-in-Call-clause-answers
link-returns-in-Call-clause-answers t c = by_form (ap (of_link (place c.args.self.now) (option_copied c.args.callee)) c.in-Call.is ∙ of_call (place c.args.self.now) (option_copied c.args.callee) c.in-Call.values ∙ ap (of_arguments (place c.args.self.now) (option_copied c.args.callee)) (sym c.as_slice.ensures)) c.arguments.ensures.answers

pub arrow-returns-in_err-enter_arrow-clause-answers : goal.arrow-returns-in_err-enter_arrow-clause-answers
arrow-returns-in_err-enter_arrow-clause-answers t c = wants (search rules)

pub arrow-returns-in_err-body-clause-answers : goal.arrow-returns-in_err-body-clause-answers
arrow-returns-in_err-body-clause-answers t c = by_form (arrow_entered c.args.self.now c.enter_arrow.new.self (standing_of c.args.standing) (mark_of c.mark_there.result) c.args.arrow.now.params c.as_slice.result.now c.args.arrow.now.body c.is_component_arrow.result c.in_ok-enter_arrow.ensures c.mark_there.ensures c.as_slice.ensures c.is_component_arrow.ensures) (by_result (search rules) c.in_err-body.ensures.answers)

pub arrow-returns-clause-answers : goal.arrow-returns-clause-answers
arrow-returns-clause-answers t c = by_form (arrow_entered c.args.self.now c.enter_arrow.new.self (standing_of c.args.standing) (mark_of c.mark_there.result) c.args.arrow.now.params c.as_slice.result.now c.args.arrow.now.body c.is_component_arrow.result c.in_ok-enter_arrow.ensures c.mark_there.ensures c.as_slice.ensures c.is_component_arrow.ensures) c.in_ok-body.ensures.answers

pub block-returns-in_err-enter_block-clause-answers : goal.block-returns-in_err-enter_block-clause-answers
block-returns-in_err-enter_block-clause-answers t c = wants (search rules)

pub block-returns-in_err-statements-clause-answers : goal.block-returns-in_err-statements-clause-answers
block-returns-in_err-statements-clause-answers t c = by_form (block_entered c.args.self.now c.enter_block.new.self c.args.statements.now c.in_ok-enter_block.ensures) (by_result (search rules) c.in_err-statements.ensures.answers)

pub block-returns-clause-answers : goal.block-returns-clause-answers
block-returns-clause-answers t c = by_form (block_entered c.args.self.now c.enter_block.new.self c.args.statements.now c.in_ok-enter_block.ensures) c.in_ok-statements.ensures.answers

pub statement-returns-in-Const-clause-answers : goal.statement-returns-in-Const-clause-answers
statement-returns-in-Const-clause-answers t c = by_form (ap (of_statement (place c.args.self.now) c.args.hooks) c.in-Const.is ∙ of_constant (place c.args.self.now) c.args.hooks c.in-Const.pattern c.in-Const.x ∙ ap (λ s. of_expression (place c.args.self.now) s c.in-Const.x) (sym c.const_standing.ensures)) c.expression.ensures.answers

pub statement-returns-in-Let-clause-answers : goal.statement-returns-in-Let-clause-answers
statement-returns-in-Let-clause-answers t c = by_form (ap (of_statement (place c.args.self.now) c.args.hooks) c.in-Let.is ∙ of_let (place c.args.self.now) c.args.hooks c.in-Let.field-0 c.in-Let.x) c.expression-in-Let.ensures.answers

pub statement-returns-in-Do-clause-answers : goal.statement-returns-in-Do-clause-answers
statement-returns-in-Do-clause-answers t c = by_form (ap (of_statement (place c.args.self.now) c.args.hooks) c.in-Do.is ∙ of_do (place c.args.self.now) c.args.hooks c.in-Do.x ∙ ap (λ s. of_expression (place c.args.self.now) s c.in-Do.x) (sym c.where_hooks.ensures)) c.expression-in-Do.ensures.answers

pub statement-returns-in-Delete-clause-answers : goal.statement-returns-in-Delete-clause-answers
statement-returns-in-Delete-clause-answers t c = by_form (ap (of_statement (place c.args.self.now) c.args.hooks) c.in-Delete.is ∙ of_delete (place c.args.self.now) c.args.hooks c.in-Delete.x) c.expression-in-Delete.ensures.answers

pub statement-returns-in-Return-clause-answers : goal.statement-returns-in-Return-clause-answers
statement-returns-in-Return-clause-answers t c = by_form (ap (of_statement (place c.args.self.now) c.args.hooks) c.in-Return.is ∙ of_return (place c.args.self.now) c.args.hooks c.in-Return.value) c.returned.ensures.answers

pub statement-returns-in-Break-clause-answers : goal.statement-returns-in-Break-clause-answers
statement-returns-in-Break-clause-answers t c = clear (ap (of_statement (place c.args.self.now) c.args.hooks) c.in-Break.is ∙ of_break (place c.args.self.now) c.args.hooks)

pub statement-returns-in-Continue-clause-answers : goal.statement-returns-in-Continue-clause-answers
statement-returns-in-Continue-clause-answers t c = clear (ap (of_statement (place c.args.self.now) c.args.hooks) c.in-Continue.is ∙ of_continue (place c.args.self.now) c.args.hooks)

pub statement-returns-in_err-expression-in-If-clause-answers : goal.statement-returns-in_err-expression-in-If-clause-answers
statement-returns-in_err-expression-in-If-clause-answers t c = stops (of_block (place c.args.self.now) c.in-If.then ++ of_block (place c.args.self.now) c.in-If.otherwise) (ap (of_statement (place c.args.self.now) c.args.hooks) c.in-If.is ∙ of_if (place c.args.self.now) c.args.hooks c.in-If.test c.in-If.then c.in-If.otherwise) c.in_err-expression-in-If.ensures.answers (search rules)

pub statement-returns-in_err-block-in-If-clause-answers : goal.statement-returns-in_err-block-in-If-clause-answers
statement-returns-in_err-block-in-If-clause-answers t c = goes_on (ap (of_statement (place c.args.self.now) c.args.hooks) c.in-If.is ∙ of_if (place c.args.self.now) c.args.hooks c.in-If.test c.in-If.then c.in-If.otherwise) c.in_ok-expression-in-If.ensures.answers (stops (of_block (place c.args.self.now) c.in-If.otherwise) (ap (λ ss. of_block (place c.args.self.now) ss ++ of_block (place c.args.self.now) c.in-If.otherwise) (sym c.as_slice.ensures)) (as_before (λ w. of_block (place w) c.as_slice.result.now) c.in_ok-expression-in-If.ensures.kept c.in_err-block-in-If.ensures.answers) (search rules))

pub statement-returns-in_ok-block-in-If-clause-answers : goal.statement-returns-in_ok-block-in-If-clause-answers
statement-returns-in_ok-block-in-If-clause-answers t c = goes_on (ap (of_statement (place c.args.self.now) c.args.hooks) c.in-If.is ∙ of_if (place c.args.self.now) c.args.hooks c.in-If.test c.in-If.then c.in-If.otherwise) c.in_ok-expression-in-If.ensures.answers (goes_on (ap (λ ss. of_block (place c.args.self.now) ss ++ of_block (place c.args.self.now) c.in-If.otherwise) (sym c.as_slice.ensures) ∙ ap (λ ss. of_block (place c.args.self.now) c.as_slice.result.now ++ of_block (place c.args.self.now) ss) (sym c.as_slice-in-If.ensures)) (as_before (λ w. of_block (place w) c.as_slice.result.now) c.in_ok-expression-in-If.ensures.kept c.in_ok-block-in-If.ensures.answers) (as_before (λ w. of_block (place w) c.as_slice-in-If.result.now) (c.in_ok-block-in-If.ensures.kept ∙ c.in_ok-expression-in-If.ensures.kept) c.block-in-If.ensures.answers))

pub statement-returns-in_err-expression-in-While-clause-answers : goal.statement-returns-in_err-expression-in-While-clause-answers
statement-returns-in_err-expression-in-While-clause-answers t c = stops (of_block (place c.args.self.now) c.in-While.inside) (ap (of_statement (place c.args.self.now) c.args.hooks) c.in-While.is ∙ of_while (place c.args.self.now) c.args.hooks c.in-While.test c.in-While.inside) c.in_err-expression-in-While.ensures.answers (search rules)

pub statement-returns-in_ok-expression-in-While-clause-answers : goal.statement-returns-in_ok-expression-in-While-clause-answers
statement-returns-in_ok-expression-in-While-clause-answers t c = goes_on (ap (of_statement (place c.args.self.now) c.args.hooks) c.in-While.is ∙ of_while (place c.args.self.now) c.args.hooks c.in-While.test c.in-While.inside ∙ ap (λ ss. of_expression (place c.args.self.now) Anywhere c.in-While.test ++ of_block (place c.args.self.now) ss) (sym c.as_slice-in-While.ensures)) c.in_ok-expression-in-While.ensures.answers (as_before (λ w. of_block (place w) c.as_slice-in-While.result.now) c.in_ok-expression-in-While.ensures.kept c.block-in-While.ensures.answers)

pub statement-returns-in-Block-clause-answers : goal.statement-returns-in-Block-clause-answers
statement-returns-in-Block-clause-answers t c = by_form (ap (of_statement (place c.args.self.now) c.args.hooks) c.in-Block.is ∙ of_inner_block (place c.args.self.now) c.args.hooks c.in-Block.inside ∙ ap (of_block (place c.args.self.now)) (sym c.as_slice-in-Block.ensures)) c.block-in-Block.ensures.answers

pub statement-returns-in_err-enter_for-in-ForOf-clause-answers : goal.statement-returns-in_err-enter_for-in-ForOf-clause-answers
statement-returns-in_err-enter_for-in-ForOf-clause-answers t c = wants (search rules)

pub statement-returns-in_err-expression-in-ForOf-clause-answers : goal.statement-returns-in_err-expression-in-ForOf-clause-answers
statement-returns-in_err-expression-in-ForOf-clause-answers t c = stops (of_block (place (among c.args.self.now c.enter_for.new.self)) c.in-ForOf.inside) (ap (of_statement (place c.args.self.now) c.args.hooks) c.in-ForOf.is ∙ of_for (place c.args.self.now) c.args.hooks c.in-ForOf.name c.in-ForOf.x c.in-ForOf.inside ∙ for_entered c.args.self.now c.enter_for.new.self c.in-ForOf.name c.in-ForOf.x c.in-ForOf.inside c.in_ok-enter_for-in-ForOf.ensures) c.in_err-expression-in-ForOf.ensures.answers (search rules)

pub statement-returns-in_err-block-in-ForOf-clause-answers : goal.statement-returns-in_err-block-in-ForOf-clause-answers
statement-returns-in_err-block-in-ForOf-clause-answers t c = goes_on (ap (of_statement (place c.args.self.now) c.args.hooks) c.in-ForOf.is ∙ of_for (place c.args.self.now) c.args.hooks c.in-ForOf.name c.in-ForOf.x c.in-ForOf.inside ∙ for_entered c.args.self.now c.enter_for.new.self c.in-ForOf.name c.in-ForOf.x c.in-ForOf.inside c.in_ok-enter_for-in-ForOf.ensures ∙ ap (λ ss. of_expression (place (among c.args.self.now c.enter_for.new.self)) Anywhere c.in-ForOf.x ++ of_block (place (among c.args.self.now c.enter_for.new.self)) ss) (sym c.as_slice-in-ForOf.ensures)) c.in_ok-expression-in-ForOf.ensures.answers (by_result (search rules) (as_before (λ w. of_block (place w) c.as_slice-in-ForOf.result.now) c.in_ok-expression-in-ForOf.ensures.kept c.in_err-block-in-ForOf.ensures.answers))

pub statement-returns-in_ok-block-in-ForOf-clause-answers : goal.statement-returns-in_ok-block-in-ForOf-clause-answers
statement-returns-in_ok-block-in-ForOf-clause-answers t c = goes_on (ap (of_statement (place c.args.self.now) c.args.hooks) c.in-ForOf.is ∙ of_for (place c.args.self.now) c.args.hooks c.in-ForOf.name c.in-ForOf.x c.in-ForOf.inside ∙ for_entered c.args.self.now c.enter_for.new.self c.in-ForOf.name c.in-ForOf.x c.in-ForOf.inside c.in_ok-enter_for-in-ForOf.ensures ∙ ap (λ ss. of_expression (place (among c.args.self.now c.enter_for.new.self)) Anywhere c.in-ForOf.x ++ of_block (place (among c.args.self.now c.enter_for.new.self)) ss) (sym c.as_slice-in-ForOf.ensures)) c.in_ok-expression-in-ForOf.ensures.answers (as_before (λ w. of_block (place w) c.as_slice-in-ForOf.result.now) c.in_ok-expression-in-ForOf.ensures.kept c.in_ok-block-in-ForOf.ensures.answers)

pub expressions-returns-in_err-expression-clause-answers : goal.expressions-returns-in_err-expression-clause-answers
expressions-returns-in_err-expression-clause-answers t c = stops_at (flat_map (of_expression (place c.args.self.now) (standing_of c.args.standing))) (flat_map (of_expression (place c.args.self.now) (standing_of c.args.standing))) (of_expression (place c.args.self.now) (standing_of c.args.standing) c.x-item.result) (flat_map (of_expression (place c.args.self.now) (standing_of c.args.standing)) c.args.xs.now) c.args.xs.now c.loop-x.x-index c.x-item.result (λ rest. refl) c.loop-x-test.true c.x-item.is c.loop-x.invariant.past c.from_residual.result c.in_err-expression.field-0.0 (as_before (λ w. of_expression (place w) (standing_of c.args.standing) c.x-item.result) c.loop-x.invariant.kept c.in_err-expression.ensures.answers) (search rules)

pub expressions-loop-x-preserved : goal.expressions-loop-x-preserved
expressions-loop-x-preserved t c = record {
  past = past_item (flat_map (of_expression (place c.args.self.now) (standing_of c.args.standing))) (flat_map (of_expression (place c.args.self.now) (standing_of c.args.standing))) (of_expression (place c.args.self.now) (standing_of c.args.standing) c.x-item.result) (flat_map (of_expression (place c.args.self.now) (standing_of c.args.standing)) c.args.xs.now) c.args.xs.now c.loop-x.x-index c.x-item.result (λ rest. refl) c.loop-x-test.true c.x-item.is (as_before (λ w. of_expression (place w) (standing_of c.args.standing) c.x-item.result) c.loop-x.invariant.kept c.in_ok-expression.ensures.answers) c.loop-x.invariant.past;
  kept = c.in_ok-expression.ensures.kept ∙ c.loop-x.invariant.kept;
}

pub expressions-returns-clause-answers : goal.expressions-returns-clause-answers
expressions-returns-clause-answers t c = at_end (flat_map (of_expression (place c.args.self.now) (standing_of c.args.standing))) (flat_map (of_expression (place c.args.self.now) (standing_of c.args.standing)) c.args.xs.now) c.args.xs.now c.loop-x.x-index refl c.loop-x-test.false c.loop-x.invariant.past

pub fields-returns-in_err-expression-clause-answers : goal.fields-returns-in_err-expression-clause-answers
fields-returns-in_err-expression-clause-answers t c = stops_at (flat_map (of_field (place c.args.self.now))) (flat_map (of_field (place c.args.self.now))) (of_field (place c.args.self.now) c.field-item.result) (flat_map (of_field (place c.args.self.now)) c.args.fields.now) c.args.fields.now c.loop-field.field-index c.field-item.result (λ rest. refl) c.loop-field-test.true c.field-item.is c.loop-field.invariant.past c.from_residual.result c.in_err-expression.field-0.0 (as_before (λ w. of_field (place w) c.field-item.result) c.loop-field.invariant.kept c.in_err-expression.ensures.answers) (search rules)

pub fields-loop-field-preserved : goal.fields-loop-field-preserved
fields-loop-field-preserved t c = record {
  past = past_item (flat_map (of_field (place c.args.self.now))) (flat_map (of_field (place c.args.self.now))) (of_field (place c.args.self.now) c.field-item.result) (flat_map (of_field (place c.args.self.now)) c.args.fields.now) c.args.fields.now c.loop-field.field-index c.field-item.result (λ rest. refl) c.loop-field-test.true c.field-item.is (as_before (λ w. of_field (place w) c.field-item.result) c.loop-field.invariant.kept c.in_ok-expression.ensures.answers) c.loop-field.invariant.past;
  kept = c.in_ok-expression.ensures.kept ∙ c.loop-field.invariant.kept;
}

pub fields-returns-clause-answers : goal.fields-returns-clause-answers
fields-returns-clause-answers t c = at_end (flat_map (of_field (place c.args.self.now))) (flat_map (of_field (place c.args.self.now)) c.args.fields.now) c.args.fields.now c.loop-field.field-index refl c.loop-field-test.false c.loop-field.invariant.past

pub operands-returns-in_err-expression-clause-answers : goal.operands-returns-in_err-expression-clause-answers
operands-returns-in_err-expression-clause-answers t c = stops_at (flat_map (of_operand (place c.args.self.now))) (flat_map (of_operand (place c.args.self.now))) (of_operand (place c.args.self.now) c.operand-item.result) (flat_map (of_operand (place c.args.self.now)) c.args.operands.now) c.args.operands.now c.loop-operand.operand-index c.operand-item.result (λ rest. refl) c.loop-operand-test.true c.operand-item.is c.loop-operand.invariant.past c.from_residual.result c.in_err-expression.field-0.0 (as_before (λ w. of_operand (place w) c.operand-item.result) c.loop-operand.invariant.kept c.in_err-expression.ensures.answers) (search rules)

pub operands-loop-operand-preserved : goal.operands-loop-operand-preserved
operands-loop-operand-preserved t c = record {
  past = past_item (flat_map (of_operand (place c.args.self.now))) (flat_map (of_operand (place c.args.self.now))) (of_operand (place c.args.self.now) c.operand-item.result) (flat_map (of_operand (place c.args.self.now)) c.args.operands.now) c.args.operands.now c.loop-operand.operand-index c.operand-item.result (λ rest. refl) c.loop-operand-test.true c.operand-item.is (as_before (λ w. of_operand (place w) c.operand-item.result) c.loop-operand.invariant.kept c.in_ok-expression.ensures.answers) c.loop-operand.invariant.past;
  kept = c.in_ok-expression.ensures.kept ∙ c.loop-operand.invariant.kept;
}

pub operands-returns-clause-answers : goal.operands-returns-clause-answers
operands-returns-clause-answers t c = at_end (flat_map (of_operand (place c.args.self.now))) (flat_map (of_operand (place c.args.self.now)) c.args.operands.now) c.args.operands.now c.loop-operand.operand-index refl c.loop-operand-test.false c.loop-operand.invariant.past

pub statements-returns-in_err-statement-clause-answers : goal.statements-returns-in_err-statement-clause-answers
statements-returns-in_err-statement-clause-answers t c = stops_at (of_statements (place c.args.self.now) c.loop-statement.hooks) (of_statements (place c.args.self.now) (c.loop-statement.hooks && lets_hooks_follow c.statement-item.result)) (of_statement (place c.args.self.now) c.loop-statement.hooks c.statement-item.result) (of_statements (place c.args.self.now) c.args.first c.args.statements.now) c.args.statements.now c.loop-statement.statement-index c.statement-item.result (λ rest. refl) c.loop-statement-test.true c.statement-item.is c.loop-statement.invariant.past c.from_residual.result c.in_err-statement.field-0.0 (as_before (λ w. of_statement (place w) c.loop-statement.hooks c.statement-item.result) c.loop-statement.invariant.kept c.in_err-statement.ensures.answers) (search rules)

pub statements-loop-statement-preserved : goal.statements-loop-statement-preserved
statements-loop-statement-preserved t c = record {
  past = ap (λ b. of_statements (place c.args.self.now) b (drop (c.loop-statement.statement-index + 1) c.args.statements.now)) c.hooks_behind-next.ensures ∙ past_item (of_statements (place c.args.self.now) c.loop-statement.hooks) (of_statements (place c.args.self.now) (c.loop-statement.hooks && lets_hooks_follow c.statement-item.result)) (of_statement (place c.args.self.now) c.loop-statement.hooks c.statement-item.result) (of_statements (place c.args.self.now) c.args.first c.args.statements.now) c.args.statements.now c.loop-statement.statement-index c.statement-item.result (λ rest. refl) c.loop-statement-test.true c.statement-item.is (as_before (λ w. of_statement (place w) c.loop-statement.hooks c.statement-item.result) c.loop-statement.invariant.kept c.in_ok-statement.ensures.answers) c.loop-statement.invariant.past;
  kept = c.in_ok-statement.ensures.kept ∙ c.loop-statement.invariant.kept;
}

pub statements-returns-clause-answers : goal.statements-returns-clause-answers
statements-returns-clause-answers t c = at_end (of_statements (place c.args.self.now) c.loop-statement.hooks) (of_statements (place c.args.self.now) c.args.first c.args.statements.now) c.args.statements.now c.loop-statement.statement-index refl c.loop-statement-test.false c.loop-statement.invariant.past

pub attributes-loop-attribute-init : goal.attributes-loop-attribute-init
attributes-loop-attribute-init t c = record { past = ap (λ e. of_attributes (place c.args.self.now) c.args.tag.now e c.args.attributes.now) c.new-earlier.ensures; kept = refl }

pub attributes-returns-in_err-longer-clause-answers : goal.attributes-returns-in_err-longer-clause-answers
attributes-returns-in_err-longer-clause-answers t c = stops_at (of_attributes (place c.args.self.now) c.args.tag.now c.loop-attribute.earlier) (of_attributes (place c.args.self.now) c.args.tag.now (c.loop-attribute.earlier ++ c.attribute-item.result.key ∷ [])) (attribute_breaches c.args.tag.now c.attribute-item.result c.loop-attribute.earlier ++ of_expression (place c.args.self.now) Anywhere c.attribute-item.result.value) (of_attributes (place c.args.self.now) c.args.tag.now [] c.args.attributes.now) c.args.attributes.now c.loop-attribute.attribute-index c.attribute-item.result (attribute_first (place c.args.self.now) c.args.tag.now c.loop-attribute.earlier c.attribute-item.result) c.loop-attribute-test.true c.attribute-item.is c.loop-attribute.invariant.past c.from_residual.result c.in_err-longer.field-0.0 (stops (of_expression (place c.args.self.now) Anywhere c.attribute-item.result.value) refl (record { comes = c.in_err-longer.ensures.err }) refl) (search rules)

pub attributes-returns-in_err-expression-clause-answers : goal.attributes-returns-in_err-expression-clause-answers
attributes-returns-in_err-expression-clause-answers t c = stops_at (of_attributes (place c.args.self.now) c.args.tag.now c.loop-attribute.earlier) (of_attributes (place c.args.self.now) c.args.tag.now (c.loop-attribute.earlier ++ c.attribute-item.result.key ∷ [])) (attribute_breaches c.args.tag.now c.attribute-item.result c.loop-attribute.earlier ++ of_expression (place c.args.self.now) Anywhere c.attribute-item.result.value) (of_attributes (place c.args.self.now) c.args.tag.now [] c.args.attributes.now) c.args.attributes.now c.loop-attribute.attribute-index c.attribute-item.result (attribute_first (place c.args.self.now) c.args.tag.now c.loop-attribute.earlier c.attribute-item.result) c.loop-attribute-test.true c.attribute-item.is c.loop-attribute.invariant.past c.from_residual-in_err-expression.result c.in_err-expression.field-0.0 (goes_on refl (clear c.in_ok-longer.ensures.ok.0) (as_before (λ w. of_expression (place w) Anywhere c.attribute-item.result.value) c.loop-attribute.invariant.kept c.in_err-expression.ensures.answers)) (search rules)

pub attributes-loop-attribute-preserved : goal.attributes-loop-attribute-preserved
attributes-loop-attribute-preserved t c = record {
  past = ap (λ e. of_attributes (place c.args.self.now) c.args.tag.now e (drop (c.loop-attribute.attribute-index + 1) c.args.attributes.now)) c.in_ok-longer.ensures.ok.1 ∙ past_item (of_attributes (place c.args.self.now) c.args.tag.now c.loop-attribute.earlier) (of_attributes (place c.args.self.now) c.args.tag.now (c.loop-attribute.earlier ++ c.attribute-item.result.key ∷ [])) (attribute_breaches c.args.tag.now c.attribute-item.result c.loop-attribute.earlier ++ of_expression (place c.args.self.now) Anywhere c.attribute-item.result.value) (of_attributes (place c.args.self.now) c.args.tag.now [] c.args.attributes.now) c.args.attributes.now c.loop-attribute.attribute-index c.attribute-item.result (attribute_first (place c.args.self.now) c.args.tag.now c.loop-attribute.earlier c.attribute-item.result) c.loop-attribute-test.true c.attribute-item.is (goes_on refl (clear c.in_ok-longer.ensures.ok.0) (as_before (λ w. of_expression (place w) Anywhere c.attribute-item.result.value) c.loop-attribute.invariant.kept c.in_ok-expression.ensures.answers)) c.loop-attribute.invariant.past;
  kept = c.in_ok-expression.ensures.kept ∙ c.loop-attribute.invariant.kept;
}

pub attributes-returns-clause-answers : goal.attributes-returns-clause-answers
attributes-returns-clause-answers t c = at_end (of_attributes (place c.args.self.now) c.args.tag.now c.loop-attribute.earlier) (of_attributes (place c.args.self.now) c.args.tag.now [] c.args.attributes.now) c.args.attributes.now c.loop-attribute.attribute-index refl c.loop-attribute-test.false c.loop-attribute.invariant.past

pub arguments-returns-in_err-expression-clause-answers : goal.arguments-returns-in_err-expression-clause-answers
arguments-returns-in_err-expression-clause-answers t c = stops (flat_map (of_expression (place c.args.self.now) (standing_of c.argument_of-behind.result)) c.in-Some.later.now) (ap (of_arguments (place c.args.self.now) (option_copied c.args.callee)) c.in-Some.ensures.cases.0 ∙ ap (λ s. of_expression (place c.args.self.now) s c.in-Some.first.now ++ flat_map (of_expression (place c.args.self.now) (argument_of (option_copied c.args.callee) false)) c.in-Some.later.now) (sym c.argument_of.ensures) ∙ ap (λ s. of_expression (place c.args.self.now) (standing_of c.argument_of.result) c.in-Some.first.now ++ flat_map (of_expression (place c.args.self.now) s) c.in-Some.later.now) (sym c.argument_of-behind.ensures)) c.in_err-expression.ensures.answers (search rules)

pub arguments-returns-in_err-expression-2-clause-answers : goal.arguments-returns-in_err-expression-2-clause-answers
arguments-returns-in_err-expression-2-clause-answers t c = goes_on (ap (of_arguments (place c.args.self.now) (option_copied c.args.callee)) c.in-Some.ensures.cases.0 ∙ ap (λ s. of_expression (place c.args.self.now) s c.in-Some.first.now ++ flat_map (of_expression (place c.args.self.now) (argument_of (option_copied c.args.callee) false)) c.in-Some.later.now) (sym c.argument_of.ensures) ∙ ap (λ s. of_expression (place c.args.self.now) (standing_of c.argument_of.result) c.in-Some.first.now ++ flat_map (of_expression (place c.args.self.now) s) c.in-Some.later.now) (sym c.argument_of-behind.ensures)) c.in_ok-expression.ensures.answers (stops_at (flat_map (of_expression (place c.args.self.now) (standing_of c.argument_of-behind.result))) (flat_map (of_expression (place c.args.self.now) (standing_of c.argument_of-behind.result))) (of_expression (place c.args.self.now) (standing_of c.argument_of-behind.result) c.x-item.result) (flat_map (of_expression (place c.args.self.now) (standing_of c.argument_of-behind.result)) c.in-Some.later.now) c.in-Some.later.now c.loop-x.x-index c.x-item.result (λ rest. refl) c.loop-x-test.true c.x-item.is c.loop-x.invariant.past _ c.in_err-expression-2.field-0.0 (as_before (λ w. of_expression (place w) (standing_of c.argument_of-behind.result) c.x-item.result) c.loop-x.invariant.kept c.in_err-expression-2.ensures.answers) (search rules))

pub arguments-loop-x-preserved : goal.arguments-loop-x-preserved
arguments-loop-x-preserved t c = record {
  past = past_item (flat_map (of_expression (place c.args.self.now) (standing_of c.argument_of-behind.result))) (flat_map (of_expression (place c.args.self.now) (standing_of c.argument_of-behind.result))) (of_expression (place c.args.self.now) (standing_of c.argument_of-behind.result) c.x-item.result) (flat_map (of_expression (place c.args.self.now) (standing_of c.argument_of-behind.result)) c.in-Some.later.now) c.in-Some.later.now c.loop-x.x-index c.x-item.result (λ rest. refl) c.loop-x-test.true c.x-item.is (as_before (λ w. of_expression (place w) (standing_of c.argument_of-behind.result) c.x-item.result) c.loop-x.invariant.kept c.in_ok-expression-2.ensures.answers) c.loop-x.invariant.past;
  kept = c.in_ok-expression-2.ensures.kept ∙ c.loop-x.invariant.kept;
}

pub arguments-returns-clause-answers : goal.arguments-returns-clause-answers
arguments-returns-clause-answers t c = goes_on (ap (of_arguments (place c.args.self.now) (option_copied c.args.callee)) c.in-Some.ensures.cases.0 ∙ ap (λ s. of_expression (place c.args.self.now) s c.in-Some.first.now ++ flat_map (of_expression (place c.args.self.now) (argument_of (option_copied c.args.callee) false)) c.in-Some.later.now) (sym c.argument_of.ensures) ∙ ap (λ s. of_expression (place c.args.self.now) (standing_of c.argument_of.result) c.in-Some.first.now ++ flat_map (of_expression (place c.args.self.now) s) c.in-Some.later.now) (sym c.argument_of-behind.ensures)) c.in_ok-expression.ensures.answers (at_end (flat_map (of_expression (place c.args.self.now) (standing_of c.argument_of-behind.result))) (flat_map (of_expression (place c.args.self.now) (standing_of c.argument_of-behind.result)) c.in-Some.later.now) c.in-Some.later.now c.loop-x.x-index refl c.loop-x-test.false c.loop-x.invariant.past)

pub links-returns-in_err-link-clause-answers : goal.links-returns-in_err-link-clause-answers
links-returns-in_err-link-clause-answers t c = stops (flat_map (of_link (place c.args.self.now) None) c.in-Some.later.now) (ap (of_links (place c.args.self.now) (option_copied c.args.callee)) c.in-Some.ensures.cases.0) c.in_err-link.ensures.answers (search rules)

pub links-returns-in_err-link-2-clause-answers : goal.links-returns-in_err-link-2-clause-answers
links-returns-in_err-link-2-clause-answers t c = goes_on (ap (of_links (place c.args.self.now) (option_copied c.args.callee)) c.in-Some.ensures.cases.0) c.in_ok-link.ensures.answers (stops_at (flat_map (of_link (place c.args.self.now) None)) (flat_map (of_link (place c.args.self.now) None)) (of_link (place c.args.self.now) None c.link-item.result) (flat_map (of_link (place c.args.self.now) None) c.in-Some.later.now) c.in-Some.later.now c.loop-link.link-index c.link-item.result (λ rest. refl) c.loop-link-test.true c.link-item.is c.loop-link.invariant.past _ c.in_err-link-2.field-0.0 (as_before (λ w. of_link (place w) None c.link-item.result) c.loop-link.invariant.kept c.in_err-link-2.ensures.answers) (search rules))

pub links-loop-link-preserved : goal.links-loop-link-preserved
links-loop-link-preserved t c = record {
  past = past_item (flat_map (of_link (place c.args.self.now) None)) (flat_map (of_link (place c.args.self.now) None)) (of_link (place c.args.self.now) None c.link-item.result) (flat_map (of_link (place c.args.self.now) None) c.in-Some.later.now) c.in-Some.later.now c.loop-link.link-index c.link-item.result (λ rest. refl) c.loop-link-test.true c.link-item.is (as_before (λ w. of_link (place w) None c.link-item.result) c.loop-link.invariant.kept c.in_ok-link-2.ensures.answers) c.loop-link.invariant.past;
  kept = c.in_ok-link-2.ensures.kept ∙ c.loop-link.invariant.kept;
}

pub links-returns-clause-answers : goal.links-returns-clause-answers
links-returns-clause-answers t c = goes_on (ap (of_links (place c.args.self.now) (option_copied c.args.callee)) c.in-Some.ensures.cases.0) c.in_ok-link.ensures.answers (at_end (flat_map (of_link (place c.args.self.now) None)) (flat_map (of_link (place c.args.self.now) None) c.in-Some.later.now) c.in-Some.later.now c.loop-link.link-index refl c.loop-link-test.false c.loop-link.invariant.past)

pub markup-returns-in_err-tag-clause-answers : goal.markup-returns-in_err-tag-clause-answers
markup-returns-in_err-tag-clause-answers t c = stops (of_attributes (place c.args.self.now) (out-Jsx c.args.jsx.now).tag [] (out-Jsx c.args.jsx.now).attrs ++ flat_map (of_expression (place c.args.self.now) Anywhere) (out-Jsx c.args.jsx.now).children) (of_jsx (place c.args.self.now) c.args.jsx.now ∙ ap (λ any. of_tag (place c.args.self.now) (out-Jsx c.args.jsx.now).tag any ++ (of_attributes (place c.args.self.now) (out-Jsx c.args.jsx.now).tag [] (out-Jsx c.args.jsx.now).attrs ++ flat_map (of_expression (place c.args.self.now) Anywhere) (out-Jsx c.args.jsx.now).children)) (sym (c.has_children.ensures ∙ ap is_any c.as_slice-children.ensures))) c.in_err-tag.ensures (search rules)

pub markup-returns-in_err-attributes-clause-answers : goal.markup-returns-in_err-attributes-clause-answers
markup-returns-in_err-attributes-clause-answers t c = goes_on (of_jsx (place c.args.self.now) c.args.jsx.now ∙ ap (λ any. of_tag (place c.args.self.now) (out-Jsx c.args.jsx.now).tag any ++ (of_attributes (place c.args.self.now) (out-Jsx c.args.jsx.now).tag [] (out-Jsx c.args.jsx.now).attrs ++ flat_map (of_expression (place c.args.self.now) Anywhere) (out-Jsx c.args.jsx.now).children)) (sym (c.has_children.ensures ∙ ap is_any c.as_slice-children.ensures))) c.in_ok-tag.ensures (stops (flat_map (of_expression (place c.args.self.now) Anywhere) (out-Jsx c.args.jsx.now).children) (ap (λ fs. of_attributes (place c.args.self.now) (out-Jsx c.args.jsx.now).tag [] fs ++ flat_map (of_expression (place c.args.self.now) Anywhere) (out-Jsx c.args.jsx.now).children) (sym c.as_slice.ensures)) c.in_err-attributes.ensures.answers (search rules))

pub markup-returns-clause-answers : goal.markup-returns-clause-answers
markup-returns-clause-answers t c = goes_on (of_jsx (place c.args.self.now) c.args.jsx.now ∙ ap (λ any. of_tag (place c.args.self.now) (out-Jsx c.args.jsx.now).tag any ++ (of_attributes (place c.args.self.now) (out-Jsx c.args.jsx.now).tag [] (out-Jsx c.args.jsx.now).attrs ++ flat_map (of_expression (place c.args.self.now) Anywhere) (out-Jsx c.args.jsx.now).children)) (sym (c.has_children.ensures ∙ ap is_any c.as_slice-children.ensures))) c.in_ok-tag.ensures (goes_on (ap (λ fs. of_attributes (place c.args.self.now) (out-Jsx c.args.jsx.now).tag [] fs ++ flat_map (of_expression (place c.args.self.now) Anywhere) (out-Jsx c.args.jsx.now).children) (sym c.as_slice.ensures) ∙ ap (λ xs. of_attributes (place c.args.self.now) (out-Jsx c.args.jsx.now).tag [] c.as_slice.result.now ++ flat_map (of_expression (place c.args.self.now) Anywhere) xs) (sym c.as_slice-children.ensures)) c.in_ok-attributes.ensures.answers (as_before (λ w. flat_map (of_expression (place w) Anywhere) c.as_slice-children.result.now) c.in_ok-attributes.ensures.kept c.expressions.ensures.answers))
