use Rattle.std.proofs.Common.{rules, ◌+◌, [], ◌∷◌, ◌++◌, drop, flat_map, length, ◌<◌, ap, refl, sym, subst, ◌∙◌, true, false}
use Rattle.qk_ast.specs.declared.Jsx.{out-Jsx}
use Rattle.qk_ast.specs.Names.{pattern_names, patterns_names}
use Rattle.qk_ast.specs.Arrows.{Unmarked, call_mark}
use Rattle.qk_ast.specs.Scopes.{arrow_scope}
use Rattle.qk_ast.specs.Mentions.{Declares, declared_after, mentions, tag_mentions}
use Rattle.qk_locals.specs.Meanings.{mark_of}
use Rattle.qk_locals.specs.Layers.{own, for_of, passed}
use Rattle.qk_scope.specs.Answering.{breaches}
use Rattle.qk_scope.specs.Parts.{part_of, field_part, attribute_part, operand_part, link_part, links_part, target_part, body_part, block_part, statement_part, statements_part}
use Rattle.qk_scope.proofs.Answered.{stopped, stopped_here, wanted, none}
use Rattle.qk_scope.proofs.Forms.{list_parts, record_parts, template_parts, unary_parts, chain_parts, choice_parts, post_parts, assign_parts, step_parts, known_parts, arrow_parts, markup_parts, call_parts, element_parts, value_parts, body_parts, const_parts, let_parts, do_parts, delete_parts, return_parts, if_parts, while_parts, for_parts, inner_parts}
use Rattle.qk_scope.proofs.Walked.{next, next_link, next_statement, behind_one, over, alike, fails_first, second, fails_second, third, left, on_ok, same_outer, still_inside}
use Rattle.qk_scope.proofs.keeper.Keeper.+walk.Goals as goal

pub expression-returns-in-List-clause-rules : goal.expression-returns-in-List-clause-rules
expression-returns-in-List-clause-rules t c = let k = c.args.self.now in alike k.rules _ _ _ (ap (λ y. mentions y (mark_of c.args.mark) k.scopes) c.in-List.is ∙ list_parts c.in-List.items (mark_of c.args.mark) k.scopes) (search rules)

pub expression-returns-in-Record-clause-rules : goal.expression-returns-in-Record-clause-rules
expression-returns-in-Record-clause-rules t c = let k = c.args.self.now in alike k.rules _ _ _ (ap (λ y. mentions y (mark_of c.args.mark) k.scopes) c.in-Record.is ∙ record_parts c.in-Record.fields (mark_of c.args.mark) k.scopes) (search rules)

pub expression-returns-in-Template-clause-rules : goal.expression-returns-in-Template-clause-rules
expression-returns-in-Template-clause-rules t c = let k = c.args.self.now in alike k.rules _ _ _ (ap (λ y. mentions y (mark_of c.args.mark) k.scopes) c.in-Template.is ∙ template_parts c.in-Template.field-0 c.in-Template.holes (mark_of c.args.mark) k.scopes) (search rules)

pub expression-returns-in-Unary-clause-rules : goal.expression-returns-in-Unary-clause-rules
expression-returns-in-Unary-clause-rules t c = let k = c.args.self.now in alike k.rules _ _ _ (ap (λ y. mentions y (mark_of c.args.mark) k.scopes) c.in-Unary.is ∙ unary_parts c.in-Unary.field-0 c.in-Unary.value (mark_of c.args.mark) k.scopes) (search rules)

pub expression-returns-in-Step-clause-rules : goal.expression-returns-in-Step-clause-rules
expression-returns-in-Step-clause-rules t c = let k = c.args.self.now in alike k.rules _ _ _ (ap (λ y. mentions y (mark_of c.args.mark) k.scopes) c.in-Step.is ∙ step_parts c.in-Step.field-0 c.in-Step.target (mark_of c.args.mark) k.scopes) (search rules)

pub expression-returns-in-Known-clause-rules : goal.expression-returns-in-Known-clause-rules
expression-returns-in-Known-clause-rules t c = let k = c.args.self.now in alike k.rules _ _ _ (ap (λ y. mentions y (mark_of c.args.mark) k.scopes) c.in-Known.is ∙ known_parts c.in-Known.field-0 c.in-Known.values (mark_of c.args.mark) k.scopes) (search rules)

pub expression-returns-in-Arrow-clause-rules : goal.expression-returns-in-Arrow-clause-rules
expression-returns-in-Arrow-clause-rules t c = let k = c.args.self.now in alike k.rules _ _ _ (ap (λ y. mentions y (mark_of c.args.mark) k.scopes) c.in-Arrow.is ∙ arrow_parts c.in-Arrow.arrow (mark_of c.args.mark) k.scopes) (search rules)

pub expression-returns-in-Jsx-clause-rules : goal.expression-returns-in-Jsx-clause-rules
expression-returns-in-Jsx-clause-rules t c = let k = c.args.self.now in alike k.rules _ _ _ (ap (λ y. mentions y (mark_of c.args.mark) k.scopes) c.in-Jsx.is ∙ markup_parts c.in-Jsx.jsx (mark_of c.args.mark) k.scopes) (search rules)

pub expression-returns-in_err-expression-in-Chain-clause-rules : goal.expression-returns-in_err-expression-in-Chain-clause-rules
expression-returns-in_err-expression-in-Chain-clause-rules t c = let k = c.args.self.now in fails_first k.rules _ (mentions c.in-Chain.first Unmarked k.scopes) (flat_map (operand_part k.scopes) c.in-Chain.later) _ c.in_err-expression-in-Chain.field-0.0 (ap (λ y. mentions y (mark_of c.args.mark) k.scopes) c.in-Chain.is ∙ chain_parts c.in-Chain.first c.in-Chain.later (mark_of c.args.mark) k.scopes) (search rules) (search rules)

pub expression-returns-in_ok-expression-in-Chain-clause-rules : goal.expression-returns-in_ok-expression-in-Chain-clause-rules
expression-returns-in_ok-expression-in-Chain-clause-rules t c = let k = c.args.self.now in second k.rules _ (mentions c.in-Chain.first Unmarked k.scopes) (flat_map (operand_part k.scopes) c.in-Chain.later) _ (ap (λ y. mentions y (mark_of c.args.mark) k.scopes) c.in-Chain.is ∙ chain_parts c.in-Chain.first c.in-Chain.later (mark_of c.args.mark) k.scopes) (search rules) (search rules)

pub expression-returns-in_err-expression-in-Post-clause-rules : goal.expression-returns-in_err-expression-in-Post-clause-rules
expression-returns-in_err-expression-in-Post-clause-rules t c = let k = c.args.self.now in fails_first k.rules _ (mentions c.in-Post.head Unmarked k.scopes) (links_part (call_mark c.in-Post.head) k.scopes c.in-Post.links) _ c.in_err-expression-in-Post.field-0.0 (ap (λ y. mentions y (mark_of c.args.mark) k.scopes) c.in-Post.is ∙ post_parts c.in-Post.head c.in-Post.links (mark_of c.args.mark) k.scopes) (search rules) (search rules)

pub expression-returns-in_ok-expression-in-Post-clause-rules : goal.expression-returns-in_ok-expression-in-Post-clause-rules
expression-returns-in_ok-expression-in-Post-clause-rules t c = let k = c.args.self.now in second k.rules _ (mentions c.in-Post.head Unmarked k.scopes) (links_part (call_mark c.in-Post.head) k.scopes c.in-Post.links) _ (ap (λ y. mentions y (mark_of c.args.mark) k.scopes) c.in-Post.is ∙ post_parts c.in-Post.head c.in-Post.links (mark_of c.args.mark) k.scopes) (search rules) (search rules)

pub expression-returns-in_err-target-in-Assign-clause-rules : goal.expression-returns-in_err-target-in-Assign-clause-rules
expression-returns-in_err-target-in-Assign-clause-rules t c = let k = c.args.self.now in fails_first k.rules _ (target_part k.scopes c.in-Assign.target) (mentions c.in-Assign.value Unmarked k.scopes) _ c.in_err-target-in-Assign.field-0.0 (ap (λ y. mentions y (mark_of c.args.mark) k.scopes) c.in-Assign.is ∙ assign_parts c.in-Assign.field-0 c.in-Assign.target c.in-Assign.value (mark_of c.args.mark) k.scopes) (search rules) (search rules)

pub expression-returns-in_ok-target-in-Assign-clause-rules : goal.expression-returns-in_ok-target-in-Assign-clause-rules
expression-returns-in_ok-target-in-Assign-clause-rules t c = let k = c.args.self.now in second k.rules _ (target_part k.scopes c.in-Assign.target) (mentions c.in-Assign.value Unmarked k.scopes) _ (ap (λ y. mentions y (mark_of c.args.mark) k.scopes) c.in-Assign.is ∙ assign_parts c.in-Assign.field-0 c.in-Assign.target c.in-Assign.value (mark_of c.args.mark) k.scopes) (search rules) (search rules)

pub expression-returns-in_err-expression-in-Cond-clause-rules : goal.expression-returns-in_err-expression-in-Cond-clause-rules
expression-returns-in_err-expression-in-Cond-clause-rules t c = let k = c.args.self.now in fails_first k.rules _ (mentions c.in-Cond.test Unmarked k.scopes) (mentions c.in-Cond.yes Unmarked k.scopes ++ mentions c.in-Cond.no Unmarked k.scopes) _ c.in_err-expression-in-Cond.field-0.0 (ap (λ y. mentions y (mark_of c.args.mark) k.scopes) c.in-Cond.is ∙ choice_parts c.in-Cond.test c.in-Cond.yes c.in-Cond.no (mark_of c.args.mark) k.scopes) (search rules) (search rules)

pub expression-returns-in_err-expression-in-Cond-2-clause-rules : goal.expression-returns-in_err-expression-in-Cond-2-clause-rules
expression-returns-in_err-expression-in-Cond-2-clause-rules t c = let k = c.args.self.now in fails_second k.rules _ (mentions c.in-Cond.test Unmarked k.scopes) (mentions c.in-Cond.yes Unmarked k.scopes) (mentions c.in-Cond.no Unmarked k.scopes) _ c.in_err-expression-in-Cond-2.field-0.0 (ap (λ y. mentions y (mark_of c.args.mark) k.scopes) c.in-Cond.is ∙ choice_parts c.in-Cond.test c.in-Cond.yes c.in-Cond.no (mark_of c.args.mark) k.scopes) (search rules) (search rules) (search rules)

pub expression-returns-in_ok-expression-in-Cond-2-clause-rules : goal.expression-returns-in_ok-expression-in-Cond-2-clause-rules
expression-returns-in_ok-expression-in-Cond-2-clause-rules t c = let k = c.args.self.now in third k.rules _ (mentions c.in-Cond.test Unmarked k.scopes) (mentions c.in-Cond.yes Unmarked k.scopes) (mentions c.in-Cond.no Unmarked k.scopes) _ (ap (λ y. mentions y (mark_of c.args.mark) k.scopes) c.in-Cond.is ∙ choice_parts c.in-Cond.test c.in-Cond.yes c.in-Cond.no (mark_of c.args.mark) k.scopes) (search rules) (search rules) (search rules)

pub expressions-returns-in_err-expression-clause-rules : goal.expressions-returns-in_err-expression-clause-rules
expressions-returns-in_err-expression-clause-rules t c =
    stopped (breaches c.loop-x.self.rules (part_of (mark_of c.args.mark) c.loop-x.self.scopes c.x-item.result)) _ _ _ c.in_err-expression.field-0.0 (next c.loop-x.self.rules (part_of (mark_of c.args.mark) c.loop-x.self.scopes) c.args.xs.now c.loop-x.x-index c.x-item.result c.loop-x-test.true c.x-item.is ∙ c.loop-x.invariant.rules) (search rules) (search rules)

pub expressions-loop-x-preserved : goal.expressions-loop-x-preserved
expressions-loop-x-preserved t c = record {
  rules = ap (λ k. breaches k.rules (flat_map (part_of (mark_of c.args.mark) k.scopes) (drop (c.loop-x.x-index + 1) c.args.xs.now))) c.in_ok-expression.ensures.kept
      ∙ behind_one (breaches c.loop-x.self.rules (part_of (mark_of c.args.mark) c.loop-x.self.scopes c.x-item.result)) _ _ (next c.loop-x.self.rules (part_of (mark_of c.args.mark) c.loop-x.self.scopes) c.args.xs.now c.loop-x.x-index c.x-item.result c.loop-x-test.true c.x-item.is) (none _ c.in_ok-expression.ensures.rules) ∙ c.loop-x.invariant.rules;
  kept = c.in_ok-expression.ensures.kept ∙ c.loop-x.invariant.kept;
}

pub expressions-returns-clause-rules : goal.expressions-returns-clause-rules
expressions-returns-clause-rules t c = over c.loop-x.self.rules (flat_map (part_of (mark_of c.args.mark) c.loop-x.self.scopes)) c.args.xs.now c.loop-x.x-index _ refl c.loop-x-test.false c.loop-x.invariant.rules

pub fields-returns-in_err-expression-clause-rules : goal.fields-returns-in_err-expression-clause-rules
fields-returns-in_err-expression-clause-rules t c =
    stopped (breaches c.loop-field.self.rules (field_part c.loop-field.self.scopes c.field-item.result)) _ _ _ c.in_err-expression.field-0.0 (next c.loop-field.self.rules (field_part c.loop-field.self.scopes) c.args.fields.now c.loop-field.field-index c.field-item.result c.loop-field-test.true c.field-item.is ∙ c.loop-field.invariant.rules) (search rules) (search rules)

pub fields-loop-field-preserved : goal.fields-loop-field-preserved
fields-loop-field-preserved t c = record {
  rules = ap (λ k. breaches k.rules (flat_map (field_part k.scopes) (drop (c.loop-field.field-index + 1) c.args.fields.now))) c.in_ok-expression.ensures.kept
      ∙ behind_one (breaches c.loop-field.self.rules (field_part c.loop-field.self.scopes c.field-item.result)) _ _ (next c.loop-field.self.rules (field_part c.loop-field.self.scopes) c.args.fields.now c.loop-field.field-index c.field-item.result c.loop-field-test.true c.field-item.is) (none _ c.in_ok-expression.ensures.rules) ∙ c.loop-field.invariant.rules;
  kept = c.in_ok-expression.ensures.kept ∙ c.loop-field.invariant.kept;
}

pub fields-returns-clause-rules : goal.fields-returns-clause-rules
fields-returns-clause-rules t c = over c.loop-field.self.rules (flat_map (field_part c.loop-field.self.scopes)) c.args.fields.now c.loop-field.field-index _ refl c.loop-field-test.false c.loop-field.invariant.rules

pub attributes-returns-in_err-expression-clause-rules : goal.attributes-returns-in_err-expression-clause-rules
attributes-returns-in_err-expression-clause-rules t c =
    stopped (breaches c.loop-attribute.self.rules (attribute_part c.loop-attribute.self.scopes c.attribute-item.result)) _ _ _ c.in_err-expression.field-0.0 (next c.loop-attribute.self.rules (attribute_part c.loop-attribute.self.scopes) c.args.attributes.now c.loop-attribute.attribute-index c.attribute-item.result c.loop-attribute-test.true c.attribute-item.is ∙ c.loop-attribute.invariant.rules) (search rules) (search rules)

pub attributes-loop-attribute-preserved : goal.attributes-loop-attribute-preserved
attributes-loop-attribute-preserved t c = record {
  rules = ap (λ k. breaches k.rules (flat_map (attribute_part k.scopes) (drop (c.loop-attribute.attribute-index + 1) c.args.attributes.now))) c.in_ok-expression.ensures.kept
      ∙ behind_one (breaches c.loop-attribute.self.rules (attribute_part c.loop-attribute.self.scopes c.attribute-item.result)) _ _ (next c.loop-attribute.self.rules (attribute_part c.loop-attribute.self.scopes) c.args.attributes.now c.loop-attribute.attribute-index c.attribute-item.result c.loop-attribute-test.true c.attribute-item.is) (none _ (search rules)) ∙ c.loop-attribute.invariant.rules;
  kept = c.in_ok-expression.ensures.kept ∙ c.loop-attribute.invariant.kept;
}

pub attributes-returns-clause-rules : goal.attributes-returns-clause-rules
attributes-returns-clause-rules t c = over c.loop-attribute.self.rules (flat_map (attribute_part c.loop-attribute.self.scopes)) c.args.attributes.now c.loop-attribute.attribute-index _ refl c.loop-attribute-test.false c.loop-attribute.invariant.rules

pub operands-returns-in_err-expression-clause-rules : goal.operands-returns-in_err-expression-clause-rules
operands-returns-in_err-expression-clause-rules t c =
    stopped (breaches c.loop-operand.self.rules (operand_part c.loop-operand.self.scopes c.operand-item.result)) _ _ _ c.in_err-expression.field-0.0 (next c.loop-operand.self.rules (operand_part c.loop-operand.self.scopes) c.args.operands.now c.loop-operand.operand-index c.operand-item.result c.loop-operand-test.true c.operand-item.is ∙ c.loop-operand.invariant.rules) (search rules) (search rules)

pub operands-loop-operand-preserved : goal.operands-loop-operand-preserved
operands-loop-operand-preserved t c = record {
  rules = ap (λ k. breaches k.rules (flat_map (operand_part k.scopes) (drop (c.loop-operand.operand-index + 1) c.args.operands.now))) c.in_ok-expression.ensures.kept
      ∙ behind_one (breaches c.loop-operand.self.rules (operand_part c.loop-operand.self.scopes c.operand-item.result)) _ _ (next c.loop-operand.self.rules (operand_part c.loop-operand.self.scopes) c.args.operands.now c.loop-operand.operand-index c.operand-item.result c.loop-operand-test.true c.operand-item.is) (none _ c.in_ok-expression.ensures.rules) ∙ c.loop-operand.invariant.rules;
  kept = c.in_ok-expression.ensures.kept ∙ c.loop-operand.invariant.kept;
}

pub operands-returns-clause-rules : goal.operands-returns-clause-rules
operands-returns-clause-rules t c = over c.loop-operand.self.rules (flat_map (operand_part c.loop-operand.self.scopes)) c.args.operands.now c.loop-operand.operand-index _ refl c.loop-operand-test.false c.loop-operand.invariant.rules

pub links-returns-in_err-link-clause-rules : goal.links-returns-in_err-link-clause-rules
links-returns-in_err-link-clause-rules t c =
    stopped (breaches c.loop-link.self.rules (link_part (mark_of c.loop-link.mark) c.loop-link.self.scopes c.link-item.result)) _ _ _ c.in_err-link.field-0.0 (next_link c.loop-link.self.rules (mark_of c.loop-link.mark) c.loop-link.self.scopes c.args.links.now c.loop-link.link-index c.link-item.result c.loop-link-test.true c.link-item.is ∙ c.loop-link.invariant.rules) (search rules) (search rules)

pub links-loop-link-preserved : goal.links-loop-link-preserved
links-loop-link-preserved t c = record {
  rules = ap (λ k. breaches k.rules (links_part Unmarked k.scopes (drop (c.loop-link.link-index + 1) c.args.links.now))) c.in_ok-link.ensures.kept
      ∙ behind_one _ _ _ (next_link c.loop-link.self.rules (mark_of c.loop-link.mark) c.loop-link.self.scopes c.args.links.now c.loop-link.link-index c.link-item.result c.loop-link-test.true c.link-item.is) (none _ c.in_ok-link.ensures.rules) ∙ c.loop-link.invariant.rules;
  kept = c.in_ok-link.ensures.kept ∙ c.loop-link.invariant.kept;
}

pub links-returns-clause-rules : goal.links-returns-clause-rules
links-returns-clause-rules t c = over c.loop-link.self.rules (links_part (mark_of c.loop-link.mark) c.loop-link.self.scopes) c.args.links.now c.loop-link.link-index _ refl c.loop-link-test.false c.loop-link.invariant.rules

pub link-returns-in-Call-clause-rules : goal.link-returns-in-Call-clause-rules
link-returns-in-Call-clause-rules t c = let k = c.args.self.now in alike k.rules _ _ _ (ap (λ y. link_part (mark_of c.args.mark) k.scopes y) c.in-Call.is ∙ call_parts c.in-Call.values (mark_of c.args.mark) k.scopes) (search rules)

pub markup-returns-in_err-tag-clause-rules : goal.markup-returns-in_err-tag-clause-rules
markup-returns-in_err-tag-clause-rules t c = let k = c.args.self.now in fails_first k.rules _ (tag_mentions (out-Jsx c.args.jsx.now).tag k.scopes) (flat_map (attribute_part k.scopes) (out-Jsx c.args.jsx.now).attrs ++ flat_map (part_of Unmarked k.scopes) (out-Jsx c.args.jsx.now).children) _ c.in_err-tag.field-0.0 (element_parts c.args.jsx.now k.scopes) (search rules) (search rules)

pub markup-returns-in_err-attributes-clause-rules : goal.markup-returns-in_err-attributes-clause-rules
markup-returns-in_err-attributes-clause-rules t c = let k = c.args.self.now in fails_second k.rules _ (tag_mentions (out-Jsx c.args.jsx.now).tag k.scopes) (flat_map (attribute_part k.scopes) (out-Jsx c.args.jsx.now).attrs) (flat_map (part_of Unmarked k.scopes) (out-Jsx c.args.jsx.now).children) _ c.in_err-attributes.field-0.0 (element_parts c.args.jsx.now k.scopes) (search rules) (search rules) (search rules)

pub markup-returns-clause-rules : goal.markup-returns-clause-rules
markup-returns-clause-rules t c = let k = c.args.self.now in third k.rules _ (tag_mentions (out-Jsx c.args.jsx.now).tag k.scopes) (flat_map (attribute_part k.scopes) (out-Jsx c.args.jsx.now).attrs) (flat_map (part_of Unmarked k.scopes) (out-Jsx c.args.jsx.now).children) _ (element_parts c.args.jsx.now k.scopes) (search rules) (search rules) (search rules)

pub arrow-returns-in_err-parameters-clause-rules : goal.arrow-returns-in_err-parameters-clause-rules
arrow-returns-in_err-parameters-clause-rules t c = let k = c.args.self.now in fails_first k.rules _ (declared_after [] (patterns_names c.args.arrow.now.params)) (body_part (arrow_scope (mark_of c.args.mark) c.args.arrow.now.params c.args.arrow.now.body ∷ k.scopes) c.args.arrow.now.body) _ c.in_err-parameters.field-0.0 refl (search rules) (search rules)

pub arrow-returns-in_err-enter_arrow-clause-rules : goal.arrow-returns-in_err-enter_arrow-clause-rules
arrow-returns-in_err-enter_arrow-clause-rules t c = let k = c.args.self.now in wanted _ _ (search rules)

pub arrow-returns-in_err-body-clause-rules : goal.arrow-returns-in_err-body-clause-rules
arrow-returns-in_err-body-clause-rules t c = let k = c.args.self.now in second k.rules _ (declared_after [] (patterns_names c.args.arrow.now.params)) (body_part (arrow_scope (mark_of c.args.mark) c.args.arrow.now.params c.args.arrow.now.body ∷ k.scopes) c.args.arrow.now.body) _ refl (search rules) (stopped_here _ _ c.in_err-body.field-0.0 (search rules) (search rules))

pub arrow-returns-clause-rules : goal.arrow-returns-clause-rules
arrow-returns-clause-rules t c = let k = c.args.self.now in second k.rules _ (declared_after [] (patterns_names c.args.arrow.now.params)) (body_part (arrow_scope (mark_of c.args.mark) c.args.arrow.now.params c.args.arrow.now.body ∷ k.scopes) c.args.arrow.now.body) _ refl (search rules) (search rules)

pub body-returns-in-Value-clause-rules : goal.body-returns-in-Value-clause-rules
body-returns-in-Value-clause-rules t c = let k = c.args.self.now in alike k.rules _ _ _ (ap (λ y. body_part k.scopes y) c.in-Value.is ∙ value_parts c.in-Value.x k.scopes c.requires.inside) (search rules)

pub body-returns-in-Block-clause-rules : goal.body-returns-in-Block-clause-rules
body-returns-in-Block-clause-rules t c = let k = c.args.self.now in alike k.rules _ _ _ (ap (λ y. body_part k.scopes y) c.in-Block.is ∙ body_parts c.in-Block.statements k.scopes) (search rules)

pub block-returns-in_err-enter_block-clause-rules : goal.block-returns-in_err-enter_block-clause-rules
block-returns-in_err-enter_block-clause-rules t c = let k = c.args.self.now in wanted _ _ (search rules)

pub block-returns-in_err-statements-clause-rules : goal.block-returns-in_err-statements-clause-rules
block-returns-in_err-statements-clause-rules t c = let k = c.args.self.now in stopped_here _ _ c.in_err-statements.field-0.0 (search rules) (search rules)

pub block-returns-clause-rules : goal.block-returns-clause-rules
block-returns-clause-rules t c = let k = c.args.self.now in search rules

pub statements-returns-in_err-statement-clause-rules : goal.statements-returns-in_err-statement-clause-rules
statements-returns-in_err-statement-clause-rules t c =
    stopped (breaches c.loop-statement.self.rules (statement_part c.loop-statement.self.scopes c.statement-item.result)) _ _ _ c.in_err-statement.field-0.0 (next_statement c.loop-statement.self.rules c.loop-statement.self.scopes c.args.statements.now c.loop-statement.statement-index c.statement-item.result c.loop-statement.invariant.inside c.loop-statement-test.true c.statement-item.is ∙ c.loop-statement.invariant.rules) (search rules) (search rules)

pub statements-returns-in_err-pass-clause-rules : goal.statements-returns-in_err-pass-clause-rules
statements-returns-in_err-pass-clause-rules t c = wanted _ _ (search rules)

pub statements-loop-statement-preserved : goal.statements-loop-statement-preserved
statements-loop-statement-preserved t c =
    let same = c.in_ok-statement.ensures.kept in let by = c.in_ok-pass.ensures ∙ ap (λ k. passed c.statement-item.result k.scopes) same in record {
      rules = ap (λ k. breaches k.rules (statements_part c.pass.new.self (drop (c.loop-statement.statement-index + 1) c.args.statements.now))) same
          ∙ ap (λ s. breaches c.loop-statement.self.rules (statements_part s (drop (c.loop-statement.statement-index + 1) c.args.statements.now))) by
          ∙ behind_one _ _ _ (next_statement c.loop-statement.self.rules c.loop-statement.self.scopes c.args.statements.now c.loop-statement.statement-index c.statement-item.result c.loop-statement.invariant.inside c.loop-statement-test.true c.statement-item.is) (none _ c.in_ok-statement.ensures.rules) ∙ c.loop-statement.invariant.rules;
      same = ap (λ k. k.rules) same ∙ c.loop-statement.invariant.same;
      outer = ap (drop 1) by ∙ same_outer c.statement-item.result c.loop-statement.self.scopes ∙ c.loop-statement.invariant.outer;
      inside = subst (λ s. 0 < length s) (sym by) (still_inside c.statement-item.result c.loop-statement.self.scopes c.loop-statement.invariant.inside);
    }

pub statements-returns-clause-rules : goal.statements-returns-clause-rules
statements-returns-clause-rules t c = over c.loop-statement.self.rules (statements_part c.loop-statement.self.scopes) c.args.statements.now c.loop-statement.statement-index _ refl c.loop-statement-test.false c.loop-statement.invariant.rules

pub statement-returns-in-Const-clause-rules : goal.statement-returns-in-Const-clause-rules
statement-returns-in-Const-clause-rules t c = let k = c.args.self.now in alike k.rules _ _ _ (ap (λ y. statement_part k.scopes y) c.in-Const.is ∙ const_parts c.in-Const.pattern c.in-Const.x k.scopes c.requires.inside) (search rules)

pub statement-returns-in-Let-clause-rules : goal.statement-returns-in-Let-clause-rules
statement-returns-in-Let-clause-rules t c = let k = c.args.self.now in alike k.rules _ _ _ (ap (λ y. statement_part k.scopes y) c.in-Let.is ∙ let_parts c.in-Let.name c.in-Let.x k.scopes c.requires.inside) (search rules)

pub statement-returns-in-Do-clause-rules : goal.statement-returns-in-Do-clause-rules
statement-returns-in-Do-clause-rules t c = let k = c.args.self.now in alike k.rules _ _ _ (ap (λ y. statement_part k.scopes y) c.in-Do.is ∙ do_parts c.in-Do.x k.scopes c.requires.inside) (search rules)

pub statement-returns-in-Delete-clause-rules : goal.statement-returns-in-Delete-clause-rules
statement-returns-in-Delete-clause-rules t c = let k = c.args.self.now in alike k.rules _ _ _ (ap (λ y. statement_part k.scopes y) c.in-Delete.is ∙ delete_parts c.in-Delete.x k.scopes c.requires.inside) (search rules)

pub statement-returns-in-Return-clause-rules : goal.statement-returns-in-Return-clause-rules
statement-returns-in-Return-clause-rules t c = let k = c.args.self.now in alike k.rules _ _ _ (ap (λ y. statement_part k.scopes y) c.in-Return.is ∙ return_parts c.in-Return.value k.scopes c.requires.inside) (search rules)

pub statement-returns-in-Block-clause-rules : goal.statement-returns-in-Block-clause-rules
statement-returns-in-Block-clause-rules t c = let k = c.args.self.now in alike k.rules _ _ _ (ap (λ y. statement_part k.scopes y) c.in-Block.is ∙ inner_parts c.in-Block.inside k.scopes c.requires.inside) (search rules)

pub statement-returns-in_err-expression-in-If-clause-rules : goal.statement-returns-in_err-expression-in-If-clause-rules
statement-returns-in_err-expression-in-If-clause-rules t c = let k = c.args.self.now in fails_first k.rules _ (mentions c.in-If.test Unmarked k.scopes) (block_part k.scopes c.in-If.then ++ block_part k.scopes c.in-If.otherwise) _ c.in_err-expression-in-If.field-0.0 (ap (λ y. statement_part k.scopes y) c.in-If.is ∙ if_parts c.in-If.test c.in-If.then c.in-If.otherwise k.scopes c.requires.inside) (search rules) (search rules)

pub statement-returns-in_err-block-in-If-clause-rules : goal.statement-returns-in_err-block-in-If-clause-rules
statement-returns-in_err-block-in-If-clause-rules t c = let k = c.args.self.now in fails_second k.rules _ (mentions c.in-If.test Unmarked k.scopes) (block_part k.scopes c.in-If.then) (block_part k.scopes c.in-If.otherwise) _ c.in_err-block-in-If.field-0.0 (ap (λ y. statement_part k.scopes y) c.in-If.is ∙ if_parts c.in-If.test c.in-If.then c.in-If.otherwise k.scopes c.requires.inside) (search rules) (search rules) (search rules)

pub statement-returns-in_ok-block-in-If-clause-rules : goal.statement-returns-in_ok-block-in-If-clause-rules
statement-returns-in_ok-block-in-If-clause-rules t c = let k = c.args.self.now in third k.rules _ (mentions c.in-If.test Unmarked k.scopes) (block_part k.scopes c.in-If.then) (block_part k.scopes c.in-If.otherwise) _ (ap (λ y. statement_part k.scopes y) c.in-If.is ∙ if_parts c.in-If.test c.in-If.then c.in-If.otherwise k.scopes c.requires.inside) (search rules) (search rules) (search rules)

pub statement-returns-in_err-expression-in-While-clause-rules : goal.statement-returns-in_err-expression-in-While-clause-rules
statement-returns-in_err-expression-in-While-clause-rules t c = let k = c.args.self.now in fails_first k.rules _ (mentions c.in-While.test Unmarked k.scopes) (block_part k.scopes c.in-While.inside) _ c.in_err-expression-in-While.field-0.0 (ap (λ y. statement_part k.scopes y) c.in-While.is ∙ while_parts c.in-While.test c.in-While.inside k.scopes c.requires.inside) (search rules) (search rules)

pub statement-returns-in_ok-expression-in-While-clause-rules : goal.statement-returns-in_ok-expression-in-While-clause-rules
statement-returns-in_ok-expression-in-While-clause-rules t c = let k = c.args.self.now in second k.rules _ (mentions c.in-While.test Unmarked k.scopes) (block_part k.scopes c.in-While.inside) _ (ap (λ y. statement_part k.scopes y) c.in-While.is ∙ while_parts c.in-While.test c.in-While.inside k.scopes c.requires.inside) (search rules) (search rules)

pub constant-returns-in_err-pattern-clause-rules : goal.constant-returns-in_err-pattern-clause-rules
constant-returns-in_err-pattern-clause-rules t c = let k = c.args.self.now in fails_first k.rules _ (declared_after (own k.scopes).ended (pattern_names c.args.pattern.now)) (mentions c.args.x.now Unmarked k.scopes) _ c.in_err-pattern.field-0.0 refl (search rules) (search rules)

pub constant-returns-clause-rules : goal.constant-returns-clause-rules
constant-returns-clause-rules t c = let k = c.args.self.now in second k.rules _ (declared_after (own k.scopes).ended (pattern_names c.args.pattern.now)) (mentions c.args.x.now Unmarked k.scopes) _ refl (search rules) (search rules)

pub variable-returns-in_err-declared-clause-rules : goal.variable-returns-in_err-declared-clause-rules
variable-returns-in_err-declared-clause-rules t c = let k = c.args.self.now in fails_first k.rules _ (Declares c.args.name.now (own k.scopes).ended ∷ []) (mentions c.args.x.now Unmarked k.scopes) _ c.in_err-declared.field-0.0 refl (search rules) (search rules)

pub variable-returns-clause-rules : goal.variable-returns-clause-rules
variable-returns-clause-rules t c = let k = c.args.self.now in second k.rules _ (Declares c.args.name.now (own k.scopes).ended ∷ []) (mentions c.args.x.now Unmarked k.scopes) _ refl (search rules) (search rules)

pub statement-returns-in_err-declared_alone-in-ForOf-clause-rules : goal.statement-returns-in_err-declared_alone-in-ForOf-clause-rules
statement-returns-in_err-declared_alone-in-ForOf-clause-rules t c = let k = c.args.self.now in fails_first k.rules _ (Declares c.in-ForOf.name [] ∷ []) (mentions c.in-ForOf.x Unmarked (for_of c.in-ForOf.name false ∷ k.scopes) ++ block_part (for_of c.in-ForOf.name true ∷ k.scopes) c.in-ForOf.inside) _ c.in_err-declared_alone-in-ForOf.field-0.0 (ap (λ y. statement_part k.scopes y) c.in-ForOf.is ∙ for_parts c.in-ForOf.name c.in-ForOf.x c.in-ForOf.inside k.scopes c.requires.inside) (search rules) (search rules)

pub statement-returns-in_err-list_of-in-ForOf-clause-rules : goal.statement-returns-in_err-list_of-in-ForOf-clause-rules
statement-returns-in_err-list_of-in-ForOf-clause-rules t c = let k = c.args.self.now in fails_second k.rules _ (Declares c.in-ForOf.name [] ∷ []) (mentions c.in-ForOf.x Unmarked (for_of c.in-ForOf.name false ∷ k.scopes)) (block_part (for_of c.in-ForOf.name true ∷ k.scopes) c.in-ForOf.inside) _ c.in_err-list_of-in-ForOf.field-0.0 (ap (λ y. statement_part k.scopes y) c.in-ForOf.is ∙ for_parts c.in-ForOf.name c.in-ForOf.x c.in-ForOf.inside k.scopes c.requires.inside) (search rules) (search rules) (search rules)

pub statement-returns-in_ok-list_of-in-ForOf-clause-rules : goal.statement-returns-in_ok-list_of-in-ForOf-clause-rules
statement-returns-in_ok-list_of-in-ForOf-clause-rules t c = let k = c.args.self.now in third k.rules _ (Declares c.in-ForOf.name [] ∷ []) (mentions c.in-ForOf.x Unmarked (for_of c.in-ForOf.name false ∷ k.scopes)) (block_part (for_of c.in-ForOf.name true ∷ k.scopes) c.in-ForOf.inside) _ (ap (λ y. statement_part k.scopes y) c.in-ForOf.is ∙ for_parts c.in-ForOf.name c.in-ForOf.x c.in-ForOf.inside k.scopes c.requires.inside) (search rules) (search rules) (search rules)

pub list_of-returns-in_err-enter_for-clause-rules : goal.list_of-returns-in_err-enter_for-clause-rules
list_of-returns-in_err-enter_for-clause-rules t c = let k = c.args.self.now in wanted _ _ (search rules)

pub list_of-returns-in_err-expression-clause-rules : goal.list_of-returns-in_err-expression-clause-rules
list_of-returns-in_err-expression-clause-rules t c = let k = c.args.self.now in stopped_here _ _ c.in_err-expression.field-0.0 (search rules) (search rules)

pub list_of-returns-clause-rules : goal.list_of-returns-clause-rules
list_of-returns-clause-rules t c = let k = c.args.self.now in search rules

pub block_of-returns-in_err-enter_for-clause-rules : goal.block_of-returns-in_err-enter_for-clause-rules
block_of-returns-in_err-enter_for-clause-rules t c = let k = c.args.self.now in wanted _ _ (search rules)

pub block_of-returns-in_err-block-clause-rules : goal.block_of-returns-in_err-block-clause-rules
block_of-returns-in_err-block-clause-rules t c = let k = c.args.self.now in stopped_here _ _ c.in_err-block.field-0.0 (search rules) (search rules)

pub block_of-returns-clause-rules : goal.block_of-returns-clause-rules
block_of-returns-clause-rules t c = let k = c.args.self.now in search rules

pub arrow-returns-clause-kept : goal.arrow-returns-clause-kept
arrow-returns-clause-kept t c = left c.args.self.now c.body.new.self.rules c.leave.new.self c.in_ok-body.ensures.same (c.leave.ensures ∙ c.in_ok-body.ensures.outer ∙ ap (drop 1) c.in_ok-enter_arrow.ensures)

pub block-returns-clause-kept : goal.block-returns-clause-kept
block-returns-clause-kept t c = left c.args.self.now c.statements.new.self.rules c.leave.new.self c.in_ok-statements.ensures.same (c.leave.ensures ∙ c.in_ok-statements.ensures.outer ∙ ap (drop 1) c.in_ok-enter_block.ensures)

pub list_of-returns-clause-kept : goal.list_of-returns-clause-kept
list_of-returns-clause-kept t c = let same = c.in_ok-expression.ensures.kept in left c.args.self.now c.expression.new.self.rules c.leave.new.self (ap (λ k. k.rules) same) (c.leave.ensures ∙ ap (λ k. drop 1 k.scopes) same ∙ ap (drop 1) c.in_ok-enter_for.ensures)

pub block_of-returns-clause-kept : goal.block_of-returns-clause-kept
block_of-returns-clause-kept t c = let same = c.in_ok-block.ensures.kept in left c.args.self.now c.block.new.self.rules c.leave.new.self (ap (λ k. k.rules) same) (c.leave.ensures ∙ ap (λ k. drop 1 k.scopes) same ∙ ap (drop 1) c.in_ok-enter_for.ensures)

pub body-returns-in-Value-clause-same : goal.body-returns-in-Value-clause-same
body-returns-in-Value-clause-same t c = on_ok c.expression.result (λ same. ap (λ k. k.rules) same) c.expression.ensures.kept

pub body-returns-in-Value-clause-outer : goal.body-returns-in-Value-clause-outer
body-returns-in-Value-clause-outer t c = on_ok c.expression.result (λ same. ap (λ k. drop 1 k.scopes) same) c.expression.ensures.kept
