use Rattle.std.specs.Prelude.{◌≡◌, ◌++◌, None, map, flat_map, drop, codes}
use Rattle.qk_print.specs.Growing.{Begins}
use Rattle.qk_print.specs.Letters.{parts_and_holes}
use Rattle.qk_print.specs.Printing.{expression_text, statement_text, link_text, operand_text, operands_text, field_text, attribute_text, child_text, hole_text}
use Rattle.qk_print.specs.Lists.{printed_of, keyed_of, operated_of}
use Rattle.qk_print.proofs.+printing.Given as goal

abbrev pub invariant-elements::attributes-loop-one : goal.invariant-elements::attributes-loop-one
invariant-elements::attributes-loop-one l = record {
  done : l.out.items ++ flat_map (λ t. t) (map attribute_text (map keyed_of (drop l.one-index l.attributes))) ≡ l.initial.out.items ++ flat_map (λ t. t) (map attribute_text (map keyed_of l.attributes));
  front : Begins l.fn.out.items l.out.items;
}

abbrev pub invariant-elements::children-loop-one : goal.invariant-elements::children-loop-one
invariant-elements::children-loop-one l = record {
  done : l.out.items ++ flat_map (λ t. t) (map child_text (map printed_of (drop l.one-index l.children))) ≡ l.initial.out.items ++ flat_map (λ t. t) (map child_text (map printed_of l.children));
  front : Begins l.fn.out.items l.out.items;
}

abbrev pub invariant-expressions::expressions-loop-x : goal.invariant-expressions::expressions-loop-x
invariant-expressions::expressions-loop-x l = record {
  done : l.out.items ++ flat_map (λ t. codes ", " ++ t) (map expression_text (drop l.x-index l.later)) ≡ l.initial.out.items ++ flat_map (λ t. codes ", " ++ t) (map expression_text l.later);
  front : Begins l.fn.out.items l.out.items;
}

abbrev pub invariant-expressions::fields-loop-one : goal.invariant-expressions::fields-loop-one
invariant-expressions::fields-loop-one l = record {
  done : l.out.items ++ flat_map (λ t. codes ", " ++ t) (map field_text (map keyed_of (drop l.one-index l.later))) ≡ l.initial.out.items ++ flat_map (λ t. codes ", " ++ t) (map field_text (map keyed_of l.later));
  front : Begins l.fn.out.items l.out.items;
}

abbrev pub invariant-expressions::links-loop-one : goal.invariant-expressions::links-loop-one
invariant-expressions::links-loop-one l = record {
  done : l.out.items ++ flat_map link_text (drop l.one-index l.links) ≡ l.initial.out.items ++ flat_map link_text l.links;
  front : Begins l.fn.out.items l.out.items;
}

abbrev pub invariant-expressions::operands-loop-at : goal.invariant-expressions::operands-loop-at
invariant-expressions::operands-loop-at l = record {
  done : l.out.items ++ operands_text (map operated_of (drop l.at l.operands)) ≡ l.initial.out.items ++ operands_text (map operated_of l.operands);
  front : Begins l.fn.out.items l.out.items;
}

abbrev pub invariant-expressions::quotient-loop-x : goal.invariant-expressions::quotient-loop-x
invariant-expressions::quotient-loop-x l = record {
  done : l.out.items ++ flat_map (λ t. codes " / " ++ t) (map (operand_text None) (map printed_of (drop l.x-index l.later))) ≡ l.initial.out.items ++ flat_map (λ t. codes " / " ++ t) (map (operand_text None) (map printed_of l.later));
  front : Begins l.fn.out.items l.out.items;
}

abbrev pub invariant-expressions::template-loop-x : goal.invariant-expressions::template-loop-x
invariant-expressions::template-loop-x l = record {
  done : l.out.items ++ parts_and_holes l.left (map hole_text (map printed_of (drop l.x-index l.holes))) ≡ l.fn.out.items ++ parts_and_holes l.parts (map hole_text (map printed_of l.holes));
  front : Begins l.fn.out.items l.out.items;
}

abbrev pub invariant-statements::block-loop-one : goal.invariant-statements::block-loop-one
invariant-statements::block-loop-one l = record {
  done : l.out.items ++ flat_map (λ t. t ++ codes " ") (map statement_text (drop l.one-index l.statements)) ≡ l.initial.out.items ++ flat_map (λ t. t ++ codes " ") (map statement_text l.statements);
  front : Begins l.fn.out.items l.out.items;
}
