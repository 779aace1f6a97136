use Rattle.std.specs.Prelude.{◌≡◌, ◌<◌, drop, flat_map, length}
use Rattle.qk_locals.specs.Meanings.{mark_of}
use Rattle.qk_scope.specs.Answering.{broken}
use Rattle.qk_scope.specs.Parts.{part_of, field_part, attribute_part, operand_part, links_part, statements_part}
use Rattle.qk_scope.proofs.keeper.Keeper.+walk.Given as goal

abbrev pub invariant-expressions-loop-x : goal.invariant-expressions-loop-x
invariant-expressions-loop-x l = record {
  rules : broken l.self (λ scopes. flat_map (part_of (mark_of l.mark) scopes) (drop l.x-index l.xs)) ≡ broken l.initial.self (λ scopes. flat_map (part_of (mark_of l.mark) scopes) l.xs);
  kept : l.self ≡ l.initial.self;
}

abbrev pub invariant-fields-loop-field : goal.invariant-fields-loop-field
invariant-fields-loop-field l = record {
  rules : broken l.self (λ scopes. flat_map (field_part scopes) (drop l.field-index l.fields)) ≡ broken l.initial.self (λ scopes. flat_map (field_part scopes) l.fields);
  kept : l.self ≡ l.initial.self;
}

abbrev pub invariant-attributes-loop-attribute : goal.invariant-attributes-loop-attribute
invariant-attributes-loop-attribute l = record {
  rules : broken l.self (λ scopes. flat_map (attribute_part scopes) (drop l.attribute-index l.attributes)) ≡ broken l.initial.self (λ scopes. flat_map (attribute_part scopes) l.attributes);
  kept : l.self ≡ l.initial.self;
}

abbrev pub invariant-operands-loop-operand : goal.invariant-operands-loop-operand
invariant-operands-loop-operand l = record {
  rules : broken l.self (λ scopes. flat_map (operand_part scopes) (drop l.operand-index l.operands)) ≡ broken l.initial.self (λ scopes. flat_map (operand_part scopes) l.operands);
  kept : l.self ≡ l.initial.self;
}

abbrev pub invariant-links-loop-link : goal.invariant-links-loop-link
invariant-links-loop-link l = record {
  rules : broken l.self (λ scopes. links_part (mark_of l.mark) scopes (drop l.link-index l.links)) ≡ broken l.initial.self (λ scopes. links_part (mark_of l.initial.mark) scopes l.links);
  kept : l.self ≡ l.initial.self;
}

abbrev pub invariant-statements-loop-statement : goal.invariant-statements-loop-statement
invariant-statements-loop-statement l = record {
  rules : broken l.self (λ scopes. statements_part scopes (drop l.statement-index l.statements)) ≡ broken l.initial.self (λ scopes. statements_part scopes l.statements);
  same : l.self.rules ≡ l.initial.self.rules;
  outer : drop 1 l.self.scopes ≡ drop 1 l.initial.self.scopes;
  inside : 0 < length l.self.scopes;
}
