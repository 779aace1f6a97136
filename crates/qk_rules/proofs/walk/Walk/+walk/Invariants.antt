use Rattle.std.specs.Prelude.{◌≡◌, [], None, drop, flat_map}
use Rattle.qk_rules.specs.Standings.{standing_of}
use Rattle.qk_rules.specs.Parts.{of_expression, of_field, of_operand, of_link, of_statements, of_attributes}
use Rattle.qk_rules.specs.Walking.{place}
use Rattle.qk_rules.proofs.walk.Walk.+walk.Given as goal

abbrev pub invariant-expressions-loop-x : goal.invariant-expressions-loop-x
invariant-expressions-loop-x l = record {
  past : flat_map (of_expression (place l.fn.self) (standing_of l.standing)) (drop l.x-index l.xs) ≡ flat_map (of_expression (place l.fn.self) (standing_of l.standing)) l.xs;
  kept : l.self ≡ l.fn.self;
}

abbrev pub invariant-arguments-loop-x : goal.invariant-arguments-loop-x
invariant-arguments-loop-x l = record {
  past : flat_map (of_expression (place l.fn.self) (standing_of l.behind)) (drop l.x-index l.later) ≡ flat_map (of_expression (place l.fn.self) (standing_of l.behind)) l.later;
  kept : l.self ≡ l.fn.self;
}

abbrev pub invariant-fields-loop-field : goal.invariant-fields-loop-field
invariant-fields-loop-field l = record {
  past : flat_map (of_field (place l.fn.self)) (drop l.field-index l.fields) ≡ flat_map (of_field (place l.fn.self)) l.fields;
  kept : l.self ≡ l.fn.self;
}

abbrev pub invariant-operands-loop-operand : goal.invariant-operands-loop-operand
invariant-operands-loop-operand l = record {
  past : flat_map (of_operand (place l.fn.self)) (drop l.operand-index l.operands) ≡ flat_map (of_operand (place l.fn.self)) l.operands;
  kept : l.self ≡ l.fn.self;
}

abbrev pub invariant-links-loop-link : goal.invariant-links-loop-link
invariant-links-loop-link l = record {
  past : flat_map (of_link (place l.fn.self) None) (drop l.link-index l.later) ≡ flat_map (of_link (place l.fn.self) None) l.later;
  kept : l.self ≡ l.fn.self;
}

abbrev pub invariant-attributes-loop-attribute : goal.invariant-attributes-loop-attribute
invariant-attributes-loop-attribute l = record {
  past : of_attributes (place l.fn.self) l.tag l.earlier (drop l.attribute-index l.attributes) ≡ of_attributes (place l.fn.self) l.tag [] l.attributes;
  kept : l.self ≡ l.fn.self;
}

abbrev pub invariant-statements-loop-statement : goal.invariant-statements-loop-statement
invariant-statements-loop-statement l = record {
  past : of_statements (place l.fn.self) l.hooks (drop l.statement-index l.statements) ≡ of_statements (place l.fn.self) l.first l.statements;
  kept : l.self ≡ l.fn.self;
}
