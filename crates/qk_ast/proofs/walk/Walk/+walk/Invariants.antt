use Rattle.std.specs.Prelude.{◌≡◌, drop, flat_map}
use Rattle.qk_ast.specs.Uses.{uses, statement_uses}
use Rattle.qk_ast.specs.Walking.{field_use, operand_use, link_use, behind}
use Rattle.qk_ast.proofs.walk.Walk.+walk.Given as goal

abbrev pub invariant-expressions-loop-x : goal.invariant-expressions-loop-x
invariant-expressions-loop-x l = behind (flat_map uses (drop l.x-index l.xs)) l.self ≡ behind (flat_map uses l.xs) l.initial.self

abbrev pub invariant-fields-loop-field : goal.invariant-fields-loop-field
invariant-fields-loop-field l = behind (flat_map field_use (drop l.field-index l.fields)) l.self ≡ behind (flat_map field_use l.fields) l.initial.self

abbrev pub invariant-operands-loop-operand : goal.invariant-operands-loop-operand
invariant-operands-loop-operand l = behind (flat_map operand_use (drop l.operand-index l.operands)) l.self ≡ behind (flat_map operand_use l.operands) l.initial.self

abbrev pub invariant-links-loop-link : goal.invariant-links-loop-link
invariant-links-loop-link l = behind (flat_map link_use (drop l.link-index l.links)) l.self ≡ behind (flat_map link_use l.links) l.initial.self

abbrev pub invariant-statements-loop-statement : goal.invariant-statements-loop-statement
invariant-statements-loop-statement l = behind (flat_map statement_uses (drop l.statement-index l.statements)) l.self ≡ behind (flat_map statement_uses l.statements) l.initial.self
