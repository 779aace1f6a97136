use Rattle.std.proofs.Common.{rules, refl}
use Rattle.qk_ast.specs.Spots.{Root_value}
use Rattle.qk_rules.specs.Parts.{of_item, of_expression}
use Rattle.qk_rules.specs.Walking.{place}
use Rattle.qk_rules.proofs.Answering.{stops, goes_on}
use Rattle.qk_rules.proofs.walk.Walk.item.Goals as goal

pub returns-in_err-item_told-clause-answers : goal.returns-in_err-item_told-clause-answers
unfolding of_item place
returns-in_err-item_told-clause-answers c = stops (of_expression (place c.args.self.now) Root_value c.args.item.now.init) refl c.in_err-item_told.ensures (search rules)

pub returns-clause-answers : goal.returns-clause-answers
unfolding of_item place
returns-clause-answers c = goes_on refl c.in_ok-item_told.ensures c.expression.ensures.answers
