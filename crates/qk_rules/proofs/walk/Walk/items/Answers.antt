use Rattle.std.proofs.Common.{rules, refl, flat_map, ◌∙◌}
use Rattle.qk_rules.specs.Parts.{of_item}
use Rattle.qk_rules.specs.Walking.{place}
use Rattle.qk_rules.proofs.Answering.{stops_at, past_item, at_end, as_before}
use Rattle.qk_rules.proofs.walk.Walk.items.Goals as goal

pub returns-in_err-item-clause-answers : goal.returns-in_err-item-clause-answers
returns-in_err-item-clause-answers c = let F = flat_map (of_item (place c.args.self.now)) in
    stops_at F F (of_item (place c.args.self.now) c.item-item.result) (F c.args.items.now) c.args.items.now c.loop-item.item-index c.item-item.result (λ rest. refl) c.loop-item-test.true c.item-item.is c.loop-item.invariant.past
    c.from_residual.result c.in_err-item.field-0.0 (as_before (λ w. of_item (place w) c.item-item.result) c.loop-item.invariant.kept c.in_err-item.ensures.answers) (search rules)

pub loop-item-preserved : goal.loop-item-preserved
loop-item-preserved c = let F = flat_map (of_item (place c.args.self.now)) in record {
  past = past_item F F (of_item (place c.args.self.now) c.item-item.result) (F c.args.items.now) c.args.items.now c.loop-item.item-index c.item-item.result (λ rest. refl) c.loop-item-test.true c.item-item.is
      (as_before (λ w. of_item (place w) c.item-item.result) c.loop-item.invariant.kept c.in_ok-item.ensures.answers) c.loop-item.invariant.past;
  kept = c.in_ok-item.ensures.kept ∙ c.loop-item.invariant.kept;
}

pub returns-clause-answers : goal.returns-clause-answers
returns-clause-answers c = let F = flat_map (of_item (place c.args.self.now)) in
    at_end F (F c.args.items.now) c.args.items.now c.loop-item.item-index refl c.loop-item-test.false c.loop-item.invariant.past
