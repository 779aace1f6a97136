-- The answers of the cycle: loops.
use Rattle.std.proofs.Common.{rules, arith, refl, ◌≡◌, ◌<◌, ◌-◌, sym, ◌∙◌, ap, true}
use Rattle.std.specs.Prelude.{◌+◌, drop}
use Rattle.std.proofs.lemmas.Bool.{false≢true}
use Rattle.qk_meaning.specs.Value as M
use Rattle.qk_meaning.specs.Program.{captures_in}
use Rattle.qk_meaning.specs.Flow.{repeated, repeated_for}
use Rattle.qk_meaning.specs.In_order.{value_in, block_ran}
use Rattle.qk_meaning.specs.Parts.{without_first}
use Rattle.qk_value.specs.declared.value.Value.{Value}
use Rattle.qk_environment.specs.Scoping.{scope_seen}
use Rattle.qk_eval.specs.Placing.{setting, known}
use Rattle.qk_eval.specs.Lists.{turn_ran}
use Rattle.qk_eval.specs.Seeing.{value_seen, values_seen}
use Rattle.qk_eval.proofs.Growing.{value_adds, each_ran_adds, turns_add, block_adds}
use Rattle.qk_code.proofs.Runs.{ran_then, ran_err, ran_lost, ran_memory, extends_self, spent_self}
use Rattle.qk_eval.proofs.Steps.{ran_any_scope, ran_as}
use Rattle.qk_eval.proofs.Loops.{turn_stuck, turn_err, turn_left, turn_on, while_err, while_done, while_goes, while_ends, repeated_adds, for_from, for_end}
use Rattle.qk_eval.proofs.Expressions.{to_for, to_while}
use Rattle.qk_eval.proofs.Acted.{ran_acts}
use Rattle.qk_eval.proofs.Calling.{ran_turn_of}
use Rattle.qk_eval.proofs.Plain_steps.{is_none}
use Rattle.qk_base.specs.Left.{Left}
use Rattle.qk_eval.proofs.evaluation.+evaluate.Goals as goal

pub run_for-returns-in_err-v : goal.run_for-returns-in_err-v
run_for-returns-in_err-v g t c = to_for _ _ _ (setting c.args.here.now) _ _ _ c.args.name.now c.args.e.now c.args.statements.now (ran_err _ _ _ _ _ _ _ _ _ _ _ (search rules) (λ p x. each_ran_adds c.args.here.now.func.now c.args.here.now.mode c.args.here.now.running.now c.args.here.now.levels p c.args.name.now c.args.statements.now x) c.in_err-v.ensures)

pub run_for-returns-in_err-items : goal.run_for-returns-in_err-items
run_for-returns-in_err-items g t c = to_for _ _ _ (setting c.args.here.now) _ _ _ c.args.name.now c.args.e.now c.args.statements.now (ran_then _ _ _ _ _ _ _ _ _ _ _ _ c.in_ok-v.ensures (ran_err _ _ _ _ _ _ _ _ _ _ _ (search rules) (λ p x. turns_add c.args.here.now.func.now c.args.here.now.mode c.args.here.now.running.now c.args.here.now.levels p c.args.name.now c.args.statements.now x) (ran_acts _ _ _ _ _ _ _ _ _ _ (λ p. refl) (λ p. c.in_err-items.ensures (setting c.args.here.now p)))))

pub run_for-returns : goal.run_for-returns
run_for-returns g t c = to_for _ _ _ (setting c.args.here.now) _ _ _ c.args.name.now c.args.e.now c.args.statements.now (ran_then _ _ _ _ _ _ _ _ _ _ _ _ c.in_ok-v.ensures (ran_then _ _ _ _ _ _ _ _ _ _ _ _ (ran_acts _ _ _ values_seen _ _ _ _ _ _ (λ p. refl) (λ p. c.in_ok-items.ensures (setting c.args.here.now p))) (rw c.as_slice.ensures at c.run_each.ensures)))

pub run_while-loop-v-init : goal.run_while-loop-v-init
run_while-loop-v-init g t c = (c.args.machine.now.meter.turns, omega arith, λ r code left heap scope host k. to_while _ _ _ (setting c.args.here.now) _ _ _ c.args.condition.now c.args.statements.now k)

pub run_while-returns-in_err-v : goal.run_while-returns-in_err-v
run_while-returns-in_err-v g t c = c.loop-v.invariant.2 _ _ _ _ _ _ (while_err _ _ _ (λ p. value_in (setting c.args.here.now p) c.args.condition.now) (λ p. block_ran (setting c.args.here.now p) c.args.statements.now) (λ p. block_adds c.args.here.now.func.now c.args.here.now.mode c.args.here.now.running.now c.args.here.now.levels p c.args.statements.now) (λ p. value_adds c.args.here.now.func.now c.args.here.now.mode c.args.here.now.running.now c.args.here.now.levels p c.args.condition.now) c.loop-v.invariant.0 _ _ _ _ (search rules) c.in_err-v.ensures)

pub run_while-returns-then-not-goes_on : goal.run_while-returns-then-not-goes_on
run_while-returns-then-not-goes_on g t c = c.loop-v.invariant.2 _ _ _ _ _ _ (while_done _ _ _ (λ p. value_in (setting c.args.here.now p) c.args.condition.now) (λ p. block_ran (setting c.args.here.now p) c.args.statements.now) (λ p. block_adds c.args.here.now.func.now c.args.here.now.mode c.args.here.now.running.now c.args.here.now.levels p c.args.statements.now) (λ p. value_adds c.args.here.now.func.now c.args.here.now.mode c.args.here.now.running.now c.args.here.now.levels p c.args.condition.now) c.loop-v.invariant.0 _ _ c.in_ok-v.v (λ p. sym (c.truthy-goes_on.ensures (captures_in p)) ∙ c.if-not-goes_on.true) c.in_ok-v.ensures)

pub run_while-returns-then-not-take : goal.run_while-returns-then-not-take
run_while-returns-then-not-take g t c = let no : 0 < c.value.new.machine.meter.turns → ⊥ = λ h. (let e : c.take.result ≡ true = c.take.ensures.had.1 h in false≢true (sym c.if-not-take.true ∙ e)) in rw (c.take.ensures.kept c.if-not-take.true) (c.loop-v.invariant.2 _ _ _ _ _ _ (while_ends _ _ _ (λ p. value_in (setting c.args.here.now p) c.args.condition.now) (λ p. block_ran (setting c.args.here.now p) c.args.statements.now) (λ p. block_adds c.args.here.now.func.now c.args.here.now.mode c.args.here.now.running.now c.args.here.now.levels p c.args.statements.now) (λ p. value_adds c.args.here.now.func.now c.args.here.now.mode c.args.here.now.running.now c.args.here.now.levels p c.args.condition.now) c.loop-v.invariant.0 _ _ c.in_ok-v.v _ refl (λ p. sym (c.truthy-goes_on.ensures (captures_in p)) ∙ c.if-not-goes_on.false) (omega (arith, no)) c.in_ok-v.ensures))

pub run_while-returns-in_err-flow : goal.run_while-returns-in_err-flow
run_while-returns-in_err-flow g t c = c.loop-v.invariant.2 _ _ _ _ _ _ (while_goes _ _ _ (λ p. value_in (setting c.args.here.now p) c.args.condition.now) (λ p. block_ran (setting c.args.here.now p) c.args.statements.now) (λ p. block_adds c.args.here.now.func.now c.args.here.now.mode c.args.here.now.running.now c.args.here.now.levels p c.args.statements.now) (λ p. value_adds c.args.here.now.func.now c.args.here.now.mode c.args.here.now.running.now c.args.here.now.levels p c.args.condition.now) c.loop-v.invariant.0 _ _ _ c.in_ok-v.v _ (omega (arith, c.in_ok-v.ensures.spent.turns, (c.take.ensures.had.0 c.if-not-take.false), c.loop-v.invariant.1)) (λ p. sym (c.truthy-goes_on.ensures (captures_in p)) ∙ c.if-not-goes_on.false) c.in_ok-v.ensures (turn_err _ _ _ (λ p. block_ran (setting c.args.here.now p) c.args.statements.now) (λ p. repeated (c.loop-v.invariant.0 - 1) (value_in (setting c.args.here.now p) c.args.condition.now) (block_ran (setting c.args.here.now p) c.args.statements.now)) _ _ (c.take.ensures.had.0 c.if-not-take.false) (c.take.ensures.taken c.if-not-take.false) _ _ _ (search rules) (λ p. repeated_adds g.C.Code.form c.args.here.now.hooked (known c.args.here.now) (λ p. value_in (setting c.args.here.now p) c.args.condition.now) (λ p. block_ran (setting c.args.here.now p) c.args.statements.now) (λ p. block_adds c.args.here.now.func.now c.args.here.now.mode c.args.here.now.running.now c.args.here.now.levels p c.args.statements.now) (λ p. value_adds c.args.here.now.func.now c.args.here.now.mode c.args.here.now.running.now c.args.here.now.levels p c.args.condition.now) (c.loop-v.invariant.0 - 1) p) c.in_err-flow.ensures))

pub run_while-returns-in-Some : goal.run_while-returns-in-Some
run_while-returns-in-Some g t c = c.loop-v.invariant.2 _ _ _ _ _ _ (while_goes _ _ _ (λ p. value_in (setting c.args.here.now p) c.args.condition.now) (λ p. block_ran (setting c.args.here.now p) c.args.statements.now) (λ p. block_adds c.args.here.now.func.now c.args.here.now.mode c.args.here.now.running.now c.args.here.now.levels p c.args.statements.now) (λ p. value_adds c.args.here.now.func.now c.args.here.now.mode c.args.here.now.running.now c.args.here.now.levels p c.args.condition.now) c.loop-v.invariant.0 _ _ _ c.in_ok-v.v _ (omega (arith, c.in_ok-v.ensures.spent.turns, (c.take.ensures.had.0 c.if-not-take.false), c.loop-v.invariant.1)) (λ p. sym (c.truthy-goes_on.ensures (captures_in p)) ∙ c.if-not-goes_on.false) c.in_ok-v.ensures (turn_left _ _ _ (λ p. block_ran (setting c.args.here.now p) c.args.statements.now) (λ p. repeated (c.loop-v.invariant.0 - 1) (value_in (setting c.args.here.now p) c.args.condition.now) (block_ran (setting c.args.here.now p) c.args.statements.now)) _ _ (c.take.ensures.had.0 c.if-not-take.false) (c.take.ensures.taken c.if-not-take.false) _ c.in_ok-flow.flow _ (λ p s. (rw c.in-Some.is at c.behind_turn.ensures.left) p _ s) c.in_ok-flow.ensures))

pub run_while-loop-v-preserved : goal.run_while-loop-v-preserved
run_while-loop-v-preserved g t c = (c.loop-v.invariant.0 - 1, omega (arith, c.in_ok-v.ensures.spent.turns, c.in_ok-flow.ensures.spent.turns, (c.take.ensures.had.0 c.if-not-take.false), (ap (λ (m : Left). m.turns) (c.take.ensures.taken c.if-not-take.false)), c.loop-v.invariant.1), λ r code left heap scope host k. c.loop-v.invariant.2 r code left heap scope host (while_goes _ _ _ (λ p. value_in (setting c.args.here.now p) c.args.condition.now) (λ p. block_ran (setting c.args.here.now p) c.args.statements.now) (λ p. block_adds c.args.here.now.func.now c.args.here.now.mode c.args.here.now.running.now c.args.here.now.levels p c.args.statements.now) (λ p. value_adds c.args.here.now.func.now c.args.here.now.mode c.args.here.now.running.now c.args.here.now.levels p c.args.condition.now) c.loop-v.invariant.0 _ _ _ c.in_ok-v.v r (omega (arith, c.in_ok-v.ensures.spent.turns, (c.take.ensures.had.0 c.if-not-take.false), c.loop-v.invariant.1)) (λ p. sym (c.truthy-goes_on.ensures (captures_in p)) ∙ c.if-not-goes_on.false) c.in_ok-v.ensures (turn_on _ _ _ (λ p. block_ran (setting c.args.here.now p) c.args.statements.now) (λ p. repeated (c.loop-v.invariant.0 - 1) (value_in (setting c.args.here.now p) c.args.condition.now) (block_ran (setting c.args.here.now p) c.args.statements.now)) _ _ (c.take.ensures.had.0 c.if-not-take.false) (c.take.ensures.taken c.if-not-take.false) _ _ r c.in_ok-flow.flow (λ p s. (rw (is_none _ c.in_default.not-Some) at c.behind_turn.ensures.on) p _ s) c.in_ok-flow.ensures k)))

pub run_each-loop-item-init : goal.run_each-loop-item-init
run_each-loop-item-init g t c = λ r code left heap scope host k. k

pub run_each-returns-then-not-take : goal.run_each-returns-then-not-take
run_each-returns-then-not-take g t c = let no : 0 < c.loop-item.machine.meter.turns → ⊥ = λ h. (let e : c.take.result ≡ true = c.take.ensures.had.1 h in false≢true (sym c.if-not-take.true ∙ e)) in rw (c.take.ensures.kept c.if-not-take.true) (c.loop-item.invariant _ _ _ _ _ _ (for_from _ _ _ (λ p. turn_ran (setting c.args.here.now p) c.args.name.now c.args.statements.now) c.args.items.now c.loop-item.item-index _ _ _ _ c.loop-item-test.true c.item-item.is (turn_stuck _ _ _ (λ p. turn_ran (setting c.args.here.now p) c.args.name.now c.args.statements.now (value_seen p c.item-item.result)) (λ p. repeated_for (turn_ran (setting c.args.here.now p) c.args.name.now c.args.statements.now) (values_seen p (drop (c.loop-item.item-index + 1) c.args.items.now))) _ _ refl (omega (arith, no)))))

pub run_each-returns-in_err-flow : goal.run_each-returns-in_err-flow
run_each-returns-in_err-flow g t c = c.loop-item.invariant _ _ _ _ _ _ (for_from _ _ _ (λ p. turn_ran (setting c.args.here.now p) c.args.name.now c.args.statements.now) c.args.items.now c.loop-item.item-index _ _ _ _ c.loop-item-test.true c.item-item.is (turn_err _ _ _ (λ p. turn_ran (setting c.args.here.now p) c.args.name.now c.args.statements.now (value_seen p c.item-item.result)) (λ p. repeated_for (turn_ran (setting c.args.here.now p) c.args.name.now c.args.statements.now) (values_seen p (drop (c.loop-item.item-index + 1) c.args.items.now))) _ _ (c.take.ensures.had.0 c.if-not-take.false) (c.take.ensures.taken c.if-not-take.false) _ _ _ (search rules) (λ p. turns_add c.args.here.now.func.now c.args.here.now.mode c.args.here.now.running.now c.args.here.now.levels p c.args.name.now c.args.statements.now _) c.in_err-flow.ensures))

pub run_each-returns-in-Some : goal.run_each-returns-in-Some
run_each-returns-in-Some g t c = c.loop-item.invariant _ _ _ _ _ _ (for_from _ _ _ (λ p. turn_ran (setting c.args.here.now p) c.args.name.now c.args.statements.now) c.args.items.now c.loop-item.item-index _ _ _ _ c.loop-item-test.true c.item-item.is (turn_left _ _ _ (λ p. turn_ran (setting c.args.here.now p) c.args.name.now c.args.statements.now (value_seen p c.item-item.result)) (λ p. repeated_for (turn_ran (setting c.args.here.now p) c.args.name.now c.args.statements.now) (values_seen p (drop (c.loop-item.item-index + 1) c.args.items.now))) _ _ (c.take.ensures.had.0 c.if-not-take.false) (c.take.ensures.taken c.if-not-take.false) _ c.in_ok-flow.flow _ (λ p s. (rw c.in-Some.is at c.behind_turn.ensures.left) p _ s) c.in_ok-flow.ensures))

pub run_each-loop-item-preserved : goal.run_each-loop-item-preserved
run_each-loop-item-preserved g t c = λ r code left heap scope host k. c.loop-item.invariant r code left heap scope host (for_from _ _ _ (λ p. turn_ran (setting c.args.here.now p) c.args.name.now c.args.statements.now) c.args.items.now c.loop-item.item-index _ _ _ r c.loop-item-test.true c.item-item.is (turn_on _ _ _ (λ p. turn_ran (setting c.args.here.now p) c.args.name.now c.args.statements.now (value_seen p c.item-item.result)) (λ p. repeated_for (turn_ran (setting c.args.here.now p) c.args.name.now c.args.statements.now) (values_seen p (drop (c.loop-item.item-index + 1) c.args.items.now))) _ _ (c.take.ensures.had.0 c.if-not-take.false) (c.take.ensures.taken c.if-not-take.false) _ _ r c.in_ok-flow.flow (λ p s. (rw (is_none _ c.in_default.not-Some) at c.behind_turn.ensures.on) p _ s) c.in_ok-flow.ensures k))

pub run_each-returns : goal.run_each-returns
run_each-returns g t c = c.loop-item.invariant _ _ _ _ _ _ (for_end _ _ _ (λ p. turn_ran (setting c.args.here.now p) c.args.name.now c.args.statements.now) c.args.items.now c.loop-item.item-index _ (omega arith))

pub run_turn-returns-in_err-share : goal.run_turn-returns-in_err-share
run_turn-returns-in_err-share g t c = ran_lost _ _ _ _ _ _ _ (search rules)

pub run_turn-returns-in_err-push : goal.run_turn-returns-in_err-push
run_turn-returns-in_err-push g t c = ran_memory _ _ _ _ _ _ _ _ (search rules) (extends_self _) refl (spent_self _)

pub run_turn-returns-in_err-flow : goal.run_turn-returns-in_err-flow
run_turn-returns-in_err-flow g t c = ran_any_scope _ _ _ _ _ _ _ _ _ c.in_err-flow.field-0.0 (search rules) (ran_turn_of _ _ _ (setting c.args.here.now) c.args.name.now c.args.statements.now c.args.item.now _ _ _ (λ p. without_first 1 (scope_seen (captures_in p) c.run_block.new.scope.names.items)) _ (λ p. c.in_ok-push.ensures.shown (captures_in p) ∙ ap {A = Value} (λ x. M.field c.args.name.now (value_seen p x) (scope_seen (captures_in p) c.args.scope.now.names.items)) c.in_ok-share.ensures) (λ p. refl) (ran_as _ _ _ _ _ _ _ _ _ (search rules) c.in_err-flow.ensures))

pub run_turn-returns : goal.run_turn-returns
run_turn-returns g t c = ran_turn_of _ _ _ (setting c.args.here.now) c.args.name.now c.args.statements.now c.args.item.now _ _ _ _ _ (λ p. c.in_ok-push.ensures.shown (captures_in p) ∙ ap {A = Value} (λ x. M.field c.args.name.now (value_seen p x) (scope_seen (captures_in p) c.args.scope.now.names.items)) c.in_ok-share.ensures) (λ p. c.close.ensures (captures_in p)) c.in_ok-flow.ensures
