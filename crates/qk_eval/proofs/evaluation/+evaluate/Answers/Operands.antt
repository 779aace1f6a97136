-- The answers of the cycle: operands, assignments and known calls.
use Rattle.std.proofs.Common.{rules, arith, refl, sym, ◌∙◌, ap}
use Rattle.qk_meaning.specs.Program.{captures_in}
use Rattle.qk_meaning.specs.Doing.{give, ◌>>◌}
use Rattle.qk_meaning.specs.Running.{Running}
use Rattle.qk_meaning.specs.References.{combined, stored}
use Rattle.qk_meaning.specs.In_order.{value_in, operand_chained, operands_chained}
use Rattle.qk_meaning.specs.Operators.{binary, stepped}
use Rattle.qk_eval.specs.Placing.{setting}
use Rattle.qk_eval.specs.Seeing.{value_seen, values_seen, reference_seen}
use Rattle.qk_eval.proofs.Growing.{quiet, value_adds, operands_add, answer_adds, known_adds, behind_target_adds, behind_old_adds, combined_adds, stepped_adds, step_adds}
use Rattle.qk_code.proofs.Runs.{ran_then, ran_err, ran_gives}
use Rattle.qk_eval.proofs.Loops.{seen_more, each_begin, each_step, each_err, each_memory, each_end, fold_step, fold_err, fold_end}
use Rattle.qk_eval.proofs.Expressions.{to_chain, to_assign, to_step, to_known, to_operand, ran_decided, ran_answer, ran_no_answer, ran_answer_err}
use Rattle.qk_eval.proofs.Acted.{ran_acted}
use Rattle.qk_eval.proofs.evaluation.+evaluate.Goals as goal

pub values-loop-e-init : goal.values-loop-e-init
values-loop-e-init g t c = λ r code left heap scope host k. each_begin _ _ _ (λ p. value_in (setting c.args.here.now p)) value_seen values_seen seen_more (λ p x. value_adds c.args.here.now.func.now c.args.here.now.mode c.args.here.now.running.now c.args.here.now.levels p x) c.args.all.now _ _ _ r (λ p. ap (values_seen p) c.new-done.ensures) k

pub values-returns-in_err-v : goal.values-returns-in_err-v
values-returns-in_err-v g t c = c.loop-e.invariant _ _ _ _ _ _ (each_err _ _ _ (λ p. value_in (setting c.args.here.now p)) value_seen values_seen seen_more (λ p x. value_adds c.args.here.now.func.now c.args.here.now.mode c.args.here.now.running.now c.args.here.now.levels p x) c.args.all.now _ _ _ _ _ _ _ c.loop-e-test.true c.e-item.is (search rules) c.in_err-v.ensures)

pub values-returns-in_err-push : goal.values-returns-in_err-push
values-returns-in_err-push g t c = c.loop-e.invariant _ _ _ _ _ _ (each_memory _ _ _ (λ p. value_in (setting c.args.here.now p)) value_seen values_seen seen_more (λ p x. value_adds c.args.here.now.func.now c.args.here.now.mode c.args.here.now.running.now c.args.here.now.levels p x) c.args.all.now _ _ _ _ _ _ _ c.loop-e-test.true c.e-item.is (search rules) c.in_ok-v.ensures)

pub values-loop-e-preserved : goal.values-loop-e-preserved
values-loop-e-preserved g t c = λ r code left heap scope host k. c.loop-e.invariant r code left heap scope host (each_step _ _ _ (λ p. value_in (setting c.args.here.now p)) value_seen values_seen seen_more (λ p x. value_adds c.args.here.now.func.now c.args.here.now.mode c.args.here.now.running.now c.args.here.now.levels p x) c.args.all.now _ _ _ _ _ _ _ _ _ c.loop-e-test.true c.e-item.is (search rules) c.in_ok-v.ensures k)

pub values-returns : goal.values-returns
values-returns g t c = c.loop-e.invariant _ _ _ _ _ _ (each_end _ _ _ (λ p. value_in (setting c.args.here.now p)) value_seen values_seen seen_more (λ p x. value_adds c.args.here.now.func.now c.args.here.now.mode c.args.here.now.running.now c.args.here.now.levels p x) c.args.all.now c.loop-e.e-index _ _ (omega arith))

pub old_value-returns-in-Set : goal.old_value-returns-in-Set
old_value-returns-in-Set g t c = rw c.in-Set.is (ran_gives _ _ _ _ _ _ _ (λ p k past. refl))

pub known_value-returns-in_err-given : goal.known_value-returns-in_err-given
known_value-returns-in_err-given g t c = to_known _ _ _ (setting c.args.here.now) _ _ _ c.args.call c.args.arguments.now (ran_err _ _ _ _ _ _ _ _ _ _ _ (search rules) (λ p x. known_adds c.args.here.now.func.now c.args.here.now.mode c.args.here.now.running.now c.args.here.now.levels p c.args.call x) c.in_err-given.ensures)

pub known_value-returns : goal.known_value-returns
known_value-returns g t c = to_known _ _ _ (setting c.args.here.now) _ _ _ c.args.call c.args.arguments.now (ran_then _ _ _ _ _ _ _ _ _ _ _ _ c.in_ok-given.ensures (ran_acted _ _ _ c.args.here.now.func.now c.args.here.now.mode c.args.here.now.running.now c.args.here.now.levels _ _ _ _ _ _ _ (λ p. refl) (rw c.as_slice.ensures at c.call_known.ensures)))

pub chain_value-returns-in_err-v : goal.chain_value-returns-in_err-v
chain_value-returns-in_err-v g t c = to_chain _ _ _ (setting c.args.here.now) _ _ _ c.args.first.now c.args.rest.now (ran_err _ _ _ _ _ _ _ _ _ _ _ (search rules) (λ p x. operands_add c.args.here.now.func.now c.args.here.now.mode c.args.here.now.running.now c.args.here.now.levels p c.args.rest.now x) (rw c.get.ensures at c.in_err-v.ensures))

pub chain_value-loop-operand-init : goal.chain_value-loop-operand-init
chain_value-loop-operand-init g t c = λ r code left heap scope host k. to_chain _ _ _ (setting c.args.here.now) _ _ _ c.args.first.now c.args.rest.now (ran_then _ _ _ _ _ _ _ _ _ _ _ _ (rw c.get.ensures at c.in_ok-v.ensures) k)

pub chain_value-returns-in_err-v-2 : goal.chain_value-returns-in_err-v-2
chain_value-returns-in_err-v-2 g t c = c.loop-operand.invariant _ _ _ _ _ _ (fold_err _ _ _ (λ p. operand_chained (setting c.args.here.now p)) (λ p. operands_chained (setting c.args.here.now p)) value_seen (λ p y. refl) (λ p x xs y. refl) (λ p xs y. operands_add c.args.here.now.func.now c.args.here.now.mode c.args.here.now.running.now c.args.here.now.levels p xs y) c.args.rest.now _ _ c.loop-operand.v _ _ _ _ c.loop-operand-test.true c.operand-item.is (search rules) c.in_err-v-2.ensures)

pub chain_value-loop-operand-preserved : goal.chain_value-loop-operand-preserved
chain_value-loop-operand-preserved g t c = λ r code left heap scope host k. c.loop-operand.invariant r code left heap scope host (fold_step _ _ _ (λ p. operand_chained (setting c.args.here.now p)) (λ p. operands_chained (setting c.args.here.now p)) value_seen (λ p y. refl) (λ p x xs y. refl) (λ p xs y. operands_add c.args.here.now.func.now c.args.here.now.mode c.args.here.now.running.now c.args.here.now.levels p xs y) c.args.rest.now _ _ c.loop-operand.v _ _ _ _ _ c.loop-operand-test.true c.operand-item.is c.in_ok-v-2.ensures k)

pub chain_value-returns : goal.chain_value-returns
chain_value-returns g t c = c.loop-operand.invariant _ _ _ _ _ _ (fold_end _ _ _ (λ p. operand_chained (setting c.args.here.now p)) (λ p. operands_chained (setting c.args.here.now p)) value_seen (λ p y. refl) (λ p x xs y. refl) (λ p xs y. operands_add c.args.here.now.func.now c.args.here.now.mode c.args.here.now.running.now c.args.here.now.levels p xs y) c.args.rest.now c.loop-operand.operand-index _ _ (omega arith))

pub assign-returns-in_err-r : goal.assign-returns-in_err-r
assign-returns-in_err-r g t c = to_assign _ _ _ (setting c.args.here.now) _ _ _ c.args.operator c.args.target.now c.args.e.now (ran_err _ _ _ _ _ _ _ _ _ _ _ (search rules) (λ p x. behind_target_adds c.args.here.now.func.now c.args.here.now.mode c.args.here.now.running.now c.args.here.now.levels p c.args.operator c.args.e.now x) (rw c.get.ensures at c.in_err-r.ensures))

pub assign-returns-in_err-old : goal.assign-returns-in_err-old
assign-returns-in_err-old g t c = to_assign _ _ _ (setting c.args.here.now) _ _ _ c.args.operator c.args.target.now c.args.e.now (ran_then _ _ _ _ _ _ _ _ _ _ _ _ (rw c.get.ensures at c.in_ok-r.ensures) (ran_err _ _ _ _ _ _ _ _ _ _ _ (search rules) (λ p x. behind_old_adds c.args.here.now.func.now c.args.here.now.mode c.args.here.now.running.now c.args.here.now.levels p c.args.operator c.args.e.now (reference_seen p c.in_ok-r.r) x) c.in_err-old.ensures))

pub assign-returns-in_err-v : goal.assign-returns-in_err-v
assign-returns-in_err-v g t c = to_assign _ _ _ (setting c.args.here.now) _ _ _ c.args.operator c.args.target.now c.args.e.now (ran_then _ _ _ _ _ _ _ _ _ _ _ _ (rw c.get.ensures at c.in_ok-r.ensures) (ran_then _ _ _ _ _ _ _ _ _ _ _ _ c.in_ok-old.ensures (ran_err _ _ _ _ _ _ _ _ _ _ _ (search rules) (λ p x. combined_adds c.args.here.now.func.now c.args.here.now.mode c.args.here.now.running.now c.args.here.now.levels p c.args.operator (reference_seen p c.in_ok-r.r) (value_seen p c.in_ok-old.old) x) (rw c.get-2.ensures at c.in_err-v.ensures))))

pub assign-returns-in_err-new : goal.assign-returns-in_err-new
assign-returns-in_err-new g t c = to_assign _ _ _ (setting c.args.here.now) _ _ _ c.args.operator c.args.target.now c.args.e.now (ran_then _ _ _ _ _ _ _ _ _ _ _ _ (rw c.get.ensures at c.in_ok-r.ensures) (ran_then _ _ _ _ _ _ _ _ _ _ _ _ c.in_ok-old.ensures (ran_then _ _ _ _ _ _ _ _ _ _ _ _ (rw c.get-2.ensures at c.in_ok-v.ensures) (ran_no_answer _ _ _ value_seen value_seen (λ p. combined c.args.operator (value_seen p c.in_ok-old.old) (value_seen p c.in_ok-v.v)) (λ p w. ◌>>◌ (stored (setting c.args.here.now p) (reference_seen p c.in_ok-r.r) w) (give w)) _ _ c.in_err-new.field-0.0 (search rules) (λ p. c.in_err-new.ensures (captures_in p))))))

pub assign-returns-in_err-store : goal.assign-returns-in_err-store
assign-returns-in_err-store g t c = to_assign _ _ _ (setting c.args.here.now) _ _ _ c.args.operator c.args.target.now c.args.e.now (ran_then _ _ _ _ _ _ _ _ _ _ _ _ (rw c.get.ensures at c.in_ok-r.ensures) (ran_then _ _ _ _ _ _ _ _ _ _ _ _ c.in_ok-old.ensures (ran_then _ _ _ _ _ _ _ _ _ _ _ _ (rw c.get-2.ensures at c.in_ok-v.ensures) (ran_then _ _ _ _ _ _ _ _ _ _ c.in_ok-new.new _ (ran_answer _ _ _ value_seen (λ p. combined c.args.operator (value_seen p c.in_ok-old.old) (value_seen p c.in_ok-v.v)) _ _ (λ p. c.in_ok-new.ensures (captures_in p))) (ran_err _ _ _ _ _ _ (λ p u. give {S = Running} (value_seen p c.in_ok-new.new)) _ _ _ _ (search rules) (λ p x. quiet) c.in_err-store.ensures)))))

pub assign-returns : goal.assign-returns
assign-returns g t c = to_assign _ _ _ (setting c.args.here.now) _ _ _ c.args.operator c.args.target.now c.args.e.now (ran_then _ _ _ _ _ _ _ _ _ _ _ _ (rw c.get.ensures at c.in_ok-r.ensures) (ran_then _ _ _ _ _ _ _ _ _ _ _ _ c.in_ok-old.ensures (ran_then _ _ _ _ _ _ _ _ _ _ _ _ (rw c.get-2.ensures at c.in_ok-v.ensures) (ran_then _ _ _ _ _ _ _ _ _ _ c.in_ok-new.new _ (ran_answer _ _ _ value_seen (λ p. combined c.args.operator (value_seen p c.in_ok-old.old) (value_seen p c.in_ok-v.v)) _ _ (λ p. c.in_ok-new.ensures (captures_in p))) (ran_then _ _ _ _ _ _ (λ p u. give {S = Running} (value_seen p c.in_ok-new.new)) _ _ _ _ _ c.in_ok-store.ensures (ran_gives _ _ _ _ _ _ _ (λ p k past. refl)))))))

pub step-returns-in_err-r : goal.step-returns-in_err-r
step-returns-in_err-r g t c = to_step _ _ _ (setting c.args.here.now) _ _ _ c.args.up c.args.target.now (ran_err _ _ _ _ _ _ _ _ _ _ _ (search rules) (λ p x. step_adds c.args.here.now.func.now c.args.here.now.mode c.args.here.now.running.now c.args.here.now.levels p c.args.up x) c.in_err-r.ensures)

pub step-returns-in_err-old : goal.step-returns-in_err-old
step-returns-in_err-old g t c = to_step _ _ _ (setting c.args.here.now) _ _ _ c.args.up c.args.target.now (ran_then _ _ _ _ _ _ _ _ _ _ _ _ c.in_ok-r.ensures (ran_err _ _ _ _ _ _ _ _ _ _ _ (search rules) (λ p x. stepped_adds c.args.here.now.func.now c.args.here.now.mode c.args.here.now.running.now c.args.here.now.levels p c.args.up (reference_seen p c.in_ok-r.r) x) c.in_err-old.ensures))

pub step-returns-in_err-new : goal.step-returns-in_err-new
step-returns-in_err-new g t c = to_step _ _ _ (setting c.args.here.now) _ _ _ c.args.up c.args.target.now (ran_then _ _ _ _ _ _ _ _ _ _ _ _ c.in_ok-r.ensures (ran_then _ _ _ _ _ _ _ _ _ _ _ _ c.in_ok-old.ensures (ran_no_answer _ _ _ value_seen value_seen (λ p. stepped c.args.up (value_seen p c.in_ok-old.old)) (λ p w. ◌>>◌ (stored (setting c.args.here.now p) (reference_seen p c.in_ok-r.r) w) (give (value_seen p c.in_ok-old.old))) _ _ c.in_err-new.field-0.0 (search rules) (λ p. c.in_err-new.ensures (captures_in p)))))

pub step-returns-in_err-store : goal.step-returns-in_err-store
step-returns-in_err-store g t c = to_step _ _ _ (setting c.args.here.now) _ _ _ c.args.up c.args.target.now (ran_then _ _ _ _ _ _ _ _ _ _ _ _ c.in_ok-r.ensures (ran_then _ _ _ _ _ _ _ _ _ _ _ _ c.in_ok-old.ensures (ran_then _ _ _ _ _ _ _ _ _ _ c.in_ok-new.new _ (ran_answer _ _ _ value_seen (λ p. stepped c.args.up (value_seen p c.in_ok-old.old)) _ _ (λ p. c.in_ok-new.ensures (captures_in p))) (ran_err _ _ _ _ _ _ (λ p u. give {S = Running} (value_seen p c.in_ok-old.old)) _ _ _ _ (search rules) (λ p x. quiet) c.in_err-store.ensures))))

pub step-returns : goal.step-returns
step-returns g t c = to_step _ _ _ (setting c.args.here.now) _ _ _ c.args.up c.args.target.now (ran_then _ _ _ _ _ _ _ _ _ _ _ _ c.in_ok-r.ensures (ran_then _ _ _ _ _ _ _ _ _ _ _ _ c.in_ok-old.ensures (ran_then _ _ _ _ _ _ _ _ _ _ c.in_ok-new.new _ (ran_answer _ _ _ value_seen (λ p. stepped c.args.up (value_seen p c.in_ok-old.old)) _ _ (λ p. c.in_ok-new.ensures (captures_in p))) (ran_then _ _ _ _ _ _ (λ p u. give {S = Running} (value_seen p c.in_ok-old.old)) _ _ _ _ _ c.in_ok-store.ensures (ran_gives _ _ _ _ _ _ _ (λ p k past. refl))))))

pub chain_one-returns-then-decides : goal.chain_one-returns-then-decides
chain_one-returns-then-decides g t c = ran_decided _ _ _ (setting c.args.here.now) c.args.operand.now c.args.v _ _ (λ p. sym (c.decides.ensures (captures_in p)) ∙ c.if-decides.true) refl

pub chain_one-returns-in_err-w : goal.chain_one-returns-in_err-w
chain_one-returns-in_err-w g t c = to_operand _ _ _ (setting c.args.here.now) c.args.operand.now c.args.v _ _ _ (λ p. sym (c.decides.ensures (captures_in p)) ∙ c.if-decides.false) (ran_err _ _ _ _ _ _ _ _ _ _ _ (search rules) (λ p x. answer_adds c.args.here.now.func.now c.args.here.now.mode c.args.here.now.running.now c.args.here.now.levels p (binary c.args.operand.now.op (value_seen p c.args.v) x)) c.in_err-w.ensures)

pub chain_one-returns-in_err-binary : goal.chain_one-returns-in_err-binary
chain_one-returns-in_err-binary g t c = to_operand _ _ _ (setting c.args.here.now) c.args.operand.now c.args.v _ _ _ (λ p. sym (c.decides.ensures (captures_in p)) ∙ c.if-decides.false) (ran_then _ _ _ _ _ _ _ _ _ _ _ _ c.in_ok-w.ensures (ran_answer_err _ _ _ value_seen (λ p. binary c.args.operand.now.op (value_seen p c.args.v) (value_seen p c.in_ok-w.w)) _ _ c.in_err-binary.field-0.0 (search rules) (λ p. c.in_err-binary.ensures (captures_in p))))

pub chain_one-returns : goal.chain_one-returns
chain_one-returns g t c = to_operand _ _ _ (setting c.args.here.now) c.args.operand.now c.args.v _ _ _ (λ p. sym (c.decides.ensures (captures_in p)) ∙ c.if-decides.false) (ran_then _ _ _ _ _ _ _ _ _ _ _ _ c.in_ok-w.ensures (ran_answer _ _ _ value_seen (λ p. binary c.args.operand.now.op (value_seen p c.args.v) (value_seen p c.in_ok-w.w)) _ _ (λ p. c.in_ok-binary.ensures (captures_in p))))
