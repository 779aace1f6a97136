-- The answers of the cycle: statements.
use Rattle.std.proofs.Common.{rules, arith, refl, ℕ, sym, ◌∙◌, ap, true, false}
use Rattle.std.specs.Prelude.{length}
use Rattle.qk_meaning.specs.Program.{captures_in}
use Rattle.qk_meaning.specs.Doing.{give}
use Rattle.qk_meaning.specs.Running.{Running, assigned}
use Rattle.qk_meaning.specs.References.{removed, bound}
use Rattle.qk_meaning.specs.Flow as F
use Rattle.qk_meaning.specs.Flow.{repeated, repeated_for}
use Rattle.qk_meaning.specs.In_order.{declared_of}
use Rattle.qk_meaning.specs.Operators.{is_true}
use Rattle.qk_meaning.specs.Parts.{without_first}
use Rattle.qk_environment.specs.Scoping.{scope_seen}
use Rattle.qk_eval.specs.Placing.{setting}
use Rattle.qk_eval.proofs.Growing.{quiet, bind, branch_adds, assigned_adds, removed_adds, bound_adds}
use Rattle.qk_code.proofs.Runs.{ran_then, ran_err, ran_gives, ran_memory, ran_scoped, extends_self, spent_self}
use Rattle.qk_eval.proofs.Steps.{to_if, to_block_statement, ran_branch, ran_return, ran_return_none, ran_assigned, ran_scope_is, ran_any_scope, ran_as}
use Rattle.qk_eval.proofs.Loops.{statements_step, statements_err, statements_left, statements_end}
use Rattle.qk_eval.proofs.Expressions.{to_const}
use Rattle.qk_eval.proofs.evaluation.+evaluate.Goals as goal

pub run_all-loop-statement-init : goal.run_all-loop-statement-init
run_all-loop-statement-init g t c = λ r code left heap scope host k. k

pub run_all-returns-in_err-flow : goal.run_all-returns-in_err-flow
run_all-returns-in_err-flow g t c = c.loop-statement.invariant _ _ _ _ _ _ (statements_err _ _ _ c.args.here.now.func.now c.args.here.now.mode c.args.here.now.running.now c.args.here.now.levels _ _ _ _ _ _ _ c.loop-statement-test.true c.statement-item.is (search rules) c.in_err-flow.ensures)

pub run_all-returns-in_default : goal.run_all-returns-in_default
run_all-returns-in_default g t c = c.loop-statement.invariant _ _ _ _ _ _ (statements_left _ _ _ c.args.here.now.func.now c.args.here.now.mode c.args.here.now.running.now c.args.here.now.levels c.args.statements.now c.loop-statement.statement-index _ _ _ _ _ (search rules) c.loop-statement-test.true c.statement-item.is c.in_default.not-Onward c.in_ok-flow.ensures)

pub run_all-loop-statement-preserved : goal.run_all-loop-statement-preserved
run_all-loop-statement-preserved g t c = λ r code left heap scope host k. c.loop-statement.invariant r code left heap scope host (statements_step _ _ _ c.args.here.now.func.now c.args.here.now.mode c.args.here.now.running.now c.args.here.now.levels c.args.statements.now c.loop-statement.statement-index _ _ _ _ _ _ c.loop-statement-test.true c.statement-item.is c.in-Onward.is c.in_ok-flow.ensures k)

pub run_all-returns : goal.run_all-returns
run_all-returns g t c = c.loop-statement.invariant _ _ _ _ _ _ (statements_end _ _ _ c.args.here.now.func.now c.args.here.now.mode c.args.here.now.running.now c.args.here.now.levels c.args.statements.now c.loop-statement.statement-index _ (omega arith))

pub run_let-returns-in_err-v : goal.run_let-returns-in_err-v
run_let-returns-in_err-v g t c = ran_err _ _ _ _ _ _ _ _ _ _ _ (search rules) (λ p x. bind {A = Unit {0}} {B = F.Flow} (assigned c.args.name.now x) (λ u. give {S = Running} F.Onward) (assigned_adds c.args.here.now.func.now c.args.here.now.mode c.args.here.now.running.now c.args.here.now.levels p c.args.name.now x) (λ u. quiet)) c.in_err-v.ensures

pub run_let-returns : goal.run_let-returns
run_let-returns g t c = ran_then _ _ _ _ _ _ _ _ _ _ _ _ c.in_ok-v.ensures (ran_assigned _ _ _ c.args.name.now c.in_ok-v.v _ _ (λ p. c.assign.ensures (captures_in p)))

pub run_do-returns : goal.run_do-returns
run_do-returns g t c = ran_then _ _ _ _ _ _ _ _ _ _ _ _ c.in_ok-_v.ensures (ran_gives _ _ _ _ _ _ _ (λ p k past. refl))

pub run_return-returns-in-None : goal.run_return-returns-in-None
run_return-returns-in-None g t c = rw c.in-None.is (ran_return_none _ _ _ (setting c.args.here.now) _)

pub run_return-returns-in_err-v-in-Some : goal.run_return-returns-in_err-v-in-Some
run_return-returns-in_err-v-in-Some g t c = rw c.in-Some.is (ran_return _ _ _ (setting c.args.here.now) _ _ _ c.in-Some.e (ran_err _ _ _ _ _ _ _ _ _ _ _ (search rules) (λ p x. quiet) c.in_err-v-in-Some.ensures))

pub run_return-returns-in_ok-v-in-Some : goal.run_return-returns-in_ok-v-in-Some
run_return-returns-in_ok-v-in-Some g t c = rw c.in-Some.is (ran_return _ _ _ (setting c.args.here.now) _ _ _ c.in-Some.e (ran_then _ _ _ _ _ _ _ _ _ _ _ _ c.in_ok-v-in-Some.ensures (ran_gives _ _ _ _ _ _ _ (λ p k past. refl))))

pub run-returns-in-Let : goal.run-returns-in-Let
run-returns-in-Let g t c = rw c.in-Let.is c.run_let.ensures

pub run-returns-in-Const : goal.run-returns-in-Const
run-returns-in-Const g t c = rw c.in-Const.is c.run_const.ensures

pub run-returns-in-If : goal.run-returns-in-If
run-returns-in-If g t c = rw c.in-If.is (rw (c.as_slice.ensures, c.as_slice-in-If.ensures) at c.run_if.ensures)

pub run-returns-in-Block : goal.run-returns-in-Block
run-returns-in-Block g t c = rw c.in-Block.is (to_block_statement _ _ _ (setting c.args.here.now) _ _ _ c.in-Block.statements (rw c.as_slice-in-Block.ensures at c.run_block.ensures))

pub run-returns-in-Break : goal.run-returns-in-Break
run-returns-in-Break g t c = rw c.in-Break.is (ran_gives _ _ _ _ _ _ _ (λ p k past. refl))

pub run-returns-in-Continue : goal.run-returns-in-Continue
run-returns-in-Continue g t c = rw c.in-Continue.is (ran_gives _ _ _ _ _ _ _ (λ p k past. refl))

pub run_if-returns-in_err-v : goal.run_if-returns-in_err-v
run_if-returns-in_err-v g t c = to_if _ _ _ (setting c.args.here.now) _ _ _ c.args.condition.now c.args.then.now c.args.otherwise.now (ran_err _ _ _ _ _ _ _ _ _ _ _ (search rules) (λ p x. branch_adds c.args.here.now.func.now c.args.here.now.mode c.args.here.now.running.now c.args.here.now.levels p (is_true x) c.args.then.now c.args.otherwise.now) c.in_err-v.ensures)

pub run_if-returns-then-truthy : goal.run_if-returns-then-truthy
run_if-returns-then-truthy g t c = to_if _ _ _ (setting c.args.here.now) _ _ _ c.args.condition.now c.args.then.now c.args.otherwise.now (ran_then _ _ _ _ _ _ _ _ _ _ _ _ c.in_ok-v.ensures (ran_branch _ _ _ (setting c.args.here.now) _ _ _ c.in_ok-v.v c.args.then.now c.args.otherwise.now true (λ n. sym c.if-truthy.true ∙ c.truthy.ensures n) c.run_block.ensures))

pub run_if-returns : goal.run_if-returns
run_if-returns g t c = to_if _ _ _ (setting c.args.here.now) _ _ _ c.args.condition.now c.args.then.now c.args.otherwise.now (ran_then _ _ _ _ _ _ _ _ _ _ _ _ c.in_ok-v.ensures (ran_branch _ _ _ (setting c.args.here.now) _ _ _ c.in_ok-v.v c.args.then.now c.args.otherwise.now false (λ n. sym c.if-truthy.false ∙ c.truthy.ensures n) c.run_block-2.ensures))

pub run_block-returns-in_err-count : goal.run_block-returns-in_err-count
run_block-returns-in_err-count g t c = ran_memory _ _ _ _ _ _ _ _ (search rules) (extends_self _) refl (spent_self _)

pub run_block-returns-in_err-flow : goal.run_block-returns-in_err-flow
run_block-returns-in_err-flow g t c = ran_any_scope _ _ _ _ _ _ _ _ _ c.in_err-flow.field-0.0 (search rules) (ran_scoped _ _ _ _ (declared_of c.args.statements.now) _ _ _ _ (λ p. without_first (length (declared_of c.args.statements.now)) (scope_seen (captures_in p) c.run_all.new.scope.names.items)) _ (λ p. c.in_ok-count.ensures.shown (captures_in p)) (λ p. refl) (ran_as _ _ _ _ _ _ _ _ _ (search rules) c.in_err-flow.ensures))

pub run_block-returns : goal.run_block-returns
run_block-returns g t c = ran_scoped _ _ _ _ (declared_of c.args.statements.now) _ _ _ _ _ _ (λ p. c.in_ok-count.ensures.shown (captures_in p)) (λ p. c.close.ensures (captures_in p) ∙ ap {A = ℕ} (λ n. without_first n (scope_seen (captures_in p) c.run_all.new.scope.names.items)) c.in_ok-count.ensures.count) c.in_ok-flow.ensures

pub run_do-returns-in_err-_v : goal.run_do-returns-in_err-_v
run_do-returns-in_err-_v g t c = ran_err _ _ _ _ _ _ _ _ _ _ _ (search rules) (λ p x. quiet) c.in_err-_v.ensures

pub run_delete-returns-in_err-r : goal.run_delete-returns-in_err-r
run_delete-returns-in_err-r g t c = ran_err _ _ _ _ _ _ _ _ _ _ _ (search rules) (λ p x. bind {A = Unit {0}} {B = F.Flow} (removed (setting c.args.here.now p) x) (λ u. give {S = Running} F.Onward) (removed_adds c.args.here.now.func.now c.args.here.now.mode c.args.here.now.running.now c.args.here.now.levels p x) (λ u. quiet)) c.in_err-r.ensures

pub run_delete-returns-in_err-remove : goal.run_delete-returns-in_err-remove
run_delete-returns-in_err-remove g t c = ran_then _ _ _ _ _ _ _ _ _ _ _ _ c.in_ok-r.ensures (ran_err _ _ _ _ _ _ _ _ _ _ _ (search rules) (λ p x. quiet) (c.in_err-remove.ensures _))

pub run_delete-returns : goal.run_delete-returns
run_delete-returns g t c = ran_then _ _ _ _ _ _ _ _ _ _ _ _ c.in_ok-r.ensures (ran_then _ _ _ _ _ _ _ _ _ _ _ _ (c.in_ok-remove.ensures _) (ran_gives _ _ _ _ _ _ _ (λ p k past. refl)))

pub run_const-returns-in-Scope : goal.run_const-returns-in-Scope
run_const-returns-in-Scope g t c = ran_scope_is _ _ _ (setting c.args.here.now) _ c.args.pattern.now c.args.e.now _ c.in-Scope.is

pub run_const-returns-in_err-v : goal.run_const-returns-in_err-v
run_const-returns-in_err-v g t c = to_const _ _ _ (setting c.args.here.now) _ _ _ c.args.pattern.now c.args.e.now c.in_default.not-Scope (ran_err _ _ _ _ _ _ _ _ _ _ _ (search rules) (λ p x. bind {A = Unit {0}} {B = F.Flow} (bound (setting c.args.here.now p) c.args.pattern.now x) (λ u. give {S = Running} F.Onward) (bound_adds c.args.here.now.func.now c.args.here.now.mode c.args.here.now.running.now c.args.here.now.levels p c.args.pattern.now x) (λ u. quiet)) c.in_err-v.ensures)

pub run_const-returns-in_err-bind : goal.run_const-returns-in_err-bind
run_const-returns-in_err-bind g t c = to_const _ _ _ (setting c.args.here.now) _ _ _ c.args.pattern.now c.args.e.now c.in_default.not-Scope (ran_then _ _ _ _ _ _ _ _ _ _ _ _ c.in_ok-v.ensures (ran_err _ _ _ _ _ _ _ _ _ _ _ (search rules) (λ p x. quiet) c.in_err-bind.ensures))

pub run_const-returns : goal.run_const-returns
run_const-returns g t c = to_const _ _ _ (setting c.args.here.now) _ _ _ c.args.pattern.now c.args.e.now c.in_default.not-Scope (ran_then _ _ _ _ _ _ _ _ _ _ _ _ c.in_ok-v.ensures (ran_then _ _ _ _ _ _ _ _ _ _ _ _ c.in_ok-bind.ensures (ran_gives _ _ _ _ _ _ _ (λ p k past. refl))))

pub run-returns-in-Delete : goal.run-returns-in-Delete
run-returns-in-Delete g t c = rw c.in-Delete.is c.run_delete.ensures

pub run-returns-in-Do : goal.run-returns-in-Do
run-returns-in-Do g t c = rw c.in-Do.is c.run_do.ensures

pub run-returns-in-Return : goal.run-returns-in-Return
run-returns-in-Return g t c = rw c.in-Return.is c.run_return.ensures

pub run-returns-in-While : goal.run-returns-in-While
run-returns-in-While g t c = rw c.in-While.is (rw c.as_slice-in-While.ensures at c.run_while.ensures)

pub run-returns-in-ForOf : goal.run-returns-in-ForOf
run-returns-in-ForOf g t c = rw c.in-ForOf.is (rw c.as_slice-in-ForOf.ensures at c.run_for.ensures)
