-- The answers of the cycle: hooks, tasks, and functions that are entered.
use Rattle.std.proofs.Common.{rules, arith, refl, ◌≡◌, ◌<◌, ◌-◌, sym, ◌∙◌, true, subst}
use Rattle.std.specs.Prelude.{[]}
use Rattle.std.proofs.lemmas.Bool.{false≢true}
use Rattle.qk_meaning.specs.Program.{captures_in}
use Rattle.qk_value.specs.declared.value.Value.{Fun as Function}
use Rattle.qk_code.specs.declared.func.Func.{Func}
use Rattle.qk_code.specs.Standing.{Knows}
use Rattle.qk_eval.specs.Placing.{setting}
use Rattle.qk_eval.specs.Seeing.{value_seen, values_seen}
use Rattle.qk_code.proofs.Runs.{ran_lost, ran_memory, ran_known, extends_self, spent_self}
use Rattle.qk_eval.proofs.No_function.{no_function}
use Rattle.qk_eval.proofs.Entering.{ran_enter, ran_enter_plain, ran_not_entered, ran_plain_not_entered, ran_entering_lost, ran_inside, ran_no_level, ran_stuck}
use Rattle.qk_eval.proofs.Hooking.{ran_unanswered, ran_hook_value, ran_hook_nothing, ran_hook_task, ran_hook_err, ran_task, ran_task_err, ran_tracked, ran_tracked_err, ran_call_tracker, ran_untracked, ran_unentered}
use Rattle.qk_eval.proofs.Plain_steps.{is_none}
use Rattle.qk_code.specs.Ran.{Ran}
use Rattle.qk_eval.specs.Standing.{with_scope}
use Rattle.qk_eval.specs.Placing.{setting_so}
use Rattle.qk_eval.specs.Lists.{arrow_entered}
use Rattle.qk_eval.proofs.evaluation.+evaluate.Goals as goal

pub enter-returns-then-levels-eq0 : goal.enter-returns-then-levels-eq0
enter-returns-then-levels-eq0 g t c = λ outer. ran_no_level _ _ _ c.args.levels c.args.mode c.args.running.now (λ p. value_seen p (Function c.args.f.now)) (λ p. values_seen p c.args.given.now) _ _ refl c.if-levels-eq0.true

pub enter-returns-then-not-take : goal.enter-returns-then-not-take
enter-returns-then-not-take g t c = let no : 0 < c.args.machine.now.meter.turns → ⊥ = λ h. (let e : c.take.result ≡ true = c.take.ensures.had.1 h in false≢true (sym c.if-not-take.true ∙ e)) in let none : c.args.machine.now.meter.turns ≡ 0 = omega (arith, no) in λ outer. ran_stuck _ _ _ c.args.levels (c.args.levels - 1) c.args.mode c.args.running.now c.args.f.now c.args.given.now _ _ _ refl (omega (arith, c.if-levels-eq0.false)) none (c.take.ensures.kept c.if-not-take.true)

pub call_hook-returns-then-not-here : goal.call_hook-returns-then-not-here
call_hook-returns-then-not-here g t c = λ outer. ran_unanswered _ _ _ c.args.here.now.func.now c.args.here.now.mode c.args.here.now.running.now c.args.here.now.levels _ c.args.kind c.args.given.now c.if-not-here.true

pub call_hook-returns-in_err-v : goal.call_hook-returns-in_err-v
call_hook-returns-in_err-v g t c = λ outer. ran_hook_err _ _ _ (setting c.args.here.now) _ c.args.kind c.args.given.now _ _ _ c.if-not-here.false (λ p. refl) _ c.in_err-v.field-0.0 (search rules) c.in_err-v.ensures.answers

pub call_hook-returns-in-Value : goal.call_hook-returns-in-Value
call_hook-returns-in-Value g t c = λ outer. ran_hook_value _ _ _ (setting c.args.here.now) _ c.args.kind c.args.given.now _ _ _ c.if-not-here.false (λ p. refl) _ c.in-Value.v c.in-Value.is c.in_ok-v.ensures.answers

pub call_hook-returns-in-Nothing : goal.call_hook-returns-in-Nothing
call_hook-returns-in-Nothing g t c = λ outer. ran_hook_nothing _ _ _ (setting c.args.here.now) _ c.args.kind c.args.given.now _ _ _ c.if-not-here.false (λ p. refl) _ c.in-Nothing.is c.in_ok-v.ensures.answers

pub call_hook-returns-in-RunTask : goal.call_hook-returns-in-RunTask
call_hook-returns-in-RunTask g t c = λ outer. ran_hook_task _ _ _ (setting c.args.here.now) _ c.args.kind c.args.given.now _ _ _ c.if-not-here.false (λ p. refl) _ c.in-RunTask.f _ _ c.in-RunTask.is c.in_ok-v.ensures.answers (c.run_task.ensures outer)

pub run_task-returns-in_err-enter : goal.run_task-returns-in_err-enter
run_task-returns-in_err-enter g t c = λ outer. ran_memory _ _ _ _ _ _ _ _ (search rules) (extends_self _) refl (spent_self _)

pub run_task-returns-in_err-_v : goal.run_task-returns-in_err-_v
run_task-returns-in_err-_v g t c = λ outer. ran_task_err _ _ _ c.args.here.now.func.now c.args.here.now.mode c.args.here.now.running.now c.args.here.now.levels _ _ (g.H.Watch.stands_for c.enter.new.self) c.args.f.now _ refl c.in_ok-enter.ensures.told _ c.in_err-_v.field-0.0 (search rules) (c.in_err-_v.ensures outer)

pub run_task-returns : goal.run_task-returns
run_task-returns g t c = λ outer. ran_task _ _ _ c.args.here.now.func.now c.args.here.now.mode c.args.here.now.running.now c.args.here.now.levels _ _ (g.H.Watch.stands_for c.enter.new.self) c.args.f.now _ refl c.in_ok-enter.ensures.told c.in_ok-_v._v _ c.leave.ensures (c.in_ok-_v.ensures outer)

pub call_tracker-returns-in_default : goal.call_tracker-returns-in_default
call_tracker-returns-in_default g t c = λ outer. ran_untracked _ _ _ c.args.here.now.func.now c.args.here.now.mode c.args.here.now.running.now c.args.here.now.levels _ c.args.given.now _ refl (rw (is_none _ c.in_default.not-Some) at c.only.ensures.none)

pub call_tracker-returns : goal.call_tracker-returns
call_tracker-returns g t c = λ outer. ran_call_tracker _ _ _ c.args.here.now.func.now c.args.here.now.mode c.args.here.now.running.now c.args.here.now.levels _ _ c.args.given.now _ _ (rw c.in-Some.is at c.only.ensures.some) (c.track.ensures outer)

pub track-returns-in_err-enter : goal.track-returns-in_err-enter
track-returns-in_err-enter g t c = λ outer. ran_memory _ _ _ _ _ _ _ _ (search rules) (extends_self _) refl (spent_self _)

pub track-returns-in_err-v : goal.track-returns-in_err-v
track-returns-in_err-v g t c = λ outer. ran_tracked_err _ _ _ c.args.here.now.func.now c.args.here.now.mode c.args.here.now.running.now c.args.here.now.levels _ _ (g.H.Watch.stands_for c.enter.new.self) c.args.f.now c.in_ok-enter.ensures.told _ c.in_err-v.field-0.0 (search rules) (c.in_err-v.ensures outer)

pub track-returns : goal.track-returns
track-returns g t c = λ outer. ran_tracked _ _ _ c.args.here.now.func.now c.args.here.now.mode c.args.here.now.running.now c.args.here.now.levels _ _ (g.H.Watch.stands_for c.enter.new.self) c.args.f.now c.in_ok-enter.ensures.told c.in_ok-v.v _ c.leave.ensures (c.in_ok-v.ensures outer)

pub enter_value-returns-then-here-eq0 : goal.enter_value-returns-then-here-eq0
enter_value-returns-then-here-eq0 g t c = λ outer. ran_no_level _ _ _ c.args.here.now.levels c.args.mode c.args.here.now.running.now (λ p. value_seen p c.args.f.now) (λ p. []) _ _ refl c.if-here-eq0.true

pub enter_value-returns-in-Fun : goal.enter_value-returns-in-Fun
enter_value-returns-in-Fun g t c = λ outer. rw c.in-Fun.is (ran_known _ _ _ (λ p. Unit {0}) value_seen _ _ _ _ (λ files more k. tt) (c.enter.ensures outer))

pub enter_value-returns-in_default : goal.enter_value-returns-in_default
enter_value-returns-in_default g t c = λ outer. ran_unentered _ _ _ c.args.here.now.func.now c.args.here.now.mode c.args.here.now.running.now c.args.here.now.levels c.args.mode (c.args.here.now.levels - 1) _ c.args.f.now _ refl (omega (arith, c.if-here-eq0.false)) (λ p. no_function (captures_in p) c.args.f.now c.in_default.not-Fun)

pub enter-returns-in_err-func-in-Symbol : goal.enter-returns-in_err-func-in-Symbol
enter-returns-in_err-func-in-Symbol g t c = λ outer. ran_not_entered _ _ c.args.levels (c.args.levels - 1) c.args.mode c.args.running.now c.args.f.now c.args.given.now _ _ (omega (arith, c.if-levels-eq0.false)) (c.take.ensures.had.0 c.if-not-take.false) (c.take.ensures.taken c.if-not-take.false) _ _ _ _ _ c.in_err-func-in-Symbol.field-0.0 (search rules) c.in-Symbol.is c.in_err-func-in-Symbol.ensures.grows c.in_err-func-in-Symbol.ensures.cause c.in_err-func-in-Symbol.ensures.asks

pub enter-returns-in_err-func-in-Plain : goal.enter-returns-in_err-func-in-Plain
enter-returns-in_err-func-in-Plain g t c = λ outer. ran_plain_not_entered _ _ c.args.levels (c.args.levels - 1) c.args.mode c.args.running.now c.args.f.now c.args.given.now _ _ (omega (arith, c.if-levels-eq0.false)) (c.take.ensures.had.0 c.if-not-take.false) (c.take.ensures.taken c.if-not-take.false) _ _ _ _ _ _ c.in_err-func-in-Plain.field-0.0 (search rules) c.in-Plain.is c.in_err-func-in-Plain.ensures.kept c.in_err-func-in-Plain.ensures.cause c.in_err-func-in-Plain.ensures.asks

pub enter-returns-then-len-captured : goal.enter-returns-then-len-captured
enter-returns-then-len-captured g t c = λ outer. ran_entering_lost _ _ c.args.levels (c.args.levels - 1) c.args.mode c.args.running.now c.args.f.now c.args.given.now _ _ (omega (arith, c.if-levels-eq0.false)) (c.take.ensures.had.0 c.if-not-take.false) (c.take.ensures.taken c.if-not-take.false) _ _ _ _ refl c.in_ok-func-in-Plain.ensures.kept c.in_ok-func-in-Plain.ensures.cause.cause

pub enter-returns-in_ok-func-in-Symbol : goal.enter-returns-in_ok-func-in-Symbol
enter-returns-in_ok-func-in-Symbol g t c = λ outer. ran_enter _ _ c.args.levels (c.args.levels - 1) c.args.mode c.args.running.now c.args.f.now c.args.given.now _ _ (omega (arith, c.if-levels-eq0.false)) (c.take.ensures.had.0 c.if-not-take.false) (c.take.ensures.taken c.if-not-take.false) _ _ c.as_slice-captured.result.now _ _ _ _ _ c.in-Symbol.is c.as_slice-captured.ensures c.in_ok-func-in-Symbol.ensures.grows c.in_ok-func-in-Symbol.ensures.cause.cause c.in_ok-func-in-Symbol.ensures.asks c.in_ok-func-in-Symbol.ensures.gives (subst (λ (fn : Func). Ran g.C.Code.form c.args.hooked (λ p. Knows p fn) value_seen (λ p. arrow_entered (setting_so fn c.args.mode c.args.running.now (c.args.levels - 1) p) fn (values_seen p c.as_slice-captured.result.now) (values_seen p c.args.given.now)) (with_scope (g.C.Code.sources c.body.new.self) (g.C.Code.counts c.body.new.self) (g.C.Code.asked c.body.new.self) (record c.args.machine.now { meter = c.take.new.self }) outer (g.H.Watch.stands_for c.args.host.now)) c.enter_arrow.result (with_scope (g.C.Code.sources c.enter_arrow.new.code) (g.C.Code.counts c.enter_arrow.new.code) (g.C.Code.asked c.enter_arrow.new.code) c.enter_arrow.new.machine outer (g.H.Watch.stands_for c.enter_arrow.new.host))) c.get.ensures (c.enter_arrow.ensures outer))

pub enter-returns-else-len-captured : goal.enter-returns-else-len-captured
enter-returns-else-len-captured g t c = λ outer. ran_enter_plain _ _ c.args.levels (c.args.levels - 1) c.args.mode c.args.running.now c.args.f.now c.args.given.now _ _ (omega (arith, c.if-levels-eq0.false)) (c.take.ensures.had.0 c.if-not-take.false) (c.take.ensures.taken c.if-not-take.false) _ _ _ c.as_slice-captured.result.now _ _ _ _ _ c.in-Plain.is c.as_slice-captured.ensures (omega (arith, (rw c.get-in-Plain.ensures at c.len.ensures), c.if-len-captured.false)) c.in_ok-func-in-Plain.ensures.kept c.in_ok-func-in-Plain.ensures.cause.cause c.in_ok-func-in-Plain.ensures.asks c.in_ok-func-in-Plain.ensures.gives (subst (λ (fn : Func). Ran g.C.Code.form c.args.hooked (λ p. Knows p fn) value_seen (λ p. arrow_entered (setting_so fn c.args.mode c.args.running.now (c.args.levels - 1) p) fn (values_seen p c.as_slice-captured.result.now) (values_seen p c.args.given.now)) (with_scope (g.C.Code.sources c.plain.new.self) (g.C.Code.counts c.plain.new.self) (g.C.Code.asked c.plain.new.self) (record c.args.machine.now { meter = c.take.new.self }) outer (g.H.Watch.stands_for c.args.host.now)) c.enter_arrow-in-Plain.result (with_scope (g.C.Code.sources c.enter_arrow-in-Plain.new.code) (g.C.Code.counts c.enter_arrow-in-Plain.new.code) (g.C.Code.asked c.enter_arrow-in-Plain.new.code) c.enter_arrow-in-Plain.new.machine outer (g.H.Watch.stands_for c.enter_arrow-in-Plain.new.host))) c.get-in-Plain-2.ensures (c.enter_arrow-in-Plain.ensures outer))

pub enter_arrow-returns-in_err-scope : goal.enter_arrow-returns-in_err-scope
enter_arrow-returns-in_err-scope g t c = λ outer. ran_lost _ _ _ _ _ _ _ (search rules)

pub enter_arrow-returns : goal.enter_arrow-returns
enter_arrow-returns g t c = λ outer. ran_inside _ _ c.args.levels c.args.mode c.args.running.now c.args.func.now c.args.captured.now c.args.given.now _ _ _ _ (λ p. c.in_ok-scope.ensures (captures_in p)) c.inside.ensures
