-- The answers of the cycle: names that are bound.
use Rattle.std.proofs.Common.{rules, arith, refl, sym, ◌∙◌}
use Rattle.qk_meaning.specs.Program.{captures_in}
use Rattle.qk_eval.specs.Placing.{setting}
use Rattle.qk_eval.proofs.Growing.{quiet, body_adds}
use Rattle.qk_code.proofs.Runs.{ran_then, ran_err, ran_gives, ran_lost, ran_memory, extends_self, spent_self}
use Rattle.qk_eval.proofs.Steps.{to_block, to_value, ran_flow_value}
use Rattle.qk_eval.proofs.Binding.{patterns_step, patterns_err, patterns_end, members_step, members_err, members_end}
use Rattle.qk_eval.proofs.Entering.{ran_own}
use Rattle.qk_eval.proofs.Calling.{ran_bound_name, ran_no_parameters, to_parameters}
use Rattle.qk_eval.proofs.evaluation.+evaluate.Goals as goal

pub body-returns-in_err-flow-in-Block : goal.body-returns-in_err-flow-in-Block
body-returns-in_err-flow-in-Block g t c = to_block _ _ _ (setting c.args.here.now) _ _ _ _ _ _ c.in-Block.is c.as_slice.ensures (ran_err _ _ _ _ _ _ _ _ _ _ _ (search rules) (λ p x. quiet) c.in_err-flow-in-Block.ensures)

pub body-returns-in_ok-flow-in-Block : goal.body-returns-in_ok-flow-in-Block
body-returns-in_ok-flow-in-Block g t c = to_block _ _ _ (setting c.args.here.now) _ _ _ _ _ _ c.in-Block.is c.as_slice.ensures (ran_then _ _ _ _ _ _ _ _ _ _ _ _ c.in_ok-flow-in-Block.ensures (ran_flow_value _ _ _ _ c.in_ok-flow-in-Block.flow _ c.value_of_flow.ensures))

pub body-returns-in-Value : goal.body-returns-in-Value
body-returns-in-Value g t c = to_value _ _ _ (setting c.args.here.now) _ _ _ _ _ _ c.in-Value.is c.get.ensures c.value.ensures

pub inside-returns-in_err-open_own : goal.inside-returns-in_err-open_own
inside-returns-in_err-open_own g t c = ran_memory _ _ _ _ _ _ _ _ (search rules) (extends_self _) refl (spent_self _)

pub inside-returns-in_err-bind_parameters : goal.inside-returns-in_err-bind_parameters
inside-returns-in_err-bind_parameters g t c = ran_own _ _ _ c.args.here.now.levels c.args.here.now.mode c.args.here.now.running.now c.args.here.now.func.now c.args.given.now _ _ _ _ (λ p. c.in_ok-open_own.ensures (captures_in p)) (ran_err _ _ _ _ _ _ _ _ _ _ _ (search rules) (λ p x. body_adds c.args.here.now.func.now c.args.here.now.mode c.args.here.now.running.now c.args.here.now.levels p c.args.here.now.func.now.arrow.body) (rw (c.as_slice.ensures, c.get-arrow.ensures) at c.in_err-bind_parameters.ensures))

pub inside-returns : goal.inside-returns
inside-returns g t c = ran_own _ _ _ c.args.here.now.levels c.args.here.now.mode c.args.here.now.running.now c.args.here.now.func.now c.args.given.now _ _ _ _ (λ p. c.in_ok-open_own.ensures (captures_in p)) (ran_then _ _ _ _ _ _ _ _ _ _ _ _ (rw (c.as_slice.ensures, c.get-arrow.ensures) at c.in_ok-bind_parameters.ensures) (rw c.get-arrow.ensures at c.body.ensures))

pub bind_parameters-returns-then-tracks : goal.bind_parameters-returns-then-tracks
bind_parameters-returns-then-tracks g t c = ran_no_parameters _ _ _ (setting c.args.here.now) _ c.args.patterns.now c.args.given.now (λ p. sym c.tracks.ensures ∙ c.if-tracks.true)

pub bind_parameters-returns : goal.bind_parameters-returns
bind_parameters-returns g t c = to_parameters _ _ _ (setting c.args.here.now) _ _ _ c.args.patterns.now c.args.given.now (λ p. sym c.tracks.ensures ∙ c.if-tracks.false) c.bind_all.ensures

pub bind_all-loop-i-init : goal.bind_all-loop-i-init
bind_all-loop-i-init g t c = λ r code left heap scope host k. k

pub bind_all-returns-in_err-v : goal.bind_all-returns-in_err-v
bind_all-returns-in_err-v g t c = c.loop-i.invariant _ _ _ _ _ _ (ran_lost _ _ _ _ _ _ _ (search rules))

pub bind_all-returns-in_err-bind : goal.bind_all-returns-in_err-bind
bind_all-returns-in_err-bind g t c = c.loop-i.invariant _ _ _ _ _ _ (patterns_err _ _ _ c.args.here.now.func.now c.args.here.now.mode c.args.here.now.running.now c.args.here.now.levels c.args.patterns.now c.args.given.now c.loop-i.i _ c.in_ok-v.v _ _ _ (λ p. c.in_ok-v.ensures (captures_in p)) _ (search rules) (search rules) (search rules) c.in_err-bind.ensures)

pub bind_all-loop-i-preserved : goal.bind_all-loop-i-preserved
bind_all-loop-i-preserved g t c = λ r code left heap scope host k. c.loop-i.invariant r code left heap scope host (patterns_step _ _ _ c.args.here.now.func.now c.args.here.now.mode c.args.here.now.running.now c.args.here.now.levels c.args.patterns.now c.args.given.now c.loop-i.i _ c.in_ok-v.v _ _ _ (λ p. c.in_ok-v.ensures (captures_in p)) _ (search rules) (search rules) c.in_ok-bind.ensures k)

pub bind_all-returns : goal.bind_all-returns
bind_all-returns g t c = c.loop-i.invariant _ _ _ _ _ _ (patterns_end _ _ _ c.args.here.now.func.now c.args.here.now.mode c.args.here.now.running.now c.args.here.now.levels c.args.patterns.now c.args.given.now c.loop-i.i _ (omega arith))

pub bind-returns-in-Name : goal.bind-returns-in-Name
bind-returns-in-Name g t c = rw c.in-Name.is (ran_bound_name _ _ _ (setting c.args.here.now) _ c.in-Name.name c.args.v _ (λ p. c.assign.ensures (captures_in p)))

pub bind-returns-in-Fields : goal.bind-returns-in-Fields
bind-returns-in-Fields g t c = rw c.in-Fields.is (rw c.as_slice.ensures at c.bind_fields.ensures)

pub bind-returns-in-Scope : goal.bind-returns-in-Scope
bind-returns-in-Scope g t c = rw c.in-Scope.is (ran_gives _ _ _ _ _ _ _ (λ p k past. refl))

pub bind_fields-loop-name-init : goal.bind_fields-loop-name-init
bind_fields-loop-name-init g t c = λ r code left heap scope host k. k

pub bind_fields-returns-in_err-share : goal.bind_fields-returns-in_err-share
bind_fields-returns-in_err-share g t c = c.loop-name.invariant _ _ _ _ _ _ (ran_lost _ _ _ _ _ _ _ (search rules))

pub bind_fields-returns-in_err-w : goal.bind_fields-returns-in_err-w
bind_fields-returns-in_err-w g t c = c.loop-name.invariant _ _ _ _ _ _ (members_err _ _ _ c.args.here.now.func.now c.args.here.now.mode c.args.here.now.running.now c.args.here.now.levels c.args.names.now c.loop-name.name-index _ c.args.v.now _ _ _ _ c.loop-name-test.true c.name-item.is (search rules) (rw c.in_ok-share.ensures at c.in_err-w.ensures _))

pub bind_fields-loop-name-preserved : goal.bind_fields-loop-name-preserved
bind_fields-loop-name-preserved g t c = λ r code left heap scope host k. c.loop-name.invariant r code left heap scope host (members_step _ _ _ c.args.here.now.func.now c.args.here.now.mode c.args.here.now.running.now c.args.here.now.levels c.args.names.now c.loop-name.name-index _ c.args.v.now _ _ r _ c.in_ok-w.w _ c.loop-name-test.true c.name-item.is (rw c.in_ok-share.ensures at c.in_ok-w.ensures _) (λ p. c.assign.ensures (captures_in p)) k)

pub bind_fields-returns : goal.bind_fields-returns
bind_fields-returns g t c = c.loop-name.invariant _ _ _ _ _ _ (members_end _ _ _ c.args.here.now.func.now c.args.here.now.mode c.args.here.now.running.now c.args.here.now.levels c.args.names.now c.loop-name.name-index c.args.v.now _ (omega arith))
