-- The answers of the cycle: calls.
use Rattle.std.proofs.Common.{rules, arith, refl, false}
use Rattle.qk_meaning.specs.Value as M
use Rattle.qk_meaning.specs.Program.{captures_in}
use Rattle.qk_meaning.specs.Parts.{packed}
use Rattle.qk_value.specs.declared.fault.Fault.TheVariants.{TypeMismatch}
use Rattle.qk_value.specs.declared.value.Value.{Fun as Function}
use Rattle.qk_eval.specs.Placing.{setting}
use Rattle.qk_eval.specs.Seeing.{value_seen, values_seen, callee_seen}
use Rattle.qk_eval.proofs.Growing.{made_list_adds, call_adds, map_adds, filter_adds, made_adds}
use Rattle.qk_code.proofs.Runs.{ran_then, ran_err, ran_faults, ran_lost}
use Rattle.qk_eval.proofs.Steps.{ran_uncallable, ran_callable}
use Rattle.qk_eval.proofs.Binding.{items_begin, items_step, items_err, items_memory, items_end, ran_item}
use Rattle.qk_eval.proofs.Expressions.{call_made_so}
use Rattle.qk_eval.proofs.Acted.{ran_left, ran_made, ran_acted, ran_acts}
use Rattle.qk_eval.proofs.No_function.{no_function}
use Rattle.qk_eval.proofs.Calling.{to_map, to_filter, ran_unmapped, ran_unfiltered, ran_kept, to_lifted, ran_unlifted}
use Rattle.qk_eval.proofs.Plain_steps.{is_none}
use Rattle.qk_eval.proofs.evaluation.+evaluate.Goals as goal

pub call_of-returns-in-Qrl : goal.call_of-returns-in-Qrl
call_of-returns-in-Qrl g t c = rw c.in-Qrl.is c.lifted.ensures

pub call_of-returns-in_err-given : goal.call_of-returns-in_err-given
call_of-returns-in_err-given g t c = call_made_so _ _ _ (setting c.args.here.now) _ _ _ c.args.c c.args.arguments.now c.in_default.not-Qrl (ran_err _ _ _ _ _ _ _ _ _ _ _ (search rules) (λ p x. call_adds c.args.here.now.func.now c.args.here.now.mode c.args.here.now.running.now c.args.here.now.levels p (callee_seen p c.args.c) x) c.in_err-given.ensures)

pub call_of-returns : goal.call_of-returns
call_of-returns g t c = call_made_so _ _ _ (setting c.args.here.now) _ _ _ c.args.c c.args.arguments.now c.in_default.not-Qrl (ran_then _ _ _ _ _ _ _ _ _ _ _ _ c.in_ok-given.ensures (rw c.as_slice.ensures at c.call.ensures _))

pub call-returns-in-Value : goal.call-returns-in-Value
call-returns-in-Value g t c = λ outer. rw c.in-Value.is (c.call_value.ensures outer)

pub call-returns-in-Method : goal.call-returns-in-Method
call-returns-in-Method g t c = λ outer. rw c.in-Method.is (c.call_method.ensures outer)

pub call-returns-in-Hook : goal.call-returns-in-Hook
call-returns-in-Hook g t c = λ outer. rw c.in-Hook.is (c.call_hook.ensures outer)

pub call-returns-in-Tracker : goal.call-returns-in-Tracker
call-returns-in-Tracker g t c = λ outer. rw c.in-Tracker.is (c.call_tracker.ensures outer)

pub call-returns-in-Dollar : goal.call-returns-in-Dollar
call-returns-in-Dollar g t c = λ outer. rw c.in-Dollar.is (c.call_dollar.ensures outer)

pub call-returns-in-Mark : goal.call-returns-in-Mark
call-returns-in-Mark g t c = λ outer. rw c.in-Mark.is (c.call_mark.ensures outer)

pub call-returns-in-Qrl : goal.call-returns-in-Qrl
call-returns-in-Qrl g t c = λ outer. rw c.in-Qrl.is (ran_faults _ _ _ _ _ _ _ TypeMismatch (search rules) (λ p g past. refl))

pub call_value-returns-in_default : goal.call_value-returns-in_default
call_value-returns-in_default g t c = λ outer. ran_uncallable _ _ _ (setting c.args.here.now) _ c.args.f.now c.args.given.now _ refl (λ p. no_function (captures_in p) c.args.f.now c.in_default.not-Fun)

pub call_value-returns : goal.call_value-returns
call_value-returns g t c = λ outer. ran_callable _ _ _ c.args.here.now.func.now c.args.here.now.mode c.args.here.now.running.now c.args.here.now.levels _ _ _ c.args.f.now _ c.args.given.now c.in-Fun.is (c.enter.ensures outer)

pub call_method-returns-in-Map : goal.call_method-returns-in-Map
call_method-returns-in-Map g t c = λ outer. rw c.in-Map.is (c.map.ensures outer)

pub call_method-returns-in-Filter : goal.call_method-returns-in-Filter
call_method-returns-in-Filter g t c = λ outer. rw c.in-Filter.is (c.filter.ensures outer)

pub call_method-returns-in-Slice : goal.call_method-returns-in-Slice
call_method-returns-in-Slice g t c = λ outer. rw c.in-Slice.is (ran_acted _ _ _ c.args.here.now.func.now c.args.here.now.mode c.args.here.now.running.now c.args.here.now.levels _ _ _ _ _ _ _ (λ p. refl) c.slice.ensures)

pub call_method-returns-in-Join : goal.call_method-returns-in-Join
call_method-returns-in-Join g t c = λ outer. rw c.in-Join.is (ran_acted _ _ _ c.args.here.now.func.now c.args.here.now.mode c.args.here.now.running.now c.args.here.now.levels _ _ _ _ _ _ _ (λ p. refl) c.join.ensures)

pub call_method-returns-in-Push : goal.call_method-returns-in-Push
call_method-returns-in-Push g t c = λ outer. rw c.in-Push.is (ran_acted _ _ _ c.args.here.now.func.now c.args.here.now.mode c.args.here.now.running.now c.args.here.now.levels _ _ _ _ _ _ _ (λ p. refl) c.push.ensures)

pub call_method-returns-in-Pop : goal.call_method-returns-in-Pop
call_method-returns-in-Pop g t c = λ outer. rw c.in-Pop.is (ran_acted _ _ _ c.args.here.now.func.now c.args.here.now.mode c.args.here.now.running.now c.args.here.now.levels _ _ _ _ _ _ _ (λ p. refl) c.pop.ensures)

pub call_method-returns-in-Splice : goal.call_method-returns-in-Splice
call_method-returns-in-Splice g t c = λ outer. rw c.in-Splice.is (ran_acted _ _ _ c.args.here.now.func.now c.args.here.now.mode c.args.here.now.running.now c.args.here.now.levels _ _ _ _ _ _ _ (λ p. refl) c.splice.ensures)

pub call_method-returns-in-Includes : goal.call_method-returns-in-Includes
call_method-returns-in-Includes g t c = λ outer. rw c.in-Includes.is (ran_left _ _ _ c.args.here.now.func.now c.args.here.now.mode c.args.here.now.running.now c.args.here.now.levels _ _ _ _ c.text_method.ensures)

pub call_method-returns-in-StartsWith : goal.call_method-returns-in-StartsWith
call_method-returns-in-StartsWith g t c = λ outer. rw c.in-StartsWith.is (ran_left _ _ _ c.args.here.now.func.now c.args.here.now.mode c.args.here.now.running.now c.args.here.now.levels _ _ _ _ c.text_method-in-StartsWith.ensures)

pub map-returns-in_default : goal.map-returns-in_default
map-returns-in_default g t c = λ outer. ran_unmapped _ _ _ (setting c.args.here.now) _ c.args.v.now c.args.given.now _ refl (rw (is_none _ c.in_default.not-Some) at c.one_function.ensures.none)

pub map-returns-in_err-items : goal.map-returns-in_err-items
map-returns-in_err-items g t c = λ outer. to_map _ _ _ (setting c.args.here.now) _ _ c.args.v.now c.args.given.now _ _ (rw c.in-Some.is at c.one_function.ensures.some) (ran_err _ _ _ _ _ _ _ _ _ _ _ (search rules) (λ p x. map_adds c.args.here.now.func.now c.args.here.now.mode c.args.here.now.running.now c.args.here.now.levels p _ x) (ran_acts _ _ _ _ _ _ _ _ _ _ (λ p. refl) (λ p. c.in_err-items.ensures (setting c.args.here.now p))))

pub map-returns-in_err-results : goal.map-returns-in_err-results
map-returns-in_err-results g t c = λ outer. to_map _ _ _ (setting c.args.here.now) _ _ c.args.v.now c.args.given.now _ _ (rw c.in-Some.is at c.one_function.ensures.some) (ran_then _ _ _ _ _ _ _ _ _ _ _ _ (ran_acts _ _ _ values_seen _ _ _ _ _ _ (λ p. refl) (λ p. c.in_ok-items.ensures (setting c.args.here.now p))) (ran_err _ _ _ _ _ _ _ _ _ _ _ (search rules) (λ p x. made_list_adds c.args.here.now.func.now c.args.here.now.mode c.args.here.now.running.now c.args.here.now.levels p x) (rw c.as_slice.ensures at c.in_err-results.ensures outer)))

pub map-returns : goal.map-returns
map-returns g t c = λ outer. to_map _ _ _ (setting c.args.here.now) _ _ c.args.v.now c.args.given.now _ _ (rw c.in-Some.is at c.one_function.ensures.some) (ran_then _ _ _ _ _ _ _ _ _ _ _ _ (ran_acts _ _ _ values_seen _ _ _ _ _ _ (λ p. refl) (λ p. c.in_ok-items.ensures (setting c.args.here.now p))) (ran_then _ _ _ _ _ _ _ _ _ _ _ _ (rw c.as_slice.ensures at c.in_ok-results.ensures outer) (ran_made _ _ _ c.args.here.now.func.now c.args.here.now.mode c.args.here.now.running.now c.args.here.now.levels _ _ _ _ _ _ (λ p. refl) c.make_list.ensures)))

pub filter-returns-in_default : goal.filter-returns-in_default
filter-returns-in_default g t c = λ outer. ran_unfiltered _ _ _ (setting c.args.here.now) _ c.args.v.now c.args.given.now _ refl (rw (is_none _ c.in_default.not-Some) at c.one_function.ensures.none)

pub filter-returns-in_err-items : goal.filter-returns-in_err-items
filter-returns-in_err-items g t c = λ outer. to_filter _ _ _ (setting c.args.here.now) _ _ c.args.v.now c.args.given.now _ _ (rw c.in-Some.is at c.one_function.ensures.some) (ran_err _ _ _ _ _ _ _ _ _ _ _ (search rules) (λ p x. filter_adds c.args.here.now.func.now c.args.here.now.mode c.args.here.now.running.now c.args.here.now.levels p _ x) (ran_acts _ _ _ _ _ _ _ _ _ _ (λ p. refl) (λ p. c.in_err-items.ensures (setting c.args.here.now p))))

pub filter-returns-in_err-results : goal.filter-returns-in_err-results
filter-returns-in_err-results g t c = λ outer. to_filter _ _ _ (setting c.args.here.now) _ _ c.args.v.now c.args.given.now _ _ (rw c.in-Some.is at c.one_function.ensures.some) (ran_then _ _ _ _ _ _ _ _ _ _ _ _ (ran_acts _ _ _ values_seen _ _ _ _ _ _ (λ p. refl) (λ p. c.in_ok-items.ensures (setting c.args.here.now p))) (ran_err _ _ _ _ _ _ _ _ _ _ _ (search rules) (λ p x. made_list_adds c.args.here.now.func.now c.args.here.now.mode c.args.here.now.running.now c.args.here.now.levels p _) (rw c.as_slice.ensures at c.in_err-results.ensures outer)))

pub filter-returns-in_err-kept : goal.filter-returns-in_err-kept
filter-returns-in_err-kept g t c = λ outer. to_filter _ _ _ (setting c.args.here.now) _ _ c.args.v.now c.args.given.now _ _ (rw c.in-Some.is at c.one_function.ensures.some) (ran_then _ _ _ _ _ _ _ _ _ _ _ _ (ran_acts _ _ _ values_seen _ _ _ _ _ _ (λ p. refl) (λ p. c.in_ok-items.ensures (setting c.args.here.now p))) (ran_then _ _ _ _ _ _ _ _ _ _ _ _ (rw c.as_slice.ensures at c.in_ok-results.ensures outer) (ran_lost _ _ _ _ _ _ _ (search rules))))

pub filter-returns : goal.filter-returns
filter-returns g t c = λ outer. to_filter _ _ _ (setting c.args.here.now) _ _ c.args.v.now c.args.given.now _ _ (rw c.in-Some.is at c.one_function.ensures.some) (ran_then _ _ _ _ _ _ _ _ _ _ _ _ (ran_acts _ _ _ values_seen _ _ _ _ _ _ (λ p. refl) (λ p. c.in_ok-items.ensures (setting c.args.here.now p))) (ran_then _ _ _ _ _ _ _ _ _ _ _ _ (rw c.as_slice.ensures at c.in_ok-results.ensures outer) (ran_kept _ _ _ (setting c.args.here.now) _ _ _ _ _ _ _ _ c.as_slice-2.ensures c.as_slice-3.ensures c.in_ok-kept.ensures (ran_made _ _ _ c.args.here.now.func.now c.args.here.now.mode c.args.here.now.running.now c.args.here.now.levels _ _ _ _ _ _ (λ p. refl) c.make_list.ensures))))

pub call_on_each-loop-i-init : goal.call_on_each-loop-i-init
call_on_each-loop-i-init g t c = λ outer r code left heap scope host k. items_begin _ _ _ c.args.here.now.func.now c.args.here.now.mode c.args.here.now.running.now c.args.here.now.levels (λ p. value_seen p (Function c.args.f.now)) c.args.items.now _ _ _ r c.new-results.ensures k

pub call_on_each-returns-in_err-share : goal.call_on_each-returns-in_err-share
call_on_each-returns-in_err-share g t c = λ outer. c.loop-i.invariant outer _ _ _ _ _ _ (ran_lost _ _ _ _ _ _ _ (search rules))

pub call_on_each-returns-in_err-v : goal.call_on_each-returns-in_err-v
call_on_each-returns-in_err-v g t c = λ outer. c.loop-i.invariant outer _ _ _ _ _ _ (items_err _ _ _ c.args.here.now.func.now c.args.here.now.mode c.args.here.now.running.now c.args.here.now.levels (λ p. value_seen p (Function c.args.f.now)) c.args.items.now c.loop-i.i c.index-items-i.result _ _ _ _ _ c.loop-i-test.true c.index-items-i.is (search rules) (ran_item _ _ _ c.args.here.now.func.now c.args.here.now.mode c.args.here.now.running.now c.args.here.now.levels c.loop-i.i _ c.args.f.now _ _ _ _ _ _ refl c.in_ok-share.ensures (search rules) (c.in_err-v.ensures outer)))

pub call_on_each-returns-in_err-push : goal.call_on_each-returns-in_err-push
call_on_each-returns-in_err-push g t c = λ outer. c.loop-i.invariant outer _ _ _ _ _ _ (items_memory _ _ _ c.args.here.now.func.now c.args.here.now.mode c.args.here.now.running.now c.args.here.now.levels (λ p. value_seen p (Function c.args.f.now)) c.args.items.now c.loop-i.i c.index-items-i.result _ _ _ _ _ c.loop-i-test.true c.index-items-i.is (search rules) (ran_item _ _ _ c.args.here.now.func.now c.args.here.now.mode c.args.here.now.running.now c.args.here.now.levels c.loop-i.i _ c.args.f.now _ _ _ _ _ _ refl c.in_ok-share.ensures (search rules) (c.in_ok-v.ensures outer)))

pub call_on_each-loop-i-preserved : goal.call_on_each-loop-i-preserved
call_on_each-loop-i-preserved g t c = λ outer r code left heap scope host k. c.loop-i.invariant outer r code left heap scope host (items_step _ _ _ c.args.here.now.func.now c.args.here.now.mode c.args.here.now.running.now c.args.here.now.levels (λ p. value_seen p (Function c.args.f.now)) c.args.items.now c.loop-i.i c.index-items-i.result _ _ _ r _ _ _ c.loop-i-test.true c.index-items-i.is c.in_ok-push.ensures.appended (ran_item _ _ _ c.args.here.now.func.now c.args.here.now.mode c.args.here.now.running.now c.args.here.now.levels c.loop-i.i _ c.args.f.now _ _ _ _ _ _ refl c.in_ok-share.ensures (search rules) (c.in_ok-v.ensures outer)) k)

pub call_on_each-returns : goal.call_on_each-returns
call_on_each-returns g t c = λ outer. c.loop-i.invariant outer _ _ _ _ _ _ (items_end _ _ _ c.args.here.now.func.now c.args.here.now.mode c.args.here.now.running.now c.args.here.now.levels (λ p. value_seen p (Function c.args.f.now)) c.args.items.now c.loop-i.i _ _ (omega arith))

pub lifted-returns-in_default : goal.lifted-returns-in_default
lifted-returns-in_default g t c = ran_unlifted _ _ _ (setting c.args.here.now) _ c.args.arguments.now _ refl (rw (is_none _ c.in_default.not-Some) at c.symbol_and_names.ensures.none)

pub lifted-returns-in_err-captured : goal.lifted-returns-in_err-captured
lifted-returns-in_err-captured g t c = to_lifted _ _ _ (setting c.args.here.now) _ _ c.args.arguments.now _ _ _ (rw c.in-Some.is at c.symbol_and_names.ensures.some).0 (rw c.in-Some.is at c.symbol_and_names.ensures.some).1 (ran_err _ _ _ _ _ _ _ _ _ _ _ (search rules) (λ p x. made_adds c.args.here.now.func.now c.args.here.now.mode c.args.here.now.running.now c.args.here.now.levels p (M.Lifted c.in-Some.symbol.now (packed x) false)) c.in_err-captured.ensures)

pub lifted-returns : goal.lifted-returns
lifted-returns g t c = to_lifted _ _ _ (setting c.args.here.now) _ _ c.args.arguments.now _ _ _ (rw c.in-Some.is at c.symbol_and_names.ensures.some).0 (rw c.in-Some.is at c.symbol_and_names.ensures.some).1 (ran_then _ _ _ _ _ _ _ _ _ _ _ _ c.in_ok-captured.ensures (ran_left _ _ _ c.args.here.now.func.now c.args.here.now.mode c.args.here.now.running.now c.args.here.now.levels _ _ _ _ c.make_lifted.ensures))
