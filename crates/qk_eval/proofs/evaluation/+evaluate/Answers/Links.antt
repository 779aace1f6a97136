-- The answers of the cycle: chains of postfix forms, and what is read.
use Rattle.std.proofs.Common.{rules, arith, refl, ℕ, sym, ◌∙◌, ap}
use Rattle.std.specs.Prelude.{List, [], ◌∷◌, option_map}
use Rattle.qk_meaning.specs.Value as M
use Rattle.qk_meaning.specs.Program.{captures_in}
use Rattle.qk_meaning.specs.Doing.{give}
use Rattle.qk_meaning.specs.Running.{Running}
use Rattle.qk_meaning.specs.Happening.{Computing}
use Rattle.qk_meaning.specs.Heap.{Runs}
use Rattle.qk_meaning.specs.References as Refs
use Rattle.qk_meaning.specs.References.{valued, combined, stored, removed, bound}
use Rattle.qk_meaning.specs.In_order.{value_in, link_followed, links_followed}
use Rattle.qk_value.specs.declared.value.Value.{Value, Fun as Function}
use Rattle.qk_value.proofs.Viewing.{seen-Fun}
use Rattle.qk_heap.specs.Told.{Besides}
use Rattle.qk_acts.specs.Naming.{method_seen}
use Rattle.qk_eval.specs.declared.reference.Reference.{Reference}
use Rattle.qk_eval.specs.Placing.{setting}
use Rattle.qk_eval.specs.Lists.{call_made}
use Rattle.qk_eval.specs.Seeing.{value_seen, reference_seen}
use Rattle.qk_eval.proofs.Growing.{quiet, bind, value_adds, links_add, call_made_adds}
use Rattle.qk_code.proofs.Runs.{ran_then, ran_err, ran_gives, ran_value, ran_lost, ran_memory, extends_self, spent_self}
use Rattle.qk_eval.proofs.Steps.{to_post, to_call, callee_local, ran_read, ran_found, ran_not_found, ran_local, ran_cycle, ran_computed, ran_computed_err, ran_want, none_there, heard_nothing}
use Rattle.qk_eval.proofs.Loops.{fold_step, fold_err, fold_end}
use Rattle.qk_eval.proofs.Roots.{ran_method, ran_no_method, ran_no_method_err}
use Rattle.qk_eval.proofs.Calling.{ran_framework_callee}
use Rattle.qk_eval.proofs.evaluation.+evaluate.Goals as goal

pub follow_name-returns-in_err-object : goal.follow_name-returns-in_err-object
follow_name-returns-in_err-object g t c = ran_err _ _ _ _ _ _ _ _ _ _ _ (search rules) (λ p x. quiet) c.in_err-object.ensures

pub follow_name-returns-in_err-share : goal.follow_name-returns-in_err-share
follow_name-returns-in_err-share g t c = ran_then _ _ _ _ _ _ _ _ _ _ _ _ c.in_ok-object.ensures (ran_lost _ _ _ _ _ _ _ (search rules))

pub follow_name-returns : goal.follow_name-returns
follow_name-returns g t c = ran_then _ _ _ _ _ _ _ _ _ _ _ _ c.in_ok-object.ensures (ran_value _ _ _ _ _ _ _ (Reference.Member c.in_ok-object.object (Value.Text c.args.name.now)) (ap (λ (x : List ℕ). Reference.Member c.in_ok-object.object (Value.Text x)) c.in_ok-share.ensures) (λ p k past. refl))

pub follow_key-returns-in_err-object : goal.follow_key-returns-in_err-object
follow_key-returns-in_err-object g t c = ran_err _ _ _ _ _ _ _ _ _ _ _ (search rules) (λ p x. bind {A = M.Value} {B = Refs.Reference} (value_in (setting c.args.here.now p) c.args.key.now) (λ k. give {S = Running} (Refs.Member x k)) (value_adds c.args.here.now.func.now c.args.here.now.mode c.args.here.now.running.now c.args.here.now.levels p c.args.key.now) (λ k. quiet)) c.in_err-object.ensures

pub follow_key-returns-in_err-key : goal.follow_key-returns-in_err-key
follow_key-returns-in_err-key g t c = ran_then _ _ _ _ _ _ _ _ _ _ _ _ c.in_ok-object.ensures (ran_err _ _ _ _ _ _ _ _ _ _ _ (search rules) (λ p x. quiet) c.in_err-key.ensures)

pub follow_key-returns : goal.follow_key-returns
follow_key-returns g t c = ran_then _ _ _ _ _ _ _ _ _ _ _ _ c.in_ok-object.ensures (ran_then _ _ _ _ _ _ _ _ _ _ _ _ c.in_ok-key.ensures (ran_gives _ _ _ _ _ _ _ (λ p k past. refl)))

pub follow_link-returns-in-Call : goal.follow_link-returns-in-Call
follow_link-returns-in-Call g t c = rw c.in-Call.is (rw c.as_slice.ensures at c.follow_call.ensures)

pub follow_call-returns-in_err-c : goal.follow_call-returns-in_err-c
follow_call-returns-in_err-c g t c = to_call _ _ _ (setting c.args.here.now) _ _ _ c.args.r c.args.arguments.now (ran_err _ _ _ _ _ _ _ _ _ _ _ (search rules) (λ p x. bind {A = M.Value} {B = Refs.Reference} (call_made (setting c.args.here.now p) x c.args.arguments.now) (λ v. give {S = Running} (Refs.Of v)) (call_made_adds c.args.here.now.func.now c.args.here.now.mode c.args.here.now.running.now c.args.here.now.levels p x c.args.arguments.now) (λ v. quiet)) c.in_err-c.ensures)

pub follow_call-returns-in_err-v : goal.follow_call-returns-in_err-v
follow_call-returns-in_err-v g t c = to_call _ _ _ (setting c.args.here.now) _ _ _ c.args.r c.args.arguments.now (ran_then _ _ _ _ _ _ _ _ _ _ _ _ c.in_ok-c.ensures (ran_err _ _ _ _ _ _ _ _ _ _ _ (search rules) (λ p x. quiet) c.in_err-v.ensures))

pub follow_call-returns : goal.follow_call-returns
follow_call-returns g t c = to_call _ _ _ (setting c.args.here.now) _ _ _ c.args.r c.args.arguments.now (ran_then _ _ _ _ _ _ _ _ _ _ _ _ c.in_ok-c.ensures (ran_then _ _ _ _ _ _ _ _ _ _ _ _ c.in_ok-v.ensures (ran_gives _ _ _ _ _ _ _ (λ p k past. refl))))

pub callee-returns-in-Of : goal.callee-returns-in-Of
callee-returns-in-Of g t c = rw c.in-Of.is (ran_gives _ _ _ _ _ _ _ (λ p k past. refl))

pub callee-returns-in-Tracker : goal.callee-returns-in-Tracker
callee-returns-in-Tracker g t c = rw c.in-Tracker.is (ran_gives _ _ _ _ _ _ _ (λ p k past. refl))

pub callee-returns-in_err-v-in-Local : goal.callee-returns-in_err-v-in-Local
callee-returns-in_err-v-in-Local g t c = callee_local _ _ _ (setting c.args.here.now) _ _ _ c.args.r _ c.in-Local.is (ran_err _ _ _ _ _ _ _ _ _ _ _ (search rules) (λ p x. quiet) c.in_err-v-in-Local.ensures)

pub callee-returns-in_ok-v-in-Local : goal.callee-returns-in_ok-v-in-Local
callee-returns-in_ok-v-in-Local g t c = callee_local _ _ _ (setting c.args.here.now) _ _ _ c.args.r _ c.in-Local.is (ran_then _ _ _ _ _ _ _ _ _ _ _ _ c.in_ok-v-in-Local.ensures (ran_gives _ _ _ _ _ _ _ (λ p k past. refl)))

pub value_of-returns-in-Of : goal.value_of-returns-in-Of
value_of-returns-in-Of g t c = rw c.in-Of.is (ran_gives _ _ _ _ _ _ _ (λ p k past. refl))

pub value_of-returns-in-Member : goal.value_of-returns-in-Member
value_of-returns-in-Member g t c = rw c.in-Member.is (c.read.ensures _)

pub value_of-returns-in_err-value-in-Local : goal.value_of-returns-in_err-value-in-Local
value_of-returns-in_err-value-in-Local g t c = ran_lost _ _ _ _ _ _ _ (search rules)

pub value_of-returns-in-Local : goal.value_of-returns-in-Local
value_of-returns-in-Local g t c = rw c.in-Local.is (ran_local _ _ _ (setting c.args.here.now) _ _ _ (λ p. c.in_ok-value-in-Local.ensures (captures_in p)))

pub value_of-returns-in-Tracker : goal.value_of-returns-in-Tracker
value_of-returns-in-Tracker g t c = rw c.in-Tracker.is (ran_gives _ _ _ _ _ _ _ (λ p k past. refl))

pub value_of-returns : goal.value_of-returns
value_of-returns g t c = rw c.in-Framework.is (ran_gives _ _ _ _ _ _ _ (λ p k past. refl))

pub read-returns-in_err-v : goal.read-returns-in_err-v
read-returns-in_err-v g t c = λ outer. ran_not_found _ _ _ (setting c.args.here.now) _ c.args.machine.now.heap c.args.object.now c.args.key.now _ c.in_err-v.field-0.0 (search rules) (λ p. refl) c.in_err-v.ensures

pub read-returns-in-Runs : goal.read-returns-in-Runs
read-returns-in-Runs g t c = let looks = rw c.in-Runs.is at c.in_ok-v.ensures in λ outer. ran_read _ _ _ (setting c.args.here.now) _ _ _ c.args.object.now c.args.key.now (λ p. Runs c.in-Runs.a.0 (value_seen p (Function c.in-Runs.f))) (λ p. looks (captures_in p) ∙ ap (λ (x : M.Value). Runs c.in-Runs.a.0 x) (sym (seen-Fun (captures_in p) c.in-Runs.f))) (c.computed.ensures outer)

pub read-returns-in_err-tell_read-in-Found : goal.read-returns-in_err-tell_read-in-Found
read-returns-in_err-tell_read-in-Found g t c = λ outer. ran_memory _ _ _ _ _ _ _ _ (search rules) (extends_self _) refl (spent_self _)

pub read-returns-in_ok-tell_read-in-Found : goal.read-returns-in_ok-tell_read-in-Found
read-returns-in_ok-tell_read-in-Found g t c = let looks = rw c.in-Found.is at c.in_ok-v.ensures in λ outer. ran_read _ _ _ (setting c.args.here.now) _ _ _ c.args.object.now c.args.key.now _ (λ p. looks (captures_in p)) (ran_found _ _ _ (setting c.args.here.now) _ _ c.in-Found.v c.in-Found.location c.in_ok-tell_read-in-Found.ensures.told)

pub computed-returns-then-is_under_way : goal.computed-returns-then-is_under_way
computed-returns-then-is_under_way g t c = λ outer. ran_cycle _ _ _ c.args.here.now.func.now c.args.here.now.mode c.args.here.now.running.now c.args.here.now.levels _ c.args.a c.args.f.now _ refl (sym c.is_under_way.ensures ∙ c.if-is_under_way.true)

pub computed-returns-in_err-running : goal.computed-returns-in_err-running
computed-returns-in_err-running g t c = λ outer. ran_lost _ _ _ _ _ _ _ (search rules)

pub computed-returns-in-Some : goal.computed-returns-in-Some
computed-returns-in-Some g t c = λ outer. absurd (none_there _ c.in-Some.known c.in_ok-known.ensures.none c.in-Some.is)

pub computed-returns-in_err-began : goal.computed-returns-in_err-began
computed-returns-in_err-began g t c = λ outer. ran_memory _ _ _ _ _ _ _ _ (search rules) (extends_self _) refl (spent_self _)

pub computed-returns-in_err-finished : goal.computed-returns-in_err-finished
computed-returns-in_err-finished g t c = λ outer. ran_want _ _ _ _ _ _ _ _ _ _ _ _ c.in_ok-v.v outer (g.H.Watch.stands_for c.finished.new.self) _ (search rules) refl refl refl (c.in_ok-v.ensures outer)

pub computed-returns : goal.computed-returns
computed-returns g t c = λ outer. ran_computed _ _ _ c.args.here.now.func.now c.args.here.now.mode c.args.here.now.running.now c.as_slice.result.now c.args.here.now.levels _ _ (g.H.Watch.stands_for c.began.new.self) c.args.a c.args.f.now _ (sym c.is_under_way.ensures ∙ c.if-is_under_way.false) (c.as_slice.ensures ∙ c.in_ok-running.ensures) refl (heard_nothing (g.H.Watch.stands_for c.args.host.now) (g.H.Watch.stands_for c.kept.new.self) (g.H.Watch.stands_for c.began.new.self) (Besides (Computing c.args.a.0) ∷ []) c.in_ok-known.ensures.told c.in_ok-began.ensures.told) c.in_ok-v.v _ c.in_ok-finished.ensures.told (c.in_ok-v.ensures outer)

pub computed-returns-in_err-known : goal.computed-returns-in_err-known
computed-returns-in_err-known g t c = λ outer. ran_memory _ _ _ _ _ _ _ _ (search rules) (extends_self _) refl (spent_self _)

pub computed-returns-in_err-v : goal.computed-returns-in_err-v
computed-returns-in_err-v g t c = λ outer. ran_computed_err _ _ _ c.args.here.now.func.now c.args.here.now.mode c.args.here.now.running.now c.as_slice.result.now c.args.here.now.levels _ _ (g.H.Watch.stands_for c.began.new.self) c.args.a c.args.f.now _ (sym c.is_under_way.ensures ∙ c.if-is_under_way.false) (c.as_slice.ensures ∙ c.in_ok-running.ensures) refl (heard_nothing (g.H.Watch.stands_for c.args.host.now) (g.H.Watch.stands_for c.kept.new.self) (g.H.Watch.stands_for c.began.new.self) (Besides (Computing c.args.a.0) ∷ []) c.in_ok-known.ensures.told c.in_ok-began.ensures.told) _ c.in_err-v.field-0.0 (search rules) (c.in_err-v.ensures outer)

pub follow-loop-link-init : goal.follow-loop-link-init
follow-loop-link-init g t c = λ r code left heap scope host k. k

pub follow-returns-in_err-at : goal.follow-returns-in_err-at
follow-returns-in_err-at g t c = c.loop-link.invariant _ _ _ _ _ _ (fold_err _ _ _ (λ p. link_followed (setting c.args.here.now p)) (λ p. links_followed (setting c.args.here.now p)) reference_seen (λ p y. refl) (λ p x xs y. refl) (λ p xs y. links_add c.args.here.now.func.now c.args.here.now.mode c.args.here.now.running.now c.args.here.now.levels p xs y) c.args.links.now _ _ _ _ _ _ _ c.loop-link-test.true c.link-item.is (search rules) c.in_err-at.ensures)

pub follow-loop-link-preserved : goal.follow-loop-link-preserved
follow-loop-link-preserved g t c = λ r code left heap scope host k. c.loop-link.invariant r code left heap scope host (fold_step _ _ _ (λ p. link_followed (setting c.args.here.now p)) (λ p. links_followed (setting c.args.here.now p)) reference_seen (λ p y. refl) (λ p x xs y. refl) (λ p xs y. links_add c.args.here.now.func.now c.args.here.now.mode c.args.here.now.running.now c.args.here.now.levels p xs y) c.args.links.now _ _ _ _ _ _ _ _ c.loop-link-test.true c.link-item.is c.in_ok-at.ensures k)

pub follow-returns : goal.follow-returns
follow-returns g t c = c.loop-link.invariant _ _ _ _ _ _ (fold_end _ _ _ (λ p. link_followed (setting c.args.here.now p)) (λ p. links_followed (setting c.args.here.now p)) reference_seen (λ p y. refl) (λ p x xs y. refl) (λ p xs y. links_add c.args.here.now.func.now c.args.here.now.mode c.args.here.now.running.now c.args.here.now.levels p xs y) c.args.links.now c.loop-link.link-index _ _ (omega arith))

pub held-returns-in_err-share-in-Of : goal.held-returns-in_err-share-in-Of
held-returns-in_err-share-in-Of g t c = ran_lost _ _ _ _ _ _ _ (search rules)

pub held-returns-in_ok-share-in-Of : goal.held-returns-in_ok-share-in-Of
held-returns-in_ok-share-in-Of g t c = rw c.in-Of.is (ran_value _ _ _ _ _ _ _ c.in-Of.v c.in_ok-share-in-Of.ensures (λ p k past. refl))

pub held-returns-in-Member : goal.held-returns-in-Member
held-returns-in-Member g t c = rw c.in-Member.is (c.read.ensures _)

pub held-returns-in_err-value-in-Local : goal.held-returns-in_err-value-in-Local
held-returns-in_err-value-in-Local g t c = ran_lost _ _ _ _ _ _ _ (search rules)

pub held-returns-in_ok-value-in-Local : goal.held-returns-in_ok-value-in-Local
held-returns-in_ok-value-in-Local g t c = rw c.in-Local.is (ran_local _ _ _ (setting c.args.here.now) _ c.in-Local.name _ (λ p. c.in_ok-value-in-Local.ensures (captures_in p)))

pub held-returns-in-Tracker : goal.held-returns-in-Tracker
held-returns-in-Tracker g t c = rw c.in-Tracker.is (ran_gives _ _ _ _ _ _ _ (λ p k past. refl))

pub held-returns-in-Framework : goal.held-returns-in-Framework
held-returns-in-Framework g t c = rw c.in-Framework.is (ran_gives _ _ _ _ _ _ _ (λ p k past. refl))

pub callee-returns-in-Member : goal.callee-returns-in-Member
callee-returns-in-Member g t c = rw c.in-Member.is (c.member_callee.ensures _)

pub callee-returns-in-Framework : goal.callee-returns-in-Framework
callee-returns-in-Framework g t c = rw c.in-Framework.is (ran_framework_callee _ _ _ (setting c.args.here.now) _ c.in-Framework.name _ c.framework_callee.ensures)

pub member_callee-returns-in-Some : goal.member_callee-returns-in-Some
member_callee-returns-in-Some g t c = λ outer. ran_method _ _ _ (setting c.args.here.now) _ _ c.args.key.now _ _ (λ p. refl) (λ names. ap (option_map method_seen) (sym c.in-Some.is) ∙ c.method_of.ensures names)

pub member_callee-returns-in_err-v-in-None : goal.member_callee-returns-in_err-v-in-None
member_callee-returns-in_err-v-in-None g t c = λ outer. ran_no_method_err _ _ _ (setting c.args.here.now) _ c.args.object c.args.key.now _ _ _ _ (search rules) (λ p. refl) (λ names. ap (option_map method_seen) (sym c.in-None.is) ∙ c.method_of.ensures names) (c.in_err-v-in-None.ensures outer)

pub member_callee-returns-in_ok-v-in-None : goal.member_callee-returns-in_ok-v-in-None
member_callee-returns-in_ok-v-in-None g t c = λ outer. ran_no_method _ _ _ (setting c.args.here.now) _ c.args.object c.args.key.now _ _ _ (λ p. refl) (λ names. ap (option_map method_seen) (sym c.in-None.is) ∙ c.method_of.ensures names) (c.in_ok-v-in-None.ensures outer)

pub refer_post-returns-in_err-r : goal.refer_post-returns-in_err-r
refer_post-returns-in_err-r g t c = to_post _ _ _ (setting c.args.here.now) _ _ _ c.args.head.now c.args.links.now (ran_err _ _ _ _ _ _ _ _ _ _ _ (search rules) (λ p x. links_add c.args.here.now.func.now c.args.here.now.mode c.args.here.now.running.now c.args.here.now.levels p c.args.links.now x) (rw c.get.ensures at c.in_err-r.ensures))

pub refer_post-returns : goal.refer_post-returns
refer_post-returns g t c = to_post _ _ _ (setting c.args.here.now) _ _ _ c.args.head.now c.args.links.now (ran_then _ _ _ _ _ _ _ _ _ _ _ _ (rw c.get.ensures at c.in_ok-r.ensures) c.follow.ensures)
