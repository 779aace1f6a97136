use Rattle.std.proofs.Common.{◌≡◌, ◌≤◌, ℕ, pos, w64, to_z, rules, arith, refl, sym, ap, ◌∙◌, List, []}
use Rattle.std.proofs.lemmas.Int.{to_z_pos}
use Rattle.qk_ast.specs.Texts.{Text}
use Rattle.qk_meaning.specs.Value as M
use Rattle.qk_meaning.specs.Value.{Site}
use Rattle.qk_meaning.specs.Heap.{object_at}
use Rattle.qk_meaning.specs.Doing.{Doing}
use Rattle.qk_meaning.specs.Running.{Running}
use Rattle.qk_meaning.specs.Setting.{captures}
use Rattle.qk_value.specs.declared.fault.Fault.TheVariants.{TypeMismatch}
use Rattle.qk_heap.specs.declared.fault.HeapStop.{HeapStop}
use Rattle.qk_heap.specs.Seen.{heap_seen}
use Rattle.qk_making.specs.Acting.{seen_in}
use Rattle.qk_making.proofs.Acting.{acts_faults, acts_lost}
use Rattle.qk_acts.proofs.Changing.{made_at, acts_open, acts_shut}
use Rattle.qk_acts.proofs.Objects.{array_held}
use Rattle.qk_acts.proofs.Array_changes.{not_pushed, other_pushed, acts_pushed, acts_unpushed, acts_full, few_pushed}
use Rattle.qk_acts.proofs.arrays.push.Goals as goal

small : (n : ℕ) → n ≤ 65536 → to_z w64 n ≡ pos n
small n few = to_z_pos w64 n (omega (arith, few))

pub returns-in_err-a : goal.returns-in_err-a
returns-in_err-a g c = λ here mode_is. acts_shut here c.args.mode mode_is c.args.heap.now c.args.v.now (seen_in here) _ _ _ _ (search rules) c.in_err-a.ensures

pub returns-in_default : goal.returns-in_default
returns-in_default g c = λ here mode_is.
    acts_open here c.args.mode mode_is c.args.heap.now c.args.v.now (seen_in here) _ _ _ c.in_ok-a.a _ _ c.in_ok-a.ensures
    (acts_faults (seen_in here) _ _ _ _ TypeMismatch refl (λ s same. ap (λ (m : Doing Running M.Value). m s) (not_pushed here (seen_in here c.args.v.now) c.args.arguments.now (search rules))))

pub returns-then-not-holds_array : goal.returns-then-not-holds_array
returns-then-not-holds_array g c = λ here mode_is.
    acts_open here c.args.mode mode_is c.args.heap.now c.args.v.now (seen_in here) _ _ _ c.in_ok-a.a _ _ c.in_ok-a.ensures
    (acts_unpushed here c.args.mode mode_is c.args.heap.now c.args.v.now c.in_ok-a.a c.in_ok-a.ensures g.H.Watch.stands_for c.args.host.now c.args.host.now c.in-Some.item.now c.args.arguments.now c.args.heap.now _ (HeapStop.Fault TypeMismatch) refl refl (search rules)
    (other_pushed (object_at (heap_seen (captures here) c.args.heap.now) c.in_ok-a.a.0) (seen_in here c.in-Some.item.now) (sym (c.holds_array.ensures (captures here)) ∙ c.if-not-holds_array.true)) refl)

pub returns-in_err-share : goal.returns-in_err-share
returns-in_err-share g c = λ here mode_is. acts_lost _ _ _ _ _ _ _ (search rules)

pub push-requires-clause-made : goal.push-requires-clause-made
push-requires-clause-made g c = made_at c.args.mode c.args.heap.now c.args.v.now c.in_ok-a.a c.in_ok-a.ensures

pub push-requires-clause-array : goal.push-requires-clause-array
push-requires-clause-array g c = let none : Site → List Text = λ s. [] in array_held none c.args.heap.now c.in_ok-a.a.0 (sym (c.holds_array.ensures none) ∙ c.if-not-holds_array.false)

pub returns-in_err-count : goal.returns-in_err-count
returns-in_err-count g c = λ here mode_is.
    acts_open here c.args.mode mode_is c.args.heap.now c.args.v.now (seen_in here) _ _ _ c.in_ok-a.a _ _ c.in_ok-a.ensures
    (acts_full here c.args.mode mode_is c.args.heap.now c.args.v.now c.in_ok-a.a c.in_ok-a.ensures g.H.Watch.stands_for c.args.host.now c.push.new.w c.in-Some.item.now c.in_ok-share.field-0 c.args.arguments.now c.push.new.self _ c.in_err-count.field-0.0 (search rules) c.in_err-count.ensures.kept (search rules) c.in_ok-share.ensures (sym (c.holds_array.ensures (captures here)) ∙ c.if-not-holds_array.false)
    (c.in_err-count.ensures.refused (captures here)) c.in_err-count.ensures.silent)

pub overflow_cast-result : goal.overflow_cast-result
overflow_cast-result g c =
    let few : c.in_ok-count.count ≤ 65536 = few_pushed _ _ _ _ (c.in_ok-count.ensures.became (λ s. [])).becomes (c.in_ok-count.ensures.count (λ s. [])) in
    record { sfits = omega (arith, few) }

pub returns : goal.returns
returns g c = λ here mode_is.
    acts_open here c.args.mode mode_is c.args.heap.now c.args.v.now (seen_in here) _ _ _ c.in_ok-a.a _ _ c.in_ok-a.ensures
    (acts_pushed here c.args.mode mode_is c.args.heap.now c.args.v.now c.in_ok-a.a c.in_ok-a.ensures g.H.Watch.stands_for c.args.host.now c.push.new.w c.in-Some.item.now c.in_ok-share.field-0 c.args.arguments.now c.push.new.self _ c.in_ok-count.count _ refl (small c.in_ok-count.count (few_pushed _ _ _ _ (c.in_ok-count.ensures.became (captures here)).becomes (c.in_ok-count.ensures.count (captures here)))) (c.in_ok-count.ensures.count (captures here)) (search rules) c.in_ok-share.ensures (sym (c.holds_array.ensures (captures here)) ∙ c.if-not-holds_array.false)
    (c.in_ok-count.ensures.became (captures here)))
