use Rattle.std.proofs.Common.{rules, refl, subst}
use Rattle.qk_meaning.specs.Heap.{object_at}
use Rattle.qk_meaning.specs.Setting.{captures}
use Rattle.qk_meaning.specs.Writing.{deleted}
use Rattle.qk_heap.specs.Seen.{heap_seen}
use Rattle.qk_heap.specs.Becoming.{HeapBecame, Refuses, deleted_from}
use Rattle.qk_making.specs.Acting.{seen_in}
use Rattle.qk_acts.specs.Naming.{nothing}
use Rattle.qk_acts.proofs.Changing.{made_at, state_at, at_fault, acts_open, acts_shut, acts_turned, acts_kept}
use Rattle.qk_acts.proofs.Deleting.{removed_so, refused_so, refused_by_name}
use Rattle.qk_acts.proofs.writing.remove_member.Goals as goal

pub returns-in_err-a : goal.returns-in_err-a
returns-in_err-a g c = λ here mode_is. acts_shut here c.args.mode mode_is c.args.heap.now c.args.object.now (nothing here) _ _ _ _ (search rules) c.in_err-a.ensures

pub remove-requires : goal.remove-requires
remove-requires g c = made_at c.args.mode c.args.heap.now c.args.object.now c.in_ok-a.a c.in_ok-a.ensures

pub returns-in_err-name : goal.returns-in_err-name
returns-in_err-name g c = λ here mode_is.
    acts_open here c.args.mode mode_is c.args.heap.now c.args.object.now (nothing here) _ _ _ c.in_ok-a.a _ _ c.in_ok-a.ensures
    (acts_kept here c.args.mode mode_is c.args.heap.now c.args.object.now (nothing here) g.H.Watch.stands_for c.args.host.now c.args.host.now c.in_ok-a.a (λ o. deleted o (seen_in here c.args.key.now)) c.args.heap.now _ _ (search rules) refl c.in_ok-a.ensures
    (refused_so (object_at (heap_seen (captures here) c.args.heap.now) c.in_ok-a.a.0) (seen_in here c.args.key.now) _ (c.in_err-name.ensures.none (captures here))) (at_fault _ refl))

pub returns-in_err-remove : goal.returns-in_err-remove
returns-in_err-remove g c = λ here mode_is.
    acts_open here c.args.mode mode_is c.args.heap.now c.args.object.now (nothing here) _ _ _ c.in_ok-a.a _ _ c.in_ok-a.ensures
    (acts_kept here c.args.mode mode_is c.args.heap.now c.args.object.now (nothing here) g.H.Watch.stands_for c.args.host.now c.remove.new.w c.in_ok-a.a (λ o. deleted o (seen_in here c.args.key.now)) c.remove.new.self _ _ (search rules) c.in_err-remove.ensures.kept c.in_ok-a.ensures
    (refused_by_name (object_at (heap_seen (captures here) c.args.heap.now) c.in_ok-a.a.0) (seen_in here c.args.key.now) c.in_ok-name.name _ (state_at c.args.mode c.args.heap.now c.args.object.now c.in_ok-a.a c.in_ok-a.ensures (captures here)) (c.in_ok-name.ensures.name (captures here))
    (subst (λ t. Refuses c.in_err-remove.field-0.0 (deleted_from (object_at (heap_seen (captures here) c.args.heap.now) c.in_ok-a.a.0) t)) c.as_str.ensures (c.in_err-remove.ensures.refused (captures here)))) c.in_err-remove.ensures.silent)

pub returns : goal.returns
returns g c = λ here mode_is.
    acts_open here c.args.mode mode_is c.args.heap.now c.args.object.now (nothing here) _ _ _ c.in_ok-a.a _ _ c.in_ok-a.ensures
    (acts_turned here c.args.mode mode_is c.args.heap.now c.args.object.now g.H.Watch.stands_for c.args.host.now c.remove.new.w c.in_ok-a.a (λ o. deleted o (seen_in here c.args.key.now)) c.remove.new.self c.in_ok-a.ensures
    (subst (λ b. HeapBecame g.H.Watch.stands_for (captures here) c.in_ok-a.a.0 b c.args.heap.now c.remove.new.self c.args.host.now c.remove.new.w)
    (removed_so (object_at (heap_seen (captures here) c.args.heap.now) c.in_ok-a.a.0) (seen_in here c.args.key.now) c.in_ok-name.name (state_at c.args.mode c.args.heap.now c.args.object.now c.in_ok-a.a c.in_ok-a.ensures (captures here)) (c.in_ok-name.ensures.name (captures here)))
    (subst (λ t. HeapBecame g.H.Watch.stands_for (captures here) c.in_ok-a.a.0 (deleted_from (object_at (heap_seen (captures here) c.args.heap.now) c.in_ok-a.a.0) t) c.args.heap.now c.remove.new.self c.args.host.now c.remove.new.w) c.as_str.ensures (c.in_ok-remove.ensures.became (captures here)))))
