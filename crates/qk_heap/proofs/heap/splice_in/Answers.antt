use Rattle.std.proofs.Common.{refl, sym, ap, ◌∙◌, subst, w64, to_z, of_z}
use Rattle.std.proofs.lemmas.Int.{to_z-of_z}
use Rattle.qk_meaning.specs.Methods.{object_items}
use Rattle.qk_heap.specs.Seen.{object_seen}
use Rattle.qk_heap.specs.Becoming.{Became}
use Rattle.qk_heap.specs.Cutting.{spliced_from, cut_from}
use Rattle.qk_heap.proofs.Heap_changes.{object_there, heap_became, on_ok, if_ok}
use Rattle.qk_heap.proofs.heap.splice_in.Goals as goal

pub returns-clause-became : goal.returns-clause-became
returns-clause-became g c = on_ok c.splice.result (λ h names.
    heap_became names g.W.Watch.stands_for c.args.a.0 (λ x. spliced_from (object_items x) c.args.start c.args.count) c.args.objects.now.items _ c.index_mut.result.now c.splice.new.self c.args.w.now _ c.requires.made c.index_mut.ensures.value refl
    (subst (λ s. Became g.W.Watch.stands_for names c.args.a.0 (spliced_from (object_items (object_seen names c.index_mut.result.now)) s c.args.count) c.index_mut.result.now c.splice.new.self c.args.w.now c.splice.new.w) (to_z-of_z w64 c.args.start c.ranges.start)
    (subst (λ k. Became g.W.Watch.stands_for names c.args.a.0 (spliced_from (object_items (object_seen names c.index_mut.result.now)) (to_z w64 (of_z w64 c.args.start)) k) c.index_mut.result.now c.splice.new.self c.args.w.now c.splice.new.w) (to_z-of_z w64 c.args.count c.ranges.count)
    (h names)))) c.splice.ensures.became

pub returns-clause-given : goal.returns-clause-given
returns-clause-given g c = if_ok c.splice.result (λ all h names.
    h names
    ∙ ap (λ s. cut_from (object_items (object_seen names c.index_mut.result.now)) s (to_z w64 (of_z w64 c.args.count))) (to_z-of_z w64 c.args.start c.ranges.start)
    ∙ ap (λ k. cut_from (object_items (object_seen names c.index_mut.result.now)) c.args.start k) (to_z-of_z w64 c.args.count c.ranges.count)
    ∙ ap (λ x. cut_from (object_items x) c.args.start c.args.count) (sym (object_there names c.args.objects.now.items c.args.a.0 c.index_mut.result.now c.requires.made c.index_mut.ensures.value))) c.splice.ensures.given
