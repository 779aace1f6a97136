use Rattle.qk_heap.proofs.Heap_changes.{heap_props_set, on_ok}
use Rattle.std.proofs.Common.{refl}
use Rattle.qk_heap.proofs.heap.set_props_in.Goals as goal

pub returns-clause-set : goal.returns-clause-set
returns-clause-set g c = on_ok c.set_fields.result (λ h names.
    heap_props_set names g.W.Watch.stands_for c.args.a.0 c.args.given.now c.args.objects.now.items _ c.index_mut.result.now c.set_fields.new.self c.args.w.now _ c.requires.made c.index_mut.ensures.value refl (h names)) c.set_fields.ensures.became
