use Rattle.std.proofs.Common.{refl, sym, ap, ◌∙◌}
use Rattle.std.specs.Prelude.{◌-◌, take, length}
use Rattle.qk_meaning.specs.World.{Array}
use Rattle.qk_meaning.specs.Parts.{packed, nth}
use Rattle.qk_meaning.specs.Writing.{Becomes}
use Rattle.qk_meaning.specs.Methods.{object_items}
use Rattle.qk_heap.proofs.Heap_changes.{object_there, heap_became, on_ok, if_ok}
use Rattle.qk_heap.proofs.heap.pop_in.Goals as goal

pub returns-clause-became : goal.returns-clause-became
returns-clause-became g c = on_ok c.pop.result (λ h names. heap_became names g.W.Watch.stands_for c.args.a.0 (λ x. Becomes (Array (packed (take (length (object_items x) - 1) (object_items x))))) c.args.objects.now.items _ c.index_mut.result.now c.pop.new.self c.args.w.now _ c.requires.made c.index_mut.ensures.value refl (h names)) c.pop.ensures.became

pub returns-clause-given : goal.returns-clause-given
returns-clause-given g c = if_ok c.pop.result (λ v h names. h names ∙ ap (λ x. nth (object_items x) (length (object_items x) - 1)) (sym (object_there names c.args.objects.now.items c.args.a.0 c.index_mut.result.now c.requires.made c.index_mut.ensures.value))) c.pop.ensures.given
