use Rattle.std.proofs.Common.{refl, sym, ap, ◌∙◌}
use Rattle.std.specs.Prelude.{◌++◌, ◌∷◌, [], length, suc}
use Rattle.qk_meaning.specs.Writing.{grown_array}
use Rattle.qk_meaning.specs.Methods.{object_items}
use Rattle.qk_value.specs.View.{seen}
use Rattle.qk_heap.proofs.Heap_changes.{object_there, heap_became, on_ok, if_ok, if_err, refuses_there}
use Rattle.qk_heap.proofs.heap.push_in.Goals as goal

pub returns-clause-became : goal.returns-clause-became
returns-clause-became g c = on_ok c.push.result (λ h names. heap_became names g.W.Watch.stands_for c.args.a.0 (λ x. grown_array (object_items x ++ seen names c.args.v ∷ [])) c.args.objects.now.items _ c.index_mut.result.now c.push.new.self c.args.w.now _ c.requires.made c.index_mut.ensures.value refl (h names)) c.push.ensures.became

pub returns-clause-refused : goal.returns-clause-refused
returns-clause-refused g c = if_err c.push.result (λ e h names. refuses_there names (λ x. grown_array (object_items x ++ seen names c.args.v ∷ [])) c.args.objects.now.items c.args.a.0 c.index_mut.result.now c.requires.made c.index_mut.ensures.value e (h names)) c.push.ensures.refused

pub returns-clause-count : goal.returns-clause-count
returns-clause-count g c = if_ok c.push.result (λ n h names. h names ∙ ap (λ x. suc (length (object_items x))) (sym (object_there names c.args.objects.now.items c.args.a.0 c.index_mut.result.now c.requires.made c.index_mut.ensures.value))) c.push.ensures.count
