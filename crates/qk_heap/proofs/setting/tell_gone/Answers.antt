use Rattle.std.proofs.Common.{refl, true, None, Some}
use Rattle.std.specs.Option.{option_copied}
use Rattle.qk_heap.proofs.Heap_changes.{on_ok}
use Rattle.qk_heap.proofs.Set_fields.{name_told, name_skipped}
use Rattle.qk_heap.proofs.setting.tell_gone.Goals as goal

pub returns-in_default : goal.returns-in_default
returns-in_default g c = on_ok c.tell_between.result (λ h names.
    name_told names g.W.Watch.stands_for c.args.a.0 true c.args.name.now c.args.held.now c.args.given.now (option_copied c.get-in_default.result) None c.args.w.now _ c.get-in_default.ensures.value c.in_default.ensures.value refl (h names)) c.tell_between.ensures

pub returns : goal.returns
returns g c = λ names. name_skipped names g.W.Watch.stands_for c.args.a.0 true c.args.name.now c.args.held.now c.args.given.now (Some c.in-Some.field-0.now) c.args.w.now c.in-Some.ensures.value refl
