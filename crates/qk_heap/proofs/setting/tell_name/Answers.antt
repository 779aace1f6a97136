use Rattle.std.proofs.Common.{refl, false, sym, subst}
use Rattle.std.specs.Option.{option_copied}
use Rattle.qk_value.specs.View.{seen_fields}
use Rattle.qk_heap.specs.Told.{Hears, keys_changed}
use Rattle.qk_heap.specs.Set_props.{changed_at, passes}
use Rattle.qk_heap.proofs.Heap_changes.{on_ok}
use Rattle.qk_heap.proofs.Set_fields.{name_told}
use Rattle.qk_heap.proofs.setting.tell_name.Goals as goal

pub returns-then-gone : goal.returns-then-gone
returns-then-gone g c = on_ok c.tell_gone.result (λ h names.
    subst (λ b. Hears g.W.Watch.stands_for c.args.w.now (keys_changed c.args.a.0 (changed_at names (passes b (seen_fields names c.args.given.now) c.args.name.now) c.args.name.now (seen_fields names c.args.held.now) (seen_fields names c.args.given.now))) c.tell_gone.new.w) (sym c.if-gone.true)
    (h names)) c.tell_gone.ensures

pub returns : goal.returns
returns g c = on_ok c.tell_between.result (λ h names.
    subst (λ b. Hears g.W.Watch.stands_for c.args.w.now (keys_changed c.args.a.0 (changed_at names (passes b (seen_fields names c.args.given.now) c.args.name.now) c.args.name.now (seen_fields names c.args.held.now) (seen_fields names c.args.given.now))) c.tell_between.new.w) (sym c.if-gone.false)
    (name_told names g.W.Watch.stands_for c.args.a.0 false c.args.name.now c.args.held.now c.args.given.now (option_copied c.get.result) (option_copied c.get-2.result) c.args.w.now _ c.get.ensures.value c.get-2.ensures.value refl
    (h names))) c.tell_between.ensures
