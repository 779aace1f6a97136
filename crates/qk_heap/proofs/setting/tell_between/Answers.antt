use Rattle.std.proofs.Common.{sym, subst, None}
use Rattle.std.specs.Option.{option_copied}
use Rattle.qk_meaning.specs.World.{Prop}
use Rattle.qk_meaning.specs.Changes.{unless_same}
use Rattle.qk_heap.specs.Told.{Hears, keys_changed}
use Rattle.qk_heap.specs.Set_props.{value_seen}
use Rattle.qk_heap.proofs.Heap_changes.{on_ok}
use Rattle.qk_heap.proofs.setting.tell_between.Goals as goal

pub returns-in-None-newer-2 : goal.returns-in-None-newer-2
returns-in-None-newer-2 g c = on_ok c.tell_unless_same-in-None-newer-2.result (λ h names.
    subst (λ o. Hears g.W.Watch.stands_for c.args.w.now (keys_changed c.args.a.0 (unless_same names (value_seen names (option_copied o)) (value_seen names (option_copied c.args.newer)) (Prop c.args.name.now))) c.tell_unless_same-in-None-newer-2.new.w) (sym c.in-None.is)
    (subst (λ o. Hears g.W.Watch.stands_for c.args.w.now (keys_changed c.args.a.0 (unless_same names (value_seen names None) (value_seen names (option_copied o)) (Prop c.args.name.now))) c.tell_unless_same-in-None-newer-2.new.w) (sym c.in-None-newer-2.is)
    (h names))) c.tell_unless_same-in-None-newer-2.ensures.told
