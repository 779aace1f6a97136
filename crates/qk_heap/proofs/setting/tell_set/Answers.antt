use Rattle.std.specs.Prelude.{true, false}
use Rattle.std.proofs.Common.{sym, ◌∙◌}
use Rattle.qk_value.specs.View.{seen_fields}
use Rattle.qk_heap.proofs.Heap_changes.{on_ok}
use Rattle.qk_heap.proofs.Hearing.{hears_nothing}
use Rattle.qk_heap.proofs.Set_fields.{log_told}
use Rattle.qk_heap.proofs.setting.tell_set.Goals as goal

pub returns-then-names_differ : goal.returns-then-names_differ
returns-then-names_differ g c = on_ok c.tell.result (λ h names.
    log_told names g.W.Watch.stands_for c.args.a.0 (seen_fields names c.args.held.now) (seen_fields names c.args.given.now) c.args.w.now _ _ _ true (sym c.if-names_differ.true ∙ c.names_differ.ensures names)
    (c.in_ok-tell_changed.ensures names) (c.in_ok-tell_changed-2.ensures names) h) c.tell.ensures.told

pub returns : goal.returns
returns g c = λ names.
    log_told names g.W.Watch.stands_for c.args.a.0 (seen_fields names c.args.held.now) (seen_fields names c.args.given.now) c.args.w.now _ _ _ false (sym c.if-names_differ.false ∙ c.names_differ.ensures names)
    (c.in_ok-tell_changed.ensures names) (c.in_ok-tell_changed-2.ensures names) (hears_nothing g.W.Watch.stands_for _)
