use Rattle.std.specs.Prelude.{◌++◌}
use Rattle.std.proofs.Common.{sym, ◌∙◌, ap}
use Rattle.std.specs.Map.{values_of}
use Rattle.qk_heap.specs.Names.{unindexed}
use Rattle.qk_heap.proofs.Heap_changes.{if_ok}
use Rattle.qk_heap.proofs.Entries.{distinct_seen}
use Rattle.qk_heap.proofs.Listed_names.{names_listed}
use Rattle.qk_heap.proofs.names.listed_names.Goals as goal

pub returns : goal.returns
returns c = if_ok c.with_others.result (λ all h names.
    h ∙ ap (λ l. l ++ unindexed c.args.fields.now) (c.in_ok-first.ensures ∙ ap values_of c.in_ok-indexes.ensures.indexes)
    ∙ sym (names_listed names c.args.fields.now (distinct_seen names c.args.fields.now c.in_ok-indexes.ensures.distinct))) c.with_others.ensures
