use Rattle.std.specs.Prelude.{◌+◌}
use Rattle.std.proofs.Common.{◌∙◌, ap, arith, rules}
use Rattle.std.specs.BTreeMap.{insert_entry}
use Rattle.std.specs.Ordering.{nat_cmp}
use Rattle.qk_heap.proofs.Listed_names.{index_put, index_passed, indexes_end}
use Rattle.qk_heap.proofs.names.index_names.Goals as goal

pub loop-at-preserved-in_default : goal.loop-at-preserved-in_default
loop-at-preserved-in_default c =
    index_passed c.args.fields.now c.loop-at.at (c.loop-at.at + 1) c.entry.result.0.now c.entry.result.1.now (omega arith) c.entry.ensures _ c.loop-at.names.entries (search rules) c.loop-at.invariant

pub loop-at-preserved : goal.loop-at-preserved
loop-at-preserved c =
    index_put c.args.fields.now c.loop-at.at (c.loop-at.at + 1) c.entry.result.0.now c.entry.result.1.now (omega arith) c.entry.ensures _ c.loop-at.names.entries _ c.in-Some.index (search rules)
    (c.in_ok-insert.ensures.entries ∙ ap (λ n. insert_entry nat_cmp c.loop-at.names.entries c.in-Some.index n) c.in_ok-share.ensures)
    c.loop-at.invariant

pub returns-clause-indexes : goal.returns-clause-indexes
returns-clause-indexes c = indexes_end c.args.fields.now c.loop-at.at (omega (arith, c.loop-at-test.false, c.len-at-end.ensures.value)) _ _ c.loop-at.invariant
