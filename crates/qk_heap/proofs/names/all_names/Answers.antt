use Rattle.std.specs.Prelude.{◌+◌}
use Rattle.std.proofs.Common.{arith, rules}
use Rattle.qk_heap.proofs.Listed_names.{name_put, names_end}
use Rattle.qk_heap.proofs.names.all_names.Goals as goal

pub loop-at-preserved : goal.loop-at-preserved
loop-at-preserved c = λ names.
    name_put c.args.fields.now c.loop-at.at (c.loop-at.at + 1) c.entry.result.0.now c.entry.result.1.now (omega arith) c.entry.ensures names _ c.loop-at.all.items _ c.in_ok-share.field-0 c.in_ok-share.ensures (search rules) (c.loop-at.invariant names)

pub returns : goal.returns
returns c = λ names. names_end c.args.fields.now c.loop-at.at (omega (arith, c.loop-at-test.false, c.len-at-end.ensures.value)) names _ _ (c.loop-at.invariant names)
