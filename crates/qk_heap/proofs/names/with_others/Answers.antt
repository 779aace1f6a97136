use Rattle.std.specs.Prelude.{◌+◌}
use Rattle.std.proofs.Common.{arith, rules}
use Rattle.qk_heap.proofs.Listed_names.{other_put, other_passed, others_end}
use Rattle.qk_heap.proofs.names.with_others.Goals as goal

pub loop-at-preserved-in_default : goal.loop-at-preserved-in_default
loop-at-preserved-in_default c =
    other_put c.args.fields.now c.loop-at.at (c.loop-at.at + 1) c.entry.result.0.now c.entry.result.1.now (omega arith) c.entry.ensures _ c.loop-at.all.items _ c.in_ok-share.field-0 (search rules) c.in_ok-share.ensures (search rules) c.loop-at.invariant

pub loop-at-preserved : goal.loop-at-preserved
loop-at-preserved c =
    other_passed c.args.fields.now c.loop-at.at (c.loop-at.at + 1) c.entry.result.0.now c.entry.result.1.now (omega arith) c.entry.ensures _ c.loop-at.all.items c.in-Some.field-0 (search rules) c.loop-at.invariant

pub returns : goal.returns
returns c = others_end c.args.fields.now c.loop-at.at (omega (arith, c.loop-at-test.false, c.len-at-end.ensures.value)) _ _ c.loop-at.invariant
