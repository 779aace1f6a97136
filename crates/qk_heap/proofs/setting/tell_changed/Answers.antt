use Rattle.std.specs.Prelude.{◌+◌}
use Rattle.std.proofs.Common.{arith}
use Rattle.qk_value.specs.View.{seen_fields}
use Rattle.qk_heap.specs.Set_props.{passes}
use Rattle.qk_heap.proofs.Set_fields.{one_told, all_told}
use Rattle.qk_heap.proofs.setting.tell_changed.Goals as goal

pub loop-at-preserved : goal.loop-at-preserved
loop-at-preserved g c = λ names v h.
    c.loop-at.invariant names v
    (one_told names g.W.Watch.stands_for c.args.a.0 c.args.listed.now c.loop-at.at (c.loop-at.at + 1) c.entry.result.0.now c.entry.result.1.now (passes c.args.gone (seen_fields names c.args.given.now)) (seen_fields names c.args.held.now) (seen_fields names c.args.given.now)
    c.loop-at.w c.tell_name.new.w v (omega arith) c.entry.ensures (c.in_ok-tell_name.ensures names) h)

pub returns : goal.returns
returns g c = λ names.
    c.loop-at.invariant names _
    (all_told names g.W.Watch.stands_for c.args.a.0 c.args.listed.now c.loop-at.at (passes c.args.gone (seen_fields names c.args.given.now)) (seen_fields names c.args.held.now) (seen_fields names c.args.given.now) _
    (omega (arith, c.loop-at-test.false, c.len-at-end.ensures.value)))
