use Rattle.std.specs.Prelude.{◌+◌}
use Rattle.std.proofs.Common.{◌∙◌, sym, arith}
use Rattle.qk_heap.proofs.Set_fields.{lacks_not, lacks_here, lacks_ends}
use Rattle.qk_heap.proofs.setting.lacks_some.Goals as goal

pub loop-at-preserved : goal.loop-at-preserved
loop-at-preserved c = λ names.
    lacks_not names c.args.fields.now c.args.fields.now c.args.fields.now c.loop-at.at (c.loop-at.at + 1) c.entry.result.0.now c.entry.result.1.now (omega arith) c.entry.ensures c.args.other.now c.in-Some.field-0.now c.in-Some.ensures.value
    ∙ c.loop-at.invariant names

pub returns-in_default : goal.returns-in_default
returns-in_default c = λ names.
    lacks_here names c.args.fields.now c.args.fields.now c.args.fields.now c.loop-at.at (c.loop-at.at + 1) c.entry.result.0.now c.entry.result.1.now (omega arith) c.entry.ensures c.args.other.now c.in_default.ensures.value
    ∙ c.loop-at.invariant names

pub returns : goal.returns
returns c = λ names. sym (lacks_ends names c.args.fields.now c.args.other.now c.loop-at.at (omega (arith, c.loop-at-test.false, c.len-at-end.ensures.value))) ∙ c.loop-at.invariant names
