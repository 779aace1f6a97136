use Rattle.std.proofs.Common.{◌∙◌}
use Rattle.qk_making.proofs.Putting.{held_next, held_distinct}
use Rattle.qk_making.proofs.records.kept_fields.Goals as goal

pub loop-field-preserved : goal.loop-field-preserved
loop-field-preserved c = record {
  distinct = λ names. held_distinct names c.in_ok-share.field-0 c.in_ok-share-2.field-0 c.loop-field.held _ c.in_ok-put.ensures.written (c.loop-field.invariant.distinct names);
  listed = λ names.
      held_next names c.args.fields.now c.loop-field.field-index _ c.loop-field-test.true c.field-item.is c.in_ok-share.field-0 c.in_ok-share-2.field-0 c.loop-field.held _
      c.in_ok-share.ensures c.in_ok-share-2.ensures c.in_ok-put.ensures.written (c.loop-field.invariant.distinct names)
      ∙ c.loop-field.invariant.listed names;
}
