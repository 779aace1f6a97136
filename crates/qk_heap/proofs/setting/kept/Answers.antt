use Rattle.std.specs.Prelude.{◌+◌, bytes_eq}
use Rattle.std.proofs.Common.{◌∙◌, ap, arith}
use Rattle.indexmap.specs.IndexMap.{insert_entry}
use Rattle.qk_heap.proofs.Set_fields.{kept_starts, kept_goes, kept_stays, kept_ends}
use Rattle.qk_heap.proofs.setting.kept.Goals as goal

pub loop-at-init : goal.loop-at-init
loop-at-init c = λ names. kept_starts names c.args.held.now c.args.given.now c.new-after.result c.new-after.ensures c.len-at-end.ensures.distinct

pub loop-at-preserved-in_default : goal.loop-at-preserved-in_default
loop-at-preserved-in_default c = λ names.
    kept_goes names c.args.held.now c.args.given.now c.loop-at.after c.loop-at.at (c.loop-at.at + 1) c.entry.result.0.now c.entry.result.1.now (omega arith) c.entry.ensures _ c.in_default.ensures.value (c.loop-at.invariant names)

pub loop-at-preserved : goal.loop-at-preserved
loop-at-preserved c = λ names.
    kept_stays names c.args.held.now c.args.given.now c.loop-at.after c.loop-at.at (c.loop-at.at + 1) c.entry.result.0.now c.entry.result.1.now (omega arith) c.entry.ensures _ c.in-Some.newer.now c.in_ok-older_unless_new.field-0 c.put.new.self
    c.in-Some.ensures.value
    (c.in_ok-older_unless_new.ensures names)
    (c.in_ok-put.ensures.written ∙ ap (λ n. insert_entry bytes_eq c.loop-at.after n c.in_ok-older_unless_new.field-0) c.in_ok-share.ensures)
    (c.loop-at.invariant names)

pub returns : goal.returns
returns c = λ names. kept_ends names c.args.held.now c.args.given.now _ c.loop-at.after c.loop-at.at (omega (arith, c.loop-at-test.false, c.len-at-end.ensures.value)) (c.loop-at.invariant names)
