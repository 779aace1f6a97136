use Rattle.std.specs.Prelude.{◌<◌, ◌≤◌, length}
use Rattle.std.proofs.Common.{◌∙◌, ap, sym, arith, Err}
use Rattle.qk_meaning.specs.Value as M
use Rattle.qk_meaning.specs.Value.{Value, end}
use Rattle.qk_meaning.specs.World as W
use Rattle.qk_meaning.specs.Parts.{in_listing_order}
use Rattle.qk_meaning.specs.Doing.{Doing}
use Rattle.qk_meaning.specs.Running.{Running, made_object}
use Rattle.qk_meaning.specs.Setting.{captures, is_effect}
use Rattle.qk_meaning.specs.Making as making
use Rattle.qk_value.specs.declared.fault.Fault as program
use Rattle.qk_value.specs.View.{seen_fields}
use Rattle.qk_heap.specs.Seen.{heap_seen}
use Rattle.qk_code.specs.declared.mode.Mode.{Mode}
use Rattle.qk_code.specs.declared.stop.Stop.TheVariants.{Fault}
use Rattle.qk_code.specs.Modes.{mode_seen}
use Rattle.qk_making.specs.Acting.{seen_in}
use Rattle.qk_making.proofs.Making.{none_made, so_made, so_meant}
use Rattle.qk_making.proofs.Putting.{too_many_fields, record_fixed, record_as_object}
use Rattle.qk_making.proofs.records.make_record.Goals as goal

pub returns-then-fields-gt-MOST : goal.returns-then-fields-gt-MOST
returns-then-fields-gt-MOST c =
    let many : 65536 < length c.args.fields.now = omega (arith, c.if-fields-gt-MOST.true) in
    λ here mode. none_made
    (seen_in here) (making.made_record here (seen_fields (captures here) c.args.fields.now)) (heap_seen (captures here) c.args.heap.now) (Err (Fault program.Fault.ListTooLong))
    (λ s. ap (λ (doing : Doing Running Value). doing s) (too_many_fields here c.args.fields.now (sym (c.any_forbidden.ensures (captures here)) ∙ c.if-any_forbidden.false) many))

pub returns-in-Effect : goal.returns-in-Effect
returns-in-Effect c =
    let few : length c.args.fields.now ≤ 65536 = omega (arith, c.if-fields-gt-MOST.false) in
    λ here mode. so_made
    (seen_in here) (made_object (W.Plain (in_listing_order end (seen_fields (captures here) c.args.fields.now)))) (making.made_record here (seen_fields (captures here) c.args.fields.now)) _ _ _
    (record_as_object here c.args.fields.now (sym (c.any_forbidden.ensures (captures here)) ∙ c.if-any_forbidden.false) few (mode ∙ ap mode_seen c.in-Effect.is))
    (c.make_plain.ensures here)

pub returns-in-Pure : goal.returns-in-Pure
returns-in-Pure c =
    let few : length c.args.fields.now ≤ 65536 = omega (arith, c.if-fields-gt-MOST.false) in
    λ here mode. none_made
    (seen_in here) (making.made_record here (seen_fields (captures here) c.args.fields.now)) (heap_seen (captures here) c.args.heap.now) c.fixed_record.result
    (so_meant
    (seen_in here) (making.made here (M.Record (in_listing_order end (seen_fields (captures here) c.args.fields.now)))) (making.made_record here (seen_fields (captures here) c.args.fields.now)) c.fixed_record.result
    (record_fixed here c.args.fields.now (sym (c.any_forbidden.ensures (captures here)) ∙ c.if-any_forbidden.false) few (ap is_effect mode ∙ ap (λ (m : Mode). is_effect (mode_seen m)) c.in-Pure.is))
    (c.fixed_record.ensures here))

pub returns-in-Track : goal.returns-in-Track
returns-in-Track c =
    let few : length c.args.fields.now ≤ 65536 = omega (arith, c.if-fields-gt-MOST.false) in
    λ here mode. none_made
    (seen_in here) (making.made_record here (seen_fields (captures here) c.args.fields.now)) (heap_seen (captures here) c.args.heap.now) c.fixed_record-in-Track.result
    (so_meant
    (seen_in here) (making.made here (M.Record (in_listing_order end (seen_fields (captures here) c.args.fields.now)))) (making.made_record here (seen_fields (captures here) c.args.fields.now)) c.fixed_record-in-Track.result
    (record_fixed here c.args.fields.now (sym (c.any_forbidden.ensures (captures here)) ∙ c.if-any_forbidden.false) few (ap is_effect mode ∙ ap (λ (m : Mode). is_effect (mode_seen m)) c.in-Track.is))
    (c.fixed_record-in-Track.ensures here))
