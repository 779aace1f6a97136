use Rattle.std.specs.Prelude.{map}
use Rattle.std.proofs.Common.{refl, ap, ◌∙◌, rules, w64, to_z, of_z}
use Rattle.qk_meaning.specs.Setting.{captures}
use Rattle.qk_value.specs.declared.fault.Fault.{Fault}
use Rattle.qk_heap.specs.Seen.{heap_seen}
use Rattle.qk_making.specs.Acting.{seen_in}
use Rattle.qk_making.proofs.Acting.{acts_faults, acts_lost}
use Rattle.qk_acts.proofs.Cut_items.{slice_refused, slice_stops, slice_gives, cut_same}
use Rattle.qk_acts.proofs.lists.slice.Goals as goal

pub returns-in_default : goal.returns-in_default
returns-in_default g c = λ here mode_is.
    acts_faults (seen_in here) _ _ _ _ Fault.TypeMismatch refl (λ s same. ap (λ m. m s) (slice_refused here (seen_in here c.args.v.now) (map (seen_in here) c.args.arguments.now) (c.in_default.ensures (captures here))))

pub returns-in_err-all : goal.returns-in_err-all
returns-in_err-all g c = λ here mode_is.
    slice_stops here (seen_in here c.args.v.now) (map (seen_in here) c.args.arguments.now) c.in-Some.start c.in-Some.stop (c.in-Some.ensures (captures here)) (heap_seen (captures here) c.args.heap.now) (g.H.Watch.stands_for c.args.host.now) (g.H.Watch.stands_for c.items_of.new.host)
    c.in_err-all.field-0.0 c.from_residual.result (search rules) (c.in_err-all.ensures here)

pub returns-in_err-items : goal.returns-in_err-items
returns-in_err-items g c = λ here mode_is. acts_lost (seen_in here) _ _ _ _ _ _ (search rules)

pub returns : goal.returns
returns g c = λ here mode_is.
    slice_gives here (seen_in here c.args.v.now) (map (seen_in here) c.args.arguments.now) c.in-Some.start c.in-Some.stop (c.in-Some.ensures (captures here)) (heap_seen (captures here) c.args.heap.now) (g.H.Watch.stands_for c.args.host.now) (g.H.Watch.stands_for c.items_of.new.host)
    c.in_ok-all.all c.in_ok-items.items (heap_seen (captures here) c.make_list.new.heap) c.make_list.result
    (cut_same c.in_ok-items.items c.as_slice.result.now c.in_ok-all.all (to_z w64 (of_z w64 c.in-Some.start)) c.in-Some.start c.in-Some.stop c.as_slice.ensures (search rules) (c.in_ok-items.ensures ∙ c.cut.ensures))
    (c.in_ok-all.ensures here) (c.make_list.ensures here mode_is)
