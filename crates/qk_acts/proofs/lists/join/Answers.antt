use Rattle.std.specs.Prelude.{map}
use Rattle.std.proofs.Common.{Ok, Err, refl, ap, rules}
use Rattle.qk_meaning.specs.Setting.{captures}
use Rattle.qk_value.specs.declared.fault.Fault.{Fault}
use Rattle.qk_heap.specs.Seen.{heap_seen}
use Rattle.qk_making.specs.Acting.{seen_in}
use Rattle.qk_making.proofs.Acting.{acts_faults}
use Rattle.qk_acts.proofs.Joining.{join_refused, join_stops, join_gives}
use Rattle.qk_acts.proofs.lists.join.Goals as goal

pub returns-in_default : goal.returns-in_default
returns-in_default g c = λ here mode_is.
    acts_faults (seen_in here) _ _ _ _ Fault.TypeMismatch refl (λ s same. ap (λ m. m s) (join_refused here (seen_in here c.args.v.now) (map (seen_in here) c.args.arguments.now) (c.in_default.ensures (captures here))))

pub returns-in_err-all : goal.returns-in_err-all
returns-in_err-all g c = λ here mode_is.
    join_stops here (seen_in here c.args.v.now) (map (seen_in here) c.args.arguments.now) c.in-Some.between.now (c.in-Some.ensures (captures here)) (heap_seen (captures here) c.args.heap.now) (g.H.Watch.stands_for c.args.host.now) (g.H.Watch.stands_for c.items_of.new.host)
    c.in_err-all.field-0.0 c.from_residual.result (search rules) (c.in_err-all.ensures here)

pub returns-in_err-joined : goal.returns-in_err-joined
returns-in_err-joined g c = λ here mode_is.
    join_gives here (seen_in here c.args.v.now) (map (seen_in here) c.args.arguments.now) c.in-Some.between.now (c.in-Some.ensures (captures here)) (heap_seen (captures here) c.args.heap.now) (g.H.Watch.stands_for c.args.host.now) (g.H.Watch.stands_for c.items_of.new.host)
    c.in_ok-all.all c.as_slice.result.now c.as_str.result.now (Err c.in_err-joined.field-0.0) c.from_residual-in_err-joined.result (search rules) c.as_slice.ensures c.as_str.ensures (c.in_ok-all.ensures here) (c.in_err-joined.ensures (captures here))

pub returns : goal.returns
returns g c = λ here mode_is.
    join_gives here (seen_in here c.args.v.now) (map (seen_in here) c.args.arguments.now) c.in-Some.between.now (c.in-Some.ensures (captures here)) (heap_seen (captures here) c.args.heap.now) (g.H.Watch.stands_for c.args.host.now) (g.H.Watch.stands_for c.items_of.new.host)
    c.in_ok-all.all c.as_slice.result.now c.as_str.result.now (Ok c.in_ok-joined.field-0) _ refl c.as_slice.ensures c.as_str.ensures (c.in_ok-all.ensures here) (c.in_ok-joined.ensures (captures here))
