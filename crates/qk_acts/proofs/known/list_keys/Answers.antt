use Rattle.std.proofs.Common.{rules, refl, ap}
use Rattle.qk_meaning.specs.Value as M
use Rattle.qk_meaning.specs.Doing.{Doing}
use Rattle.qk_meaning.specs.Running.{Running}
use Rattle.qk_meaning.specs.Setting.{captures}
use Rattle.qk_value.specs.declared.fault.Fault.TheVariants.{TypeMismatch}
use Rattle.qk_heap.specs.Seen.{heap_seen}
use Rattle.qk_making.specs.Acting.{seen_in}
use Rattle.qk_making.proofs.Acting.{acts_faults}
use Rattle.qk_acts.proofs.Known_calls.{not_listed, acts_listed, acts_unlisted}
use Rattle.qk_acts.proofs.known.list_keys.Goals as goal

pub returns-in_default : goal.returns-in_default
returns-in_default g c = λ here mode_is. acts_faults (seen_in here) _ _ _ _ TypeMismatch refl (λ s same. ap (λ (m : Doing Running M.Value). m s) (not_listed here c.args.arguments.now (search rules)))

pub returns-in_err-names : goal.returns-in_err-names
returns-in_err-names g c = λ here mode_is.
    let objects = heap_seen (captures here) c.args.heap.now in
    acts_unlisted here c.in-Some.v.now objects objects (g.H.Watch.stands_for c.args.host.now) (g.H.Watch.stands_for c.key_names.new.host) c.args.arguments.now (search rules) _ c.in_err-names.field-0.0 (search rules) (c.in_err-names.ensures here)

pub returns : goal.returns
returns g c = λ here mode_is.
    acts_listed here c.in-Some.v.now (heap_seen (captures here) c.args.heap.now) _ (g.H.Watch.stands_for c.args.host.now) (g.H.Watch.stands_for c.key_names.new.host) c.args.arguments.now (search rules) _ c.in_ok-names.names (c.in_ok-names.ensures here) (c.make_list.ensures here mode_is)
