use Rattle.std.proofs.Common.{refl, ap, sym, map}
use Rattle.qk_meaning.specs.Run.{Happens}
use Rattle.qk_script.specs.Answer.{event_of}
use Rattle.qk_top.proofs.Scripts.{one_more_event, all_events}
use Rattle.qk_top.proofs.script.events.Goals as goal

pub loop-item-init : goal.loop-item-init
loop-item-init c = ap (λ l. map Happens (map (λ e. event_of e.now) l)) (sym c.new-events.ensures.items)

pub loop-item-preserved : goal.loop-item-preserved
loop-item-preserved c = one_more_event (λ e. event_of e.now) _ _ c.item-item.result c.in-Event.event _ _ _ c.loop-item.invariant c.loop-item-test.true c.item-item.is c.in-Event.is refl c.in_ok-push-in-Event.ensures.items

pub returns-clause-some : goal.returns-clause-some
returns-clause-some c = all_events _ _ _ c.loop-item.invariant c.loop-item-test.false
