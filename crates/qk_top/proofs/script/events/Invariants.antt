use Rattle.std.proofs.Common.{◌≡◌, map, take}
use Rattle.qk_meaning.specs.Run.{Happens}
use Rattle.qk_script.specs.Answer.{event_of, item_of}
use Rattle.qk_top.proofs.script.events.Given as goal

-- the items so far are these events
abbrev pub invariant-loop-item : goal.invariant-loop-item
invariant-loop-item l = take l.item-index (map item_of l.items) ≡ map Happens (map (λ e. event_of e.now) l.events.items)
