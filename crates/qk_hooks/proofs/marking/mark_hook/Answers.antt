use Rattle.std.proofs.Common.{sym, ◌∙◌, ap}
use Rattle.std.specs.List.{list_any}
use Rattle.qk_meaning.specs.Places.{same_location}
use Rattle.qk_heap.specs.Seen.{loc_seen}
use Rattle.qk_hooks.specs.Marking.{hook_marked}
use Rattle.qk_hooks.proofs.Made_due.{stays_due}
use Rattle.qk_hooks.proofs.marking.mark_hook.Goals as goal

pub returns-else-is_among : goal.returns-else-is_among
returns-else-is_among c = stays_due c.args.l.now c.in-Task.task (ap (list_any (λ m. same_location (loc_seen c.args.l.now) (loc_seen m))) (sym c.deref.ensures.value) ∙ sym c.if-is_among.ensures) ∙ ap (hook_marked c.args.l.now) (sym c.in-Task.is)
