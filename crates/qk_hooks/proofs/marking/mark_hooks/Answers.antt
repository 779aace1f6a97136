use Rattle.std.proofs.Common.{ap, ◌∙◌, sym}
use Rattle.qk_hooks.specs.Marking.{hook_marked}
use Rattle.qk_hooks.proofs.Made_due.{all_items_mark}
use Rattle.qk_hooks.proofs.marking.mark_hooks.Goals as goal

pub loop-hook-preserved : goal.loop-hook-preserved
loop-hook-preserved c = all_items_mark (hook_marked c.args.l.now) c.args.hooks.now c.loop-hook.hooks c.loop-hook.hook-index c.hook-item.result c.mark_hook.new.hook c.loop-hook.invariant c.loop-hook-test.true c.hook-item.is (c.mark_hook.ensures ∙ ap (hook_marked c.args.l.now) (sym c.hook-item.is))
