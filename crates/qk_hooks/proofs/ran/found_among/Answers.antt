use Rattle.std.proofs.Common.{sym, ◌∙◌}
use Rattle.qk_hooks.proofs.Run_again.{at_hook, no_hook}
use Rattle.qk_hooks.proofs.ran.found_among.Goals as goal

pub returns-then-hook-hooks : goal.returns-then-hook-hooks
returns-then-hook-hooks c = c.as_task.ensures ∙ sym (at_hook c.args.hook c.args.hooks.now c.index-hooks-hook.result c.if-hook-hooks.true c.index-hooks-hook.is)

pub returns : goal.returns
returns c = sym (no_hook c.args.hook c.args.hooks.now c.if-hook-hooks.false)
