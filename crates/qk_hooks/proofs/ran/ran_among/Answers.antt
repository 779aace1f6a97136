use Rattle.std.proofs.Common.{ap, sym, ◌∙◌}
use Rattle.qk_hooks.specs.Ran_again.{hook_ran}
use Rattle.qk_hooks.proofs.Run_again.{written_hook, no_such_hook}
use Rattle.qk_hooks.proofs.ran.ran_among.Goals as goal

pub returns-then-hook-hooks : goal.returns-then-hook-hooks
returns-then-hook-hooks c =
    written_hook c.args.hook c.args.tracks c.args.due c.args.hooks.now c.index-hooks-hook.result c.one_ran.new.hook c.if-hook-hooks.true c.index-hooks-hook.is (c.one_ran.ensures ∙ ap (hook_ran c.args.tracks c.args.due) (sym c.index-hooks-hook.is))

pub returns-else-hook-hooks : goal.returns-else-hook-hooks
returns-else-hook-hooks c = no_such_hook c.args.hook c.args.tracks c.args.due c.args.hooks.now c.if-hook-hooks.false
