use Rattle.std.proofs.Common.{◌≡◌, ◌++◌, drop, take, map}
use Rattle.qk_hooks.specs.Marking.{hook_marked}
use Rattle.qk_hooks.proofs.marking.mark_hooks.Given as goal

abbrev pub invariant-loop-hook : goal.invariant-loop-hook
invariant-loop-hook l = l.hooks ≡ map (hook_marked l.l) (take l.hook-index l.fn.hooks) ++ drop l.hook-index l.fn.hooks
