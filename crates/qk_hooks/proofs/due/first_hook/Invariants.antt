use Rattle.std.proofs.Common.{◌≡◌, ◌-◌, length, drop}
use Rattle.qk_hooks.specs.Spots.{marked_hook}
use Rattle.qk_hooks.proofs.due.first_hook.Given as goal

abbrev pub invariant-loop-h : goal.invariant-loop-h
invariant-loop-h l = marked_hook 0 l.hooks ≡ marked_hook l.h (drop l.h l.hooks)

abbrev pub decreases-loop-h : goal.decreases-loop-h
decreases-loop-h l = length l.hooks - l.h
