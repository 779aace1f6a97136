use Rattle.std.proofs.Common.{◌≡◌, ◌-◌, length, drop}
use Rattle.qk_hooks.specs.Spots.{marked_from}
use Rattle.qk_hooks.proofs.due.first_marked.Given as goal

abbrev pub invariant-loop-i : goal.invariant-loop-i
invariant-loop-i l = marked_from 0 l.all ≡ marked_from l.i (drop l.i l.all)

abbrev pub decreases-loop-i : goal.decreases-loop-i
decreases-loop-i l = length l.all - l.i
