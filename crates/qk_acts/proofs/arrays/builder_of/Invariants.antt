use Rattle.std.proofs.Common.{◌≡◌}
use Rattle.qk_acts.proofs.arrays.builder_of.Given as goal

abbrev pub invariant-loop-v : goal.invariant-loop-v
invariant-loop-v l = l.items ≡ l.yielded
