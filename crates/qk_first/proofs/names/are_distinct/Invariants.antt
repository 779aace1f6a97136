use Rattle.std.proofs.Common.{◌≡◌, length}
use Rattle.qk_ast.specs.First.{is_distinct}
use Rattle.qk_first.proofs.names.are_distinct.Given as goal

abbrev pub invariant-loop-names : goal.invariant-loop-names
invariant-loop-names l = is_distinct l.fn.names ≡ is_distinct l.names

abbrev pub decreases-loop-names : goal.decreases-loop-names
decreases-loop-names l = length l.names
