use Rattle.std.proofs.Common.{◌≡◌, ◌++◌, take, drop}
use Rattle.qk_ast.specs.Sources.{up_to_dot}
use Rattle.qk_rules.proofs.kinds.up_to_dot.Given as goal

abbrev pub invariant-loop-at : goal.invariant-loop-at
invariant-loop-at l = take l.at l.bytes ++ up_to_dot (drop l.at l.bytes) ≡ up_to_dot l.bytes
