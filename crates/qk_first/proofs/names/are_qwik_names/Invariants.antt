use Rattle.std.proofs.Common.{◌≡◌, drop}
use Rattle.qk_ast.specs.First.{are_qwik_names}
use Rattle.qk_first.proofs.names.are_qwik_names.Given as goal

abbrev pub invariant-loop-name : goal.invariant-loop-name
invariant-loop-name l = are_qwik_names l.names ≡ are_qwik_names (drop l.name-index l.names)
