use Rattle.std.proofs.Common.{◌≡◌, drop}
use Rattle.qk_ast.specs.Characters.{has}
use Rattle.qk_rules.proofs.tags.has_colon.Given as goal

abbrev pub invariant-loop-byte : goal.invariant-loop-byte
invariant-loop-byte l = has 58 l.bytes ≡ has 58 (drop l.byte-index l.bytes)
