use Rattle.std.proofs.Common.{◌≡◌, drop}
use Rattle.qk_ast.specs.Characters.{every, is_letter}
use Rattle.qk_rules.proofs.tags.are_letters.Given as goal

abbrev pub invariant-loop-byte : goal.invariant-loop-byte
invariant-loop-byte l = every is_letter l.bytes ≡ every is_letter (drop l.byte-index l.bytes)
