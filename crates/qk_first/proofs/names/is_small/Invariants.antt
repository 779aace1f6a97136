use Rattle.std.proofs.Common.{◌≡◌, drop}
use Rattle.qk_ast.specs.Characters.{every, is_small_letter}
use Rattle.qk_first.proofs.names.is_small.Given as goal

abbrev pub invariant-loop-byte : goal.invariant-loop-byte
invariant-loop-byte l = every is_small_letter l.word ≡ every is_small_letter (drop l.byte-index l.word)
