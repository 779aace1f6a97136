use Rattle.std.specs.Prelude.{◌≡◌, ◌||◌, drop}
use Rattle.qk_ast.specs.Characters.{every, is_small_letter, is_digit}
use Rattle.qk_sites.proofs.reading.are_small_or_digits.Given as goal

abbrev pub invariant-loop-byte : goal.invariant-loop-byte
invariant-loop-byte l = every (λ c. is_small_letter c || is_digit c) l.bytes ≡ every (λ c. is_small_letter c || is_digit c) (drop l.byte-index l.bytes)
