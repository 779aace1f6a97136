use Rattle.std.specs.Prelude.{◌≡◌, ◌||◌, drop}
use Rattle.qk_ast.specs.Characters.{every, is_small_letter, is_digit}
use Rattle.qk_call.proofs.alone.are_in_names.Given as goal

abbrev pub invariant-loop-byte : goal.invariant-loop-byte
invariant-loop-byte l = every (λ d. is_small_letter d || is_digit d) l.bytes ≡ every (λ d. is_small_letter d || is_digit d) (drop l.byte-index l.bytes)
