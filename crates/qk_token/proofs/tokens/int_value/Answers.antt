use Rattle.std.proofs.Common.{◌≤◌, arith}
use Rattle.qk_token.proofs.Numbers.{value_small}
use Rattle.qk_token.proofs.tokens.int_value.Goals as goal

pub overflow_mul-value : goal.overflow_mul-value
overflow_mul-value c =
    let small : c.loop-c.value ≤ 9007199254740991 = value_small _ _ c.loop-c.invariant.small in
    omega arith

pub overflow_add-value : goal.overflow_add-value
overflow_add-value c =
    let small : c.loop-c.value ≤ 9007199254740991 = value_small _ _ c.loop-c.invariant.small in
    omega (arith, c.digit_value.ensures.small)
